-- Text input: what each reading takes, and what is left.
use Rattle.std.specs.Prelude.{ℕ, zero, suc, ◌+◌, ◌-◌, ◌*◌, ℤ, pos, neg_ℤ, Bool, true, false, ◌&&◌, ◌||◌, nat_eq, nat_lt, List, [], ◌∷◌, Option, Some, None}
use Rattle.p2c_text.specs.declared.dialect.Dialect.{Dialect}
use Rattle.p2c_text.specs.declared.dialect.Dialect.TheVariants.{Turbo}
use Rattle.typed_tree.specs.declared.types.Types.{Types}
use Rattle.typed_tree.specs.declared.types.Host.TheVariants.{Char}
use Rattle.typed_tree.specs.declared.types.PasType.{PasType}
use Rattle.typed_tree.specs.declared.types.PasType.TheVariants.{Ordinal, DynString}
use Rattle.typed_tree.specs.Ranges.{type_at}
use Rattle.meanings.specs.declared.errors.RuntimeError.TheVariants.{BadNumber, PastEnd}
use Rattle.meanings.specs.Values.{Tree, Whole}
use Rattle.meanings.specs.Outcomes.{Checked, Passes, Fails, ◌&>◌}
use Rattle.meanings.specs.Programs.{Prog, ◌>>=◌, ◌>>◌, ask, check, update}
use Rattle.pascal_meaning.specs.Numbers.{when, between, host_range}
use Rattle.pascal_meaning.specs.Places.{Spot, assign}
use Rattle.pascal_meaning.specs.Texts.{made}

-- what a reading gives, and the input that it leaves
abbrev pub Taken : Type 0 → Type 0
Taken X = Checked X × List ℕ

unfoldable pub take_by : {X : Type 0} → (Types → List ℕ → Taken X) → Prog X
take_by f = ask (λ s v. Passes (f s.program.types v.input)) >>= λ r. update (λ types v. Passes (record v { input = r.1 })) >> check (λ types. r.0)

-- ---- characters

-- the character that a byte stands for
unfoldable pub seen : ℕ → ℤ
seen b = elim (nat_eq b 10) [ true ↦ pos 32 | false ↦ pos b ]

unfoldable pub next_char : List ℕ → Taken ℤ
next_char [] = (Fails PastEnd, [])
next_char (b ∷ bs) = (Passes (seen b), bs)

-- the next character, which stays
unfoldable pub look_ahead : List ℕ → Checked ℤ
look_ahead [] = Fails PastEnd
look_ahead (b ∷ bs) = Passes (seen b)

unfoldable pub at_end : List ℕ → Bool
at_end [] = true
at_end (b ∷ bs) = false

unfoldable pub at_line_end : Dialect → List ℕ → Checked Bool
at_line_end Turbo [] = Passes true
at_line_end d [] = Fails PastEnd
at_line_end d (b ∷ bs) = Passes (nat_eq b 10)

-- ---- whole numbers

unfoldable pub is_blank : ℕ → Bool
is_blank b = nat_eq b 32 || nat_eq b 9 || nat_eq b 10

unfoldable pub is_digit : ℕ → Bool
is_digit b = nat_lt 47 b && nat_lt b 58

unfoldable pub after_blanks : List ℕ → List ℕ
after_blanks [] = []
after_blanks (b ∷ bs) = elim (is_blank b) [ true ↦ after_blanks bs | false ↦ b ∷ bs ]

-- the number that digits continue, and what follows them
unfoldable pub number_from : ℕ → List ℕ → ℕ × List ℕ
number_from n [] = (n, [])
number_from n (b ∷ bs) = elim (is_digit b) [ true ↦ number_from (n * 10 + (b - 48)) bs | false ↦ (n, b ∷ bs) ]

unfoldable pub signed : Bool → ℕ → ℤ
signed minus n = elim minus [ true ↦ neg_ℤ (pos n) | false ↦ pos n ]

unfoldable pub next_digits : Bool → List ℕ → Taken ℤ
next_digits minus [] = (Fails BadNumber, [])
next_digits minus (b ∷ bs) = elim (is_digit b) [
  | true ↦ (let r = number_from 0 (b ∷ bs) in (when (between host_range (signed minus r.0)) BadNumber (signed minus r.0), r.1))
  | false ↦ (Fails BadNumber, b ∷ bs)
]

unfoldable pub next_signed : List ℕ → Taken ℤ
next_signed [] = (Fails PastEnd, [])
next_signed (b ∷ bs) = elim (nat_eq b 45) [ true ↦ next_digits true bs | false ↦ elim (nat_eq b 43) [ true ↦ next_digits false bs | false ↦ next_digits false (b ∷ bs) ] ]

-- ---- strings and lines

-- at most n bytes up to the line end, which is left
unfoldable pub line_part : ℕ → List ℕ → List ℕ × List ℕ
line_part zero bs = ([], bs)
line_part (suc n) [] = ([], [])
line_part (suc n) (b ∷ bs) = elim (nat_eq b 10) [ true ↦ ([], b ∷ bs) | false ↦ (let r = line_part n bs in (b ∷ r.0, r.1)) ]

unfoldable pub next_string : Dialect → ℕ → List ℕ → Taken Tree
next_string Turbo n [] = (Passes (made []), [])
next_string d n [] = (Fails PastEnd, [])
next_string d n (b ∷ bs) = (let r = line_part n (b ∷ bs) in (Passes (made r.0), r.1))

unfoldable pub after_line : List ℕ → List ℕ
after_line [] = []
after_line (b ∷ bs) = elim (nat_eq b 10) [ true ↦ bs | false ↦ after_line bs ]

unfoldable pub skip_line : Dialect → List ℕ → Taken (Unit {0})
skip_line Turbo [] = (Passes tt, [])
skip_line d [] = (Fails PastEnd, [])
skip_line d (b ∷ bs) = (Passes tt, after_line (b ∷ bs))

-- ---- reading a variable

unfoldable pub numbered : Taken ℤ → Taken Tree
numbered r = (r.0 &> λ z. Passes (Whole z), r.1)

unfoldable pub next_value : Dialect → Option PasType → List ℕ → Taken Tree
next_value d (Some (Ordinal Char first last)) bs = numbered (next_char bs)
next_value d (Some (DynString limit)) bs = next_string d limit bs
next_value d _ bs = numbered (next_signed (after_blanks bs))

unfoldable pub read_into : Spot → Prog (Unit {0})
read_into p = take_by (λ types bs. next_value types.dialect (type_at types p.of) bs) >>= λ t. assign p None t

unfoldable pub read_line : Prog (Unit {0})
read_line = take_by (λ types bs. skip_line types.dialect bs)

unfoldable pub get_char : Prog (Unit {0})
get_char = take_by (λ types bs. next_char bs) >>= λ z. check (λ types. Passes tt)
