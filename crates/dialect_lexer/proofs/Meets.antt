-- What is cut off is a piece or a fault, by what begins with the first byte.
use Rattle.std.proofs.Common.{◌≡◌, ℕ, zero, suc, ◌+◌, ◌≤◌, ◌<◌, Bool, true, false, ◌==◌, List, [], ◌∷◌, length, take, Option, Some, None, Ok, Err, refl, ap, ◌∙◌, arith, inl, inr}
use Rattle.p2c_text.specs.declared.dialect.Dialect.{Dialect}
use Rattle.dialect_lexer.specs.declared.bytes.Start.{Start}
use Rattle.dialect_lexer.specs.declared.bytes.Start.TheVariants as start
use Rattle.dialect_lexer.specs.declared.ends.Closer.{Closer}
use Rattle.dialect_lexer.specs.declared.ends.Closer.TheVariants.{Dollar}
use Rattle.dialect_lexer.specs.declared.fault.LexKind.{LexKind}
use Rattle.dialect_lexer.specs.declared.fault.LexKind.TheVariants as fault
use Rattle.dialect_lexer.specs.declared.piece.PieceKind.{PieceKind}
use Rattle.dialect_lexer.specs.declared.piece.PieceKind.TheVariants.{Separator}
use Rattle.dialect_lexer.specs.declared.token.Symbol.{Symbol}
use Rattle.dialect_lexer.specs.Bytes.{is_name_byte, is_in_line}
use Rattle.dialect_lexer.specs.Ends.{run, closing_end, quote_end, closer_of_brace, closer_of_star}
use Rattle.dialect_lexer.specs.Forms.{piece_where, is_nil, is_end, symbol_1, symbol_2, symbol, parenthesis, form_by}
use Rattle.dialect_lexer.specs.Patterns.{unclosed, includes, is_include, included, open_parenthesis, include_parenthesis, pattern_by, kind_number}
use Rattle.dialect_lexer.specs.Cut.{Found, taken, refused, cut_name, quoted, cut_quoted, closed, cut_comment, cut_directive, single, double_or, cut_symbol, cut_parenthesis}
use Rattle.dialect_lexer.proofs.Fronts.{decide, run_within, run_all, run_stops, IsEndOf, end_is, end_stops, closing_is, quote_is}

-- ---- pieces and faults by what begins with the first byte, whose number of bytes is one more than j

pub record IsPieceBy (d : Dialect) (x : Start) (b : ℕ) (s : List ℕ) (j : ℕ) (kind : PieceKind) : Type 0 where
  pub within : j ≤ length s
  pub is : form_by d x b (take j s) ≡ Some kind
  pub no_longer : (m : ℕ) → j < m → m ≤ length s → form_by d x b (take m s) ≡ None
  pub no_pattern : (kind : LexKind) → pattern_by d kind x b s ≡ None

pub record IsBadBy (d : Dialect) (x : Start) (b : ℕ) (s : List ℕ) : Type 0 where
  pub no_form : (m : ℕ) → form_by d x b (take m s) ≡ None
  pub no_pattern : (kind : LexKind) → pattern_by d kind x b s ≡ None

abbrev pub PatternBy : Dialect → LexKind → Start → ℕ → List ℕ → ℕ → Type 0
PatternBy d fault.BadByte x b s j = IsBadBy d x b s × (j ≡ 0)
PatternBy d fault.OpenComment x b s j = pattern_by d fault.OpenComment x b s ≡ Some (1 + j)
PatternBy d fault.OpenString x b s j = pattern_by d fault.OpenString x b s ≡ Some (1 + j)
PatternBy d fault.NumberTooBig x b s j = pattern_by d fault.NumberTooBig x b s ≡ Some (1 + j)
PatternBy d fault.RealLiteral x b s j = pattern_by d fault.RealLiteral x b s ≡ Some (1 + j)
PatternBy d fault.IncludeFile x b s j = pattern_by d fault.IncludeFile x b s ≡ Some (1 + j)

pub record IsFaultBy (d : Dialect) (x : Start) (b : ℕ) (s : List ℕ) (j : ℕ) (kind : LexKind) : Type 0 where
  pub begins : PatternBy d kind x b s j
  pub within : j ≤ length s
  pub least : (other : LexKind) → kind_number other < kind_number kind → pattern_by d other x b s ≡ None

-- the answer of cutting, about these bytes
abbrev pub MeetsBy : Dialect → Start → ℕ → List ℕ → Found → Type 0
MeetsBy d x b s (Ok p) = (j : ℕ) × (p.len ≡ 1 + j) × IsPieceBy d x b s j p.kind
MeetsBy d x b s (Err f) = (j : ℕ) × (f.len ≡ 1 + j) × IsFaultBy d x b s j f.kind

-- ---- names

name_free : (d : Dialect) (b : ℕ) (s : List ℕ) (kind : LexKind) → pattern_by d kind start.Name b s ≡ None
unfolding pattern_by
name_free d b s fault.BadByte = refl
name_free d b s fault.OpenComment = refl
name_free d b s fault.OpenString = refl
name_free d b s fault.NumberTooBig = refl
name_free d b s fault.RealLiteral = refl
name_free d b s fault.IncludeFile = refl

pub name_meets : (d : Dialect) (b : ℕ) (s : List ℕ) → MeetsBy d start.Name b s (cut_name d b s)
unfolding form_by cut_name
name_meets d b s = (
  run (is_name_byte d) s,
  refl,
  record {
    within = run_within (is_name_byte d) s;
    is = rw (run_all (is_name_byte d) s) refl;
    no_longer = λ m lt le. rw (run_stops (is_name_byte d) s m lt le) refl;
    no_pattern = name_free d b s;
  },
)

-- ---- spaces

space_free : (d : Dialect) (b : ℕ) (s : List ℕ) (kind : LexKind) → pattern_by d kind start.Space b s ≡ None
unfolding pattern_by
space_free d b s fault.BadByte = refl
space_free d b s fault.OpenComment = refl
space_free d b s fault.OpenString = refl
space_free d b s fault.NumberTooBig = refl
space_free d b s fault.RealLiteral = refl
space_free d b s fault.IncludeFile = refl

pub nil_longer : (s : List ℕ) (m : ℕ) → 0 < m → m ≤ length s → is_nil (take m s) ≡ false
nil_longer s zero lt le = absurd (omega arith)
nil_longer [] (suc m) lt le = absurd (omega arith)
nil_longer (c ∷ s) (suc m) lt le = refl

pub space_meets : (d : Dialect) (b : ℕ) (s : List ℕ) → MeetsBy d start.Space b s (taken Separator 1)
unfolding form_by
space_meets d b s = (
  0,
  refl,
  record {
    within = omega arith;
    is = refl;
    no_longer = λ m lt le. rw (nil_longer s m lt le) refl;
    no_pattern = space_free d b s;
  },
)

-- ---- quoted texts

quote_free : (d : Dialect) (b : ℕ) (s : List ℕ) (n : ℕ) → quote_end s ≡ Some n → (kind : LexKind) → pattern_by d kind start.Quote b s ≡ None
unfolding pattern_by
quote_free d b s n e fault.BadByte = refl
quote_free d b s n e fault.OpenComment = refl
quote_free d b s n e fault.OpenString = rw e refl
quote_free d b s n e fault.NumberTooBig = refl
quote_free d b s n e fault.RealLiteral = refl
quote_free d b s n e fault.IncludeFile = refl

quote_least : (d : Dialect) (b : ℕ) (s : List ℕ) (other : LexKind) → kind_number other < 3 → pattern_by d other start.Quote b s ≡ None
unfolding pattern_by
quote_least d b s fault.BadByte lt = refl
quote_least d b s fault.OpenComment lt = refl
quote_least d b s fault.OpenString lt = absurd (omega arith)
quote_least d b s fault.NumberTooBig lt = absurd (omega arith)
quote_least d b s fault.RealLiteral lt = absurd (omega arith)
quote_least d b s fault.IncludeFile lt = absurd (omega arith)

quoted_meets : (d : Dialect) (b : ℕ) (s : List ℕ) (end : Option ℕ) → quote_end s ≡ end → MeetsBy d start.Quote b s (quoted end s)
unfolding form_by pattern_by
quoted_meets d b s None e = (
  run is_in_line s,
  refl,
  record {
    begins = rw e refl;
    within = run_within is_in_line s;
    least = quote_least d b s;
  },
)
quoted_meets d b s (Some n) e = (
  n,
  refl,
  let h = quote_is s n e in record {
    within = h.within;
    is = rw (end_is quote_end s n h) refl;
    no_longer = λ m lt le. rw (end_stops quote_end s n m h lt le) refl;
    no_pattern = quote_free d b s n e;
  },
)

pub quote_meets : (d : Dialect) (b : ℕ) (s : List ℕ) → MeetsBy d start.Quote b s (cut_quoted s)
unfolding cut_quoted
quote_meets d b s = quoted_meets d b s (quote_end s) refl

-- ---- comments and directives

-- what a closing mark ends, with one byte before
record IsClosedBy (d : Dialect) (x : Start) (b : ℕ) (s : List ℕ) (c : Closer) (names : Bool) : Type 0 where
  form_is : (w : List ℕ) → form_by d x b w ≡ piece_where (is_end w (closing_end c w)) Separator
  bad : pattern_by d fault.BadByte x b s ≡ None
  open_is : pattern_by d fault.OpenComment x b s ≡ unclosed (closing_end c s) (1 + length s)
  string : pattern_by d fault.OpenString x b s ≡ None
  big : pattern_by d fault.NumberTooBig x b s ≡ None
  real_is : pattern_by d fault.RealLiteral x b s ≡ None
  include_is : pattern_by d fault.IncludeFile x b s ≡ included names 1 (closing_end c s)

closed_free : (d : Dialect) (x : Start) (b : ℕ) (s : List ℕ) (c : Closer) (n : ℕ) → IsClosedBy d x b s c false → closing_end c s ≡ Some n → (kind : LexKind) → pattern_by d kind x b s ≡ None
closed_free d x b s c n h e fault.BadByte = h.bad
closed_free d x b s c n h e fault.OpenComment = h.open_is ∙ rw e refl
closed_free d x b s c n h e fault.OpenString = h.string
closed_free d x b s c n h e fault.NumberTooBig = h.big
closed_free d x b s c n h e fault.RealLiteral = h.real_is
closed_free d x b s c n h e fault.IncludeFile = h.include_is

include_least : (d : Dialect) (x : Start) (b : ℕ) (s : List ℕ) (c : Closer) (n : ℕ) → IsClosedBy d x b s c true → closing_end c s ≡ Some n → (other : LexKind) → kind_number other < 6 → pattern_by d other x b s ≡ None
include_least d x b s c n h e fault.BadByte lt = h.bad
include_least d x b s c n h e fault.OpenComment lt = h.open_is ∙ rw e refl
include_least d x b s c n h e fault.OpenString lt = h.string
include_least d x b s c n h e fault.NumberTooBig lt = h.big
include_least d x b s c n h e fault.RealLiteral lt = h.real_is
include_least d x b s c n h e fault.IncludeFile lt = absurd (omega arith)

open_least : (d : Dialect) (x : Start) (b : ℕ) (s : List ℕ) → pattern_by d fault.BadByte x b s ≡ None → (other : LexKind) → kind_number other < 2 → pattern_by d other x b s ≡ None
open_least d x b s h fault.BadByte lt = h
open_least d x b s h fault.OpenComment lt = absurd (omega arith)
open_least d x b s h fault.OpenString lt = absurd (omega arith)
open_least d x b s h fault.NumberTooBig lt = absurd (omega arith)
open_least d x b s h fault.RealLiteral lt = absurd (omega arith)
open_least d x b s h fault.IncludeFile lt = absurd (omega arith)

closed_meets : (d : Dialect) (x : Start) (b : ℕ) (s : List ℕ) (c : Closer) (names : Bool) (end : Option ℕ) → IsClosedBy d x b s c names → closing_end c s ≡ end → MeetsBy d x b s (closed 1 names end s)
closed_meets d x b s c names None h e = (
  length s,
  refl,
  record {
    begins = h.open_is ∙ rw e refl;
    within = omega arith;
    least = open_least d x b s h.bad;
  },
)
closed_meets d x b s c true (Some n) h e = (
  n,
  refl,
  let i = closing_is c s n e in record {
    begins = h.include_is ∙ rw e refl;
    within = i.within;
    least = include_least d x b s c n h e;
  },
)
closed_meets d x b s c false (Some n) h e = (
  n,
  refl,
  let i = closing_is c s n e in record {
    within = i.within;
    is = h.form_is (take n s) ∙ rw (end_is (closing_end c) s n i) refl;
    no_longer = λ m lt le. h.form_is (take m s) ∙ rw (end_stops (closing_end c) s n m i lt le) refl;
    no_pattern = closed_free d x b s c n h e;
  },
)

pub brace_meets : (d : Dialect) (b : ℕ) (s : List ℕ) → MeetsBy d start.Brace b s (cut_comment d 1 (closer_of_brace d) s)
unfolding cut_comment form_by pattern_by
brace_meets d b s = closed_meets d start.Brace b s (closer_of_brace d) (includes d s) (closing_end (closer_of_brace d) s)
    (record { form_is = λ w. refl; bad = refl; open_is = refl; string = refl; big = refl; real_is = refl; include_is = refl }) refl

pub directive_meets : (d : Dialect) (b : ℕ) (s : List ℕ) → MeetsBy d start.Directive b s (cut_directive s)
unfolding cut_directive form_by pattern_by
directive_meets d b s = closed_meets d start.Directive b s Dollar (is_include s) (closing_end Dollar s)
    (record { form_is = λ w. refl; bad = refl; open_is = refl; string = refl; big = refl; real_is = refl; include_is = refl }) refl

-- ---- parentheses

parenthesis_free : (d : Dialect) (b : ℕ) (s : List ℕ) → open_parenthesis d s ≡ None → include_parenthesis d s ≡ None → (kind : LexKind) → pattern_by d kind start.Parenthesis b s ≡ None
unfolding pattern_by
parenthesis_free d b s h k fault.BadByte = refl
parenthesis_free d b s h k fault.OpenComment = h
parenthesis_free d b s h k fault.OpenString = refl
parenthesis_free d b s h k fault.NumberTooBig = refl
parenthesis_free d b s h k fault.RealLiteral = refl
parenthesis_free d b s h k fault.IncludeFile = k

parenthesis_least : (d : Dialect) (b : ℕ) (s : List ℕ) → open_parenthesis d s ≡ None → (other : LexKind) → kind_number other < 6 → pattern_by d other start.Parenthesis b s ≡ None
unfolding pattern_by
parenthesis_least d b s h fault.BadByte lt = refl
parenthesis_least d b s h fault.OpenComment lt = h
parenthesis_least d b s h fault.OpenString lt = refl
parenthesis_least d b s h fault.NumberTooBig lt = refl
parenthesis_least d b s h fault.RealLiteral lt = refl
parenthesis_least d b s h fault.IncludeFile lt = absurd (omega arith)

no_bad_parenthesis : (d : Dialect) (b : ℕ) (s : List ℕ) → pattern_by d fault.BadByte start.Parenthesis b s ≡ None
unfolding pattern_by
no_bad_parenthesis d b s = refl

star_longer : (d : Dialect) (b c : ℕ) (t : List ℕ) (n m : ℕ) → c == 42 ≡ true → IsEndOf (closing_end (closer_of_star d)) t n → suc n < m → m ≤ suc (length t) → parenthesis d (take m (c ∷ t)) ≡ None
unfolding parenthesis
star_longer d b c t n zero q h lt le = absurd (omega arith)
star_longer d b c t n (suc m) q h lt le = rw (q, end_stops (closing_end (closer_of_star d)) t n m h (omega arith) (omega arith)) refl

star_meets : (d : Dialect) (b c : ℕ) (t : List ℕ) (names : Bool) (end : Option ℕ) → c == 42 ≡ true → includes d t ≡ names → closing_end (closer_of_star d) t ≡ end → MeetsBy d start.Parenthesis b (c ∷ t) (closed 2 names end t)
unfolding form_by pattern_by parenthesis open_parenthesis include_parenthesis
star_meets d b c t names None q i e = (
  suc (length t),
  omega arith,
  record {
    begins = rw (q, e) (ap Some (omega arith));
    within = omega arith;
    least = open_least d start.Parenthesis b (c ∷ t) (no_bad_parenthesis d b (c ∷ t));
  },
)
star_meets d b c t true (Some n) q i e = (
  suc n,
  omega arith,
  let h = closing_is (closer_of_star d) t n e in record {
    begins = rw (q, i, e) (ap Some (omega arith));
    within = omega (arith, h.within);
    least = parenthesis_least d b (c ∷ t) (rw (q, e) refl);
  },
)
star_meets d b c t false (Some n) q i e = (
  suc n,
  omega arith,
  let h = closing_is (closer_of_star d) t n e in record {
    within = omega (arith, h.within);
    is = rw (q, end_is (closing_end (closer_of_star d)) t n h) refl;
    no_longer = λ m lt le. star_longer d b c t n m q h lt le;
    no_pattern = parenthesis_free d b (c ∷ t) (rw (q, e) refl) (rw (q, i) refl);
  },
)

bracket_longer : (d : Dialect) (c : ℕ) (t : List ℕ) (m : ℕ) → c == 42 ≡ false → c == 46 ≡ true → 1 < m → m ≤ suc (length t) → parenthesis d (take m (c ∷ t)) ≡ None
unfolding parenthesis
bracket_longer d c t zero q r lt le = absurd (omega arith)
bracket_longer d c t (suc m) q r lt le = rw (q, r, nil_longer t m (omega arith) (omega arith)) refl

open_longer : (d : Dialect) (c : ℕ) (t : List ℕ) (m : ℕ) → c == 42 ≡ false → c == 46 ≡ false → 0 < m → parenthesis d (take m (c ∷ t)) ≡ None
unfolding parenthesis
open_longer d c t zero q r lt = absurd (omega arith)
open_longer d c t (suc m) q r lt = rw (q, r) refl

pub parenthesis_meets : (d : Dialect) (b : ℕ) (s : List ℕ) → MeetsBy d start.Parenthesis b s (cut_parenthesis d s)
unfolding cut_parenthesis cut_comment form_by pattern_by parenthesis open_parenthesis include_parenthesis
parenthesis_meets d b [] = (
  0,
  refl,
  record {
    within = omega arith;
    is = refl;
    no_longer = λ m lt le. absurd (omega arith);
    no_pattern = parenthesis_free d b [] refl refl;
  },
)
parenthesis_meets d b (c ∷ t) = elim (decide (c == 42)) [
  | inl q ↦ rw q (star_meets d b c t (includes d t) (closing_end (closer_of_star d) t) q refl refl)
  | inr q ↦ elim (decide (c == 46)) [
    | inl r ↦ rw (q, r) (
      1,
      refl,
      record {
        within = omega arith;
        is = rw (q, r) refl;
        no_longer = λ m lt le. bracket_longer d c t m q r lt le;
        no_pattern = parenthesis_free d b (c ∷ t) (rw q refl) (rw q refl);
      },
    )
    | inr r ↦ rw (q, r) (
      0,
      refl,
      record {
        within = omega arith;
        is = refl;
        no_longer = λ m lt le. open_longer d c t m q r lt;
        no_pattern = parenthesis_free d b (c ∷ t) (rw q refl) (rw q refl);
      },
    )
  ]
]

-- ---- symbols

symbol_free : (d : Dialect) (b : ℕ) (s : List ℕ) (kind : LexKind) → pattern_by d kind start.Other b s ≡ None
unfolding pattern_by
symbol_free d b s fault.BadByte = refl
symbol_free d b s fault.OpenComment = refl
symbol_free d b s fault.OpenString = refl
symbol_free d b s fault.NumberTooBig = refl
symbol_free d b s fault.RealLiteral = refl
symbol_free d b s fault.IncludeFile = refl

-- no kind has a number below that of BadByte
pub none_least : (d : Dialect) (x : Start) (b : ℕ) (s : List ℕ) (other : LexKind) → kind_number other < 1 → pattern_by d other x b s ≡ None
none_least d x b s fault.BadByte lt = absurd (omega arith)
none_least d x b s fault.OpenComment lt = absurd (omega arith)
none_least d x b s fault.OpenString lt = absurd (omega arith)
none_least d x b s fault.NumberTooBig lt = absurd (omega arith)
none_least d x b s fault.RealLiteral lt = absurd (omega arith)
none_least d x b s fault.IncludeFile lt = absurd (omega arith)

pub bad_by : (d : Dialect) (x : Start) (b : ℕ) (s : List ℕ) → IsBadBy d x b s → MeetsBy d x b s (refused fault.BadByte 1)
bad_by d x b s h = (0, refl, record { begins = (h, refl); within = omega arith; least = none_least d x b s })

nothing_longer : (d : Dialect) (b : ℕ) (m : ℕ) → symbol_1 d b ≡ None → symbol d b (take m []) ≡ None
unfolding symbol
nothing_longer d b zero e = rw e refl
nothing_longer d b (suc m) e = rw e refl

no_double : (d : Dialect) (b c : ℕ) (t : List ℕ) (m : ℕ) → symbol_2 b c ≡ None → 0 < m → symbol d b (take m (c ∷ t)) ≡ None
unfolding symbol
no_double d b c t zero e lt = absurd (omega arith)
no_double d b c t (suc zero) e lt = rw e refl
no_double d b c [] (suc (suc m)) e lt = rw e refl
no_double d b c (x ∷ t) (suc (suc m)) e lt = refl

no_symbol : (d : Dialect) (b c : ℕ) (t : List ℕ) (m : ℕ) → symbol_1 d b ≡ None → symbol_2 b c ≡ None → symbol d b (take m (c ∷ t)) ≡ None
unfolding symbol
no_symbol d b c t zero e k = rw e refl
no_symbol d b c t (suc m) e k = no_double d b c t (suc m) k (omega arith)

double_longer : (d : Dialect) (b c : ℕ) (t : List ℕ) (m : ℕ) → 1 < m → m ≤ suc (length t) → symbol d b (take m (c ∷ t)) ≡ None
unfolding symbol
double_longer d b c t zero lt le = absurd (omega arith)
double_longer d b c t (suc zero) lt le = absurd (omega arith)
double_longer d b c [] (suc (suc m)) lt le = absurd (omega arith)
double_longer d b c (x ∷ t) (suc (suc m)) lt le = refl

last_meets : (d : Dialect) (b : ℕ) (one : Option Symbol) → symbol_1 d b ≡ one → MeetsBy d start.Other b [] (single one)
unfolding form_by symbol
last_meets d b None e = bad_by d start.Other b [] (record { no_form = λ m. nothing_longer d b m e; no_pattern = symbol_free d b [] })
last_meets d b (Some s) e = (
  0,
  refl,
  record {
    within = omega arith;
    is = rw e refl;
    no_longer = λ m lt le. absurd (omega arith);
    no_pattern = symbol_free d b [];
  },
)

single_meets : (d : Dialect) (b c : ℕ) (t : List ℕ) (one : Option Symbol) → symbol_1 d b ≡ one → symbol_2 b c ≡ None → MeetsBy d start.Other b (c ∷ t) (single one)
unfolding form_by symbol
single_meets d b c t None e k = bad_by d start.Other b (c ∷ t) (record { no_form = λ m. no_symbol d b c t m e k; no_pattern = symbol_free d b (c ∷ t) })
single_meets d b c t (Some s) e k = (
  0,
  refl,
  record {
    within = omega arith;
    is = rw e refl;
    no_longer = λ m lt le. no_double d b c t m k lt;
    no_pattern = symbol_free d b (c ∷ t);
  },
)

double_meets : (d : Dialect) (b c : ℕ) (t : List ℕ) (two : Option Symbol) → symbol_2 b c ≡ two → MeetsBy d start.Other b (c ∷ t) (double_or two (single (symbol_1 d b)))
unfolding form_by symbol
double_meets d b c t None e = single_meets d b c t (symbol_1 d b) refl e
double_meets d b c t (Some s) e = (
  1,
  refl,
  record {
    within = omega arith;
    is = rw e refl;
    no_longer = λ m lt le. double_longer d b c t m lt le;
    no_pattern = symbol_free d b (c ∷ t);
  },
)

pub symbol_meets : (d : Dialect) (b : ℕ) (s : List ℕ) → MeetsBy d start.Other b s (cut_symbol d b s)
unfolding cut_symbol
symbol_meets d b [] = last_meets d b (symbol_1 d b) refl
symbol_meets d b (c ∷ t) = double_meets d b c t (symbol_2 b c) refl
