-- Sets, as 256 truth values.
use Rattle.std.specs.Prelude.{ℕ, zero, suc, ◌+◌, ◌-ℤ◌, ℤ, pos, Bool, true, false, not, ◌&&◌, ◌||◌, int_lt, unsigned_abs, List, [], ◌∷◌, replicate, Option, Some, None}
use Rattle.typed_tree.specs.declared.operations.BinaryOp.{BinaryOp}
use Rattle.typed_tree.specs.declared.operations.BinaryOp.TheVariants.{Union, Difference, Intersection, Equal, Unequal, LessEq, GreaterEq}
use Rattle.meanings.specs.declared.errors.RuntimeError.TheVariants.{OutOfRange}
use Rattle.meanings.specs.Values.{Tree, Undefined, Whole, SetOf}
use Rattle.meanings.specs.Outcomes.{Checked, Passes, Lacks, Misfits, ◌&>◌}
use Rattle.pascal_meaning.specs.Numbers.{when, between, in_range, of_bool}

abbrev pub members : ℤ × ℤ
members = (pos 0, pos 255)

-- the truth values of a set
unfoldable pub set_of : Tree → Checked (List Bool)
set_of (SetOf ms) = Passes ms
set_of Undefined = Lacks
set_of _ = Misfits

unfoldable pub empty_set : List Bool
empty_set = replicate 256 false

unfoldable pub zipped : (Bool → Bool → Bool) → List Bool → List Bool → List Bool
zipped f (a ∷ as') (b ∷ bs) = f a b ∷ zipped f as' bs
zipped f _ _ = []

-- whether the test holds of each two truth values
unfoldable pub everywhere : (Bool → Bool → Bool) → List Bool → List Bool → Bool
everywhere f (a ∷ as') (b ∷ bs) = elim (f a b) [ true ↦ everywhere f as' bs | false ↦ false ]
everywhere f _ _ = true

unfoldable pub implies : Bool → Bool → Bool
implies a b = not a || b

unfoldable pub same : Bool → Bool → Bool
same a b = implies a b && implies b a

-- the truth value with a number; false past the end
unfoldable pub has : List Bool → ℕ → Bool
has [] n = false
has (a ∷ as') zero = a
has (a ∷ as') (suc n) = has as' n

-- a number outside 0..255 is in no set
unfoldable pub is_member : ℤ → List Bool → Bool
is_member z s = between members z && has s (unsigned_abs z)

unfoldable pub on_sets : BinaryOp → List Bool → List Bool → Checked Tree
on_sets Union s t = Passes (SetOf (zipped (λ a b. a || b) s t))
on_sets Difference s t = Passes (SetOf (zipped (λ a b. a && not b) s t))
on_sets Intersection s t = Passes (SetOf (zipped (λ a b. a && b) s t))
on_sets Equal s t = Passes (Whole (of_bool (everywhere same s t)))
on_sets Unequal s t = Passes (Whole (of_bool (not (everywhere same s t))))
on_sets LessEq s t = Passes (Whole (of_bool (everywhere implies s t)))
on_sets GreaterEq s t = Passes (Whole (of_bool (everywhere implies t s)))
on_sets _ s t = Misfits

-- ---- constructors

-- true for n values after skip values
unfoldable pub marked : (skip n : ℕ) → List Bool → List Bool
marked skip n [] = []
marked zero zero as' = as'
marked zero (suc n) (a ∷ as') = true ∷ marked zero n as'
marked (suc skip) n (a ∷ as') = a ∷ marked skip n as'

unfoldable pub with_member : List Bool → ℤ → Checked (List Bool)
with_member s z = in_range (Some members) z &> λ z. Passes (marked (unsigned_abs z) 1 s)

-- a range whose first is above its last is empty and checks nothing
unfoldable pub with_members : List Bool → ℤ → ℤ → Checked (List Bool)
with_members s first last = elim (int_lt last first) [
  | true ↦ Passes s
  | false ↦ in_range (Some members) first &> λ f. in_range (Some members) last &> λ l. Passes (marked (unsigned_abs f) (unsigned_abs (l -ℤ f) + 1) s)
]

-- ---- stores

-- whether no member, counted from n on, is outside the range
unfoldable pub lies_in : ℤ × ℤ → ℕ → List Bool → Bool
lies_in r n [] = true
lies_in r n (a ∷ as') = elim (implies a (between r (pos n))) [ true ↦ lies_in r (suc n) as' | false ↦ false ]

-- a set for a variable with this range of members, else `OutOfRange`
unfoldable pub fits_base : Option (ℤ × ℤ) → List Bool → Checked (List Bool)
fits_base None s = Passes s
fits_base (Some r) s = when (lies_in r 0 s) OutOfRange s
