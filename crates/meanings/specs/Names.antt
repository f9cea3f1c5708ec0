-- Names and activations.
use Rattle.std.specs.Prelude.{ℕ, Bool, true, false, ◌&&◌, ◌||◌, nat_eq, List, [], ◌∷◌, Option, Some, None}
use Rattle.typed_tree.specs.declared.declarations.Owner.{Owner}
use Rattle.typed_tree.specs.declared.declarations.Owner.TheVariants.{Program, UnitPart, Routine}
use Rattle.meanings.specs.Worlds.{Slot, Activation}
use Rattle.meanings.specs.Programs.{Heading}

unfoldable pub named : List (ℕ × Slot) → ℕ → Option Slot
named [] d = None
named (n ∷ ns) d = elim (nat_eq n.0 d) [ true ↦ Some n.1 | false ↦ named ns d ]

-- with another slot for the name, which is new where it was not there
unfoldable pub with_name : List (ℕ × Slot) → ℕ → Slot → List (ℕ × Slot)
with_name [] d slot = (d, slot) ∷ []
with_name (n ∷ ns) d slot = elim (nat_eq n.0 d) [ true ↦ (d, slot) ∷ ns | false ↦ n ∷ with_name ns d slot ]

unfoldable pub same_owner : Owner → Owner → Bool
same_owner Program Program = true
same_owner (UnitPart i) (UnitPart j) = nat_eq i j
same_owner (Routine i) (Routine j) = nat_eq i j
same_owner _ _ = false

-- the program and the units have one activation each, which every other one finds directly
unfoldable pub is_fixed : Owner → Bool
is_fixed (Routine k) = false
is_fixed _ = true

-- what a name stands for, with its activation: from a outward along static parents, then in the program and the units
unfoldable pub find_name : List Activation → ℕ → ℕ → Option (ℕ × Slot)
find_name [] a d = None
find_name (e ∷ es) a d = elim (nat_eq e.number a) [
  | true ↦ elim (named e.names d) [ Some slot ↦ Some (e.number, slot) | None ↦ find_name es e.parent d ]
  | false ↦ elim (is_fixed e.owner) [
    | true ↦ elim (named e.names d) [ Some slot ↦ Some (e.number, slot) | None ↦ find_name es a d ]
    | false ↦ find_name es a d
  ]
]

-- the activation of a block that encloses a, or of the program or a unit
unfoldable pub enclosing : List Activation → ℕ → Owner → Option ℕ
enclosing [] a o = None
enclosing (e ∷ es) a o = elim (same_owner e.owner o && (is_fixed o || nat_eq e.number a)) [
  | true ↦ Some e.number
  | false ↦ elim (nat_eq e.number a) [ true ↦ enclosing es e.parent o | false ↦ enclosing es a o ]
]

unfoldable pub activation_at : List Activation → ℕ → Option Activation
activation_at [] a = None
activation_at (e ∷ es) a = elim (nat_eq e.number a) [ true ↦ Some e | false ↦ activation_at es a ]

-- with another slot for a name of the activation a
unfoldable pub with_slot : List Activation → ℕ → ℕ → Slot → List Activation
with_slot [] a d slot = []
with_slot (e ∷ es) a d slot = elim (nat_eq e.number a) [
  | true ↦ record e { names = with_name e.names d slot } ∷ es
  | false ↦ e ∷ with_slot es a d slot
]

-- ---- blocks

unfoldable pub contains : List ℕ → ℕ → Bool
contains [] x = false
contains (y ∷ ys) x = elim (nat_eq y x) [ true ↦ true | false ↦ contains ys x ]

unfoldable pub block_of : List Heading → Owner → Option Heading
block_of [] o = None
block_of (h ∷ hs) o = elim (same_owner h.owner o) [ true ↦ Some h | false ↦ block_of hs o ]

-- the block that declares a label
unfoldable pub label_owner : List Heading → ℕ → Option Owner
label_owner [] l = None
label_owner (h ∷ hs) l = elim (contains h.labels l) [ true ↦ Some h.owner | false ↦ label_owner hs l ]
