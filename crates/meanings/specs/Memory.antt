-- Value trees in a world: what is read and stored where.
use Rattle.std.specs.Prelude.{ℕ, zero, suc, true, false, nat_eq, List, [], ◌∷◌, ◌++◌, Option, Some, None, slice_get, slice_set}
use Rattle.meanings.specs.Values.{Tree, Undefined, HeapNumber, ArrayOf, RecordOf, Trees, no_trees, tree, Fields, no_fields, field, Base, Variable, Heap, Step, AtIndex, AtField, Reference}
use Rattle.meanings.specs.Worlds.{Slot, Holds, Refers, Activation, View}
use Rattle.meanings.specs.Outcomes.{Checked, Passes, Lacks, Misfits, ◌&>◌, there}
use Rattle.meanings.specs.Names.{named, activation_at, with_slot}

-- ---- inside a tree

unfoldable pub item_at : Trees → ℕ → Option Tree
item_at no_trees i = None
item_at (tree t ts) zero = Some t
item_at (tree t ts) (suc i) = item_at ts i

unfoldable pub field_at : Fields → ℕ → Option Tree
field_at no_fields f = None
field_at (field g t ts) f = elim (nat_eq g f) [ true ↦ Some t | false ↦ field_at ts f ]

unfoldable pub child : Tree → Step → Option Tree
child (ArrayOf ts) (AtIndex i) = item_at ts i
child (RecordOf fs) (AtField f) = field_at fs f
child _ _ = None

unfoldable pub subtree : List Step → Tree → Option Tree
subtree [] t = Some t
subtree (s ∷ ss) t = elim (child t s) [ Some u ↦ subtree ss u | None ↦ None ]

unfoldable pub with_item : Trees → ℕ → Tree → Trees
with_item no_trees i u = no_trees
with_item (tree t ts) zero u = tree u ts
with_item (tree t ts) (suc i) u = tree t (with_item ts i u)

unfoldable pub with_field : Fields → ℕ → Tree → Fields
with_field no_fields f u = no_fields
with_field (field g t ts) f u = elim (nat_eq g f) [ true ↦ field g u ts | false ↦ field g t (with_field ts f u) ]

unfoldable pub with_child : Tree → Step → Tree → Tree
with_child (ArrayOf ts) (AtIndex i) u = ArrayOf (with_item ts i u)
with_child (RecordOf fs) (AtField f) u = RecordOf (with_field fs f u)
with_child t _ u = t

unfoldable pub with_subtree : List Step → Tree → Tree → Tree
with_subtree [] t u = u
with_subtree (s ∷ ss) t u = elim (child t s) [ Some c ↦ with_child t s (with_subtree ss c u) | None ↦ t ]

-- ---- in a world

unfoldable pub held : Option Slot → Checked Tree
held (Some (Holds t)) = Passes t
held _ = Misfits

unfoldable pub names_of : Option Activation → List (ℕ × Slot)
names_of (Some e) = e.names
names_of None = []

unfoldable pub not_gone : Option (Option Tree) → Checked Tree
not_gone (Some (Some t)) = Passes t
not_gone _ = Lacks

-- the variable of a base, which lacks where it is gone
unfoldable pub base_tree : View → Base → Checked Tree
base_tree v (Variable a d) = held (named (names_of (activation_at v.activations a)) d)
base_tree v (Heap h) = not_gone (slice_get v.heap h)

unfoldable pub within : List Step → Checked Tree → Checked Tree
within path c = c &> λ t. there (subtree path t)

unfoldable pub tree_at : View → Reference → Checked Tree
tree_at v r = within r.path (base_tree v r.base)

-- a variable of the base, with another tree
unfoldable pub with_base : View → Base → Tree → View
with_base v (Variable a d) t = record v { activations = with_slot v.activations a d (Holds t) }
with_base v (Heap h) t = record v { heap = slice_set v.heap h (Some t) }

-- a store, where the place is there
unfoldable pub stored : View → Reference → Tree → Checked View
stored v r t = base_tree v r.base &> λ old. there (subtree r.path old) &> λ u. Passes (with_base v r.base (with_subtree r.path old t))

unfoldable pub kept : {X : Type 0} → Checked Tree → X → Checked X
kept c x = c &> λ t. Passes x

-- a tree as it is read: an undefined scalar and a pointer to a variable that is gone lack; arrays and records are copied
unfoldable pub solid : View → Tree → Checked Tree
solid v Undefined = Lacks
solid v (HeapNumber h) = kept (base_tree v (Heap h)) (HeapNumber h)
solid v t = Passes t

unfoldable pub solid_at : View → Checked Tree → Checked Tree
solid_at v c = c &> λ t. solid v t

-- ---- places

unfoldable pub slot_place : ℕ → Option (ℕ × Slot) → Checked Reference
slot_place d (Some (a, Holds t)) = Passes (record { base = Variable a d; path = [] })
slot_place d (Some (a, Refers r)) = Passes r
slot_place d _ = Misfits

unfoldable pub longer : Reference → Step → Reference
longer r s = record { base = r.base; path = r.path ++ (s ∷ []) }
