-- New variables, whose scalars are undefined.
use Rattle.std.specs.Prelude.{ℕ, zero, suc, ◌+◌, ℤ, ◌-ℤ◌, unsigned_abs, Bool, true, false, ◌&&◌, List, [], ◌∷◌, Option, Some, None}
use Rattle.typed_tree.specs.declared.types.Types.{Types}
use Rattle.typed_tree.specs.declared.types.PasType.TheVariants as type
use Rattle.typed_tree.specs.declared.declarations.VarDecl.{VarDecl}
use Rattle.typed_tree.specs.Ranges.{type_at, Range}
use Rattle.typed_tree.specs.Fields.{record_fields}
use Rattle.meanings.specs.Values.{Tree, Undefined, ArrayOf, RecordOf, Trees, no_trees, tree, Fields, no_fields, field}
use Rattle.meanings.specs.Worlds.{Slot, Holds}

-- how many values a range has
unfoldable pub size_of : Option (ℤ × ℤ) → ℕ
size_of None = 0
size_of (Some r) = unsigned_abs (r.1 -ℤ r.0) + 1

unfoldable pub copies : ℕ → Tree → Trees
copies zero t = no_trees
copies (suc n) t = tree t (copies n t)

unfoldable pub fields_of : (ℕ → Tree) → List VarDecl → Fields
fields_of make [] = no_fields
fields_of make (f ∷ fs) = field f.decl (make f.of) (fields_of make fs)

-- the components of a type stand before it, so that types nest no deeper than its number
unfoldable pub fresh_to : ℕ → Types → ℕ → Tree
fresh_to zero types t = Undefined
fresh_to (suc n) types t = elim (type_at types t) [
  | Some (type.Array packed index component) ↦ ArrayOf (copies (size_of (Range types index)) (fresh_to n types component))
  | Some (type.RecordOf packed fields variants) ↦ RecordOf (fields_of (fresh_to n types) (record_fields (type_at types t)))
  | Some (type.DynString limit) ↦ ArrayOf (copies (limit + 1) Undefined)
  | _ ↦ Undefined
]

-- a new variable of the type
unfoldable pub fresh : Types → ℕ → Tree
fresh types t = fresh_to (suc t) types t

unfoldable pub new_variables : Types → List VarDecl → List (ℕ × Slot)
new_variables types [] = []
new_variables types (v ∷ vs) = (v.decl, Holds (fresh types v.of)) ∷ new_variables types vs

-- ---- whether the types are there

unfoldable pub each_is : (ℕ → Bool) → List VarDecl → Bool
each_is test [] = true
each_is test (v ∷ vs) = test v.of && each_is test vs

unfoldable pub is_type_to : ℕ → Types → ℕ → Bool
is_type_to zero types t = false
is_type_to (suc n) types t = elim (type_at types t) [
  | Some (type.Array packed index component) ↦ is_type_to n types component
  | Some (type.RecordOf packed fields variants) ↦ each_is (is_type_to n types) (record_fields (type_at types t))
  | Some other ↦ true
  | None ↦ false
]

-- whether a type is there, with those of its components
unfoldable pub is_type : Types → ℕ → Bool
is_type types t = is_type_to (suc t) types t

unfoldable pub have_types : Types → List VarDecl → Bool
have_types types vs = each_is (is_type types) vs
