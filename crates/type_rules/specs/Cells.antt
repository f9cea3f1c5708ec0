-- How many cells a variable of a type takes.
use Rattle.std.specs.Prelude.{ℕ, zero, suc, ◌+◌, ◌*◌, ℤ, ◌-ℤ◌, unsigned_abs, nat_le, if◌then◌else◌, List, sum_by, Option, Some, None}
use Rattle.typed_tree.specs.Ranges.{type_at, Range}
use Rattle.typed_tree.specs.declared.types.FieldDecl.{FieldDecl}
use Rattle.typed_tree.specs.declared.types.VariantPart.{VariantPart, VariantPart', Row_of-VariantArm, more_of-VariantArm, end_of-VariantArm}
use Rattle.typed_tree.specs.declared.types.VariantArm.{VariantArm, VariantArm', Held-VariantArm-variants, None', Some', more_of-VariantPart, end_of-VariantPart}
use Rattle.typed_tree.specs.declared.types.PasType.{PasType}
use Rattle.typed_tree.specs.declared.types.PasType.TheVariants as type
use Rattle.typed_tree.specs.declared.types.Types.{Types}

-- how many values a range has; a type that is not ordinal has none
unfoldable pub values_in : Option (ℤ × ℤ) → ℕ
values_in None = 0
values_in (Some r) = unsigned_abs (r.1 -ℤ r.0) + 1

-- ---- records, where `of_type` is how many cells each type has

unfoldable pub fields_cells : (of_type : ℕ → ℕ) → List FieldDecl → ℕ
fields_cells of_type fields = sum_by (λ field. of_type field.of) fields

-- a hidden tag has no name and takes one cell
unfoldable pub tag_cells : (of_type : ℕ → ℕ) → (name : Option (List ℕ)) → (of : ℕ) → ℕ
tag_cells of_type None of = 1
tag_cells of_type (Some name) of = of_type of

-- a tag and all its variants, side by side
unfoldable mutual
  pub part_cells : (of_type : ℕ → ℕ) → VariantPart → ℕ
  part_cells of_type (VariantPart' tag name of shape arms) = tag_cells of_type name of + arms_cells of_type arms

  pub arms_cells : (of_type : ℕ → ℕ) → {n : _} → Row_of-VariantArm n → ℕ
  arms_cells of_type end_of-VariantArm = 0
  arms_cells of_type (more_of-VariantArm arm rest) = arm_cells of_type arm + arms_cells of_type rest

  pub arm_cells : (of_type : ℕ → ℕ) → VariantArm → ℕ
  arm_cells of_type (VariantArm' labels fields inner) = fields_cells of_type fields + inner_cells of_type inner

  pub inner_cells : (of_type : ℕ → ℕ) → Held-VariantArm-variants → ℕ
  inner_cells of_type None' = 0
  inner_cells of_type (Some' p (more_of-VariantPart part end_of-VariantPart)) = part_cells of_type part

unfoldable pub variants_cells : (of_type : ℕ → ℕ) → Option VariantPart → ℕ
variants_cells of_type None = 0
variants_cells of_type (Some part) = part_cells of_type part

-- ---- types

-- a type, where `of_type` is how many cells each of its components has
unfoldable pub type_cells : Types → (of_type : ℕ → ℕ) → Option PasType → ℕ
type_cells types of_type (Some (type.Ordinal host first last)) = 1
type_cells types of_type (Some (type.Pointer domain)) = 1
type_cells types of_type (Some type.NilType) = 1
type_cells types of_type (Some (type.Array packed index component)) = values_in (Range types index) * of_type component
type_cells types of_type (Some (type.Literal length)) = length
type_cells types of_type (Some (type.DynString limit)) = limit + 1
type_cells types of_type (Some type.TextValue) = 256
type_cells types of_type (Some (type.RecordOf packed fields variants)) = fields_cells of_type fields + variants_cells of_type variants
type_cells types of_type (Some (type.SetOf packing base)) = 256
type_cells types of_type None = 0

-- a type whose components nest less than n deep; what nests deeper takes none
unfoldable pub cells_within : ℕ → Types → ℕ → ℕ
cells_within zero types t = 0
cells_within (suc n) types t = type_cells types (cells_within n types) (type_at types t)

-- the components of a type stand before it, pointers aside, so that types nest no deeper than its number
unfoldable pub Cells : Types → ℕ → ℕ
Cells types t = cells_within (suc t) types t

-- a number of cells that one type may have
unfoldable pub bounded : ℕ → Option ℕ
bounded n = if nat_le n 4194304 then Some n else None
