-- How many calls count the cells of a type.
use Rattle.std.proofs.Common.{ℕ, zero, suc, ◌+◌, List, sum_by, Option, Some, None}
use Rattle.typed_tree.specs.Ranges.{type_at}
use Rattle.typed_tree.specs.declared.types.FieldDecl.{FieldDecl}
use Rattle.typed_tree.specs.declared.types.VariantPart.{VariantPart, VariantPart', Row_of-VariantArm, more_of-VariantArm, end_of-VariantArm}
use Rattle.typed_tree.specs.declared.types.VariantArm.{VariantArm, VariantArm', Held-VariantArm-variants, None', Some', more_of-VariantPart, end_of-VariantPart}
use Rattle.typed_tree.specs.declared.types.PasType.{PasType}
use Rattle.typed_tree.specs.declared.types.PasType.TheVariants as type
use Rattle.typed_tree.specs.declared.types.Types.{Types}

unfoldable pub fields_steps : (of_type : ℕ → ℕ) → List FieldDecl → ℕ
fields_steps of_type fields = 1 + sum_by (λ field. of_type field.of) fields

unfoldable mutual
  pub part_steps : (of_type : ℕ → ℕ) → VariantPart → ℕ
  part_steps of_type (VariantPart' tag name of shape arms) = 2 + of_type of + arms_steps of_type arms

  pub arms_steps : (of_type : ℕ → ℕ) → {n : _} → Row_of-VariantArm n → ℕ
  arms_steps of_type end_of-VariantArm = 0
  arms_steps of_type (more_of-VariantArm arm rest) = arm_steps of_type arm + arms_steps of_type rest

  pub arm_steps : (of_type : ℕ → ℕ) → VariantArm → ℕ
  arm_steps of_type (VariantArm' labels fields inner) = 1 + fields_steps of_type fields + inner_steps of_type inner

  pub inner_steps : (of_type : ℕ → ℕ) → Held-VariantArm-variants → ℕ
  inner_steps of_type None' = 1
  inner_steps of_type (Some' p (more_of-VariantPart part end_of-VariantPart)) = 1 + part_steps of_type part

unfoldable pub variants_steps : (of_type : ℕ → ℕ) → Option VariantPart → ℕ
variants_steps of_type None = 1
variants_steps of_type (Some part) = 1 + part_steps of_type part

unfoldable pub type_steps : (of_type : ℕ → ℕ) → Option PasType → ℕ
type_steps of_type (Some (type.Array packed index component)) = 2 + of_type component
type_steps of_type (Some (type.RecordOf packed fields variants)) = 1 + fields_steps of_type fields + variants_steps of_type variants
type_steps of_type _ = 1

unfoldable pub steps_within : ℕ → Types → ℕ → ℕ
steps_within zero types t = 0
steps_within (suc n) types t = suc (type_steps (steps_within n types) (type_at types t))
