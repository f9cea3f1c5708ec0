-- The fields of records, and the variants around them.
use Rattle.std.specs.Prelude.{ℕ, Bool, true, false, ◌&&◌, not, nat_eq, is_none, List, [], ◌∷◌, ◌++◌, map, Option, Some, None}
use Rattle.typed_tree.specs.declared.declarations.VarDecl.{VarDecl}
use Rattle.typed_tree.specs.declared.types.FieldDecl.{FieldDecl}
use Rattle.typed_tree.specs.declared.types.LabelRange.{LabelRange}
use Rattle.typed_tree.specs.declared.types.VariantPart.{VariantPart, VariantPart', Row_of-VariantArm, more_of-VariantArm, end_of-VariantArm}
use Rattle.typed_tree.specs.declared.types.VariantArm.{VariantArm, VariantArm', Held-VariantArm-variants, None', Some', more_of-VariantPart, end_of-VariantPart}
use Rattle.typed_tree.specs.declared.types.PasType.{PasType}
use Rattle.typed_tree.specs.declared.types.PasType.TheVariants.{RecordOf}

-- a variant, by the labels that select it, with all that stands in it: fields, tags, and what stands in variants in it
pub record Variant : Type 0 where
  pub labels : List LabelRange
  pub fields : List VarDecl

-- a variant part; a hidden tag has no name
pub record Choice : Type 0 where
  pub tag : ℕ
  pub hidden : Bool
  pub variants : List Variant

unfoldable pub as_variable : FieldDecl → VarDecl
as_variable f = record { decl = f.decl; of = f.of }

-- ---- all that stands in a part

unfoldable mutual
  pub part_fields : VariantPart → List VarDecl
  part_fields (VariantPart' tag name of shape row) = record { decl = tag; of = of } ∷ arms_fields row

  pub arms_fields : {n : _} → Row_of-VariantArm n → List VarDecl
  arms_fields end_of-VariantArm = []
  arms_fields (more_of-VariantArm a rest) = arm_fields a ++ arms_fields rest

  pub arm_fields : VariantArm → List VarDecl
  arm_fields (VariantArm' labels fields inner) = map as_variable fields ++ inner_fields inner

  pub inner_fields : Held-VariantArm-variants → List VarDecl
  inner_fields None' = []
  inner_fields (Some' p (more_of-VariantPart part end_of-VariantPart)) = part_fields part

unfoldable pub variant : VariantArm → Variant
variant (VariantArm' labels fields inner) = record { labels = labels; fields = map as_variable fields ++ inner_fields inner }

unfoldable pub variants_of : {n : _} → Row_of-VariantArm n → List Variant
variants_of end_of-VariantArm = []
variants_of (more_of-VariantArm a rest) = variant a ∷ variants_of rest

unfoldable pub choice : VariantPart → Choice
choice (VariantPart' tag name of shape row) = record { tag = tag; hidden = is_none name; variants = variants_of row }

-- ---- the variants around a field

unfoldable pub has_field : List FieldDecl → ℕ → Bool
has_field [] f = false
has_field (d ∷ ds) f = elim (nat_eq d.decl f) [ true ↦ true | false ↦ has_field ds f ]

unfoldable pub deeper : Choice × Variant → Option (List (Choice × Variant)) → Option (List (Choice × Variant))
deeper v None = None
deeper v (Some vs) = Some (v ∷ vs)

-- the variants of a part around the field, the outermost first; None where it does not stand in the part
unfoldable mutual
  pub around_part : VariantPart → ℕ → Option (List (Choice × Variant))
  around_part (VariantPart' tag name of shape row) f =
      elim (nat_eq tag f) [ true ↦ Some [] | false ↦ around_arms (record { tag = tag; hidden = is_none name; variants = variants_of row }) row f ]

  pub around_arms : Choice → {n : _} → Row_of-VariantArm n → ℕ → Option (List (Choice × Variant))
  around_arms c end_of-VariantArm f = None
  around_arms c (more_of-VariantArm a rest) f = elim (around_arm c a f) [ Some vs ↦ Some vs | None ↦ around_arms c rest f ]

  pub around_arm : Choice → VariantArm → ℕ → Option (List (Choice × Variant))
  around_arm c (VariantArm' labels fields inner) f =
      deeper (c, variant (VariantArm' labels fields inner)) (elim (has_field fields f) [ true ↦ Some [] | false ↦ around_inner inner f ])

  pub around_inner : Held-VariantArm-variants → ℕ → Option (List (Choice × Variant))
  around_inner None' f = None
  around_inner (Some' p (more_of-VariantPart part end_of-VariantPart)) f = around_part part f

-- ---- the part of a tag

unfoldable mutual
  pub tag_in_part : VariantPart → ℕ → Option Choice
  tag_in_part (VariantPart' tag name of shape row) f =
      elim (nat_eq tag f && not (is_none name)) [ true ↦ Some (choice (VariantPart' tag name of shape row)) | false ↦ tag_in_arms row f ]

  pub tag_in_arms : {n : _} → Row_of-VariantArm n → ℕ → Option Choice
  tag_in_arms end_of-VariantArm f = None
  tag_in_arms (more_of-VariantArm (VariantArm' labels fields inner) rest) f = elim (tag_in_inner inner f) [ Some c ↦ Some c | None ↦ tag_in_arms rest f ]

  pub tag_in_inner : Held-VariantArm-variants → ℕ → Option Choice
  tag_in_inner None' f = None
  tag_in_inner (Some' p (more_of-VariantPart part end_of-VariantPart)) f = tag_in_part part f

-- ---- records

unfoldable pub optional_fields : Option VariantPart → List VarDecl
optional_fields None = []
optional_fields (Some part) = part_fields part

-- the fields of all variants and the tags, side by side
unfoldable pub record_fields : Option PasType → List VarDecl
record_fields (Some (RecordOf packed fields variants)) = map as_variable fields ++ optional_fields variants
record_fields _ = []

unfoldable pub or_none : Option (List (Choice × Variant)) → List (Choice × Variant)
or_none None = []
or_none (Some vs) = vs

-- the variants around a field of a record, the outermost first
unfoldable pub variants_around : Option PasType → ℕ → List (Choice × Variant)
variants_around (Some (RecordOf packed fields (Some part))) f = or_none (around_part part f)
variants_around _ f = []

-- the variant part whose tag, with a name, is this field
unfoldable pub tag_choice : Option PasType → ℕ → Option Choice
tag_choice (Some (RecordOf packed fields (Some part))) f = tag_in_part part f
tag_choice _ f = None
