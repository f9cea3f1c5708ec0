-- How many types and lists of fields, and how many lists of formals, stand on one path. Each line gives the height of a node by those of its parts.
use Rattle.std.specs.Prelude.{ℕ, suc, max, Option, Some, None}
use Rattle.pascal_tree.specs.declared.types.Struct.TheOpen as part
use Rattle.pascal_tree.specs.declared.types.Struct.TheOpen.{Struct-F, TypeNode-F, Fields-F, Fixed-F, FixedSection-F, Variant-F, Variants-F}
use Rattle.pascal_tree.specs.declared.types.Struct.{Struct, fold-Struct}
use Rattle.pascal_tree.specs.declared.types.TypeNode.{TypeNode, fold-TypeNode}
use Rattle.pascal_tree.specs.declared.types.Fields.{Fields, fold-Fields}
use Rattle.pascal_tree.specs.declared.types.Fixed.{Fixed, fold-Fixed}
use Rattle.pascal_tree.specs.declared.types.FixedSection.{FixedSection, fold-FixedSection}
use Rattle.pascal_tree.specs.declared.types.Variant.{Variant, fold-Variant}
use Rattle.pascal_tree.specs.declared.types.Variants.{Variants, fold-Variants}
use Rattle.pascal_tree.specs.declared.declarations.Formal.TheOpen as formal
use Rattle.pascal_tree.specs.declared.declarations.Formal.TheOpen.{Formal-F, Formals-F}
use Rattle.pascal_tree.specs.declared.declarations.Formal.{Formal, fold-Formal}
use Rattle.pascal_tree.specs.declared.declarations.Formals.{Formals, fold-Formals}
use Rattle.pascal_tree.specs.ExpressionHeights.{greatest, optional}

-- a node with heights in place of its parts
abbrev pub Parts : (Type 0 → Type 0 → Type 0 → Type 0 → Type 0 → Type 0 → Type 0 → Type 0) → Type 0
Parts F = F ℕ ℕ ℕ ℕ ℕ ℕ ℕ

abbrev pub of_struct : Parts Struct-F → ℕ
of_struct (part.Array indexes component span) = max (greatest indexes) component
of_struct (part.Record fields span) = fields
of_struct (part.Set base span) = base
of_struct (part.File component span) = component

abbrev pub of_type : Parts TypeNode-F → ℕ
of_type (part.Structured packed of span) = suc of
of_type (part.Pointer domain span) = 1
of_type (part.Enumeration names span) = 1
of_type (part.Subrange first last span) = 1
of_type (part.Name name) = 1
of_type (part.String limit span) = 1

abbrev pub of_fields : Parts Fields-F → ℕ
of_fields f = suc (max (optional f.fixed) (optional f.variants))

abbrev pub of_fixed : Parts Fixed-F → ℕ
of_fixed f = greatest f.sections

abbrev pub of_section : Parts FixedSection-F → ℕ
of_section s = s.of

abbrev pub of_variant : Parts Variant-F → ℕ
of_variant v = v.fields

abbrev pub of_variants : Parts Variants-F → ℕ
of_variants v = greatest v.list

unfoldable pub struct_height : Struct → ℕ
struct_height = fold-Struct ℕ ℕ ℕ ℕ ℕ ℕ ℕ of_struct of_type of_fields of_fixed of_section of_variant of_variants

unfoldable pub type_height : TypeNode → ℕ
type_height = fold-TypeNode ℕ ℕ ℕ ℕ ℕ ℕ ℕ of_struct of_type of_fields of_fixed of_section of_variant of_variants

unfoldable pub fields_height : Fields → ℕ
fields_height = fold-Fields ℕ ℕ ℕ ℕ ℕ ℕ ℕ of_struct of_type of_fields of_fixed of_section of_variant of_variants

unfoldable pub fixed_height : Fixed → ℕ
fixed_height = fold-Fixed ℕ ℕ ℕ ℕ ℕ ℕ ℕ of_struct of_type of_fields of_fixed of_section of_variant of_variants

unfoldable pub section_height : FixedSection → ℕ
section_height = fold-FixedSection ℕ ℕ ℕ ℕ ℕ ℕ ℕ of_struct of_type of_fields of_fixed of_section of_variant of_variants

unfoldable pub variant_height : Variant → ℕ
variant_height = fold-Variant ℕ ℕ ℕ ℕ ℕ ℕ ℕ of_struct of_type of_fields of_fixed of_section of_variant of_variants

unfoldable pub variants_height : Variants → ℕ
variants_height = fold-Variants ℕ ℕ ℕ ℕ ℕ ℕ ℕ of_struct of_type of_fields of_fixed of_section of_variant of_variants

abbrev pub fixed_part_height : Option Fixed → ℕ
fixed_part_height None = 0
fixed_part_height (Some f) = fixed_height f

abbrev pub variant_part_height : Option Variants → ℕ
variant_part_height None = 0
variant_part_height (Some v) = variants_height v

-- ---- formals

abbrev pub of_formal : Formal-F ℕ ℕ → ℕ
of_formal (formal.Variables by_reference names of span) = 0
of_formal (formal.Procedure name formals span) = optional formals
of_formal (formal.Function name formals result span) = optional formals

abbrev pub of_formals : Formals-F ℕ ℕ → ℕ
of_formals f = suc (greatest f.list)

unfoldable pub formal_height : Formal → ℕ
formal_height = fold-Formal ℕ ℕ of_formal of_formals

unfoldable pub formals_height : Formals → ℕ
formals_height = fold-Formals ℕ ℕ of_formal of_formals

abbrev pub given_height : Option Formals → ℕ
given_height None = 0
given_height (Some formals) = formals_height formals
