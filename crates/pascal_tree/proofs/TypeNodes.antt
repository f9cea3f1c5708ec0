-- The height of each node of a type and of formals, by those of its parts as programs see them.
use Rattle.std.proofs.Common.{◌≡◌, ℕ, Bool, suc, max, List, map, Option, Some, None, sym, ap, ◌∙◌}
use Rattle.p2c_text.specs.declared.place.Span.{Span}
use Rattle.pascal_tree.specs.declared.names.Identifier.{Identifier}
use Rattle.pascal_tree.specs.declared.constants.Constant.{Constant}
use Rattle.pascal_tree.specs.declared.types.TypeName.{TypeName}
use Rattle.pascal_tree.specs.declared.types.Struct.TheOpen as part
use Rattle.pascal_tree.specs.declared.types.Struct.{Struct, fold-roll-Struct}
use Rattle.pascal_tree.specs.declared.types.Struct.TheVariants as struct
use Rattle.pascal_tree.specs.declared.types.TypeNode.{TypeNode, fold-roll-TypeNode}
use Rattle.pascal_tree.specs.declared.types.TypeNode.TheVariants as type
use Rattle.pascal_tree.specs.declared.types.Fields.{Fields, out-Fields, roll-Fields, roll-out-Fields, fold-roll-Fields}
use Rattle.pascal_tree.specs.declared.types.Fixed.{Fixed, out-Fixed, fold_out-Fixed}
use Rattle.pascal_tree.specs.declared.types.FixedSection.{FixedSection, out-FixedSection, fold_out-FixedSection}
use Rattle.pascal_tree.specs.declared.types.Variant.{Variant, out-Variant, fold_out-Variant}
use Rattle.pascal_tree.specs.declared.types.Variants.{Variants, out-Variants, fold_out-Variants}
use Rattle.pascal_tree.specs.declared.declarations.Formal.TheOpen as formal_part
use Rattle.pascal_tree.specs.declared.declarations.Formal.{roll-Formal, fold-roll-Formal}
use Rattle.pascal_tree.specs.declared.declarations.Formal.TheVariants as formal
use Rattle.pascal_tree.specs.declared.declarations.Formals.{Formals, out-Formals, fold_out-Formals}
use Rattle.pascal_tree.specs.ExpressionHeights.{greatest}
use Rattle.pascal_tree.specs.TypeHeights.{
  of_struct,
  of_type,
  of_fields,
  of_fixed,
  of_section,
  of_variant,
  of_variants,
  struct_height,
  type_height,
  fields_height,
  fixed_height,
  section_height,
  variant_height,
  variants_height,
  fixed_part_height,
  variant_part_height,
  of_formal,
  of_formals,
  formal_height,
  formals_height,
  given_height,
}

pub struct_array : (indexes : List TypeNode) (component : TypeNode) (span : Span) → struct_height (struct.Array indexes component span) ≡ max (greatest (map type_height indexes)) (type_height component)
unfolding struct_height type_height fields_height fixed_height section_height variant_height variants_height
struct_array indexes component span = ap struct_height (sym (struct.rolls-Array indexes component span)) ∙ fold-roll-Struct ℕ ℕ ℕ ℕ ℕ ℕ ℕ of_struct of_type of_fields of_fixed of_section of_variant of_variants (part.Array indexes component span)

pub struct_record : (fields : Fields) (span : Span) → struct_height (struct.Record fields span) ≡ fields_height fields
unfolding struct_height type_height fields_height fixed_height section_height variant_height variants_height
struct_record fields span = ap struct_height (sym (struct.rolls-Record fields span)) ∙ fold-roll-Struct ℕ ℕ ℕ ℕ ℕ ℕ ℕ of_struct of_type of_fields of_fixed of_section of_variant of_variants (part.Record fields span)

pub struct_set : (base : TypeNode) (span : Span) → struct_height (struct.Set base span) ≡ type_height base
unfolding struct_height type_height fields_height fixed_height section_height variant_height variants_height
struct_set base span = ap struct_height (sym (struct.rolls-Set base span)) ∙ fold-roll-Struct ℕ ℕ ℕ ℕ ℕ ℕ ℕ of_struct of_type of_fields of_fixed of_section of_variant of_variants (part.Set base span)

pub struct_file : (component : TypeNode) (span : Span) → struct_height (struct.File component span) ≡ type_height component
unfolding struct_height type_height fields_height fixed_height section_height variant_height variants_height
struct_file component span = ap struct_height (sym (struct.rolls-File component span)) ∙ fold-roll-Struct ℕ ℕ ℕ ℕ ℕ ℕ ℕ of_struct of_type of_fields of_fixed of_section of_variant of_variants (part.File component span)

pub type_structured : (packed : Bool) (of : Struct) (span : Span) → type_height (type.Structured packed of span) ≡ suc (struct_height of)
unfolding struct_height type_height fields_height fixed_height section_height variant_height variants_height
type_structured packed of span = ap type_height (sym (type.rolls-Structured packed of span)) ∙ fold-roll-TypeNode ℕ ℕ ℕ ℕ ℕ ℕ ℕ of_struct of_type of_fields of_fixed of_section of_variant of_variants (part.Structured packed of span)

pub type_pointer : (domain : Identifier) (span : Span) → type_height (type.Pointer domain span) ≡ 1
unfolding struct_height type_height fields_height fixed_height section_height variant_height variants_height
type_pointer domain span = ap type_height (sym (type.rolls-Pointer domain span)) ∙ fold-roll-TypeNode ℕ ℕ ℕ ℕ ℕ ℕ ℕ of_struct of_type of_fields of_fixed of_section of_variant of_variants (part.Pointer domain span)

pub type_enumeration : (names : List Identifier) (span : Span) → type_height (type.Enumeration names span) ≡ 1
unfolding struct_height type_height fields_height fixed_height section_height variant_height variants_height
type_enumeration names span = ap type_height (sym (type.rolls-Enumeration names span)) ∙ fold-roll-TypeNode ℕ ℕ ℕ ℕ ℕ ℕ ℕ of_struct of_type of_fields of_fixed of_section of_variant of_variants (part.Enumeration names span)

pub type_subrange : (first last : Constant) (span : Span) → type_height (type.Subrange first last span) ≡ 1
unfolding struct_height type_height fields_height fixed_height section_height variant_height variants_height
type_subrange first last span = ap type_height (sym (type.rolls-Subrange first last span)) ∙ fold-roll-TypeNode ℕ ℕ ℕ ℕ ℕ ℕ ℕ of_struct of_type of_fields of_fixed of_section of_variant of_variants (part.Subrange first last span)

pub type_name : (name : Identifier) → type_height (type.Name name) ≡ 1
unfolding struct_height type_height fields_height fixed_height section_height variant_height variants_height
type_name name = ap type_height (sym (type.rolls-Name name)) ∙ fold-roll-TypeNode ℕ ℕ ℕ ℕ ℕ ℕ ℕ of_struct of_type of_fields of_fixed of_section of_variant of_variants (part.Name name)

pub type_string : (limit : Option Constant) (span : Span) → type_height (type.String limit span) ≡ 1
unfolding struct_height type_height fields_height fixed_height section_height variant_height variants_height
type_string limit span = ap type_height (sym (type.rolls-String limit span)) ∙ fold-roll-TypeNode ℕ ℕ ℕ ℕ ℕ ℕ ℕ of_struct of_type of_fields of_fixed of_section of_variant of_variants (part.String limit span)

pub ruleset struct_heights = (struct_array, struct_record, struct_set, struct_file)

pub ruleset type_heights = (type_structured, type_pointer, type_enumeration, type_subrange, type_name, type_string)

fields_made : (fixed : Option Fixed) (variants : Option Variants) (closed : Bool) (span : Span)
    → fields_height (roll-Fields (record { fixed = fixed; variants = variants; closed = closed; span = span })) ≡ suc (max (fixed_part_height fixed) (variant_part_height variants))
unfolding struct_height type_height fields_height fixed_height section_height variant_height variants_height
fields_made None None closed span = fold-roll-Fields ℕ ℕ ℕ ℕ ℕ ℕ ℕ of_struct of_type of_fields of_fixed of_section of_variant of_variants (record { fixed = None; variants = None; closed = closed; span = span })
fields_made None (Some v) closed span = fold-roll-Fields ℕ ℕ ℕ ℕ ℕ ℕ ℕ of_struct of_type of_fields of_fixed of_section of_variant of_variants (record { fixed = None; variants = Some v; closed = closed; span = span })
fields_made (Some f) None closed span = fold-roll-Fields ℕ ℕ ℕ ℕ ℕ ℕ ℕ of_struct of_type of_fields of_fixed of_section of_variant of_variants (record { fixed = Some f; variants = None; closed = closed; span = span })
fields_made (Some f) (Some v) closed span = fold-roll-Fields ℕ ℕ ℕ ℕ ℕ ℕ ℕ of_struct of_type of_fields of_fixed of_section of_variant of_variants (record { fixed = Some f; variants = Some v; closed = closed; span = span })

pub fields_open : (x : Fields) → fields_height x ≡ suc (max (fixed_part_height (out-Fields x).fixed) (variant_part_height (out-Fields x).variants))
fields_open x = ap fields_height (sym (roll-out-Fields x)) ∙ fields_made (out-Fields x).fixed (out-Fields x).variants (out-Fields x).closed (out-Fields x).span

pub fixed_open : (x : Fixed) → fixed_height x ≡ greatest (map section_height (out-Fixed x).sections)
unfolding struct_height type_height fields_height fixed_height section_height variant_height variants_height
fixed_open x = fold_out-Fixed ℕ ℕ ℕ ℕ ℕ ℕ ℕ of_struct of_type of_fields of_fixed of_section of_variant of_variants x

pub section_open : (x : FixedSection) → section_height x ≡ type_height (out-FixedSection x).of
unfolding struct_height type_height fields_height fixed_height section_height variant_height variants_height
section_open x = fold_out-FixedSection ℕ ℕ ℕ ℕ ℕ ℕ ℕ of_struct of_type of_fields of_fixed of_section of_variant of_variants x

pub variant_open : (x : Variant) → variant_height x ≡ fields_height (out-Variant x).fields
unfolding struct_height type_height fields_height fixed_height section_height variant_height variants_height
variant_open x = fold_out-Variant ℕ ℕ ℕ ℕ ℕ ℕ ℕ of_struct of_type of_fields of_fixed of_section of_variant of_variants x

pub variants_open : (x : Variants) → variants_height x ≡ greatest (map variant_height (out-Variants x).list)
unfolding struct_height type_height fields_height fixed_height section_height variant_height variants_height
variants_open x = fold_out-Variants ℕ ℕ ℕ ℕ ℕ ℕ ℕ of_struct of_type of_fields of_fixed of_section of_variant of_variants x

-- ---- formals

pub formal_variables : (by_reference : Bool) (names : List Identifier) (of : TypeName) (span : Span) → formal_height (formal.Variables by_reference names of span) ≡ 0
unfolding formal_height formals_height
formal_variables by_reference names of span = ap formal_height (sym (formal.rolls-Variables by_reference names of span)) ∙ fold-roll-Formal ℕ ℕ of_formal of_formals (formal_part.Variables by_reference names of span)

procedure_made : (name : Identifier) (formals : Option Formals) (span : Span) → formal_height (roll-Formal (formal_part.Procedure name formals span)) ≡ given_height formals
unfolding formal_height formals_height
procedure_made name None span = fold-roll-Formal ℕ ℕ of_formal of_formals (formal_part.Procedure name None span)
procedure_made name (Some f) span = fold-roll-Formal ℕ ℕ of_formal of_formals (formal_part.Procedure name (Some f) span)

pub formal_procedure : (name : Identifier) (formals : Option Formals) (span : Span) → formal_height (formal.Procedure name formals span) ≡ given_height formals
formal_procedure name formals span = ap formal_height (sym (formal.rolls-Procedure name formals span)) ∙ procedure_made name formals span

function_made : (name : Identifier) (formals : Option Formals) (result : TypeName) (span : Span) → formal_height (roll-Formal (formal_part.Function name formals result span)) ≡ given_height formals
unfolding formal_height formals_height
function_made name None result span = fold-roll-Formal ℕ ℕ of_formal of_formals (formal_part.Function name None result span)
function_made name (Some f) result span = fold-roll-Formal ℕ ℕ of_formal of_formals (formal_part.Function name (Some f) result span)

pub formal_function : (name : Identifier) (formals : Option Formals) (result : TypeName) (span : Span) → formal_height (formal.Function name formals result span) ≡ given_height formals
formal_function name formals result span = ap formal_height (sym (formal.rolls-Function name formals result span)) ∙ function_made name formals result span

pub ruleset formal_heights = (formal_variables, formal_procedure, formal_function)

pub formals_open : (x : Formals) → formals_height x ≡ suc (greatest (map formal_height (out-Formals x).list))
unfolding formal_height formals_height
formals_open x = fold_out-Formals ℕ ℕ of_formal of_formals x
