-- Which types and lists of formal parameters are formed as the grammar asks, by their parts as programs see them.
use Rattle.std.proofs.Common.{◌≡◌, Bool, true, ◌&&◌, List, map, Option, Some, None, sym, ap, ◌∙◌}
use Rattle.std.specs.Option.{option_map}
use Rattle.p2c_text.specs.declared.place.Span.{Span}
use Rattle.p2c_text.specs.declared.dialect.Dialect.{Dialect}
use Rattle.pascal_tree.specs.declared.names.Identifier.{Identifier}
use Rattle.pascal_tree.specs.declared.constants.Constant.{Constant}
use Rattle.pascal_tree.specs.declared.constants.CaseLabel.{CaseLabel}
use Rattle.pascal_tree.specs.declared.types.TypeName.{TypeName}
use Rattle.pascal_tree.specs.declared.types.Struct.TheOpen as part
use Rattle.pascal_tree.specs.declared.types.Struct.{Struct, fold-roll-Struct}
use Rattle.pascal_tree.specs.declared.types.Struct.TheVariants as struct_
use Rattle.pascal_tree.specs.declared.types.TypeNode.{TypeNode, fold-roll-TypeNode}
use Rattle.pascal_tree.specs.declared.types.TypeNode.TheVariants as node
use Rattle.pascal_tree.specs.declared.types.Fields.{Fields, fold-roll-Fields}
use Rattle.pascal_tree.specs.declared.types.Fixed.{Fixed, fold-roll-Fixed}
use Rattle.pascal_tree.specs.declared.types.FixedSection.{FixedSection, fold-roll-FixedSection}
use Rattle.pascal_tree.specs.declared.types.Variant.{Variant, fold-roll-Variant}
use Rattle.pascal_tree.specs.declared.types.Variants.{Variants, fold-roll-Variants}
use Rattle.pascal_tree.specs.declared.declarations.Formal.TheOpen as formal
use Rattle.pascal_tree.specs.declared.declarations.Formal.{Formal, roll-Formal, fold-roll-Formal}
use Rattle.pascal_tree.specs.declared.declarations.Formal.TheVariants as formal_
use Rattle.pascal_tree.specs.declared.declarations.Formals.{Formals, fold-roll-Formals}
use Rattle.type_parser.specs.Fields.{section_of, fixed_of, variant_of, variants_of, fields_of}
use Rattle.type_parser.specs.Formals.{formals_of}
use Rattle.expr_parser.specs.Grammar.{some_all, optional}
use Rattle.expr_parser.specs.ConstantNodes.{formed_case_label}
use Rattle.type_parser.specs.Grammar.{
  some_names,
  may_close,
  of_struct,
  of_type,
  of_fields,
  of_fixed,
  of_section,
  of_variant,
  of_variants,
  of_formal,
  of_formals,
  formed_struct,
  formed_type,
  formed_fields,
  formed_fixed,
  formed_section,
  formed_variant,
  formed_variants,
  formed_formal,
  formed_formals,
}

pub formed_struct_array : (d : Dialect) (indexes : List TypeNode) (component : TypeNode) (span : Span) → formed_struct d (struct_.Array indexes component span) ≡ (some_all (map (formed_type d) indexes) && formed_type d component)
unfolding formed_struct formed_type formed_fields formed_fixed formed_section formed_variant formed_variants
formed_struct_array d indexes component span = ap (λ x. formed_struct d x) (sym (struct_.rolls-Array indexes component span)) ∙ fold-roll-Struct Bool Bool Bool Bool Bool Bool Bool of_struct of_type of_fields of_fixed of_section (of_variant d) of_variants (part.Array indexes component span)

pub formed_struct_record : (d : Dialect) (fields : Fields) (span : Span) → formed_struct d (struct_.Record fields span) ≡ formed_fields d fields
unfolding formed_struct formed_type formed_fields formed_fixed formed_section formed_variant formed_variants
formed_struct_record d fields span = ap (λ x. formed_struct d x) (sym (struct_.rolls-Record fields span)) ∙ fold-roll-Struct Bool Bool Bool Bool Bool Bool Bool of_struct of_type of_fields of_fixed of_section (of_variant d) of_variants (part.Record fields span)

pub formed_struct_set : (d : Dialect) (base : TypeNode) (span : Span) → formed_struct d (struct_.Set base span) ≡ formed_type d base
unfolding formed_struct formed_type formed_fields formed_fixed formed_section formed_variant formed_variants
formed_struct_set d base span = ap (λ x. formed_struct d x) (sym (struct_.rolls-Set base span)) ∙ fold-roll-Struct Bool Bool Bool Bool Bool Bool Bool of_struct of_type of_fields of_fixed of_section (of_variant d) of_variants (part.Set base span)

pub formed_struct_file : (d : Dialect) (component : TypeNode) (span : Span) → formed_struct d (struct_.File component span) ≡ formed_type d component
unfolding formed_struct formed_type formed_fields formed_fixed formed_section formed_variant formed_variants
formed_struct_file d component span = ap (λ x. formed_struct d x) (sym (struct_.rolls-File component span)) ∙ fold-roll-Struct Bool Bool Bool Bool Bool Bool Bool of_struct of_type of_fields of_fixed of_section (of_variant d) of_variants (part.File component span)

pub formed_type_structured : (d : Dialect) (packed : Bool) (of : Struct) (span : Span) → formed_type d (node.Structured packed of span) ≡ formed_struct d of
unfolding formed_struct formed_type formed_fields formed_fixed formed_section formed_variant formed_variants
formed_type_structured d packed of span = ap (λ x. formed_type d x) (sym (node.rolls-Structured packed of span)) ∙ fold-roll-TypeNode Bool Bool Bool Bool Bool Bool Bool of_struct of_type of_fields of_fixed of_section (of_variant d) of_variants (part.Structured packed of span)

pub formed_type_pointer : (d : Dialect) (domain : Identifier) (span : Span) → formed_type d (node.Pointer domain span) ≡ true
unfolding formed_struct formed_type formed_fields formed_fixed formed_section formed_variant formed_variants
formed_type_pointer d domain span = ap (λ x. formed_type d x) (sym (node.rolls-Pointer domain span)) ∙ fold-roll-TypeNode Bool Bool Bool Bool Bool Bool Bool of_struct of_type of_fields of_fixed of_section (of_variant d) of_variants (part.Pointer domain span)

pub formed_type_enumeration : (d : Dialect) (names : List Identifier) (span : Span) → formed_type d (node.Enumeration names span) ≡ some_names names
unfolding formed_struct formed_type formed_fields formed_fixed formed_section formed_variant formed_variants
formed_type_enumeration d names span = ap (λ x. formed_type d x) (sym (node.rolls-Enumeration names span)) ∙ fold-roll-TypeNode Bool Bool Bool Bool Bool Bool Bool of_struct of_type of_fields of_fixed of_section (of_variant d) of_variants (part.Enumeration names span)

pub formed_type_subrange : (d : Dialect) (first last : Constant) (span : Span) → formed_type d (node.Subrange first last span) ≡ true
unfolding formed_struct formed_type formed_fields formed_fixed formed_section formed_variant formed_variants
formed_type_subrange d first last span = ap (λ x. formed_type d x) (sym (node.rolls-Subrange first last span)) ∙ fold-roll-TypeNode Bool Bool Bool Bool Bool Bool Bool of_struct of_type of_fields of_fixed of_section (of_variant d) of_variants (part.Subrange first last span)

pub formed_type_named : (d : Dialect) (name : Identifier) → formed_type d (node.Name name) ≡ true
unfolding formed_struct formed_type formed_fields formed_fixed formed_section formed_variant formed_variants
formed_type_named d name = ap (λ x. formed_type d x) (sym (node.rolls-Name name)) ∙ fold-roll-TypeNode Bool Bool Bool Bool Bool Bool Bool of_struct of_type of_fields of_fixed of_section (of_variant d) of_variants (part.Name name)

pub formed_type_string : (d : Dialect) (limit : Option Constant) (span : Span) → formed_type d (node.String limit span) ≡ true
unfolding formed_struct formed_type formed_fields formed_fixed formed_section formed_variant formed_variants
formed_type_string d limit span = ap (λ x. formed_type d x) (sym (node.rolls-String limit span)) ∙ fold-roll-TypeNode Bool Bool Bool Bool Bool Bool Bool of_struct of_type of_fields of_fixed of_section (of_variant d) of_variants (part.String limit span)

pub formed_fields_of : (d : Dialect) (f : Option Fixed) (v : Option Variants) (closed : Bool) (span : Span) → formed_fields d (fields_of f v closed span) ≡ (may_close (option_map (formed_fixed d) f) (option_map (formed_variants d) v) closed && optional (option_map (formed_fixed d) f) && optional (option_map (formed_variants d) v))
unfolding formed_struct formed_type formed_fields formed_fixed formed_section formed_variant formed_variants
formed_fields_of d None None closed span = fold-roll-Fields Bool Bool Bool Bool Bool Bool Bool of_struct of_type of_fields of_fixed of_section (of_variant d) of_variants (record { fixed = None; variants = None; closed = closed; span = span })
formed_fields_of d None (Some y) closed span = fold-roll-Fields Bool Bool Bool Bool Bool Bool Bool of_struct of_type of_fields of_fixed of_section (of_variant d) of_variants (record { fixed = None; variants = (Some y); closed = closed; span = span })
formed_fields_of d (Some x) None closed span = fold-roll-Fields Bool Bool Bool Bool Bool Bool Bool of_struct of_type of_fields of_fixed of_section (of_variant d) of_variants (record { fixed = (Some x); variants = None; closed = closed; span = span })
formed_fields_of d (Some x) (Some y) closed span = fold-roll-Fields Bool Bool Bool Bool Bool Bool Bool of_struct of_type of_fields of_fixed of_section (of_variant d) of_variants (record { fixed = (Some x); variants = (Some y); closed = closed; span = span })

pub formed_fixed_of : (d : Dialect) (all : List FixedSection) (span : Span) → formed_fixed d (fixed_of all span) ≡ some_all (map (formed_section d) all)
unfolding formed_struct formed_type formed_fields formed_fixed formed_section formed_variant formed_variants
formed_fixed_of d all span = fold-roll-Fixed Bool Bool Bool Bool Bool Bool Bool of_struct of_type of_fields of_fixed of_section (of_variant d) of_variants (record { sections = all; span = span })

pub formed_section_of : (d : Dialect) (ns : List Identifier) (t : TypeNode) (span : Span) → formed_section d (section_of ns t span) ≡ (some_names ns && formed_type d t)
unfolding formed_struct formed_type formed_fields formed_fixed formed_section formed_variant formed_variants
formed_section_of d ns t span = fold-roll-FixedSection Bool Bool Bool Bool Bool Bool Bool of_struct of_type of_fields of_fixed of_section (of_variant d) of_variants (record { names = ns; of = t; span = span })

pub formed_variant_of : (d : Dialect) (ls : List CaseLabel) (f : Fields) (span : Span) → formed_variant d (variant_of ls f span) ≡ (some_all (map (formed_case_label d) ls) && formed_fields d f)
unfolding formed_struct formed_type formed_fields formed_fixed formed_section formed_variant formed_variants
formed_variant_of d ls f span = fold-roll-Variant Bool Bool Bool Bool Bool Bool Bool of_struct of_type of_fields of_fixed of_section (of_variant d) of_variants (record { labels = ls; fields = f; span = span })

pub formed_variants_of : (d : Dialect) (t : Option Identifier) (n : TypeName) (list : List Variant) (span : Span) → formed_variants d (variants_of (t, n) list span) ≡ some_all (map (formed_variant d) list)
unfolding formed_struct formed_type formed_fields formed_fixed formed_section formed_variant formed_variants
formed_variants_of d t n list span = fold-roll-Variants Bool Bool Bool Bool Bool Bool Bool of_struct of_type of_fields of_fixed of_section (of_variant d) of_variants (record { tag = t; of = n; list = list; span = span })

pub formed_formal_variables : (r : Bool) (ns : List Identifier) (t : TypeName) (span : Span) → formed_formal (formal_.Variables r ns t span) ≡ some_names ns
unfolding formed_formal formed_formals
formed_formal_variables r ns t span = ap (λ x. formed_formal x) (sym (formal_.rolls-Variables r ns t span)) ∙ fold-roll-Formal Bool Bool of_formal of_formals (formal.Variables r ns t span)

made_formal_procedure : (n : Identifier) (f : Option Formals) (span : Span) → formed_formal (roll-Formal (formal.Procedure n f span)) ≡ optional (option_map formed_formals f)
unfolding formed_formal formed_formals
made_formal_procedure n None span = fold-roll-Formal Bool Bool of_formal of_formals (formal.Procedure n None span)
made_formal_procedure n (Some x) span = fold-roll-Formal Bool Bool of_formal of_formals (formal.Procedure n (Some x) span)

pub formed_formal_procedure : (n : Identifier) (f : Option Formals) (span : Span) → formed_formal (formal_.Procedure n f span) ≡ optional (option_map formed_formals f)
formed_formal_procedure n f span = ap (λ x. formed_formal x) (sym (formal_.rolls-Procedure n f span)) ∙ made_formal_procedure n f span

made_formal_function : (n : Identifier) (f : Option Formals) (t : TypeName) (span : Span) → formed_formal (roll-Formal (formal.Function n f t span)) ≡ optional (option_map formed_formals f)
unfolding formed_formal formed_formals
made_formal_function n None t span = fold-roll-Formal Bool Bool of_formal of_formals (formal.Function n None t span)
made_formal_function n (Some x) t span = fold-roll-Formal Bool Bool of_formal of_formals (formal.Function n (Some x) t span)

pub formed_formal_function : (n : Identifier) (f : Option Formals) (t : TypeName) (span : Span) → formed_formal (formal_.Function n f t span) ≡ optional (option_map formed_formals f)
formed_formal_function n f t span = ap (λ x. formed_formal x) (sym (formal_.rolls-Function n f t span)) ∙ made_formal_function n f t span

pub formed_formals_of : (all : List Formal) (span : Span) → formed_formals (formals_of all span) ≡ some_all (map formed_formal all)
unfolding formed_formal formed_formals
formed_formals_of all span = fold-roll-Formals Bool Bool of_formal of_formals (record { list = all; span = span })
