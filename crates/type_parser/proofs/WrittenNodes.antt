-- How each type and each list of formal parameters is written, by its parts as programs see them.
use Rattle.std.proofs.Common.{◌≡◌, Bool, List, map, Option, Some, None, sym, ap, ◌∙◌}
use Rattle.std.specs.Option.{option_map}
use Rattle.p2c_text.specs.declared.place.Span.{Span}
use Rattle.pascal_tree.specs.declared.names.Identifier.{Identifier}
use Rattle.pascal_tree.specs.declared.constants.Constant.{Constant}
use Rattle.pascal_tree.specs.declared.constants.CaseLabel.{CaseLabel}
use Rattle.pascal_tree.specs.declared.types.TypeName.{TypeName}
use Rattle.pascal_tree.specs.declared.types.Struct.TheOpen as part
use Rattle.pascal_tree.specs.declared.types.Struct.{Struct, fold-roll-Struct}
use Rattle.pascal_tree.specs.declared.types.Struct.TheVariants as struct_
use Rattle.pascal_tree.specs.declared.types.TypeNode.{TypeNode, fold-roll-TypeNode}
use Rattle.pascal_tree.specs.declared.types.TypeNode.TheVariants as node
use Rattle.pascal_tree.specs.declared.types.Fields.{Fields, fold-roll-Fields}
use Rattle.pascal_tree.specs.declared.types.Fixed.{Fixed, fold-roll-Fixed}
use Rattle.pascal_tree.specs.declared.types.FixedSection.{FixedSection, fold-roll-FixedSection}
use Rattle.pascal_tree.specs.declared.types.Variant.{Variant, fold-roll-Variant}
use Rattle.pascal_tree.specs.declared.types.Variants.{Variants, fold-roll-Variants}
use Rattle.pascal_tree.specs.declared.declarations.Formal.TheOpen as formal
use Rattle.pascal_tree.specs.declared.declarations.Formal.{Formal, roll-Formal, fold-roll-Formal}
use Rattle.pascal_tree.specs.declared.declarations.Formal.TheVariants as formal_
use Rattle.pascal_tree.specs.declared.declarations.Formals.{Formals, fold-roll-Formals}
use Rattle.type_parser.specs.Fields.{section_of, fixed_of, variant_of, variants_of, fields_of}
use Rattle.type_parser.specs.Formals.{formals_of}
use Rattle.dialect_lexer.specs.declared.token.Word.TheVariants as word_
use Rattle.dialect_lexer.specs.declared.token.Symbol.TheVariants as mark
use Rattle.expr_parser.specs.Layout.{Layout, ◌&◌, word, symbol, spanned, counted, with_commas}
use Rattle.expr_parser.specs.Semicolons.{with_semicolons, optional_part, optional_semicolon}
use Rattle.expr_parser.specs.Writing.{identifier}
use Rattle.expr_parser.specs.ConstantNodes.{write_constant, write_case_label}
use Rattle.type_parser.specs.Writing.{
  write_names,
  write_type_name,
  optional_word,
  optional_limit,
  fixed_and_variants,
  optional_tag,
  of_struct,
  of_type,
  of_fields,
  of_fixed,
  of_section,
  of_variant,
  of_variants,
  of_formal,
  of_formals,
  write_struct,
  write_type,
  write_fields,
  write_fixed,
  write_section,
  write_variant,
  write_variants,
  write_formal,
  write_formals,
}

pub write_struct_array : (indexes : List TypeNode) (component : TypeNode) (span : Span) → write_struct (struct_.Array indexes component span) ≡ spanned span (word word_.KwArray & symbol mark.OpenBracket & with_commas (map write_type indexes) & symbol mark.CloseBracket & word word_.KwOf & write_type component)
unfolding write_struct write_type write_fields write_fixed write_section write_variant write_variants
write_struct_array indexes component span = ap (λ x. write_struct x) (sym (struct_.rolls-Array indexes component span)) ∙ fold-roll-Struct Layout Layout Layout Layout Layout Layout Layout of_struct of_type of_fields of_fixed of_section of_variant of_variants (part.Array indexes component span)

pub write_struct_record : (fields : Fields) (span : Span) → write_struct (struct_.Record fields span) ≡ spanned span (word word_.KwRecord & write_fields fields & word word_.KwEnd)
unfolding write_struct write_type write_fields write_fixed write_section write_variant write_variants
write_struct_record fields span = ap (λ x. write_struct x) (sym (struct_.rolls-Record fields span)) ∙ fold-roll-Struct Layout Layout Layout Layout Layout Layout Layout of_struct of_type of_fields of_fixed of_section of_variant of_variants (part.Record fields span)

pub write_struct_set : (base : TypeNode) (span : Span) → write_struct (struct_.Set base span) ≡ spanned span (word word_.KwSet & word word_.KwOf & write_type base)
unfolding write_struct write_type write_fields write_fixed write_section write_variant write_variants
write_struct_set base span = ap (λ x. write_struct x) (sym (struct_.rolls-Set base span)) ∙ fold-roll-Struct Layout Layout Layout Layout Layout Layout Layout of_struct of_type of_fields of_fixed of_section of_variant of_variants (part.Set base span)

pub write_struct_file : (component : TypeNode) (span : Span) → write_struct (struct_.File component span) ≡ spanned span (word word_.KwFile & word word_.KwOf & write_type component)
unfolding write_struct write_type write_fields write_fixed write_section write_variant write_variants
write_struct_file component span = ap (λ x. write_struct x) (sym (struct_.rolls-File component span)) ∙ fold-roll-Struct Layout Layout Layout Layout Layout Layout Layout of_struct of_type of_fields of_fixed of_section of_variant of_variants (part.File component span)

pub write_type_structured : (packed : Bool) (of : Struct) (span : Span) → write_type (node.Structured packed of span) ≡ counted (spanned span (optional_word word_.KwPacked packed & write_struct of))
unfolding write_struct write_type write_fields write_fixed write_section write_variant write_variants
write_type_structured packed of span = ap (λ x. write_type x) (sym (node.rolls-Structured packed of span)) ∙ fold-roll-TypeNode Layout Layout Layout Layout Layout Layout Layout of_struct of_type of_fields of_fixed of_section of_variant of_variants (part.Structured packed of span)

pub write_type_pointer : (domain : Identifier) (span : Span) → write_type (node.Pointer domain span) ≡ counted (spanned span (symbol mark.Caret & identifier domain))
unfolding write_struct write_type write_fields write_fixed write_section write_variant write_variants
write_type_pointer domain span = ap (λ x. write_type x) (sym (node.rolls-Pointer domain span)) ∙ fold-roll-TypeNode Layout Layout Layout Layout Layout Layout Layout of_struct of_type of_fields of_fixed of_section of_variant of_variants (part.Pointer domain span)

pub write_type_enumeration : (names : List Identifier) (span : Span) → write_type (node.Enumeration names span) ≡ counted (spanned span (symbol mark.Open & write_names names & symbol mark.Close))
unfolding write_struct write_type write_fields write_fixed write_section write_variant write_variants
write_type_enumeration names span = ap (λ x. write_type x) (sym (node.rolls-Enumeration names span)) ∙ fold-roll-TypeNode Layout Layout Layout Layout Layout Layout Layout of_struct of_type of_fields of_fixed of_section of_variant of_variants (part.Enumeration names span)

pub write_type_subrange : (first last : Constant) (span : Span) → write_type (node.Subrange first last span) ≡ counted (spanned span (write_constant first & symbol mark.DotDot & write_constant last))
unfolding write_struct write_type write_fields write_fixed write_section write_variant write_variants
write_type_subrange first last span = ap (λ x. write_type x) (sym (node.rolls-Subrange first last span)) ∙ fold-roll-TypeNode Layout Layout Layout Layout Layout Layout Layout of_struct of_type of_fields of_fixed of_section of_variant of_variants (part.Subrange first last span)

pub write_type_named : (name : Identifier) → write_type (node.Name name) ≡ counted (identifier name)
unfolding write_struct write_type write_fields write_fixed write_section write_variant write_variants
write_type_named name = ap (λ x. write_type x) (sym (node.rolls-Name name)) ∙ fold-roll-TypeNode Layout Layout Layout Layout Layout Layout Layout of_struct of_type of_fields of_fixed of_section of_variant of_variants (part.Name name)

pub write_type_string : (limit : Option Constant) (span : Span) → write_type (node.String limit span) ≡ counted (spanned span (word word_.KwString & optional_limit limit))
unfolding write_struct write_type write_fields write_fixed write_section write_variant write_variants
write_type_string limit span = ap (λ x. write_type x) (sym (node.rolls-String limit span)) ∙ fold-roll-TypeNode Layout Layout Layout Layout Layout Layout Layout of_struct of_type of_fields of_fixed of_section of_variant of_variants (part.String limit span)

pub write_fields_of : (f : Option Fixed) (v : Option Variants) (closed : Bool) (span : Span) → write_fields (fields_of f v closed span) ≡ counted (spanned span (fixed_and_variants (option_map write_fixed f) (option_map write_variants v) & optional_semicolon closed))
unfolding write_struct write_type write_fields write_fixed write_section write_variant write_variants
write_fields_of None None closed span = fold-roll-Fields Layout Layout Layout Layout Layout Layout Layout of_struct of_type of_fields of_fixed of_section of_variant of_variants (record { fixed = None; variants = None; closed = closed; span = span })
write_fields_of None (Some y) closed span = fold-roll-Fields Layout Layout Layout Layout Layout Layout Layout of_struct of_type of_fields of_fixed of_section of_variant of_variants (record { fixed = None; variants = (Some y); closed = closed; span = span })
write_fields_of (Some x) None closed span = fold-roll-Fields Layout Layout Layout Layout Layout Layout Layout of_struct of_type of_fields of_fixed of_section of_variant of_variants (record { fixed = (Some x); variants = None; closed = closed; span = span })
write_fields_of (Some x) (Some y) closed span = fold-roll-Fields Layout Layout Layout Layout Layout Layout Layout of_struct of_type of_fields of_fixed of_section of_variant of_variants (record { fixed = (Some x); variants = (Some y); closed = closed; span = span })

pub write_fixed_of : (all : List FixedSection) (span : Span) → write_fixed (fixed_of all span) ≡ spanned span (with_semicolons (map write_section all))
unfolding write_struct write_type write_fields write_fixed write_section write_variant write_variants
write_fixed_of all span = fold-roll-Fixed Layout Layout Layout Layout Layout Layout Layout of_struct of_type of_fields of_fixed of_section of_variant of_variants (record { sections = all; span = span })

pub write_section_of : (ns : List Identifier) (t : TypeNode) (span : Span) → write_section (section_of ns t span) ≡ spanned span (write_names ns & symbol mark.Colon & write_type t)
unfolding write_struct write_type write_fields write_fixed write_section write_variant write_variants
write_section_of ns t span = fold-roll-FixedSection Layout Layout Layout Layout Layout Layout Layout of_struct of_type of_fields of_fixed of_section of_variant of_variants (record { names = ns; of = t; span = span })

pub write_variant_of : (ls : List CaseLabel) (f : Fields) (span : Span) → write_variant (variant_of ls f span) ≡ spanned span (with_commas (map write_case_label ls) & symbol mark.Colon & symbol mark.Open & write_fields f & symbol mark.Close)
unfolding write_struct write_type write_fields write_fixed write_section write_variant write_variants
write_variant_of ls f span = fold-roll-Variant Layout Layout Layout Layout Layout Layout Layout of_struct of_type of_fields of_fixed of_section of_variant of_variants (record { labels = ls; fields = f; span = span })

pub write_variants_of : (t : Option Identifier) (n : TypeName) (list : List Variant) (span : Span) → write_variants (variants_of (t, n) list span) ≡ spanned span (word word_.KwCase & optional_tag t & write_type_name n & word word_.KwOf & with_semicolons (map write_variant list))
unfolding write_struct write_type write_fields write_fixed write_section write_variant write_variants
write_variants_of t n list span = fold-roll-Variants Layout Layout Layout Layout Layout Layout Layout of_struct of_type of_fields of_fixed of_section of_variant of_variants (record { tag = t; of = n; list = list; span = span })

pub write_formal_variables : (r : Bool) (ns : List Identifier) (t : TypeName) (span : Span) → write_formal (formal_.Variables r ns t span) ≡ spanned span (optional_word word_.KwVar r & write_names ns & symbol mark.Colon & write_type_name t)
unfolding write_formal write_formals
write_formal_variables r ns t span = ap (λ x. write_formal x) (sym (formal_.rolls-Variables r ns t span)) ∙ fold-roll-Formal Layout Layout of_formal of_formals (formal.Variables r ns t span)

made_formal_procedure : (n : Identifier) (f : Option Formals) (span : Span) → write_formal (roll-Formal (formal.Procedure n f span)) ≡ spanned span (word word_.KwProcedure & identifier n & optional_part (option_map write_formals f))
unfolding write_formal write_formals
made_formal_procedure n None span = fold-roll-Formal Layout Layout of_formal of_formals (formal.Procedure n None span)
made_formal_procedure n (Some x) span = fold-roll-Formal Layout Layout of_formal of_formals (formal.Procedure n (Some x) span)

pub write_formal_procedure : (n : Identifier) (f : Option Formals) (span : Span) → write_formal (formal_.Procedure n f span) ≡ spanned span (word word_.KwProcedure & identifier n & optional_part (option_map write_formals f))
write_formal_procedure n f span = ap (λ x. write_formal x) (sym (formal_.rolls-Procedure n f span)) ∙ made_formal_procedure n f span

made_formal_function : (n : Identifier) (f : Option Formals) (t : TypeName) (span : Span) → write_formal (roll-Formal (formal.Function n f t span)) ≡ spanned span (word word_.KwFunction & identifier n & optional_part (option_map write_formals f) & symbol mark.Colon & write_type_name t)
unfolding write_formal write_formals
made_formal_function n None t span = fold-roll-Formal Layout Layout of_formal of_formals (formal.Function n None t span)
made_formal_function n (Some x) t span = fold-roll-Formal Layout Layout of_formal of_formals (formal.Function n (Some x) t span)

pub write_formal_function : (n : Identifier) (f : Option Formals) (t : TypeName) (span : Span) → write_formal (formal_.Function n f t span) ≡ spanned span (word word_.KwFunction & identifier n & optional_part (option_map write_formals f) & symbol mark.Colon & write_type_name t)
write_formal_function n f t span = ap (λ x. write_formal x) (sym (formal_.rolls-Function n f t span)) ∙ made_formal_function n f t span

pub write_formals_of : (all : List Formal) (span : Span) → write_formals (formals_of all span) ≡ counted (spanned span (symbol mark.Open & with_semicolons (map write_formal all) & symbol mark.Close))
unfolding write_formal write_formals
write_formals_of all span = fold-roll-Formals Layout Layout of_formal of_formals (record { list = all; span = span })
