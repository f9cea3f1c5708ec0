-- The grammar of types and of formal parameters: how each node is written by its parts, with a line for each alternative.
use Rattle.std.specs.Prelude.{Bool, true, false, List, map, Option, Some, None}
use Rattle.dialect_lexer.specs.declared.token.Word.{Word as WordSymbol}
use Rattle.dialect_lexer.specs.declared.token.Word.TheVariants as word_
use Rattle.dialect_lexer.specs.declared.token.Symbol.TheVariants as mark
use Rattle.pascal_tree.specs.declared.names.Identifier.{Identifier}
use Rattle.pascal_tree.specs.declared.constants.Constant.{Constant}
use Rattle.pascal_tree.specs.declared.types.TypeName.{TypeName}
use Rattle.pascal_tree.specs.declared.types.TypeName.TheVariants as type_name
use Rattle.pascal_tree.specs.declared.types.Struct.TheOpen as part
use Rattle.pascal_tree.specs.declared.types.Struct.TheOpen.{Struct-F, TypeNode-F, Fields-F, Fixed-F, FixedSection-F, Variant-F, Variants-F}
use Rattle.pascal_tree.specs.declared.types.Struct.{Struct, fold-Struct}
use Rattle.pascal_tree.specs.declared.types.TypeNode.{TypeNode, fold-TypeNode}
use Rattle.pascal_tree.specs.declared.types.Fields.{Fields, fold-Fields}
use Rattle.pascal_tree.specs.declared.types.Fixed.{Fixed, fold-Fixed}
use Rattle.pascal_tree.specs.declared.types.FixedSection.{FixedSection, fold-FixedSection}
use Rattle.pascal_tree.specs.declared.types.Variant.{Variant, fold-Variant}
use Rattle.pascal_tree.specs.declared.types.Variants.{Variants, fold-Variants}
use Rattle.pascal_tree.specs.declared.declarations.Formal.TheOpen as formal
use Rattle.pascal_tree.specs.declared.declarations.Formal.TheOpen.{Formal-F, Formals-F}
use Rattle.pascal_tree.specs.declared.declarations.Formal.{Formal, fold-Formal}
use Rattle.pascal_tree.specs.declared.declarations.Formals.{Formals, fold-Formals}
use Rattle.expr_parser.specs.Layout.{Layout, Done, ◌&◌, word, symbol, spanned, counted, with_commas}
use Rattle.expr_parser.specs.Semicolons.{with_semicolons, optional_part, optional_semicolon}
use Rattle.expr_parser.specs.Writing.{identifier}
use Rattle.expr_parser.specs.ConstantNodes.{write_constant, write_case_label}

-- ---- names

-- Ids = Id {"," Id}
abbrev pub write_names : List Identifier → Layout
write_names names = with_commas (map identifier names)

-- TypeName = Id | "string"
abbrev pub write_type_name : TypeName → Layout
write_type_name (type_name.Name name) = identifier name
write_type_name (type_name.String span) = spanned span (word word_.KwString)

-- ---- parts

-- [word]
abbrev pub optional_word : WordSymbol → Bool → Layout
optional_word w true = word w
optional_word w false = Done

-- ["[" Const "]"]
abbrev pub optional_limit : Option Constant → Layout
optional_limit None = Done
optional_limit (Some limit) = symbol mark.OpenBracket & write_constant limit & symbol mark.CloseBracket

-- Fixed [";" Variants] | Variants
abbrev pub fixed_and_variants : Option Layout → Option Layout → Layout
fixed_and_variants None variants = optional_part variants
fixed_and_variants (Some fixed) None = fixed
fixed_and_variants (Some fixed) (Some variants) = fixed & symbol mark.Semicolon & variants

-- [Id ":"]
abbrev pub optional_tag : Option Identifier → Layout
optional_tag None = Done
optional_tag (Some name) = identifier name & symbol mark.Colon

-- ---- types, of which the parts are written so

abbrev pub Written : (Type 0 → Type 0 → Type 0 → Type 0 → Type 0 → Type 0 → Type 0 → Type 0) → Type 0
Written F = F Layout Layout Layout Layout Layout Layout Layout

-- Struct = "array" "[" Type {"," Type} "]" "of" Type | "record" Fields "end" | "set" "of" Type | "file" "of" Type
abbrev pub of_struct : Written Struct-F → Layout
of_struct (part.Array indexes component span) = spanned span (word word_.KwArray & symbol mark.OpenBracket & with_commas indexes & symbol mark.CloseBracket & word word_.KwOf & component)
of_struct (part.Record fields span) = spanned span (word word_.KwRecord & fields & word word_.KwEnd)
of_struct (part.Set base span) = spanned span (word word_.KwSet & word word_.KwOf & base)
of_struct (part.File component span) = spanned span (word word_.KwFile & word word_.KwOf & component)

-- Type = ["packed"] Struct | "^" Id | "(" Ids ")" | Const ".." Const | Id | "string" ["[" Const "]"]
abbrev pub of_type : Written TypeNode-F → Layout
of_type (part.Structured packed of span) = counted (spanned span (optional_word word_.KwPacked packed & of))
of_type (part.Pointer domain span) = counted (spanned span (symbol mark.Caret & identifier domain))
of_type (part.Enumeration names span) = counted (spanned span (symbol mark.Open & write_names names & symbol mark.Close))
of_type (part.Subrange first last span) = counted (spanned span (write_constant first & symbol mark.DotDot & write_constant last))
of_type (part.Name name) = counted (identifier name)
of_type (part.String limit span) = counted (spanned span (word word_.KwString & optional_limit limit))

-- Fields = [(Fixed [";" Variants] | Variants) [";"]]
abbrev pub of_fields : Written Fields-F → Layout
of_fields f = counted (spanned f.span (fixed_and_variants f.fixed f.variants & optional_semicolon f.closed))

-- Fixed = Ids ":" Type {";" Ids ":" Type}
abbrev pub of_fixed : Written Fixed-F → Layout
of_fixed f = spanned f.span (with_semicolons f.sections)

-- Ids ":" Type
abbrev pub of_section : Written FixedSection-F → Layout
of_section s = spanned s.span (write_names s.names & symbol mark.Colon & s.of)

-- Variant = Label1 {"," Label1} ":" "(" Fields ")"
abbrev pub of_variant : Written Variant-F → Layout
of_variant v = spanned v.span (with_commas (map write_case_label v.labels) & symbol mark.Colon & symbol mark.Open & v.fields & symbol mark.Close)

-- Variants = "case" [Id ":"] TypeName "of" Variant {";" Variant}
abbrev pub of_variants : Written Variants-F → Layout
of_variants v = spanned v.span (word word_.KwCase & optional_tag v.tag & write_type_name v.of & word word_.KwOf & with_semicolons v.list)

unfoldable pub write_struct : Struct → Layout
write_struct = fold-Struct Layout Layout Layout Layout Layout Layout Layout of_struct of_type of_fields of_fixed of_section of_variant of_variants

unfoldable pub write_type : TypeNode → Layout
write_type = fold-TypeNode Layout Layout Layout Layout Layout Layout Layout of_struct of_type of_fields of_fixed of_section of_variant of_variants

unfoldable pub write_fields : Fields → Layout
write_fields = fold-Fields Layout Layout Layout Layout Layout Layout Layout of_struct of_type of_fields of_fixed of_section of_variant of_variants

unfoldable pub write_fixed : Fixed → Layout
write_fixed = fold-Fixed Layout Layout Layout Layout Layout Layout Layout of_struct of_type of_fields of_fixed of_section of_variant of_variants

unfoldable pub write_section : FixedSection → Layout
write_section = fold-FixedSection Layout Layout Layout Layout Layout Layout Layout of_struct of_type of_fields of_fixed of_section of_variant of_variants

unfoldable pub write_variant : Variant → Layout
write_variant = fold-Variant Layout Layout Layout Layout Layout Layout Layout of_struct of_type of_fields of_fixed of_section of_variant of_variants

unfoldable pub write_variants : Variants → Layout
write_variants = fold-Variants Layout Layout Layout Layout Layout Layout Layout of_struct of_type of_fields of_fixed of_section of_variant of_variants

-- ---- formal parameters

-- Formal = ["var"] Ids ":" TypeName | "procedure" Id [Formals] | "function" Id [Formals] ":" TypeName
abbrev pub of_formal : Formal-F Layout Layout → Layout
of_formal (formal.Variables by_reference names of span) = spanned span (optional_word word_.KwVar by_reference & write_names names & symbol mark.Colon & write_type_name of)
of_formal (formal.Procedure name formals span) = spanned span (word word_.KwProcedure & identifier name & optional_part formals)
of_formal (formal.Function name formals result span) = spanned span (word word_.KwFunction & identifier name & optional_part formals & symbol mark.Colon & write_type_name result)

-- Formals = "(" Formal {";" Formal} ")"
abbrev pub of_formals : Formals-F Layout Layout → Layout
of_formals f = counted (spanned f.span (symbol mark.Open & with_semicolons f.list & symbol mark.Close))

unfoldable pub write_formal : Formal → Layout
write_formal = fold-Formal Layout Layout of_formal of_formals

unfoldable pub write_formals : Formals → Layout
write_formals = fold-Formals Layout Layout of_formal of_formals
