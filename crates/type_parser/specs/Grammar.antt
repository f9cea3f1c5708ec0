-- What the grammar asks of types and of formal parameters beyond the way in which they are written.
use Rattle.std.specs.Prelude.{Bool, true, false, ◌&&◌, not, List, [], ◌∷◌, map, Option, Some, None}
use Rattle.p2c_text.specs.declared.dialect.Dialect.{Dialect}
use Rattle.pascal_tree.specs.declared.names.Identifier.{Identifier}
use Rattle.pascal_tree.specs.declared.types.Struct.TheOpen as part
use Rattle.pascal_tree.specs.declared.types.Struct.TheOpen.{Struct-F, TypeNode-F, Fields-F, Fixed-F, FixedSection-F, Variant-F, Variants-F}
use Rattle.pascal_tree.specs.declared.types.Struct.{Struct, fold-Struct}
use Rattle.pascal_tree.specs.declared.types.TypeNode.{TypeNode, fold-TypeNode}
use Rattle.pascal_tree.specs.declared.types.Fields.{Fields, fold-Fields}
use Rattle.pascal_tree.specs.declared.types.Fixed.{Fixed, fold-Fixed}
use Rattle.pascal_tree.specs.declared.types.FixedSection.{FixedSection, fold-FixedSection}
use Rattle.pascal_tree.specs.declared.types.Variant.{Variant, fold-Variant}
use Rattle.pascal_tree.specs.declared.types.Variants.{Variants, fold-Variants}
use Rattle.pascal_tree.specs.declared.declarations.Formal.TheOpen as formal
use Rattle.pascal_tree.specs.declared.declarations.Formal.TheOpen.{Formal-F, Formals-F}
use Rattle.pascal_tree.specs.declared.declarations.Formal.{Formal, fold-Formal}
use Rattle.pascal_tree.specs.declared.declarations.Formals.{Formals, fold-Formals}
use Rattle.expr_parser.specs.Grammar.{some_all, optional}
use Rattle.expr_parser.specs.ConstantNodes.{formed_case_label}

-- ---- lists are not empty, and a semicolon ends a list of fields only where there are fields

abbrev pub some_names : List Identifier → Bool
some_names [] = false
some_names (name ∷ more) = true

abbrev pub may_close : Option Bool → Option Bool → Bool → Bool
may_close None None closed = not closed
may_close None (Some variants) closed = true
may_close (Some fixed) variants closed = true

-- ---- types

abbrev pub Formed : (Type 0 → Type 0 → Type 0 → Type 0 → Type 0 → Type 0 → Type 0 → Type 0) → Type 0
Formed F = F Bool Bool Bool Bool Bool Bool Bool

abbrev pub of_struct : Formed Struct-F → Bool
of_struct (part.Array indexes component span) = some_all indexes && component
of_struct (part.Record fields span) = fields
of_struct (part.Set base span) = base
of_struct (part.File component span) = component

abbrev pub of_type : Formed TypeNode-F → Bool
of_type (part.Structured packed of span) = of
of_type (part.Pointer domain span) = true
of_type (part.Enumeration names span) = some_names names
of_type (part.Subrange first last span) = true
of_type (part.Name name) = true
of_type (part.String limit span) = true

abbrev pub of_fields : Formed Fields-F → Bool
of_fields f = may_close f.fixed f.variants f.closed && optional f.fixed && optional f.variants

abbrev pub of_fixed : Formed Fixed-F → Bool
of_fixed f = some_all f.sections

abbrev pub of_section : Formed FixedSection-F → Bool
of_section s = some_names s.names && s.of

abbrev pub of_variant : Dialect → Formed Variant-F → Bool
of_variant d v = some_all (map (formed_case_label d) v.labels) && v.fields

abbrev pub of_variants : Formed Variants-F → Bool
of_variants v = some_all v.list

unfoldable pub formed_struct : Dialect → Struct → Bool
formed_struct d = fold-Struct Bool Bool Bool Bool Bool Bool Bool of_struct of_type of_fields of_fixed of_section (of_variant d) of_variants

unfoldable pub formed_type : Dialect → TypeNode → Bool
formed_type d = fold-TypeNode Bool Bool Bool Bool Bool Bool Bool of_struct of_type of_fields of_fixed of_section (of_variant d) of_variants

unfoldable pub formed_fields : Dialect → Fields → Bool
formed_fields d = fold-Fields Bool Bool Bool Bool Bool Bool Bool of_struct of_type of_fields of_fixed of_section (of_variant d) of_variants

unfoldable pub formed_fixed : Dialect → Fixed → Bool
formed_fixed d = fold-Fixed Bool Bool Bool Bool Bool Bool Bool of_struct of_type of_fields of_fixed of_section (of_variant d) of_variants

unfoldable pub formed_section : Dialect → FixedSection → Bool
formed_section d = fold-FixedSection Bool Bool Bool Bool Bool Bool Bool of_struct of_type of_fields of_fixed of_section (of_variant d) of_variants

unfoldable pub formed_variant : Dialect → Variant → Bool
formed_variant d = fold-Variant Bool Bool Bool Bool Bool Bool Bool of_struct of_type of_fields of_fixed of_section (of_variant d) of_variants

unfoldable pub formed_variants : Dialect → Variants → Bool
formed_variants d = fold-Variants Bool Bool Bool Bool Bool Bool Bool of_struct of_type of_fields of_fixed of_section (of_variant d) of_variants

-- ---- formal parameters

abbrev pub of_formal : Formal-F Bool Bool → Bool
of_formal (formal.Variables by_reference names of span) = some_names names
of_formal (formal.Procedure name formals span) = optional formals
of_formal (formal.Function name formals result span) = optional formals

abbrev pub of_formals : Formals-F Bool Bool → Bool
of_formals f = some_all f.list

unfoldable pub formed_formal : Formal → Bool
formed_formal = fold-Formal Bool Bool of_formal of_formals

unfoldable pub formed_formals : Formals → Bool
formed_formals = fold-Formals Bool Bool of_formal of_formals
