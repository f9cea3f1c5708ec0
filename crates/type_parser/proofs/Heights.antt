-- The greatest number of counted nodes on one path of what a type or a list of formal parameters is written as is its height.
use Rattle.std.proofs.Common.{◌≡◌, ℕ, Bool, true, false, List, map, Option, Some, None, ap, subst, arith}
use Rattle.p2c_text.specs.declared.place.Span.{Span}
use Rattle.dialect_lexer.specs.declared.token.Word.TheVariants as word_
use Rattle.dialect_lexer.specs.declared.token.Symbol.TheVariants as mark
use Rattle.pascal_tree.specs.declared.names.Identifier.{Identifier}
use Rattle.pascal_tree.specs.declared.types.TypeName.{TypeName}
use Rattle.pascal_tree.specs.declared.types.TypeName.TheVariants as type_name
use Rattle.pascal_tree.specs.declared.types.Struct.TheOpen as part
use Rattle.pascal_tree.specs.declared.types.Struct.TheOpen.{Struct-F, TypeNode-F, Fields-F, Fixed-F, FixedSection-F, Variant-F, Variants-F}
use Rattle.pascal_tree.specs.declared.types.Struct.{Struct, roll-Struct, map-Struct, fold-roll-Struct}
use Rattle.pascal_tree.specs.declared.types.TypeNode.{TypeNode, roll-TypeNode, map-TypeNode, fold-roll-TypeNode, ind-TypeNode}
use Rattle.pascal_tree.specs.declared.types.Fields.{Fields, roll-Fields, map-Fields, fold-roll-Fields, ind-Fields}
use Rattle.pascal_tree.specs.declared.types.Fixed.{Fixed, roll-Fixed, map-Fixed, fold-roll-Fixed}
use Rattle.pascal_tree.specs.declared.types.FixedSection.{FixedSection, roll-FixedSection, map-FixedSection, fold-roll-FixedSection}
use Rattle.pascal_tree.specs.declared.types.Variant.{Variant, roll-Variant, map-Variant, fold-roll-Variant}
use Rattle.pascal_tree.specs.declared.types.Variants.{Variants, roll-Variants, map-Variants, fold-roll-Variants}
use Rattle.pascal_tree.specs.declared.declarations.Formal.TheOpen as formal
use Rattle.pascal_tree.specs.declared.declarations.Formal.TheOpen.{Formal-F, Formals-F}
use Rattle.pascal_tree.specs.declared.declarations.Formal.{Formal, roll-Formal, map-Formal, fold-roll-Formal}
use Rattle.pascal_tree.specs.declared.declarations.Formals.{Formals, roll-Formals, map-Formals, fold-roll-Formals, ind-Formals}
use Rattle.pascal_tree.specs.TypeHeights as heights
use Rattle.pascal_tree.specs.TypeHeights.{struct_height, type_height, fields_height, fixed_height, section_height, variant_height, variants_height, formal_height, formals_height}
use Rattle.expr_parser.specs.Layout.{Layout, ◌&◌, word, symbol, height_of, with_commas}
use Rattle.expr_parser.specs.Semicolons.{with_semicolons, optional_semicolon}
use Rattle.expr_parser.specs.Writing.{identifier}
use Rattle.expr_parser.specs.ConstantNodes.{write_constant, write_case_label}
use Rattle.expr_parser.proofs.Layouts.{height_join}
use Rattle.expr_parser.proofs.Heights.{HasHeight, Known, with_parts, nodes, commas_height, semicolons_height, commas_flat, identifier_flat, constant_flat, case_label_flat, semicolon_flat}
use Rattle.type_parser.specs.Writing as writing
use Rattle.type_parser.specs.Writing.{write_names, write_type_name, write_struct, write_type, write_fields, write_fixed, write_section, write_variant, write_variants, write_formal, write_formals}

-- ---- names

pub names_flat : (names : List Identifier) → height_of (write_names names) ≡ 0
names_flat names = commas_flat identifier identifier_flat names

pub type_name_flat : (t : TypeName) → height_of (write_type_name t) ≡ 0
type_name_flat (type_name.Name name) = omega arith
type_name_flat (type_name.String span) = omega arith

-- ---- types of which the heights of the parts are known

abbrev Known-Struct : Type 0
Known-Struct = Known write_struct struct_height

abbrev Known-TypeNode : Type 0
Known-TypeNode = Known write_type type_height

abbrev Known-Fields : Type 0
Known-Fields = Known write_fields fields_height

abbrev Known-Fixed : Type 0
Known-Fixed = Known write_fixed fixed_height

abbrev Known-FixedSection : Type 0
Known-FixedSection = Known write_section section_height

abbrev Known-Variant : Type 0
Known-Variant = Known write_variant variant_height

abbrev Known-Variants : Type 0
Known-Variants = Known write_variants variants_height

abbrev WithKnown : (Type 0 → Type 0 → Type 0 → Type 0 → Type 0 → Type 0 → Type 0 → Type 0) → Type 0
WithKnown F = F Known-Struct Known-TypeNode Known-Fields Known-Fixed Known-FixedSection Known-Variant Known-Variants

abbrev WithNodes : (Type 0 → Type 0 → Type 0 → Type 0 → Type 0 → Type 0 → Type 0 → Type 0) → Type 0
WithNodes F = F Struct TypeNode Fields Fixed FixedSection Variant Variants

abbrev bare_struct : WithKnown Struct-F → WithNodes Struct-F
bare_struct y = map-Struct Known-Struct Known-TypeNode Known-Fields Known-Fixed Known-FixedSection Known-Variant Known-Variants Struct TypeNode Fields Fixed FixedSection Variant Variants (λ x. x.0) (λ x. x.0) (λ x. x.0) (λ x. x.0) (λ x. x.0) (λ x. x.0) (λ x. x.0) y

abbrev bare_type : WithKnown TypeNode-F → WithNodes TypeNode-F
bare_type y = map-TypeNode Known-Struct Known-TypeNode Known-Fields Known-Fixed Known-FixedSection Known-Variant Known-Variants Struct TypeNode Fields Fixed FixedSection Variant Variants (λ x. x.0) (λ x. x.0) (λ x. x.0) (λ x. x.0) (λ x. x.0) (λ x. x.0) (λ x. x.0) y

abbrev bare_fields : WithKnown Fields-F → WithNodes Fields-F
bare_fields y = map-Fields Known-Struct Known-TypeNode Known-Fields Known-Fixed Known-FixedSection Known-Variant Known-Variants Struct TypeNode Fields Fixed FixedSection Variant Variants (λ x. x.0) (λ x. x.0) (λ x. x.0) (λ x. x.0) (λ x. x.0) (λ x. x.0) (λ x. x.0) y

abbrev bare_fixed : WithKnown Fixed-F → WithNodes Fixed-F
bare_fixed y = map-Fixed Known-Struct Known-TypeNode Known-Fields Known-Fixed Known-FixedSection Known-Variant Known-Variants Struct TypeNode Fields Fixed FixedSection Variant Variants (λ x. x.0) (λ x. x.0) (λ x. x.0) (λ x. x.0) (λ x. x.0) (λ x. x.0) (λ x. x.0) y

abbrev bare_section : WithKnown FixedSection-F → WithNodes FixedSection-F
bare_section y = map-FixedSection Known-Struct Known-TypeNode Known-Fields Known-Fixed Known-FixedSection Known-Variant Known-Variants Struct TypeNode Fields Fixed FixedSection Variant Variants (λ x. x.0) (λ x. x.0) (λ x. x.0) (λ x. x.0) (λ x. x.0) (λ x. x.0) (λ x. x.0) y

abbrev bare_variant : WithKnown Variant-F → WithNodes Variant-F
bare_variant y = map-Variant Known-Struct Known-TypeNode Known-Fields Known-Fixed Known-FixedSection Known-Variant Known-Variants Struct TypeNode Fields Fixed FixedSection Variant Variants (λ x. x.0) (λ x. x.0) (λ x. x.0) (λ x. x.0) (λ x. x.0) (λ x. x.0) (λ x. x.0) y

abbrev bare_variants : WithKnown Variants-F → WithNodes Variants-F
bare_variants y = map-Variants Known-Struct Known-TypeNode Known-Fields Known-Fixed Known-FixedSection Known-Variant Known-Variants Struct TypeNode Fields Fixed FixedSection Variant Variants (λ x. x.0) (λ x. x.0) (λ x. x.0) (λ x. x.0) (λ x. x.0) (λ x. x.0) (λ x. x.0) y

-- ---- what is written of a node by its parts has the height that it has by its parts

abbrev Meets-Struct : WithKnown Struct-F → Type 0
Meets-Struct y = height_of (writing.of_struct (map-Struct Struct TypeNode Fields Fixed FixedSection Variant Variants Layout Layout Layout Layout Layout Layout Layout write_struct write_type write_fields write_fixed write_section write_variant write_variants (bare_struct y))) ≡ heights.of_struct (map-Struct Struct TypeNode Fields Fixed FixedSection Variant Variants ℕ ℕ ℕ ℕ ℕ ℕ ℕ struct_height type_height fields_height fixed_height section_height variant_height variants_height (bare_struct y))

abbrev Meets-TypeNode : WithKnown TypeNode-F → Type 0
Meets-TypeNode y = height_of (writing.of_type (map-TypeNode Struct TypeNode Fields Fixed FixedSection Variant Variants Layout Layout Layout Layout Layout Layout Layout write_struct write_type write_fields write_fixed write_section write_variant write_variants (bare_type y))) ≡ heights.of_type (map-TypeNode Struct TypeNode Fields Fixed FixedSection Variant Variants ℕ ℕ ℕ ℕ ℕ ℕ ℕ struct_height type_height fields_height fixed_height section_height variant_height variants_height (bare_type y))

abbrev Meets-Fields : WithKnown Fields-F → Type 0
Meets-Fields y = height_of (writing.of_fields (map-Fields Struct TypeNode Fields Fixed FixedSection Variant Variants Layout Layout Layout Layout Layout Layout Layout write_struct write_type write_fields write_fixed write_section write_variant write_variants (bare_fields y))) ≡ heights.of_fields (map-Fields Struct TypeNode Fields Fixed FixedSection Variant Variants ℕ ℕ ℕ ℕ ℕ ℕ ℕ struct_height type_height fields_height fixed_height section_height variant_height variants_height (bare_fields y))

abbrev Meets-Fixed : WithKnown Fixed-F → Type 0
Meets-Fixed y = height_of (writing.of_fixed (map-Fixed Struct TypeNode Fields Fixed FixedSection Variant Variants Layout Layout Layout Layout Layout Layout Layout write_struct write_type write_fields write_fixed write_section write_variant write_variants (bare_fixed y))) ≡ heights.of_fixed (map-Fixed Struct TypeNode Fields Fixed FixedSection Variant Variants ℕ ℕ ℕ ℕ ℕ ℕ ℕ struct_height type_height fields_height fixed_height section_height variant_height variants_height (bare_fixed y))

abbrev Meets-FixedSection : WithKnown FixedSection-F → Type 0
Meets-FixedSection y = height_of (writing.of_section (map-FixedSection Struct TypeNode Fields Fixed FixedSection Variant Variants Layout Layout Layout Layout Layout Layout Layout write_struct write_type write_fields write_fixed write_section write_variant write_variants (bare_section y))) ≡ heights.of_section (map-FixedSection Struct TypeNode Fields Fixed FixedSection Variant Variants ℕ ℕ ℕ ℕ ℕ ℕ ℕ struct_height type_height fields_height fixed_height section_height variant_height variants_height (bare_section y))

abbrev Meets-Variant : WithKnown Variant-F → Type 0
Meets-Variant y = height_of (writing.of_variant (map-Variant Struct TypeNode Fields Fixed FixedSection Variant Variants Layout Layout Layout Layout Layout Layout Layout write_struct write_type write_fields write_fixed write_section write_variant write_variants (bare_variant y))) ≡ heights.of_variant (map-Variant Struct TypeNode Fields Fixed FixedSection Variant Variants ℕ ℕ ℕ ℕ ℕ ℕ ℕ struct_height type_height fields_height fixed_height section_height variant_height variants_height (bare_variant y))

abbrev Meets-Variants : WithKnown Variants-F → Type 0
Meets-Variants y = height_of (writing.of_variants (map-Variants Struct TypeNode Fields Fixed FixedSection Variant Variants Layout Layout Layout Layout Layout Layout Layout write_struct write_type write_fields write_fixed write_section write_variant write_variants (bare_variants y))) ≡ heights.of_variants (map-Variants Struct TypeNode Fields Fixed FixedSection Variant Variants ℕ ℕ ℕ ℕ ℕ ℕ ℕ struct_height type_height fields_height fixed_height section_height variant_height variants_height (bare_variants y))

meets_struct : (y : WithKnown Struct-F) → Meets-Struct y
meets_struct (part.Array indexes component span) =
    omega (arith, height_join (with_commas (map write_type (nodes write_type type_height indexes))) (symbol mark.CloseBracket & word word_.KwOf & write_type component.0), commas_height write_type type_height indexes, component.1)
meets_struct (part.Record fields span) = omega (arith, height_join (write_fields fields.0) (word word_.KwEnd), fields.1)
meets_struct (part.Set base span) = omega (arith, base.1)
meets_struct (part.File component span) = omega (arith, component.1)

meets_type : (y : WithKnown TypeNode-F) → Meets-TypeNode y
meets_type (part.Structured true of span) = omega (arith, of.1)
meets_type (part.Structured false of span) = omega (arith, of.1)
meets_type (part.Pointer domain span) = omega arith
meets_type (part.Enumeration names span) = omega (arith, height_join (write_names names) (symbol mark.Close), names_flat names)
meets_type (part.Subrange first last span) = omega (arith, height_join (write_constant first) (symbol mark.DotDot & write_constant last), constant_flat first, constant_flat last)
meets_type (part.Name name) = omega arith
meets_type (part.String None span) = omega arith
meets_type (part.String (Some limit) span) = omega (arith, height_join (write_constant limit) (symbol mark.CloseBracket), constant_flat limit)

meets_fields : (y : WithKnown Fields-F) → Meets-Fields y
meets_fields y = by y.fixed y.variants y.closed y.span
  where
    by : (fixed : Option Known-Fixed) (variants : Option Known-Variants) (closed : Bool) (span : Span) → Meets-Fields (record { fixed = fixed; variants = variants; closed = closed; span = span })
    by None None closed span = omega (arith, semicolon_flat closed)
    by None (Some v) closed span = omega (arith, height_join (write_variants v.0) (optional_semicolon closed), semicolon_flat closed, v.1)
    by (Some f) None closed span = omega (arith, height_join (write_fixed f.0) (optional_semicolon closed), semicolon_flat closed, f.1)
    by (Some f) (Some v) closed span =
        omega (arith, height_join (write_fixed f.0 & symbol mark.Semicolon & write_variants v.0) (optional_semicolon closed), height_join (write_fixed f.0) (symbol mark.Semicolon & write_variants v.0), semicolon_flat closed, f.1, v.1)

meets_fixed : (y : WithKnown Fixed-F) → Meets-Fixed y
meets_fixed y = omega (arith, semicolons_height write_section section_height y.sections)

meets_section : (y : WithKnown FixedSection-F) → Meets-FixedSection y
meets_section y = omega (arith, height_join (write_names y.names) (symbol mark.Colon & write_type y.of.0), names_flat y.names, y.of.1)

meets_variant : (y : WithKnown Variant-F) → Meets-Variant y
meets_variant y =
    omega (arith, height_join (with_commas (map write_case_label y.labels)) (symbol mark.Colon & symbol mark.Open & write_fields y.fields.0 & symbol mark.Close), commas_flat write_case_label case_label_flat y.labels, height_join (write_fields y.fields.0) (symbol mark.Close), y.fields.1)

abbrev known_variants : List Known-Variant → Layout
known_variants all = with_semicolons (map write_variant (nodes write_variant variant_height all))

meets_variants : (y : WithKnown Variants-F) → Meets-Variants y
meets_variants y = by y.tag
  where
    by : (tag : Option Identifier) → Meets-Variants (record { tag = tag; of = y.of; list = y.list; span = y.span })
    by None = omega (arith, height_join (write_type_name y.of) (word word_.KwOf & known_variants y.list), type_name_flat y.of, semicolons_height write_variant variant_height y.list)
    by (Some name) = omega (arith, height_join (write_type_name y.of) (word word_.KwOf & known_variants y.list), type_name_flat y.of, semicolons_height write_variant variant_height y.list)

-- ---- so it has the height of the node

step_struct : (x : WithNodes Struct-F) (y : WithKnown Struct-F) → bare_struct y ≡ x → HasHeight write_struct struct_height (roll-Struct x)
unfolding write_struct write_type write_fields write_fixed write_section write_variant write_variants struct_height type_height fields_height fixed_height section_height variant_height variants_height
step_struct x y is = subst (λ z. HasHeight write_struct struct_height (roll-Struct z)) is (with_parts (ap (λ l. height_of l) (fold-roll-Struct Layout Layout Layout Layout Layout Layout Layout writing.of_struct writing.of_type writing.of_fields writing.of_fixed writing.of_section writing.of_variant writing.of_variants (bare_struct y))) (fold-roll-Struct ℕ ℕ ℕ ℕ ℕ ℕ ℕ heights.of_struct heights.of_type heights.of_fields heights.of_fixed heights.of_section heights.of_variant heights.of_variants (bare_struct y)) (meets_struct y))

step_type : (x : WithNodes TypeNode-F) (y : WithKnown TypeNode-F) → bare_type y ≡ x → HasHeight write_type type_height (roll-TypeNode x)
unfolding write_struct write_type write_fields write_fixed write_section write_variant write_variants struct_height type_height fields_height fixed_height section_height variant_height variants_height
step_type x y is = subst (λ z. HasHeight write_type type_height (roll-TypeNode z)) is (with_parts (ap (λ l. height_of l) (fold-roll-TypeNode Layout Layout Layout Layout Layout Layout Layout writing.of_struct writing.of_type writing.of_fields writing.of_fixed writing.of_section writing.of_variant writing.of_variants (bare_type y))) (fold-roll-TypeNode ℕ ℕ ℕ ℕ ℕ ℕ ℕ heights.of_struct heights.of_type heights.of_fields heights.of_fixed heights.of_section heights.of_variant heights.of_variants (bare_type y)) (meets_type y))

step_fields : (x : WithNodes Fields-F) (y : WithKnown Fields-F) → bare_fields y ≡ x → HasHeight write_fields fields_height (roll-Fields x)
unfolding write_struct write_type write_fields write_fixed write_section write_variant write_variants struct_height type_height fields_height fixed_height section_height variant_height variants_height
step_fields x y is = subst (λ z. HasHeight write_fields fields_height (roll-Fields z)) is (with_parts (ap (λ l. height_of l) (fold-roll-Fields Layout Layout Layout Layout Layout Layout Layout writing.of_struct writing.of_type writing.of_fields writing.of_fixed writing.of_section writing.of_variant writing.of_variants (bare_fields y))) (fold-roll-Fields ℕ ℕ ℕ ℕ ℕ ℕ ℕ heights.of_struct heights.of_type heights.of_fields heights.of_fixed heights.of_section heights.of_variant heights.of_variants (bare_fields y)) (meets_fields y))

step_fixed : (x : WithNodes Fixed-F) (y : WithKnown Fixed-F) → bare_fixed y ≡ x → HasHeight write_fixed fixed_height (roll-Fixed x)
unfolding write_struct write_type write_fields write_fixed write_section write_variant write_variants struct_height type_height fields_height fixed_height section_height variant_height variants_height
step_fixed x y is = subst (λ z. HasHeight write_fixed fixed_height (roll-Fixed z)) is (with_parts (ap (λ l. height_of l) (fold-roll-Fixed Layout Layout Layout Layout Layout Layout Layout writing.of_struct writing.of_type writing.of_fields writing.of_fixed writing.of_section writing.of_variant writing.of_variants (bare_fixed y))) (fold-roll-Fixed ℕ ℕ ℕ ℕ ℕ ℕ ℕ heights.of_struct heights.of_type heights.of_fields heights.of_fixed heights.of_section heights.of_variant heights.of_variants (bare_fixed y)) (meets_fixed y))

step_section : (x : WithNodes FixedSection-F) (y : WithKnown FixedSection-F) → bare_section y ≡ x → HasHeight write_section section_height (roll-FixedSection x)
unfolding write_struct write_type write_fields write_fixed write_section write_variant write_variants struct_height type_height fields_height fixed_height section_height variant_height variants_height
step_section x y is = subst (λ z. HasHeight write_section section_height (roll-FixedSection z)) is (with_parts (ap (λ l. height_of l) (fold-roll-FixedSection Layout Layout Layout Layout Layout Layout Layout writing.of_struct writing.of_type writing.of_fields writing.of_fixed writing.of_section writing.of_variant writing.of_variants (bare_section y))) (fold-roll-FixedSection ℕ ℕ ℕ ℕ ℕ ℕ ℕ heights.of_struct heights.of_type heights.of_fields heights.of_fixed heights.of_section heights.of_variant heights.of_variants (bare_section y)) (meets_section y))

step_variant : (x : WithNodes Variant-F) (y : WithKnown Variant-F) → bare_variant y ≡ x → HasHeight write_variant variant_height (roll-Variant x)
unfolding write_struct write_type write_fields write_fixed write_section write_variant write_variants struct_height type_height fields_height fixed_height section_height variant_height variants_height
step_variant x y is = subst (λ z. HasHeight write_variant variant_height (roll-Variant z)) is (with_parts (ap (λ l. height_of l) (fold-roll-Variant Layout Layout Layout Layout Layout Layout Layout writing.of_struct writing.of_type writing.of_fields writing.of_fixed writing.of_section writing.of_variant writing.of_variants (bare_variant y))) (fold-roll-Variant ℕ ℕ ℕ ℕ ℕ ℕ ℕ heights.of_struct heights.of_type heights.of_fields heights.of_fixed heights.of_section heights.of_variant heights.of_variants (bare_variant y)) (meets_variant y))

step_variants : (x : WithNodes Variants-F) (y : WithKnown Variants-F) → bare_variants y ≡ x → HasHeight write_variants variants_height (roll-Variants x)
unfolding write_struct write_type write_fields write_fixed write_section write_variant write_variants struct_height type_height fields_height fixed_height section_height variant_height variants_height
step_variants x y is = subst (λ z. HasHeight write_variants variants_height (roll-Variants z)) is (with_parts (ap (λ l. height_of l) (fold-roll-Variants Layout Layout Layout Layout Layout Layout Layout writing.of_struct writing.of_type writing.of_fields writing.of_fixed writing.of_section writing.of_variant writing.of_variants (bare_variants y))) (fold-roll-Variants ℕ ℕ ℕ ℕ ℕ ℕ ℕ heights.of_struct heights.of_type heights.of_fields heights.of_fixed heights.of_section heights.of_variant heights.of_variants (bare_variants y)) (meets_variants y))

pub type_levels : (x : TypeNode) → height_of (write_type x) ≡ type_height x
type_levels = ind-TypeNode (HasHeight write_struct struct_height) (HasHeight write_type type_height) (HasHeight write_fields fields_height) (HasHeight write_fixed fixed_height) (HasHeight write_section section_height) (HasHeight write_variant variant_height) (HasHeight write_variants variants_height) step_struct step_type step_fields step_fixed step_section step_variant step_variants

pub fields_levels : (x : Fields) → height_of (write_fields x) ≡ fields_height x
fields_levels = ind-Fields (HasHeight write_struct struct_height) (HasHeight write_type type_height) (HasHeight write_fields fields_height) (HasHeight write_fixed fixed_height) (HasHeight write_section section_height) (HasHeight write_variant variant_height) (HasHeight write_variants variants_height) step_struct step_type step_fields step_fixed step_section step_variant step_variants

-- ---- formal parameters of which the heights of the parts are known

abbrev Known-Formal : Type 0
Known-Formal = Known write_formal formal_height

abbrev Known-Formals : Type 0
Known-Formals = Known write_formals formals_height

abbrev WithKnownFormals : (Type 0 → Type 0 → Type 0) → Type 0
WithKnownFormals F = F Known-Formal Known-Formals

abbrev WithNodesFormals : (Type 0 → Type 0 → Type 0) → Type 0
WithNodesFormals F = F Formal Formals

abbrev bare_formal : WithKnownFormals Formal-F → WithNodesFormals Formal-F
bare_formal y = map-Formal Known-Formal Known-Formals Formal Formals (λ x. x.0) (λ x. x.0) y

abbrev bare_formals : WithKnownFormals Formals-F → WithNodesFormals Formals-F
bare_formals y = map-Formals Known-Formal Known-Formals Formal Formals (λ x. x.0) (λ x. x.0) y

-- ---- what is written of a node by its parts has the height that it has by its parts

abbrev Meets-Formal : WithKnownFormals Formal-F → Type 0
Meets-Formal y = height_of (writing.of_formal (map-Formal Formal Formals Layout Layout write_formal write_formals (bare_formal y))) ≡ heights.of_formal (map-Formal Formal Formals ℕ ℕ formal_height formals_height (bare_formal y))

abbrev Meets-Formals : WithKnownFormals Formals-F → Type 0
Meets-Formals y = height_of (writing.of_formals (map-Formals Formal Formals Layout Layout write_formal write_formals (bare_formals y))) ≡ heights.of_formals (map-Formals Formal Formals ℕ ℕ formal_height formals_height (bare_formals y))

meets_formal : (y : WithKnownFormals Formal-F) → Meets-Formal y
meets_formal (formal.Variables true names of span) = omega (arith, height_join (write_names names) (symbol mark.Colon & write_type_name of), names_flat names, type_name_flat of)
meets_formal (formal.Variables false names of span) = omega (arith, height_join (write_names names) (symbol mark.Colon & write_type_name of), names_flat names, type_name_flat of)
meets_formal (formal.Procedure name None span) = omega arith
meets_formal (formal.Procedure name (Some formals) span) = omega (arith, formals.1)
meets_formal (formal.Function name None result span) = omega (arith, type_name_flat result)
meets_formal (formal.Function name (Some formals) result span) = omega (arith, height_join (write_formals formals.0) (symbol mark.Colon & write_type_name result), formals.1, type_name_flat result)

meets_formals : (y : WithKnownFormals Formals-F) → Meets-Formals y
meets_formals y = omega (arith, height_join (with_semicolons (map write_formal (nodes write_formal formal_height y.list))) (symbol mark.Close), semicolons_height write_formal formal_height y.list)

-- ---- so it has the height of the node

step_formal : (x : WithNodesFormals Formal-F) (y : WithKnownFormals Formal-F) → bare_formal y ≡ x → HasHeight write_formal formal_height (roll-Formal x)
unfolding write_formal write_formals formal_height formals_height
step_formal x y is = subst (λ z. HasHeight write_formal formal_height (roll-Formal z)) is (with_parts (ap (λ l. height_of l) (fold-roll-Formal Layout Layout writing.of_formal writing.of_formals (bare_formal y))) (fold-roll-Formal ℕ ℕ heights.of_formal heights.of_formals (bare_formal y)) (meets_formal y))

step_formals : (x : WithNodesFormals Formals-F) (y : WithKnownFormals Formals-F) → bare_formals y ≡ x → HasHeight write_formals formals_height (roll-Formals x)
unfolding write_formal write_formals formal_height formals_height
step_formals x y is = subst (λ z. HasHeight write_formals formals_height (roll-Formals z)) is (with_parts (ap (λ l. height_of l) (fold-roll-Formals Layout Layout writing.of_formal writing.of_formals (bare_formals y))) (fold-roll-Formals ℕ ℕ heights.of_formal heights.of_formals (bare_formals y)) (meets_formals y))

pub formals_levels : (x : Formals) → height_of (write_formals x) ≡ formals_height x
formals_levels = ind-Formals (HasHeight write_formal formal_height) (HasHeight write_formals formals_height) step_formal step_formals
