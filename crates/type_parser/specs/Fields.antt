-- Lists of fields are read, where `type` reads the types and `fields` the lists of fields in them. `end` is the place of the end of the text.
use Rattle.std.specs.Prelude.{Bool, true, false, ◌&&◌, List, [], ◌∷◌, ◌++◌, Option, Some, None}
use Rattle.p2c_text.specs.declared.dialect.Dialect.{Dialect}
use Rattle.p2c_text.specs.declared.place.Span.{Span}
use Rattle.dialect_lexer.specs.declared.token.Word.TheVariants as word_
use Rattle.dialect_lexer.specs.declared.token.Symbol.TheVariants as mark
use Rattle.pascal_tree.specs.declared.names.Identifier.{Identifier}
use Rattle.pascal_tree.specs.declared.constants.CaseLabel.{CaseLabel}
use Rattle.pascal_tree.specs.declared.types.TypeName.{TypeName}
use Rattle.pascal_tree.specs.declared.types.TypeNode.{TypeNode}
use Rattle.pascal_tree.specs.declared.types.Fields.{Fields, roll-Fields}
use Rattle.pascal_tree.specs.declared.types.Fixed.{Fixed, roll-Fixed}
use Rattle.pascal_tree.specs.declared.types.FixedSection.{FixedSection, roll-FixedSection}
use Rattle.pascal_tree.specs.declared.types.Variant.{Variant, roll-Variant}
use Rattle.pascal_tree.specs.declared.types.Variants.{Variants, roll-Variants}
use Rattle.token_parsing.specs.Parser.{Parser, ◌>>=◌, pure, one_of, begins, rest, either, repeat}
use Rattle.expr_parser.specs.Tokens.{Placed}
use Rattle.expr_parser.specs.Classes.{identifiers, words, symbols, expect, expect_word}
use Rattle.expr_parser.specs.Places.{made}
use Rattle.expr_parser.specs.Constants.{begins_constant, case_labels}
use Rattle.type_parser.specs.Names.{names, type_name}

-- ---- the fixed part

abbrev pub section_of : List Identifier → TypeNode → Span → FixedSection
section_of ns t span = roll-FixedSection (record { names = ns; of = t; span = span })

-- Ids ":" Type
unfoldable pub section : Span → Parser Placed TypeNode → Parser Placed FixedSection
section end type = λ from. (names >>= λ ns. expect mark.Colon >>= λ _. type >>= λ t. made end from (section_of ns t)) from

-- a semicolon that is not the one before the variants or before the end
abbrev pub begins_next_section : List Placed → Bool
begins_next_section s = begins (symbols mark.Semicolon) s && begins identifiers (rest s)

-- ";" Ids ":" Type
unfoldable pub next_section : Span → Parser Placed TypeNode → List FixedSection → Parser Placed (List FixedSection)
next_section end type all = expect mark.Semicolon >>= λ _. section end type >>= λ x. pure (all ++ x ∷ [])

-- {";" Ids ":" Type}
unfoldable pub more_sections : Span → Parser Placed TypeNode → List FixedSection → Parser Placed (List FixedSection)
more_sections end type = repeat begins_next_section (next_section end type)

abbrev pub fixed_of : List FixedSection → Span → Fixed
fixed_of all span = roll-Fixed (record { sections = all; span = span })

-- Fixed = Ids ":" Type {";" Ids ":" Type}
unfoldable pub fixed : Span → Parser Placed TypeNode → Parser Placed Fixed
fixed end type = λ from. (section end type >>= λ x. more_sections end type (x ∷ []) >>= λ all. made end from (fixed_of all)) from

-- ---- variants

-- "(" Fields ")"
unfoldable pub group : Parser Placed Fields → Parser Placed Fields
group fields = expect mark.Open >>= λ _. fields >>= λ f. expect mark.Close >>= λ _. pure f

abbrev pub variant_of : List CaseLabel → Fields → Span → Variant
variant_of ls f span = roll-Variant (record { labels = ls; fields = f; span = span })

-- Variant = Label1 {"," Label1} ":" "(" Fields ")"
unfoldable pub variant : Dialect → Span → Parser Placed Fields → Parser Placed Variant
variant d end fields = λ from. (case_labels d end >>= λ ls. expect mark.Colon >>= λ _. group fields >>= λ f. made end from (variant_of ls f)) from

-- a semicolon that is not the one before the end
abbrev pub begins_next_variant : List Placed → Bool
begins_next_variant s = begins (symbols mark.Semicolon) s && begins_constant (rest s)

-- ";" Variant
unfoldable pub next_variant : Dialect → Span → Parser Placed Fields → List Variant → Parser Placed (List Variant)
next_variant d end fields all = expect mark.Semicolon >>= λ _. variant d end fields >>= λ v. pure (all ++ v ∷ [])

-- {";" Variant}
unfoldable pub more_variants : Dialect → Span → Parser Placed Fields → List Variant → Parser Placed (List Variant)
more_variants d end fields = repeat begins_next_variant (next_variant d end fields)

-- Variant {";" Variant}
unfoldable pub variant_list : Dialect → Span → Parser Placed Fields → Parser Placed (List Variant)
variant_list d end fields = variant d end fields >>= λ v. more_variants d end fields (v ∷ [])

abbrev pub begins_tag : List Placed → Bool
begins_tag s = begins identifiers s && begins (symbols mark.Colon) (rest s)

-- [Id ":"]
unfoldable pub optional_tag : Parser Placed (Option Identifier)
optional_tag = either begins_tag (one_of identifiers >>= λ n. expect mark.Colon >>= λ _. pure (Some n)) (pure None)

-- "case" [Id ":"] TypeName "of"
unfoldable pub selector : Span → Parser Placed (Option Identifier × TypeName)
selector end = expect_word word_.KwCase >>= λ _. optional_tag >>= λ t. type_name end >>= λ n. expect_word word_.KwOf >>= λ _. pure (t, n)

abbrev pub variants_of : Option Identifier × TypeName → List Variant → Span → Variants
variants_of h all span = roll-Variants (record { tag = h.0; of = h.1; list = all; span = span })

-- Variants = "case" [Id ":"] TypeName "of" Variant {";" Variant}
unfoldable pub variants : Dialect → Span → Parser Placed Fields → Parser Placed Variants
variants d end fields = λ from. (selector end >>= λ h. variant_list d end fields >>= λ all. made end from (variants_of h all)) from

-- ---- lists of fields

abbrev pub begins_more_variants : List Placed → Bool
begins_more_variants s = begins (symbols mark.Semicolon) s && begins (words word_.KwCase) (rest s)

-- [";" Variants]
unfoldable pub optional_variants : Dialect → Span → Parser Placed Fields → Parser Placed (Option Variants)
optional_variants d end fields = either begins_more_variants (expect mark.Semicolon >>= λ _. variants d end fields >>= λ v. pure (Some v)) (pure None)

-- [";"]
unfoldable pub optional_semicolon : Parser Placed Bool
optional_semicolon = either (begins (symbols mark.Semicolon)) (expect mark.Semicolon >>= λ _. pure true) (pure false)

abbrev pub fields_of : Option Fixed → Option Variants → Bool → Span → Fields
fields_of f v closed span = roll-Fields (record { fixed = f; variants = v; closed = closed; span = span })

-- Fixed [";" Variants] [";"]
unfoldable pub with_fixed : Dialect → Span → Parser Placed TypeNode → Parser Placed Fields → Parser Placed Fields
with_fixed d end type fields = λ from. (fixed end type >>= λ f. optional_variants d end fields >>= λ v. optional_semicolon >>= λ c. made end from (fields_of (Some f) v c)) from

-- Variants [";"]
unfoldable pub only_variants : Dialect → Span → Parser Placed Fields → Parser Placed Fields
only_variants d end fields = λ from. (variants d end fields >>= λ v. optional_semicolon >>= λ c. made end from (fields_of None (Some v) c)) from

unfoldable pub no_fields : Span → Parser Placed Fields
no_fields end = λ from. made end from (fields_of None None false) from

-- Fields = [(Fixed [";" Variants] | Variants) [";"]]
unfoldable pub fields_by : Dialect → Span → Parser Placed TypeNode → Parser Placed Fields → Parser Placed Fields
fields_by d end type fields = either (begins identifiers) (with_fixed d end type fields) (either (begins (words word_.KwCase)) (only_variants d end fields) (no_fields end))
