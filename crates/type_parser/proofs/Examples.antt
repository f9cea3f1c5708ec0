-- Worked examples.
use Rattle.std.proofs.Common.{◌≡◌, ℕ, suc, true, false, [], ◌∷◌, Some, None, Ok, Err, refl}
use Rattle.p2c_text.specs.declared.dialect.Dialect.TheVariants.{Iso}
use Rattle.p2c_text.specs.declared.place.Span.{Span}
use Rattle.dialect_lexer.specs.declared.token.Word.TheVariants as word_
use Rattle.dialect_lexer.specs.declared.token.Symbol.TheVariants as mark
use Rattle.pascal_tree.specs.declared.types.TypeNode.TheVariants as node
use Rattle.pascal_tree.specs.declared.types.Struct.TheVariants as struct_
use Rattle.token_parsing.specs.declared.refusal.Refusal.TheVariants.{Unexpected, TooDeep}
use Rattle.token_parsing.specs.Parser.{one_of, begins, again, repeat}
use Rattle.expr_parser.specs.Tokens.{Token, Placed, Name, Word, Symbol}
use Rattle.expr_parser.specs.Spans.{span_between}
use Rattle.expr_parser.specs.Classes.{same_word, same_symbol}
use Rattle.type_parser.specs.Names.{names, more_names}
use Rattle.type_parser.specs.Types.{named, simple_type, record_type, structure, optional_packed, structured, type_by}
use Rattle.type_parser.specs.Fields.{section_of, section, more_sections, fixed_of, fixed, optional_variants, optional_semicolon, fields_of, with_fixed, no_fields, fields_by}
use Rattle.type_parser.specs.Levels.{type_node, fields}

abbrev span : ℕ → ℕ → Span
span start end = record { file = 0; start = start; end = end; line = 1 }

abbrev at : ℕ → Token → Placed
at n t = record { token = t; span = span n (suc n) }

abbrev opening : Placed
opening = at 0 (Word word_.KwRecord)

abbrev a : Placed
a = at 1 (Name (97 ∷ []))

abbrev colon : Placed
colon = at 2 (Symbol mark.Colon)

abbrev b : Placed
b = at 3 (Name (98 ∷ []))

abbrev semicolon : Placed
semicolon = at 4 (Symbol mark.Semicolon)

abbrev closing : Placed
closing = at 5 (Word word_.KwEnd)

-- `record a : b ; end`
one_field : type_node Iso (span 6 6) 3 (opening ∷ a ∷ colon ∷ b ∷ semicolon ∷ closing ∷ [])
    ≡ Ok (
      node.Structured false (struct_.Record (fields_of (Some (fixed_of (section_of (record { name = 97 ∷ []; span = span 1 2 } ∷ []) (node.Name (record { name = 98 ∷ []; span = span 3 4 })) (span 1 4) ∷ []) (span 1 4))) None true (span 1 5)) (span 0 6)) (span 0 6),
      [],
    )
unfolding one_of begins again repeat span_between same_word same_symbol names more_names named simple_type record_type structure optional_packed structured type_by section more_sections fixed optional_variants optional_semicolon with_fixed fields_by type_node fields
one_field = refl

-- `record a b`
no_colon : type_node Iso (span 5 5) 3 (opening ∷ a ∷ b ∷ []) ≡ Err (Unexpected 1)
unfolding one_of begins again repeat span_between same_word same_symbol names more_names record_type structure optional_packed structured type_by section fixed with_fixed fields_by type_node fields
no_colon = refl

-- a record and its list of fields are two levels
one_level : type_node Iso (span 6 6) 1 (opening ∷ closing ∷ []) ≡ Err (TooDeep 1)
unfolding one_of begins span_between same_word record_type structure optional_packed structured type_by type_node fields
one_level = refl

-- the list without fields stands at the next token
without_fields : type_node Iso (span 6 6) 2 (opening ∷ closing ∷ []) ≡ Ok (node.Structured false (struct_.Record (fields_of None None false (span 5 5)) (span 0 6)) (span 0 6), [])
unfolding one_of begins span_between same_word record_type structure optional_packed structured type_by no_fields fields_by type_node fields
without_fields = refl
