-- Lists of names, and names of types, are read. `end` is the place of the end of the text.
use Rattle.std.specs.Prelude.{List, [], ◌∷◌, ◌++◌}
use Rattle.p2c_text.specs.declared.place.Span.{Span}
use Rattle.dialect_lexer.specs.declared.token.Word.TheVariants as word_
use Rattle.dialect_lexer.specs.declared.token.Symbol.TheVariants as mark
use Rattle.pascal_tree.specs.declared.names.Identifier.{Identifier}
use Rattle.pascal_tree.specs.declared.types.TypeName.{TypeName}
use Rattle.pascal_tree.specs.declared.types.TypeName.TheVariants as name_
use Rattle.token_parsing.specs.Parser.{Parser, ◌>>=◌, pure, one_of, begins, either, repeat}
use Rattle.expr_parser.specs.Tokens.{Placed}
use Rattle.expr_parser.specs.Classes.{identifiers, symbols, expect, expect_word}
use Rattle.expr_parser.specs.Places.{made}

-- "," Id
unfoldable pub next_name : List Identifier → Parser Placed (List Identifier)
next_name all = expect mark.Comma >>= λ _. one_of identifiers >>= λ n. pure (all ++ n ∷ [])

-- {"," Id}
unfoldable pub more_names : List Identifier → Parser Placed (List Identifier)
more_names = repeat (begins (symbols mark.Comma)) next_name

-- Ids = Id {"," Id}
unfoldable pub names : Parser Placed (List Identifier)
names = one_of identifiers >>= λ n. more_names (n ∷ [])

unfoldable pub string_name : Span → Parser Placed TypeName
string_name end = λ from. (expect_word word_.KwString >>= λ _. made end from name_.String) from

-- TypeName = Id | "string"
unfoldable pub type_name : Span → Parser Placed TypeName
type_name end = either (begins identifiers) (one_of identifiers >>= λ n. pure (name_.Name n)) (string_name end)
