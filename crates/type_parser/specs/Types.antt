-- Types are read, where `type` reads the types and `fields` the lists of fields in them. `end` is the place of the end of the text.
use Rattle.std.specs.Prelude.{Bool, true, false, ◌&&◌, not, List, [], ◌∷◌, ◌++◌, Option, Some, None}
use Rattle.p2c_text.specs.declared.place.Span.{Span}
use Rattle.dialect_lexer.specs.declared.token.Word.{Word as WordSymbol}
use Rattle.dialect_lexer.specs.declared.token.Word.TheVariants as word_
use Rattle.dialect_lexer.specs.declared.token.Symbol.TheVariants as mark
use Rattle.pascal_tree.specs.declared.constants.Constant.{Constant}
use Rattle.pascal_tree.specs.declared.types.TypeNode.{TypeNode}
use Rattle.pascal_tree.specs.declared.types.TypeNode.TheVariants as node
use Rattle.pascal_tree.specs.declared.types.Struct.{Struct}
use Rattle.pascal_tree.specs.declared.types.Struct.TheVariants as struct_
use Rattle.pascal_tree.specs.declared.types.Fields.{Fields}
use Rattle.token_parsing.specs.Parser.{Parser, Class, ◌>>=◌, pure, one_of, begins, rest, either, repeat}
use Rattle.expr_parser.specs.Tokens.{Placed}
use Rattle.expr_parser.specs.Classes.{identifiers, words, symbols, operator_of, expect, expect_word}
use Rattle.expr_parser.specs.Places.{made}
use Rattle.expr_parser.specs.Constants.{constant}
use Rattle.type_parser.specs.Names.{names}

-- ---- without types in them

-- "^" Id
unfoldable pub pointer : Span → Parser Placed TypeNode
pointer end = λ from. (expect mark.Caret >>= λ _. one_of identifiers >>= λ n. made end from (node.Pointer n)) from

-- "(" Ids ")"
unfoldable pub enumeration : Span → Parser Placed TypeNode
enumeration end = λ from. (expect mark.Open >>= λ _. names >>= λ ns. expect mark.Close >>= λ _. made end from (node.Enumeration ns)) from

-- Const ".." Const
unfoldable pub subrange : Span → Parser Placed TypeNode
subrange end = λ from. (constant end >>= λ a. expect mark.DotDot >>= λ _. constant end >>= λ b. made end from (node.Subrange a b)) from

-- Id
unfoldable pub named : Parser Placed TypeNode
named = one_of identifiers >>= λ n. pure (node.Name n)

-- ["[" Const "]"]
unfoldable pub optional_limit : Span → Parser Placed (Option Constant)
optional_limit end = either (begins (symbols mark.OpenBracket)) (expect mark.OpenBracket >>= λ _. constant end >>= λ c. expect mark.CloseBracket >>= λ _. pure (Some c)) (pure None)

-- "string" ["[" Const "]"]
unfoldable pub string_type : Span → Parser Placed TypeNode
string_type end = λ from. (expect_word word_.KwString >>= λ _. optional_limit end >>= λ c. made end from (node.String c)) from

-- a name that is no first constant of a subrange
abbrev pub begins_name_alone : List Placed → Bool
begins_name_alone s = begins identifiers s && not (begins (symbols mark.DotDot) (rest s))

unfoldable pub simple_type : Span → Parser Placed TypeNode
simple_type end =
    either begins_name_alone named
    (either (begins (symbols mark.Caret)) (pointer end)
    (either (begins (symbols mark.Open)) (enumeration end)
    (either (begins (words word_.KwString)) (string_type end) (subrange end))))

-- ---- with types in them

-- "of" Type
unfoldable pub of_type : Parser Placed TypeNode → Parser Placed TypeNode
of_type type = expect_word word_.KwOf >>= λ _. type

-- "," Type
unfoldable pub next_type : Parser Placed TypeNode → List TypeNode → Parser Placed (List TypeNode)
next_type type all = expect mark.Comma >>= λ _. type >>= λ t. pure (all ++ t ∷ [])

-- {"," Type}
unfoldable pub more_types : Parser Placed TypeNode → List TypeNode → Parser Placed (List TypeNode)
more_types type = repeat (begins (symbols mark.Comma)) (next_type type)

-- Type {"," Type}
unfoldable pub types : Parser Placed TypeNode → Parser Placed (List TypeNode)
types type = type >>= λ t. more_types type (t ∷ [])

-- "[" Type {"," Type} "]"
unfoldable pub indexes : Parser Placed TypeNode → Parser Placed (List TypeNode)
indexes type = expect mark.OpenBracket >>= λ _. types type >>= λ all. expect mark.CloseBracket >>= λ _. pure all

-- "array" "[" Type {"," Type} "]" "of" Type
unfoldable pub array : Span → Parser Placed TypeNode → Parser Placed Struct
array end type = λ from. (expect_word word_.KwArray >>= λ _. indexes type >>= λ all. of_type type >>= λ t. made end from (struct_.Array all t)) from

-- "record" Fields "end"
unfoldable pub record_type : Span → Parser Placed Fields → Parser Placed Struct
record_type end fields = λ from. (expect_word word_.KwRecord >>= λ _. fields >>= λ f. expect_word word_.KwEnd >>= λ _. made end from (struct_.Record f)) from

-- "set" "of" Type
unfoldable pub set_type : Span → Parser Placed TypeNode → Parser Placed Struct
set_type end type = λ from. (expect_word word_.KwSet >>= λ _. of_type type >>= λ t. made end from (struct_.Set t)) from

-- "file" "of" Type
unfoldable pub file_type : Span → Parser Placed TypeNode → Parser Placed Struct
file_type end type = λ from. (expect_word word_.KwFile >>= λ _. of_type type >>= λ t. made end from (struct_.File t)) from

unfoldable pub structure : Span → Parser Placed TypeNode → Parser Placed Fields → Parser Placed Struct
structure end type fields =
    either (begins (words word_.KwArray)) (array end type)
    (either (begins (words word_.KwRecord)) (record_type end fields)
    (either (begins (words word_.KwSet)) (set_type end type) (file_type end type)))

-- ["packed"]
unfoldable pub optional_packed : Parser Placed Bool
optional_packed = either (begins (words word_.KwPacked)) (expect_word word_.KwPacked >>= λ _. pure true) (pure false)

-- ["packed"] Struct
unfoldable pub structured : Span → Parser Placed TypeNode → Parser Placed Fields → Parser Placed TypeNode
structured end type fields = λ from. (optional_packed >>= λ p. structure end type fields >>= λ s. made end from (node.Structured p s)) from

-- ---- all

abbrev pub struct_word_of : WordSymbol → Option (Unit {0})
struct_word_of word_.KwPacked = Some tt
struct_word_of word_.KwArray = Some tt
struct_word_of word_.KwRecord = Some tt
struct_word_of word_.KwSet = Some tt
struct_word_of word_.KwFile = Some tt
struct_word_of _ = None

-- the words with which a type with parts begins
abbrev pub struct_words : Class Placed (Unit {0})
struct_words t = operator_of struct_word_of (λ s. None) t.token

unfoldable pub type_by : Span → Parser Placed TypeNode → Parser Placed Fields → Parser Placed TypeNode
type_by end type fields = either (begins struct_words) (structured end type fields) (simple_type end)
