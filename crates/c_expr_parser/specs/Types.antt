-- Types and casts are read.
use Rattle.std.specs.Prelude.{Option, Some, None}
use Rattle.c_tree.specs.Tree.{ObjectType, Byte, Struct, Named, VoidPointer, Pointer}
use Rattle.c_tree.specs.declared.operators.CCast.{CCast}
use Rattle.c_tree.specs.declared.operators.CCast.TheVariants as cast
use Rattle.c_grammar.specs.declared.token.Word.TheVariants as word
use Rattle.c_grammar.specs.declared.token.Mark.TheVariants as mark
use Rattle.c_grammar.specs.Token.{Token}
use Rattle.token_parsing.specs.Parser.{Parser, ◌>>=◌, pure, one_of, begins, either, repeat}
use Rattle.c_expr_parser.specs.Classes.{names, words, marks, scalars, scalar_casts, expect, expect_word}

-- "struct" Id
unfoldable pub struct_type : Parser Token ObjectType
struct_type = expect_word word.Struct >>= λ _. one_of names >>= λ n. pure (Struct n)

-- "unsigned" "char"
unfoldable pub byte_type : Parser Token ObjectType
byte_type = expect_word word.Unsigned >>= λ _. expect_word word.Char >>= λ _. pure Byte

-- "void" "*"
unfoldable pub void_pointer : Parser Token ObjectType
void_pointer = expect_word word.Void >>= λ _. expect mark.Star >>= λ _. pure VoidPointer

-- a type before its stars
unfoldable pub base_type : Parser Token ObjectType
base_type =
    either (begins names) (one_of names >>= λ n. pure (Named n))
    (either (begins (words word.Struct)) struct_type
    (either (begins (words word.Unsigned)) byte_type
    (either (begins (words word.Void)) void_pointer (one_of scalars >>= λ of. pure of))))

unfoldable pub pointer_to : ObjectType → Parser Token ObjectType
pointer_to of = expect mark.Star >>= λ _. pure (Pointer of)

-- {"*"}
unfoldable pub stars : ObjectType → Parser Token ObjectType
stars = repeat (begins (marks mark.Star)) pointer_to

unfoldable pub object_type : Parser Token ObjectType
object_type = base_type >>= stars

-- "void" | "void" "*" {"*"}
unfoldable pub after_void : Parser Token (Option ObjectType)
after_void = expect_word word.Void >>= λ _. either (begins (marks mark.Star)) (expect mark.Star >>= λ _. stars VoidPointer >>= λ of. pure (Some of)) (pure None)

-- Ret = "void" | Type
unfoldable pub result_type : Parser Token (Option ObjectType)
result_type = either (begins (words word.Void)) after_void (object_type >>= λ of. pure (Some of))

-- "struct" Id "*"
unfoldable pub struct_pointer : Parser Token CCast
struct_pointer = expect_word word.Struct >>= λ _. one_of names >>= λ n. expect mark.Star >>= λ _. pure (cast.StructPointer n)

unfoldable pub void_cast : Parser Token CCast
void_cast = expect_word word.Void >>= λ _. expect mark.Star >>= λ _. pure cast.VoidPointer

-- Cast = "int64_t" | "uint64_t" | "void" "*" | "struct" Id "*"
unfoldable pub cast_type : Parser Token CCast
cast_type = either (begins (words word.Struct)) struct_pointer (either (begins (words word.Void)) void_cast (one_of scalar_casts >>= λ to. pure to))
