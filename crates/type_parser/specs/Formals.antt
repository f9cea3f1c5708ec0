-- Formal parameters are read, where `formals` reads those of formal parameters. `end` is the place of the end of the text.
use Rattle.std.specs.Prelude.{Bool, true, false, List, [], ◌∷◌, ◌++◌, Option, Some, None}
use Rattle.p2c_text.specs.declared.place.Span.{Span}
use Rattle.dialect_lexer.specs.declared.token.Word.TheVariants as word_
use Rattle.dialect_lexer.specs.declared.token.Symbol.TheVariants as mark
use Rattle.pascal_tree.specs.declared.types.TypeName.{TypeName}
use Rattle.pascal_tree.specs.declared.declarations.Formal.{Formal}
use Rattle.pascal_tree.specs.declared.declarations.Formal.TheVariants as formal_
use Rattle.pascal_tree.specs.declared.declarations.Formals.{Formals, roll-Formals}
use Rattle.token_parsing.specs.Parser.{Parser, ◌>>=◌, pure, one_of, begins, either, repeat}
use Rattle.expr_parser.specs.Tokens.{Placed}
use Rattle.expr_parser.specs.Classes.{identifiers, words, symbols, expect, expect_word}
use Rattle.expr_parser.specs.Places.{made}
use Rattle.type_parser.specs.Names.{names, type_name}

-- [Formals]
unfoldable pub optional_formals : Parser Placed Formals → Parser Placed (Option Formals)
optional_formals formals = either (begins (symbols mark.Open)) (formals >>= λ f. pure (Some f)) (pure None)

-- ["var"]
unfoldable pub optional_var : Parser Placed Bool
optional_var = either (begins (words word_.KwVar)) (expect_word word_.KwVar >>= λ _. pure true) (pure false)

-- ":" TypeName
unfoldable pub result : Span → Parser Placed TypeName
result end = expect mark.Colon >>= λ _. type_name end

-- ["var"] Ids ":" TypeName
unfoldable pub variables : Span → Parser Placed Formal
variables end = λ from. (optional_var >>= λ r. names >>= λ ns. result end >>= λ t. made end from (formal_.Variables r ns t)) from

-- "procedure" Id [Formals]
unfoldable pub procedure : Span → Parser Placed Formals → Parser Placed Formal
procedure end formals = λ from. (expect_word word_.KwProcedure >>= λ _. one_of identifiers >>= λ n. optional_formals formals >>= λ f. made end from (formal_.Procedure n f)) from

-- "function" Id [Formals] ":" TypeName
unfoldable pub function : Span → Parser Placed Formals → Parser Placed Formal
function end formals = λ from. (expect_word word_.KwFunction >>= λ _. one_of identifiers >>= λ n. optional_formals formals >>= λ f. result end >>= λ t. made end from (formal_.Function n f t)) from

unfoldable pub formal : Span → Parser Placed Formals → Parser Placed Formal
formal end formals = either (begins (words word_.KwProcedure)) (procedure end formals) (either (begins (words word_.KwFunction)) (function end formals) (variables end))

-- ";" Formal
unfoldable pub next_formal : Span → Parser Placed Formals → List Formal → Parser Placed (List Formal)
next_formal end formals all = expect mark.Semicolon >>= λ _. formal end formals >>= λ f. pure (all ++ f ∷ [])

-- {";" Formal}
unfoldable pub more_formals : Span → Parser Placed Formals → List Formal → Parser Placed (List Formal)
more_formals end formals = repeat (begins (symbols mark.Semicolon)) (next_formal end formals)

-- Formal {";" Formal}
unfoldable pub listed_formals : Span → Parser Placed Formals → Parser Placed (List Formal)
listed_formals end formals = formal end formals >>= λ f. more_formals end formals (f ∷ [])

abbrev pub formals_of : List Formal → Span → Formals
formals_of all span = roll-Formals (record { list = all; span = span })

-- Formals = "(" Formal {";" Formal} ")"
unfoldable pub formals_by : Span → Parser Placed Formals → Parser Placed Formals
formals_by end formals = λ from. (expect mark.Open >>= λ _. listed_formals end formals >>= λ all. expect mark.Close >>= λ _. made end from (formals_of all)) from
