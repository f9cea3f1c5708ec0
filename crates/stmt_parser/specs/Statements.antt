-- Statements are read, where `expr` reads the expressions and `stmt` the statements in them. `end` is the place of the end of the text.
use Rattle.std.specs.Prelude.{Bool, ◌||◌, List, [], ◌∷◌, ◌++◌, Option, Some, None}
use Rattle.p2c_text.specs.declared.dialect.Dialect.{Dialect}
use Rattle.p2c_text.specs.declared.place.Span.{Span}
use Rattle.dialect_lexer.specs.declared.token.Word.{Word as WordSymbol}
use Rattle.dialect_lexer.specs.declared.token.Word.TheVariants as word_
use Rattle.dialect_lexer.specs.declared.token.Symbol.TheVariants as mark
use Rattle.pascal_tree.specs.declared.names.Identifier.{Identifier}
use Rattle.pascal_tree.specs.declared.names.Label.{Label}
use Rattle.pascal_tree.specs.declared.expressions.Expr.{Expr}
use Rattle.pascal_tree.specs.declared.expressions.Place.{Place}
use Rattle.pascal_tree.specs.declared.statements.Direction.{Direction}
use Rattle.pascal_tree.specs.declared.statements.Plain.{Plain}
use Rattle.pascal_tree.specs.declared.statements.Plain.TheVariants as plain_
use Rattle.pascal_tree.specs.declared.statements.Stmt.{Stmt, roll-Stmt}
use Rattle.token_parsing.specs.Parser.{Parser, ◌>>=◌, pure, one_of, begins, either, repeat}
use Rattle.expr_parser.specs.Tokens.{Placed}
use Rattle.expr_parser.specs.Classes.{identifiers, words, symbols, expect, expect_word}
use Rattle.expr_parser.specs.Places.{made, begins_selector, place_from, place, args}
use Rattle.stmt_parser.specs.Classes.{directions}
use Rattle.expr_parser.specs.Constants.{label}
use Rattle.stmt_parser.specs.declared.headers.Limits.{Limits}

-- word Expr word
unfoldable pub between : WordSymbol → WordSymbol → Parser Placed Expr → Parser Placed Expr
between opening closing expr = expect_word opening >>= λ _. expr >>= λ e. expect_word closing >>= λ _. pure e

-- ---- statements with semicolons between them

-- ";" Stmt
unfoldable pub next_stmt : Parser Placed Stmt → List Stmt → Parser Placed (List Stmt)
next_stmt stmt all = expect mark.Semicolon >>= λ _. stmt >>= λ s. pure (all ++ s ∷ [])

-- {";" Stmt}
unfoldable pub more_stmts : Parser Placed Stmt → List Stmt → Parser Placed (List Stmt)
more_stmts stmt = repeat (begins (symbols mark.Semicolon)) (next_stmt stmt)

-- Stmts = Stmt {";" Stmt}
unfoldable pub stmts : Parser Placed Stmt → Parser Placed (List Stmt)
stmts stmt = stmt >>= λ s. more_stmts stmt (s ∷ [])

-- ---- without statements in them

unfoldable pub nothing : Span → Parser Placed Plain
nothing end = λ from. made end from plain_.Nothing from

-- "goto" Label
unfoldable pub goto : Dialect → Span → Parser Placed Plain
goto d end = λ from. (expect_word word_.KwGoto >>= λ _. label d end >>= λ l. made end from (plain_.Goto l)) from

-- Place ":=" Expr, of which the name stands at the tokens `from`
unfoldable pub assignment : Span → Parser Placed Expr → List Placed → Identifier → Parser Placed Plain
assignment end expr from n = place_from end expr from n >>= λ p. expect mark.Assign >>= λ _. expr >>= λ e. made end from (plain_.Assign p e)

-- Id Args
unfoldable pub call_with : Dialect → Span → Parser Placed Expr → List Placed → Identifier → Parser Placed Plain
call_with d end expr from n = args d end expr >>= λ a. made end from (plain_.Call n (Some a))

-- Id
abbrev pub call_alone : Span → List Placed → Identifier → Parser Placed Plain
call_alone end from n = made end from (plain_.Call n None)

-- what goes on after the name of an assignment
abbrev pub begins_target : List Placed → Bool
begins_target s = begins_selector s || begins (symbols mark.Assign) s

unfoldable pub after_name : Dialect → Span → Parser Placed Expr → List Placed → Identifier → Parser Placed Plain
after_name d end expr from n = either (begins (symbols mark.Open)) (call_with d end expr from n) (either begins_target (assignment end expr from n) (call_alone end from n))

-- Place ":=" Expr | Id [Args]
unfoldable pub named : Dialect → Span → Parser Placed Expr → Parser Placed Plain
named d end expr = λ from. (one_of identifiers >>= λ n. after_name d end expr from n) from

-- ---- with statements in them

-- "begin" Stmts "end"
unfoldable pub compound : Span → Parser Placed Stmt → Parser Placed Plain
compound end stmt = λ from. (expect_word word_.KwBegin >>= λ _. stmts stmt >>= λ all. expect_word word_.KwEnd >>= λ _. made end from (plain_.Compound all)) from

-- ["else" Stmt]
unfoldable pub optional_else : Parser Placed Stmt → Parser Placed (Option Stmt)
optional_else stmt = either (begins (words word_.KwElse)) (expect_word word_.KwElse >>= λ _. stmt >>= λ s. pure (Some s)) (pure None)

-- "if" Expr "then" Stmt ["else" Stmt]
unfoldable pub conditional : Span → Parser Placed Expr → Parser Placed Stmt → Parser Placed Plain
conditional end expr stmt = λ from. (between word_.KwIf word_.KwThen expr >>= λ c. stmt >>= λ a. optional_else stmt >>= λ b. made end from (plain_.If c a b)) from

-- "while" Expr "do" Stmt
unfoldable pub while_loop : Span → Parser Placed Expr → Parser Placed Stmt → Parser Placed Plain
while_loop end expr stmt = λ from. (between word_.KwWhile word_.KwDo expr >>= λ c. stmt >>= λ s. made end from (plain_.While c s)) from

-- "repeat" Stmts "until" Expr
unfoldable pub repeat_loop : Span → Parser Placed Expr → Parser Placed Stmt → Parser Placed Plain
repeat_loop end expr stmt = λ from. (expect_word word_.KwRepeat >>= λ _. stmts stmt >>= λ all. expect_word word_.KwUntil >>= λ _. expr >>= λ c. made end from (plain_.Repeat all c)) from

abbrev pub limits_of : Expr → Direction → Expr → Limits
limits_of first direction last = record { first = first; direction = direction; last = last }

-- ":=" Expr ("to" | "downto") Expr "do"
unfoldable pub limits : Parser Placed Expr → Parser Placed Limits
limits expr = expect mark.Assign >>= λ _. expr >>= λ a. one_of directions >>= λ w. expr >>= λ b. expect_word word_.KwDo >>= λ _. pure (limits_of a w b)

-- "for" Id ":=" Expr ("to" | "downto") Expr "do" Stmt
unfoldable pub for_loop : Span → Parser Placed Expr → Parser Placed Stmt → Parser Placed Plain
for_loop end expr stmt = λ from. (expect_word word_.KwFor >>= λ _. one_of identifiers >>= λ n. limits expr >>= λ l. stmt >>= λ s. made end from (plain_.For n l.first l.direction l.last s)) from

-- "," Place
unfoldable pub next_place : Span → Parser Placed Expr → List Place → Parser Placed (List Place)
next_place end expr all = expect mark.Comma >>= λ _. place end expr >>= λ p. pure (all ++ p ∷ [])

-- {"," Place}
unfoldable pub more_places : Span → Parser Placed Expr → List Place → Parser Placed (List Place)
more_places end expr = repeat (begins (symbols mark.Comma)) (next_place end expr)

-- Place {"," Place}
unfoldable pub places : Span → Parser Placed Expr → Parser Placed (List Place)
places end expr = place end expr >>= λ p. more_places end expr (p ∷ [])

-- "with" Place {"," Place} "do" Stmt
unfoldable pub with_places : Span → Parser Placed Expr → Parser Placed Stmt → Parser Placed Plain
with_places end expr stmt = λ from. (expect_word word_.KwWith >>= λ _. places end expr >>= λ all. expect_word word_.KwDo >>= λ _. stmt >>= λ s. made end from (plain_.With all s)) from

-- "try" Stmts "recover" Stmt
unfoldable pub try_block : Span → Parser Placed Stmt → Parser Placed Plain
try_block end stmt = λ from. (expect_word word_.KwTry >>= λ _. stmts stmt >>= λ all. expect_word word_.KwRecover >>= λ _. stmt >>= λ s. made end from (plain_.Try all s)) from

abbrev pub stmt_of : Option Label → Plain → Span → Stmt
stmt_of l p span = roll-Stmt (record { label = l; plain = p; span = span })
