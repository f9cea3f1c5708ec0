-- The statement `case` is read, where `expr` reads the expressions and `stmt` the statements in it. `end` is the place of the end of the text.
use Rattle.std.specs.Prelude.{Bool, true, false, ◌&&◌, List, [], ◌∷◌, ◌++◌, Option, Some, None}
use Rattle.p2c_text.specs.declared.dialect.Dialect.{Dialect}
use Rattle.p2c_text.specs.declared.place.Span.{Span}
use Rattle.dialect_lexer.specs.declared.token.Word.TheVariants as word_
use Rattle.dialect_lexer.specs.declared.token.Symbol.TheVariants as mark
use Rattle.pascal_tree.specs.declared.constants.CaseLabel.{CaseLabel}
use Rattle.pascal_tree.specs.declared.expressions.Expr.{Expr}
use Rattle.pascal_tree.specs.declared.statements.Plain.{Plain}
use Rattle.pascal_tree.specs.declared.statements.Plain.TheVariants as plain_
use Rattle.pascal_tree.specs.declared.statements.Arm.{Arm, roll-Arm}
use Rattle.pascal_tree.specs.declared.statements.Rest.{Rest, roll-Rest}
use Rattle.pascal_tree.specs.declared.statements.Stmt.{Stmt}
use Rattle.token_parsing.specs.Parser.{Parser, ◌>>=◌, pure, begins, either, repeat, rest}
use Rattle.expr_parser.specs.Tokens.{Placed}
use Rattle.expr_parser.specs.Classes.{words, symbols, expect, expect_word}
use Rattle.expr_parser.specs.Places.{made}
use Rattle.expr_parser.specs.Dialects.{has_rest}
use Rattle.stmt_parser.specs.Writing.{rest_word}
use Rattle.expr_parser.specs.Constants.{begins_constant, case_labels}
use Rattle.stmt_parser.specs.Statements.{between, stmts}

-- ---- arms

abbrev pub arm_of : List CaseLabel → Stmt → Span → Arm
arm_of labels body span = roll-Arm (record { labels = labels; body = body; span = span })

-- Arm = Label1 {"," Label1} ":" Stmt
unfoldable pub arm : Dialect → Span → Parser Placed Stmt → Parser Placed Arm
arm d end stmt = λ from. (case_labels d end >>= λ ls. expect mark.Colon >>= λ _. stmt >>= λ s. made end from (arm_of ls s)) from

-- ";" Arm
unfoldable pub next_arm : Dialect → Span → Parser Placed Stmt → List Arm → Parser Placed (List Arm)
next_arm d end stmt all = expect mark.Semicolon >>= λ _. arm d end stmt >>= λ a. pure (all ++ a ∷ [])

-- a semicolon that is not the one after the last arm
abbrev pub begins_next_arm : List Placed → Bool
begins_next_arm s = begins (symbols mark.Semicolon) s && begins_constant (rest s)

-- {";" Arm}
unfoldable pub more_arms : Dialect → Span → Parser Placed Stmt → List Arm → Parser Placed (List Arm)
more_arms d end stmt = repeat begins_next_arm (next_arm d end stmt)

-- Arm {";" Arm}
unfoldable pub arms : Dialect → Span → Parser Placed Stmt → Parser Placed (List Arm)
arms d end stmt = arm d end stmt >>= λ a. more_arms d end stmt (a ∷ [])

-- [";"]
unfoldable pub optional_semicolon : Parser Placed Bool
optional_semicolon = either (begins (symbols mark.Semicolon)) (expect mark.Semicolon >>= λ _. pure true) (pure false)

-- ---- without a matching label

abbrev pub rest_of : List Stmt → Span → Rest
rest_of body span = roll-Rest (record { body = body; span = span })

-- Rest = "else" Stmts in Turbo, "otherwise" Stmts in HP
unfoldable pub rest_part : Dialect → Span → Parser Placed Stmt → Parser Placed Rest
rest_part d end stmt = λ from. (expect_word (rest_word d) >>= λ _. stmts stmt >>= λ all. made end from (rest_of all)) from

abbrev pub begins_rest : Dialect → List Placed → Bool
begins_rest d s = has_rest d && begins (words (rest_word d)) s

-- [Rest]
unfoldable pub optional_rest : Dialect → Span → Parser Placed Stmt → Parser Placed (Option Rest)
optional_rest d end stmt = either (begins_rest d) (rest_part d end stmt >>= λ r. pure (Some r)) (pure None)

-- ---- the statement

-- "case" Expr "of" Arm {";" Arm} [";"] [Rest] "end"
unfoldable pub case_of : Dialect → Span → Parser Placed Expr → Parser Placed Stmt → Parser Placed Plain
case_of d end expr stmt = λ from. (between word_.KwCase word_.KwOf expr >>= λ e. arms d end stmt >>= λ all. optional_semicolon >>= λ closed. optional_rest d end stmt >>= λ r. expect_word word_.KwEnd >>= λ _. made end from (plain_.Case e all closed r)) from
