-- Statements are read, within so many levels.
use Rattle.std.specs.Prelude.{ℕ, zero, suc}
use Rattle.p2c_text.specs.declared.dialect.Dialect.{Dialect}
use Rattle.p2c_text.specs.declared.place.Span.{Span}
use Rattle.dialect_lexer.specs.declared.token.Word.TheVariants as word_
use Rattle.pascal_tree.specs.declared.expressions.Expr.{Expr}
use Rattle.pascal_tree.specs.declared.statements.Plain.{Plain}
use Rattle.pascal_tree.specs.declared.statements.Stmt.{Stmt}
use Rattle.token_parsing.specs.Parser.{Parser, ◌>>=◌, stop, begins, either}
use Rattle.expr_parser.specs.Tokens.{Placed}
use Rattle.expr_parser.specs.Classes.{identifiers, words}
use Rattle.expr_parser.specs.Places.{made}
use Rattle.expr_parser.specs.Expressions.{expr}
use Rattle.expr_parser.specs.Constants.{optional_label}
use Rattle.stmt_parser.specs.Statements.{nothing, goto, named, compound, conditional, while_loop, repeat_loop, for_loop, with_places, try_block, stmt_of}
use Rattle.stmt_parser.specs.Cases.{case_of}

-- what begins with a word, or is empty
unfoldable pub structured : Dialect → Span → Parser Placed Expr → Parser Placed Stmt → Parser Placed Plain
structured d end expr stmt =
    either (begins (words word_.KwBegin)) (compound end stmt)
    (either (begins (words word_.KwIf)) (conditional end expr stmt)
    (either (begins (words word_.KwCase)) (case_of d end expr stmt)
    (either (begins (words word_.KwWhile)) (while_loop end expr stmt)
    (either (begins (words word_.KwRepeat)) (repeat_loop end expr stmt)
    (either (begins (words word_.KwFor)) (for_loop end expr stmt)
    (either (begins (words word_.KwWith)) (with_places end expr stmt)
    (either (begins (words word_.KwTry)) (try_block end stmt) (nothing end))))))))

unfoldable pub plain_by : Dialect → Span → Parser Placed Expr → Parser Placed Stmt → Parser Placed Plain
plain_by d end expr stmt =
    either (begins identifiers) (named d end expr)
    (either (begins (words word_.KwGoto)) (goto d end) (structured d end expr stmt))

-- Stmt = [Label ":"] Plain
unfoldable pub stmt_by : Dialect → Span → Parser Placed Expr → Parser Placed Stmt → Parser Placed Stmt
stmt_by d end expr stmt = λ from. (optional_label d end >>= λ l. plain_by d end expr stmt >>= λ p. made end from (stmt_of l p)) from

-- with so many levels left; a statement is one, above the statements and expressions in it
unfoldable pub stmt : Dialect → Span → ℕ → Parser Placed Stmt
stmt d end zero = stop
stmt d end (suc n) = stmt_by d end (expr d end n) (stmt d end n)
