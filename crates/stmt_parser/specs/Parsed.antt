-- What a call of the parser answers.
use Rattle.std.specs.Prelude.{ℕ, List, Result}
use Rattle.p2c_text.specs.declared.dialect.Dialect.{Dialect}
use Rattle.dialect_lexer.specs.FileTokens.{FileTokens}
use Rattle.pascal_tree.specs.declared.statements.Stmt.{Stmt}
use Rattle.expr_parser.specs.declared.fault.SyntaxFault.{SyntaxFault}
use Rattle.expr_parser.specs.Parsed.{IsReadAs}
use Rattle.stmt_parser.specs.Writing.{write_stmt}
use Rattle.stmt_parser.specs.Grammar.{stands_alone}

-- what a statement is read as
abbrev pub IsRead : Dialect → List ℕ → FileTokens → (at level : ℕ) → Result (Stmt × ℕ) SyntaxFault → Type 0
IsRead d bytes list at level result = IsReadAs d (write_stmt d) (stands_alone d) bytes list at level result
