-- Statements with their tokens, runs of tokens with which a statement begins, and where in one a node of some level may begin.
use Rattle.std.specs.Prelude.{ℕ, List}
use Rattle.p2c_text.specs.declared.dialect.Dialect.{Dialect}
use Rattle.p2c_text.specs.declared.place.Span.{Span}
use Rattle.pascal_tree.specs.declared.statements.Stmt.{Stmt}
use Rattle.expr_parser.specs.Tokens.{Token, Placed}
use Rattle.expr_parser.specs.Text.{IsDerived, MayBeginIn, IsLongest, NoTree, NoneFits}
use Rattle.stmt_parser.specs.Writing.{write_stmt}
use Rattle.stmt_parser.specs.Grammar.{stands_alone}

-- the statement is that of the tokens `from` up to `rest`, and has no more levels than this
abbrev pub Derives : Dialect → Span → ℕ → Stmt → List Placed → List Placed → Type 0
Derives d end levels s from rest = IsDerived d (write_stmt d) (stands_alone d) end levels s from rest

abbrev pub MayBegin : Dialect → (outer level : ℕ) → List Token → Type 0
MayBegin d outer level front = MayBeginIn d (write_stmt d) (stands_alone d) outer level front

abbrev pub IsLongestRun : Dialect → (from run rest : List Placed) → Type 0
IsLongestRun d from run rest = IsLongest d (write_stmt d) (stands_alone d) from run rest

abbrev pub NoStmt : Dialect → List Placed → Type 0
NoStmt d run = NoTree d (write_stmt d) (stands_alone d) run

abbrev pub NoFitting : Dialect → (levels : ℕ) → List Placed → Type 0
NoFitting d levels from = NoneFits d (write_stmt d) (stands_alone d) levels from
