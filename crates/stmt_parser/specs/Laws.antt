-- Laws of the parser of statements.
use Rattle.std.specs.Prelude.{◌≡◌, ℕ, ◌+◌, List, ◌++◌, length, Ok, Err}
use Rattle.p2c_text.specs.declared.dialect.Dialect.{Dialect}
use Rattle.p2c_text.specs.declared.place.Span.{Span}
use Rattle.pascal_tree.specs.declared.statements.Stmt.{Stmt}
use Rattle.token_parsing.specs.declared.refusal.Refusal.TheVariants.{Unexpected, TooDeep}
use Rattle.expr_parser.specs.Tokens.{Placed, plain}
use Rattle.expr_parser.specs.Grammar.{AreTokens}
use Rattle.expr_parser.specs.Text.{AreUnique, ReadsLongest}
use Rattle.stmt_parser.specs.Writing.{write_stmt}
use Rattle.stmt_parser.specs.Grammar.{stands_alone}
use Rattle.stmt_parser.specs.Text.{Derives, MayBegin, IsLongestRun, NoStmt, NoFitting}
use Rattle.stmt_parser.specs.Levels.{stmt}

-- What is read is the longest run with which a statement begins, and its tree.
abbrev pub ReadIsLongest : Type 0
ReadIsLongest = (d : Dialect) (end : Span) (levels : ℕ) (from rest : List Placed) (s : Stmt) → AreTokens d (plain from) → stmt d end levels from ≡ Ok (s, rest)
    → Derives d end levels s from rest × (run : List Placed) × IsLongestRun d from run rest

-- An unexpected token is the one after the longest run, which is no statement.
abbrev pub UnexpectedIsAfter : Type 0
UnexpectedIsAfter = (d : Dialect) (end : Span) (levels left : ℕ) (from : List Placed) → AreTokens d (plain from) → stmt d end levels from ≡ Err (Unexpected left)
    → (run rest : List Placed) × IsLongestRun d from run rest × (length rest ≡ left) × NoStmt d run

-- Where something is too deep, a node of the next level may begin there, and the longest run has no tree within the levels.
abbrev pub TooDeepIsDeep : Type 0
TooDeepIsDeep = (d : Dialect) (end : Span) (outer levels left : ℕ) (from : List Placed) → AreTokens d (plain from) → stmt d end levels from ≡ Err (TooDeep left)
    → ((front bad : List Placed) × (from ≡ front ++ bad) × (length bad ≡ left) × MayBegin d outer (outer + levels) (plain front))
    × NoFitting d levels from

-- A statement's tokens have one tree.
abbrev pub TreeIsUnique : Type 0
TreeIsUnique = AreUnique write_stmt stands_alone

-- Where the longest run has a tree within the levels, that tree is read.
abbrev pub LongestIsRead : Type 0
LongestIsRead = ReadsLongest write_stmt stands_alone stmt
