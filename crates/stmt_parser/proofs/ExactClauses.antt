-- From what is read of a statement that is written to the one tree of its tokens.
use Rattle.std.proofs.Common.{◌≡◌, ℕ, false, List, [], Ok}
use Rattle.p2c_text.specs.declared.dialect.Dialect.{Dialect}
use Rattle.p2c_text.specs.declared.place.Span.{Span}
use Rattle.pascal_tree.specs.declared.statements.Stmt.{Stmt}
use Rattle.expr_parser.specs.Tokens.{Placed}
use Rattle.expr_parser.specs.Layout.{IsWritten}
use Rattle.expr_parser.proofs.FollowedParts.{Part}
use Rattle.expr_parser.proofs.Unique as unique
use Rattle.stmt_parser.specs.Writing.{write_stmt}
use Rattle.stmt_parser.specs.Grammar.{stands_alone}
use Rattle.stmt_parser.specs.Levels.{stmt}
use Rattle.stmt_parser.specs.Laws.{TreeIsUnique, LongestIsRead}
use Rattle.stmt_parser.proofs.Ends.{nothing_ends}
use Rattle.stmt_parser.proofs.Clauses.{sound, follows}
use Rattle.stmt_parser.proofs.ExactLevels.{stmt_exact}

pub exact : (d : Dialect) (end : Span) (levels : ℕ) (x : Stmt) → Part (Unit {0}) levels (write_stmt d x) (stands_alone d x) → (s : List Placed) → IsWritten end (write_stmt d x) s [] → stmt d end levels s ≡ Ok (x, [])
exact d end levels x part s h = stmt_exact d end levels x false part s [] h nothing_ends

pub tree_is_unique : TreeIsUnique
tree_is_unique d end m n a b from rest h k = unique.derived_is_unique d (write_stmt d) (stands_alone d) (stmt d) (exact d) end m n a b from rest h k

pub longest_is_read : LongestIsRead
longest_is_read d end levels from run rest x known longest tree =
    unique.longest_is_read d (write_stmt d) (stands_alone d) (stmt d) (exact d) end levels (sound d end levels) (follows d end levels) from run rest x known longest tree
