-- From the parser of statements to what its answers mean.
use Rattle.std.proofs.Common.{ℕ, false, List, [], arith}
use Rattle.p2c_text.specs.declared.dialect.Dialect.{Dialect}
use Rattle.p2c_text.specs.declared.place.Span.{Span}
use Rattle.pascal_tree.specs.declared.statements.Stmt.{Stmt}
use Rattle.token_parsing.proofs.Fair.{fair_so}
use Rattle.expr_parser.specs.Tokens.{Placed, plain}
use Rattle.expr_parser.specs.Grammar.{AreTokens}
use Rattle.expr_parser.proofs.Layouts.{spell}
use Rattle.expr_parser.proofs.Followed.{Until, Along, Followed}
use Rattle.expr_parser.proofs.FollowedParts.{Part}
use Rattle.expr_parser.proofs.Openings.{whole}
use Rattle.expr_parser.proofs.Spots.{Answer, Reads}
use Rattle.expr_parser.proofs.Longest as longest
use Rattle.expr_parser.proofs.Longest.{first_spot, first_hole}
use Rattle.stmt_parser.specs.Writing.{write_stmt}
use Rattle.stmt_parser.specs.Grammar.{stands_alone}
use Rattle.stmt_parser.specs.Levels.{stmt}
use Rattle.stmt_parser.specs.Laws.{ReadIsLongest, UnexpectedIsAfter, TooDeepIsDeep}
use Rattle.stmt_parser.proofs.Ends.{nothing_ends}
use Rattle.stmt_parser.proofs.FollowedLevels.{stmt_followed}
use Rattle.stmt_parser.proofs.SoundLevels.{stmt_sound}

pub sound : (d : Dialect) (end : Span) (levels outer : ℕ) (from : List Placed) → AreTokens d (plain from)
    → Answer d (write_stmt d) (stands_alone d) end outer levels from (Reads d (write_stmt d) (stands_alone d) end outer levels from (write_stmt d) (stands_alone d) levels from) (stmt d end levels from)
sound d end levels outer from known =
    fair_so (stmt_sound d (write_stmt d) (stands_alone d) end outer levels from known levels whole from (first_spot d (write_stmt d) (stands_alone d) end outer levels from) (first_hole d (write_stmt d) (stands_alone d)) (omega arith))
    (λ x r h. record { written = h.written; formed = h.formed_alone; fits = h.fits })

pub follows : (d : Dialect) (end : Span) (levels : ℕ) (n : Until) (W : Type 0) (x : Stmt) → Part W levels (write_stmt d x) (stands_alone d x) → (s : List Placed) → Along n (spell (write_stmt d x) []) s → Followed n W [] (stmt d end levels s)
follows d end levels n W x part s h = stmt_followed n W d end levels x false part [] nothing_ends s h

pub read_is_longest : ReadIsLongest
read_is_longest d end levels from rest x known is = longest.read_is_longest d (write_stmt d) (stands_alone d) end levels (stmt d end levels) (sound d end levels) (follows d end levels) from rest x known is

pub unexpected_is_after : UnexpectedIsAfter
unexpected_is_after d end levels left from known is = longest.unexpected_is_after d (write_stmt d) (stands_alone d) end levels (stmt d end levels) (sound d end levels) (follows d end levels) left from known is

pub too_deep_is_deep : TooDeepIsDeep
too_deep_is_deep d end outer levels left from known is = longest.too_deep_is_deep d (write_stmt d) (stands_alone d) end levels (stmt d end levels) (sound d end levels) (follows d end levels) outer left from known is
