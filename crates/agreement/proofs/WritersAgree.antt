-- The two follow each other.
use Rattle.std.proofs.Common.{◌≡◌, ℕ, suc, List, [], length, sym, ap, ◌∙◌}
use Rattle.p2c_text.specs.declared.dialect.Dialect.{Dialect}
use Rattle.c_meaning.specs.Runs as run
use Rattle.c_meaning.specs.Runs.{CAnswer, CRun}
use Rattle.c_meaning.specs.Follows.{PascalAnswer, End, Cut, Undefined, Malformed}
use Rattle.c_meaning.proofs.Backward.{follows_by_three}
use Rattle.agreement.specs.Agrees.{pascal, told}
use Rattle.agreement.specs.Laws.{WritersFollow}
use Rattle.agreement.specs.Writers.{Writing, all_bytes, typed_writer, writer_of}
use Rattle.agreement.proofs.WriterRuns.{writes}
use Rattle.agreement.proofs.WriterMeans.{means}

-- the same answer of C
abbrev same : PascalAnswer → CAnswer
same (End output status calls) = run.End output status calls
same (Cut output calls) = run.Going output calls
same (Undefined output calls) = run.Going output calls
same (Malformed output calls) = run.Going output calls

-- the only answer of a program that writes texts
only : (d : Dialect) (ws : List Writing) (input : List ℕ) (n : ℕ) → pascal (typed_writer d ws) input n ≡ End (all_bytes ws) 0 []
only d ws input n = ap told (means d ws input n)

pub writers_follow : WritersFollow
writers_follow d ws h input = follows_by_three (pascal (typed_writer d ws) input) (writer_of (all_bytes ws)) input
    (λ n output calls e. absurd (let k = sym (only d ws input n) ∙ e in cc))
    (λ n output status calls e. (suc (length (all_bytes ws)), writes (all_bytes ws) input h ∙ ap same (sym (only d ws input n) ∙ e)))
    (λ n output calls e. absurd (let k = sym (only d ws input n) ∙ e in cc))
    (λ n output calls e. absurd (let k = sym (only d ws input n) ∙ e in cc))
