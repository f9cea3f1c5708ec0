-- What the C program that writes bytes does.
use Rattle.std.proofs.Common.{◌≡◌, ℕ, suc, ◌<◌, true, List, [], ◌∷◌, ◌++◌, length, Some, refl, sym, ap, ◌∙◌, append_assoc, append-nil, arith}
use Rattle.std.specs.Prelude.{map, nat_lt}
use Rattle.std.specs.List.{AllByRecursion}
use Rattle.c_tree.specs.Tree as t
use Rattle.c_tree.specs.Tree.{Statement}
use Rattle.c_tree.specs.declared.program.CProgram.{CProgram}
use Rattle.c_meaning.specs.States.{State}
use Rattle.c_meaning.specs.Steps.{Onward, Ended, CStep}
use Rattle.c_meaning.specs.Runs.{End, start, run_from, answer_of, CRun}
use Rattle.c_meaning.specs.Whole.{step}
use Rattle.agreement.specs.Laws.{IsByte}
use Rattle.agreement.specs.Writers.{put_of, writer_of}

abbrev last : Statement
last = t.Return (Some (t.Number 0))

-- the state in which these bytes are still to be written
abbrev at : CProgram → (input output : List ℕ) → List Statement → State
at c input output todo = let st = start c input in let f = st.frame in record st { frame = record f { todo = todo }; output = output }

is_less : (b : ℕ) → b < 256 → nat_lt b 256 ≡ true
is_less b h = grind arith

-- one byte
puts : (bytes input output : List ℕ) (todo : List Statement) (b : ℕ) → b < 256
    → CStep (writer_of bytes) (at (writer_of bytes) input output (put_of b ∷ todo)) ≡ Onward (at (writer_of bytes) input (output ++ b ∷ []) todo)
unfolding step start
puts bytes input output todo b h = rw (is_less b h) refl

ends : (bytes input output : List ℕ) → CStep (writer_of bytes) (at (writer_of bytes) input output (last ∷ [])) ≡ Ended 0 output []
unfolding step start
ends bytes input output = refl

-- all of them, and the end
writes_on : (all input output bytes : List ℕ) → AllByRecursion IsByte bytes
    → run_from (writer_of all) (suc (length bytes)) (Onward (at (writer_of all) input output (map put_of bytes ++ last ∷ []))) ≡ Ended 0 (output ++ bytes) []
unfolding run_from
writes_on all input output [] h = ap (run_from (writer_of all) 0) (ends all input output) ∙ ap (λ o. Ended 0 o []) (sym (append-nil output))
writes_on all input output (b ∷ bytes) h =
    ap (run_from (writer_of all) (suc (length bytes))) (puts all input output (map put_of bytes ++ last ∷ []) b h.0)
    ∙ writes_on all input (output ++ b ∷ []) bytes h.1 ∙ ap (λ o. Ended 0 o []) (append_assoc output (b ∷ []) bytes)

pub writes : (bytes input : List ℕ) → AllByRecursion IsByte bytes → CRun (writer_of bytes) input (suc (length bytes)) ≡ End bytes 0 []
unfolding CRun answer_of start
writes bytes input h = ap answer_of (writes_on bytes input [] bytes h)
