-- Runs of no step, of one and of one more.
use Rattle.std.proofs.Common.{◌≡◌, ℕ, ◌+◌, refl, ap, ◌∙◌}
use Rattle.c_tree.specs.declared.program.CProgram.{CProgram}
use Rattle.c_meaning.specs.States.{State}
use Rattle.c_meaning.specs.Steps.{Next, Onward, Ended, Halted, CStep}
use Rattle.c_meaning.specs.Runs.{run_from}
use Rattle.c_meaning.proofs.Later.{run_on}

pub none_more : (c : CProgram) (a : Next) → run_from c 0 a ≡ a
unfolding run_from
none_more c (Onward st) = refl
none_more c (Ended status output calls) = refl
none_more c (Halted kind output) = refl

pub step_once : (c : CProgram) (st : State) → run_from c 1 (Onward st) ≡ CStep c st
unfolding run_from
step_once c st = none_more c (CStep c st)

pub one_more : (c : CProgram) (n : ℕ) (a : Next) (st : State) → run_from c n a ≡ Onward st → run_from c (n + 1) a ≡ CStep c st
one_more c n a st h = run_on c n 1 a ∙ ap (run_from c 1) h ∙ step_once c st
