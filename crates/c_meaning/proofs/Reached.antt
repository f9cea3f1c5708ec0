-- Every state that a run reaches is a state of its program.
use Rattle.std.proofs.Common.{◌≡◌, ℕ, zero, suc, refl, subst}
use Rattle.c_tree.specs.declared.program.CProgram.{CProgram}
use Rattle.c_meaning.specs.States.{State}
use Rattle.c_meaning.specs.Steps.{Next, Onward, Ended, Halted, CStep}
use Rattle.c_meaning.specs.Runs.{start, run_from}
use Rattle.c_meaning.specs.StateOf.{IsStateOf}
use Rattle.c_meaning.specs.Laws.{ReachedIsState}
use Rattle.c_meaning.proofs.Stays.{start_is_state, state_stays}

abbrev PointOf : CProgram → Next → Type 0
PointOf c (Onward st) = IsStateOf c st
PointOf c (Ended status output calls) = Unit {0}
PointOf c (Halted kind output) = Unit {0}

after_step : (c : CProgram) (st : State) → IsStateOf c st → (a : Next) → CStep c st ≡ a → PointOf c a
after_step c st h (Onward new) e = state_stays c st new h e
after_step c st h (Ended status output calls) e = tt
after_step c st h (Halted kind output) e = tt

after_steps : (c : CProgram) (m : ℕ) (a : Next) (st : State) → PointOf c a → run_from c m a ≡ Onward st → IsStateOf c st
unfolding run_from
after_steps c m (Ended status output calls) st h e = cc
after_steps c m (Halted kind output) st h e = cc
after_steps c zero (Onward old) st h e = let same : old ≡ st = cc in subst (IsStateOf c) same h
after_steps c (suc m) (Onward old) st h e = after_steps c m (CStep c old) st (after_step c old h (CStep c old) refl) e

pub reached_is_state : ReachedIsState
reached_is_state c input m st e = after_steps c m (Onward (start c input)) st (start_is_state c input) e
