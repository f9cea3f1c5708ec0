use Rattle.std.proofs.Common.{◌≡◌, drop}
use Rattle.c_meaning.specs.States.{global_from}
use Rattle.c_evaluation.proofs.lookup.variable_at.Given as goal

abbrev pub invariant-loop-i : goal.invariant-loop-i
invariant-loop-i l = global_from l.i l.name (drop l.i l.variables) ≡ global_from 0 l.fn.name l.fn.variables
