use Rattle.std.proofs.Common.{◌+◌, ◌*◌, max}
use Rattle.c_evaluation.specs.declared.numbers.Number.{size-Number}
use Rattle.c_evaluation.proofs.numbers.+evaluated.Given as goal

abbrev pub decreases-evaluated : goal.decreases-evaluated
decreases-evaluated l = 2 * size-Number l.number.now

abbrev pub decreases-evaluated_two : goal.decreases-evaluated_two
decreases-evaluated_two l = 2 * max (size-Number l.a.now) (size-Number l.b.now) + 1
