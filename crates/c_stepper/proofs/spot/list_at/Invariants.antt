use Rattle.std.proofs.Common.{◌≡◌, drop}
use Rattle.c_stepper.specs.Spots.{list_in}
use Rattle.c_stepper.proofs.spot.list_at.Given as goal

abbrev pub invariant-loop-level : goal.invariant-loop-level
invariant-loop-level l = list_in l.list (drop l.level-index l.outer) ≡ list_in l.fn.body l.outer
