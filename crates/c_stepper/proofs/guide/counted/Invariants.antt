use Rattle.std.proofs.Common.{◌≡◌, ◌++◌, map, length}
use Rattle.c_stepper.specs.Guides.{is_counted}
use Rattle.c_stepper.proofs.guide.counted.Given as goal

abbrev pub invariant-loop-first : goal.invariant-loop-first
invariant-loop-first l = l.list.items ++ map is_counted l.rest ≡ map is_counted l.fn.functions

abbrev pub decreases-loop-first : goal.decreases-loop-first
decreases-loop-first l = length l.rest
