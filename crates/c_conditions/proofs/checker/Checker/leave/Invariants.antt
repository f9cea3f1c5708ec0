use Rattle.std.proofs.Common.{◌≡◌, length}
use Rattle.c_tree.specs.Tree.{body_of}
use Rattle.c_conditions.specs.StatementSteps.{leave}
use Rattle.c_conditions.specs.World.{seen}
use Rattle.c_conditions.proofs.checker.Checker.leave.Given as goal

abbrev pub invariant-loop-rest : goal.invariant-loop-rest
invariant-loop-rest l = leave (body_of l.fn.list) (seen l.initial.self) ≡ leave (body_of l.rest) (seen l.self)

abbrev pub decreases-loop-rest : goal.decreases-loop-rest
decreases-loop-rest l = length l.rest
