use Rattle.std.proofs.Common.{◌<◌, ◌≤◌, ◌-◌}
use Rattle.c_stepper.specs.declared.guide.Guide.{Guide}
use Rattle.c_stepper.specs.Quick.{IsCodeOf, IsRowAt, QuickSteps}
use Rattle.c_stepper.proofs.quick.dash.Given as goal

abbrev pub invariant-loop-taken : goal.invariant-loop-taken
invariant-loop-taken l = record {
  row : 0 < l.row.count → IsRowAt l.fn.code l.frame.spot.outer.items l.row;
  steps : (guide : Guide) → IsCodeOf guide.code l.fn.frame.function l.fn.code → QuickSteps l.taken guide l.fn.frame l.frame l.fn.memory l.memory;
  most : l.taken ≤ l.fn.most;
}

abbrev pub decreases-loop-taken : goal.decreases-loop-taken
decreases-loop-taken l = l.fn.most - l.taken
