use Rattle.c_stepper.proofs.Coding.{leaves}
use Rattle.c_stepper.proofs.quick.place_after.Goals as goal

pub returns-in-Some-node_at : goal.returns-in-Some-node_at
returns-in-Some-node_at c =
    leaves c.args.code.now c.args.outer.now c.in-Some.above.now c.in-Some.level.now c.in-Some-node_at.node.now c.after.result c.in-Some.ensures.cases.0 c.in-Some-node_at.ensures.node c.after.ensures
