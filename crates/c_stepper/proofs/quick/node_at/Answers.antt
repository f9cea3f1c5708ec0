use Rattle.std.proofs.Common.{◌≡◌, ◌+◌, List, Some, Bor, subst}
use Rattle.std.specs.Prelude.{slice_get, IfSome}
use Rattle.c_stepper.specs.declared.resolved.code.Node.{Node}
use Rattle.c_stepper.proofs.Coding.{node_found}
use Rattle.c_stepper.proofs.quick.node_at.Goals as goal

pub returns-in-Some-clause-node : goal.returns-in-Some-clause-node
returns-in-Some-clause-node c =
    node_found c.args.code.now c.args.outer.now c.in-Some.row c.args.at c.node_in.result c.in-Some.ensures
    (subst (λ (ns : List Node). IfSome c.node_in.result (λ (node : Bor Node). slice_get ns (c.in-Some.row.start + c.args.at) ≡ Some node.now)) c.as_slice.ensures.value c.node_in.ensures.node) c.node_in.ensures.within
