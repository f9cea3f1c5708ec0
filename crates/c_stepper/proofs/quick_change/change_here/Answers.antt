use Rattle.std.proofs.Common.{Option, subst}
use Rattle.std.specs.Prelude.{IfSome}
use Rattle.c_stepper.specs.declared.runner.Target.{Target}
use Rattle.c_stepper.specs.Calls.{entry_with}
use Rattle.c_stepper.specs.QuickCalls.{Entering}
use Rattle.c_stepper.proofs.QuickCalling.{enters}
use Rattle.c_stepper.proofs.quick_change.change_here.Goals as goal

pub returns-in-Some-2 : goal.returns-in-Some-2
returns-in-Some-2 c =
    let f = c.args.frame.now in
    let blocks = c.args.memory.now in
    let call = c.in-Call.call in
    let entry = entry_with call.function c.in-Some-2.target c.entering.new.parameters.items in
    let entering = subst (λ (o : Option Target). IfSome o (λ target. Entering f blocks call (entry_with call.function target c.entering.new.parameters.items))) c.in-Some-2.is c.in_ok-target-in-Call.ensures in
    (enters c.args.guide.now f blocks c.in-Some.node.now call entry c.in-Some.ensures c.in-Call.is entering, c.requires.small)
