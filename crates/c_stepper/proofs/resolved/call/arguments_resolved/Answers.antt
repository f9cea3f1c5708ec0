use Rattle.std.proofs.Common.{Option, subst}
use Rattle.std.specs.Prelude.{IfSome}
use Rattle.c_evaluation.specs.declared.numbers.Number.{Number}
use Rattle.c_evaluation.specs.Numbers.{variables_of, Resolves}
use Rattle.c_stepper.proofs.Resolving.{next_argument, all_arguments}
use Rattle.c_stepper.proofs.resolved.call.arguments_resolved.Goals as goal

pub loop-first-preserved : goal.loop-first-preserved
loop-first-preserved c =
    let p = c.args.names.now.program.now in
    let vars = variables_of c.args.names.now in
    let is = subst (λ (o : Option Number). IfSome o (λ (n : Number). Resolves p vars n c.in-Some.first.now)) c.in-Some-2.is c.in_ok-number.ensures in
    next_argument p vars c.args.arguments.now c.loop-first.rest.now c.in-Some.after.now c.loop-first.numbers.items _ c.in-Some.first.now c.in-Some-2.number c.loop-first.invariant c.in-Some.ensures.cases.0 c.in_ok-push.ensures.items is

pub returns : goal.returns
returns c = all_arguments c.args.names.now.program.now (variables_of c.args.names.now) c.args.arguments.now c.loop-first.rest.now c.loop-first.numbers.items c.loop-first.invariant c.in_default.ensures.cases
