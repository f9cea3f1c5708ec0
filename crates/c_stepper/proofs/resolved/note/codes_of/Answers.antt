use Rattle.c_stepper.proofs.Noting.{next_code}
use Rattle.c_stepper.proofs.resolved.note.codes_of.Goals as goal

pub loop-first-preserved : goal.loop-first-preserved
loop-first-preserved c = next_code c.args.program.now c.args.functions.now c.loop-first.rest.now c.in-Some.after.now c.loop-first.codes.items _ c.in-Some.first.now c.in_ok-code_of_function.field-0
    c.loop-first.invariant c.in-Some.ensures.cases.0 c.in_ok-push.ensures.items c.in_ok-code_of_function.ensures
