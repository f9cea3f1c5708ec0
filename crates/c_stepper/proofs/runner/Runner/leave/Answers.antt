use Rattle.std.proofs.Common.{◌≡◌, ◌∙◌, ◌∷◌, [], sym, ap, subst, List}
use Rattle.std.specs.Option.{option_map}
use Rattle.c_meaning.specs.States as s
use Rattle.c_meaning.specs.States.{State}
use Rattle.c_meaning.specs.Steps.{next, leave, leave_to}
use Rattle.c_stepper.specs.declared.runner.Frame.{Frame}
use Rattle.c_stepper.specs.Runners.{state_of, frame_of, frames_of, Acts}
use Rattle.c_stepper.specs.Leaving.{given_of}
use Rattle.c_stepper.proofs.Entering.{frames_push}
use Rattle.c_stepper.proofs.runner.Runner.leave.Goals as goal

pub returns-in-Some-clause-act : goal.returns-in-Some-clause-act
unfolding leave leave_to next
returns-in-Some-clause-act c = λ input output calls.
    let p = c.args.program.now in
    let old = c.args.self.now in
    let st : State = state_of p old input output calls in
    let answer = option_map given_of c.args.answer.now in
    let below : frames_of p old.below.items [] ≡ frame_of p c.in-Some.frame ∷ frames_of p c.last_frame.new.below.items [] = ap (λ (fs : List Frame). frames_of p fs []) c.in-Some.ensures ∙ frames_push p c.last_frame.new.below.items c.in-Some.frame [] in
    subst (λ (fs : List s.Frame). Acts p c.leave_to.new.self input output calls c.leave_to.result (leave_to p st fs answer)) (sym below) (c.leave_to.ensures.act input output calls)

pub returns-in-None-clause-act : goal.returns-in-None-clause-act
unfolding leave
returns-in-None-clause-act c = λ input output calls.
    let p = c.args.program.now in
    let old = c.args.self.now in
    let st : State = state_of p old input output calls in
    let answer = option_map given_of c.args.answer.now in
    let below : frames_of p old.below.items [] ≡ [] = ap (λ (fs : List Frame). frames_of p fs []) c.in-None.ensures.0 in
    subst (λ (fs : List s.Frame). Acts p (record old { below = c.last_frame.new.below }) input output calls c.end.result (leave_to p st fs answer)) (sym below) (c.end.ensures p st)
