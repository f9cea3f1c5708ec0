use Rattle.std.proofs.Common.{◌+◌, sym, subst}
use Rattle.std.specs.Option.{option_map}
use Rattle.c_tree.specs.Tree as t
use Rattle.c_meaning.specs.Evaluate.{View}
use Rattle.c_meaning.specs.States.{State}
use Rattle.c_meaning.specs.Steps.{do_statement, returned}
use Rattle.c_stepper.specs.Spots.{todo_at}
use Rattle.c_stepper.specs.Runners.{state_of, runner_view, body_at, Acts}
use Rattle.c_stepper.specs.Leaving.{given_of}
use Rattle.c_stepper.proofs.Acting.{stops}
use Rattle.c_stepper.proofs.Leaving.{gives, gives_none}
use Rattle.c_stepper.proofs.runner.Runner.give.Goals as goal

pub returns-in_err-answer-clause-act : goal.returns-in_err-answer-clause-act
returns-in_err-answer-clause-act c = λ input output calls.
    let p = c.args.program.now in
    let old = c.args.self.now in
    let v : View = runner_view p old in
    let st : State = state_of p old input output calls in
    let rest = todo_at (body_at p old.frame) old.frame.spot.outer.items (old.frame.spot.at + 1) in
    let a = c.args.e.now in
    stops (option_map given_of) p old input output calls c.in_err-answer.field-0.0 c.from_residual.result (returned v st.frame.result a) (do_statement p v st rest (t.Return a)) c.from_residual.ensures.1 c.in_err-answer.ensures (λ kind h. gives_none p v st rest a kind h)

pub returns-clause-act : goal.returns-clause-act
returns-clause-act c = λ input output calls.
    let p = c.args.program.now in
    let old = c.args.self.now in
    let v : View = runner_view p old in
    let st : State = state_of p old input output calls in
    let rest = todo_at (body_at p old.frame) old.frame.spot.outer.items (old.frame.spot.at + 1) in
    let a = c.args.e.now in
    let answer = option_map given_of c.in_ok-answer.answer in
    subst (Acts p c.leave.new.self input output calls c.leave.result) (sym (gives p v st rest a answer (sym c.in_ok-answer.ensures))) (c.leave.ensures.act input output calls)
