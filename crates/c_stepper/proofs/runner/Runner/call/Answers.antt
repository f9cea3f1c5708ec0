use Rattle.std.proofs.Common.{◌+◌, sym, subst}
use Rattle.c_tree.specs.Tree as t
use Rattle.c_meaning.specs.Cells.{Blocks}
use Rattle.c_meaning.specs.Evaluate.{View}
use Rattle.c_meaning.specs.States.{State}
use Rattle.c_meaning.specs.Steps.{Onward, do_statement}
use Rattle.c_stepper.specs.Spots.{todo_at}
use Rattle.c_stepper.specs.Runners.{target_of, state_of, runner_view, body_at, Acts}
use Rattle.c_stepper.specs.Calls.{entered, entered_of, entered_state}
use Rattle.c_stepper.proofs.Acting.{stops}
use Rattle.c_stepper.proofs.Entering.{calls_stuck, calls_enter}
use Rattle.c_stepper.proofs.runner.Runner.call.Goals as goal

pub returns-in_err-entry-clause-act : goal.returns-in_err-entry-clause-act
returns-in_err-entry-clause-act c = λ input output calls.
    let p = c.args.program.now in
    let old = c.args.self.now in
    let v : View = runner_view p old in
    let st : State = state_of p old input output calls in
    let rest = todo_at (body_at p old.frame) old.frame.spot.outer.items (old.frame.spot.at + 1) in
    let into = c.args.into.now in
    let who = c.args.who.now in
    let arguments = c.args.arguments.now in
    stops entered_of p old input output calls c.in_err-entry.field-0.0 c.from_residual.result (entered p v into who arguments) (do_statement p v st rest (t.Call into who arguments)) c.from_residual.ensures.1 c.in_err-entry.ensures.value (λ kind h. calls_stuck p v st rest into who arguments kind h)

pub returns-clause-act : goal.returns-clause-act
returns-clause-act c = λ input output calls.
    let p = c.args.program.now in
    let old = c.args.self.now in
    let v : View = runner_view p old in
    let st : State = state_of p old input output calls in
    let rest = todo_at (body_at p old.frame) old.frame.spot.outer.items (old.frame.spot.at + 1) in
    let enters = calls_enter p v st rest c.args.into.now c.args.who.now c.args.arguments.now (entered_of c.in_ok-entry.entry) (sym c.in_ok-entry.ensures.value) in
    let e = c.in_ok-entry.entry in
    let acts = subst (λ (bs : Blocks). Acts p c.enter.new.self input output calls c.enter.result (Onward (entered_state p st rest (e.function, target_of e.target, bs)))) c.into_vec.ensures (c.enter.ensures.act input output calls) in
    subst (Acts p c.enter.new.self input output calls c.enter.result) (sym enters) acts
