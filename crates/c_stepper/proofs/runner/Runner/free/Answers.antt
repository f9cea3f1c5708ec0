use Rattle.std.proofs.Common.{◌≡◌, ◌+◌, ◌∙◌, sym, ap}
use Rattle.c_tree.specs.Tree as t
use Rattle.c_tree.specs.Tree.{Statement, body_of}
use Rattle.c_meaning.specs.Answer.{Got}
use Rattle.c_meaning.specs.Evaluate.{View}
use Rattle.c_meaning.specs.States.{State}
use Rattle.c_meaning.specs.Steps.{do_statement, to_do}
use Rattle.c_stepper.specs.Spots.{todo_at}
use Rattle.c_stepper.specs.Runners.{state_of, runner_view, body_at}
use Rattle.c_evaluation.specs.Stores.{freed_of}
use Rattle.c_stepper.proofs.Acting.{stops_free, freed_one, freed_none}
use Rattle.c_stepper.proofs.runner.Runner.free.Goals as goal

pub returns-in_err-which-clause-act : goal.returns-in_err-which-clause-act
returns-in_err-which-clause-act c = λ input output calls.
    let p = c.args.program.now in
    let old = c.args.self.now in
    let v : View = runner_view p old in
    let st : State = state_of p old input output calls in
    let rest = todo_at (body_at p old.frame) old.frame.spot.outer.items (old.frame.spot.at + 1) in
    let a = c.args.e.now in
    let e = c.in_err-which.field-0.0 in
    stops_free old.memory p old input output calls e c.from_residual.result (freed_of v old.memory a) (do_statement p v st rest (t.Free a)) c.from_residual.ensures.1 c.in_err-which.ensures (λ kind h. freed_none p v st rest a kind h)

pub returns-clause-act : goal.returns-clause-act
unfolding to_do
returns-clause-act c = λ input output calls.
    let p = c.args.program.now in
    let old = c.args.self.now in
    let v : View = runner_view p old in
    let st : State = state_of p old input output calls in
    let rest = todo_at (body_at p old.frame) old.frame.spot.outer.items (old.frame.spot.at + 1) in
    let a = c.args.e.now in
    let gone : freed_of v old.memory a ≡ Got c.forget.new.memory = sym c.in_ok-which.ensures ∙ ap Got (sym c.forget.ensures) in
    sym (freed_one p v st rest a c.forget.new.memory gone)
