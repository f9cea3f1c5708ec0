use Rattle.std.proofs.Common.{◌≡◌, ◌+◌, ◌∙◌, sym, ap, subst, List, Bool, Err}
use Rattle.c_tree.specs.Tree as t
use Rattle.c_tree.specs.Tree.{Statement, body_of}
use Rattle.c_meaning.specs.Answer.{Got}
use Rattle.c_meaning.specs.Evaluate.{View}
use Rattle.c_meaning.specs.States.{State}
use Rattle.c_meaning.specs.Todo.{onto}
use Rattle.c_meaning.specs.Steps.{Onward, do_statement, to_do}
use Rattle.c_cells.specs.Halts.{Tells}
use Rattle.c_stepper.specs.Spots.{todo_at, todo_of}
use Rattle.c_evaluation.specs.Stores.{chosen}
use Rattle.c_stepper.specs.Runners.{state_of, runner_view, body_at}
use Rattle.c_stepper.proofs.Acting.{stops, go, go_none}
use Rattle.std.specs.Prelude.{if◌then◌else◌}
use Rattle.c_stepper.proofs.Todo.{enter_either}
use Rattle.c_stepper.proofs.runner.Runner.choose_between.Goals as goal

pub returns-in_err-chosen-clause-act : goal.returns-in_err-chosen-clause-act
unfolding do_statement
returns-in_err-chosen-clause-act c = λ input output calls.
    let p = c.args.program.now in
    let old = c.args.self.now in
    let v : View = runner_view p old in
    let st : State = state_of p old input output calls in
    let rest = todo_at (body_at p old.frame) old.frame.spot.outer.items (old.frame.spot.at + 1) in
    let test = c.args.e.now in
    let body = body_of c.args.body.now in
    let second = body_of c.args.other.now in
    let taken = onto body rest in
    let other = onto second rest in
    let e = c.in_err-chosen.field-0.0 in
    let told = subst (λ w. Tells (λ (b : Bool). b) (Err e) (chosen w test)) c.scope.ensures.view c.in_err-chosen.ensures in
    stops (λ (b : Bool). b) p old input output calls e c.from_residual.result (chosen v test) (do_statement p v st rest (t.IfElse test body second)) c.from_residual.ensures.1 told (λ kind h. go_none p v st rest test taken other kind h)

pub returns-clause-act : goal.returns-clause-act
unfolding do_statement to_do
returns-clause-act c = λ input output calls.
    let p = c.args.program.now in
    let old = c.args.self.now in
    let v : View = runner_view p old in
    let st : State = state_of p old input output calls in
    let rest = todo_at (body_at p old.frame) old.frame.spot.outer.items (old.frame.spot.at + 1) in
    let test = c.args.e.now in
    let body = body_of c.args.body.now in
    let second = body_of c.args.other.now in
    let taken = onto body rest in
    let other = onto second rest in
    let list = body_at p old.frame in
    let outer = old.frame.spot.outer.items in
    let at = old.frame.spot.at in
    let chose = c.in_ok-chosen.chosen in
    let told : chosen v test ≡ Got chose = sym (subst (λ w. Got chose ≡ chosen w test) c.scope.ensures.view c.in_ok-chosen.ensures) in
    let spot = c.enter.new.self in
    let enters = c.in_ok-enter.ensures.entered in
    let todo : todo_of list spot ≡ (if chose then taken else other) = (λ i. todo_at list (enters.0 i) (enters.1 i)) ∙ enter_either list outer at test body second chose c.requires.here in
    ap (λ (todo : List Statement). Onward (to_do st todo)) todo ∙ sym (go p v st rest test taken other chose told)
