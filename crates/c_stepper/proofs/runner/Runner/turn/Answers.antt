use Rattle.std.proofs.Common.{◌≡◌, ◌+◌, ◌∙◌, sym, ap, subst, List, ◌∷◌, Bool, true, false, Err}
use Rattle.c_tree.specs.Tree as t
use Rattle.c_tree.specs.Tree.{Statement, body_of}
use Rattle.c_meaning.specs.Answer.{Got}
use Rattle.c_meaning.specs.Evaluate.{View}
use Rattle.c_meaning.specs.States.{State}
use Rattle.c_meaning.specs.Todo.{onto}
use Rattle.c_meaning.specs.Steps.{Onward, do_statement, to_do}
use Rattle.c_cells.specs.Halts.{Tells}
use Rattle.c_stepper.specs.Spots.{todo_at, todo_of}
use Rattle.c_evaluation.specs.Stores.{chosen}
use Rattle.c_stepper.specs.Runners.{state_of, runner_view, body_at}
use Rattle.c_stepper.proofs.Acting.{stops, go, go_none}
use Rattle.c_stepper.proofs.Todo.{enter_while}
use Rattle.c_stepper.proofs.runner.Runner.turn.Goals as goal

pub returns-in_err-chosen-clause-act : goal.returns-in_err-chosen-clause-act
unfolding do_statement
returns-in_err-chosen-clause-act c = λ input output calls.
    let p = c.args.program.now in
    let old = c.args.self.now in
    let v : View = runner_view p old in
    let st : State = state_of p old input output calls in
    let rest = todo_at (body_at p old.frame) old.frame.spot.outer.items (old.frame.spot.at + 1) in
    let test = c.args.e.now in
    let body = body_of c.args.body.now in
    let taken = onto body (t.While test body ∷ rest) in
    let other = rest in
    let e = c.in_err-chosen.field-0.0 in
    let told = subst (λ w. Tells (λ (b : Bool). b) (Err e) (chosen w test)) c.scope.ensures.view c.in_err-chosen.ensures in
    stops (λ (b : Bool). b) p old input output calls e c.from_residual.result (chosen v test) (do_statement p v st rest (t.While test (body_of c.args.body.now))) c.from_residual.ensures.1 told (λ kind h. go_none p v st rest test taken other kind h)

pub returns-in_ok-enter-clause-act : goal.returns-in_ok-enter-clause-act
unfolding do_statement to_do
returns-in_ok-enter-clause-act c = λ input output calls.
    let p = c.args.program.now in
    let old = c.args.self.now in
    let v : View = runner_view p old in
    let st : State = state_of p old input output calls in
    let rest = todo_at (body_at p old.frame) old.frame.spot.outer.items (old.frame.spot.at + 1) in
    let test = c.args.e.now in
    let body = body_of c.args.body.now in
    let taken = onto body (t.While test body ∷ rest) in
    let other = rest in
    let told : chosen v test ≡ Got true = sym (subst (λ w. Got c.in_ok-chosen.chosen ≡ chosen w test) c.scope.ensures.view c.in_ok-chosen.ensures) ∙ ap Got c.if-chosen.true in
    let spot = c.enter.new.self in
    let todo : todo_of (body_at p old.frame) spot ≡ taken = (λ i. todo_at (body_at p old.frame) (c.in_ok-enter.ensures.entered.0 i) (c.in_ok-enter.ensures.entered.1 i)) ∙ enter_while (body_at p old.frame) old.frame.spot.outer.items old.frame.spot.at test body body c.requires.here in
    ap (λ (todo : List Statement). Onward (to_do st todo)) todo ∙ sym (go p v st rest test taken other true told)

pub returns-else-chosen-clause-act : goal.returns-else-chosen-clause-act
unfolding do_statement to_do
returns-else-chosen-clause-act c = λ input output calls.
    let p = c.args.program.now in
    let old = c.args.self.now in
    let v : View = runner_view p old in
    let st : State = state_of p old input output calls in
    let rest = todo_at (body_at p old.frame) old.frame.spot.outer.items (old.frame.spot.at + 1) in
    let test = c.args.e.now in
    let body = body_of c.args.body.now in
    let taken = onto body (t.While test body ∷ rest) in
    let other = rest in
    let told : chosen v test ≡ Got false = sym (subst (λ w. Got c.in_ok-chosen.chosen ≡ chosen w test) c.scope.ensures.view c.in_ok-chosen.ensures) ∙ ap Got c.if-chosen.false in
    sym (go p v st rest test taken other false told)
