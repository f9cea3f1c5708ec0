use Rattle.std.proofs.Common.{◌≡◌, ◌+◌, ◌∙◌, sym, ap, subst}
use Rattle.c_tree.specs.Tree as t
use Rattle.c_tree.specs.Tree.{Statement, body_of}
use Rattle.c_meaning.specs.Answer.{Got}
use Rattle.c_meaning.specs.Evaluate.{View}
use Rattle.c_meaning.specs.States.{State}
use Rattle.c_meaning.specs.Steps.{do_statement, to_do}
use Rattle.c_stepper.specs.Spots.{todo_at}
use Rattle.c_stepper.specs.Runners.{state_of, runner_view, body_at}
use Rattle.c_cells.specs.Halts.{Refuses}
use Rattle.c_meaning.specs.States.{store}
use Rattle.c_meaning.specs.Steps.{assign}
use Rattle.c_stepper.proofs.Acting.{stops_store, refused, stored, stored_none}
use Rattle.c_stepper.proofs.runner.Runner.assign.Goals as goal

pub returns-in_err-number-clause-act : goal.returns-in_err-number-clause-act
returns-in_err-number-clause-act c = λ input output calls.
    let p = c.args.program.now in
    let old = c.args.self.now in
    let v : View = runner_view p old in
    let st : State = state_of p old input output calls in
    let rest = todo_at (body_at p old.frame) old.frame.spot.outer.items (old.frame.spot.at + 1) in
    let a = assign v c.args.place.now c.args.e.now in
    let e = c.in_err-number.field-0.0 in
    stops_store old.memory p old input output calls e c.from_residual.result a (do_statement p v st rest (t.Assign c.args.place.now c.args.e.now)) c.from_residual.ensures.1 c.in_err-number.ensures (λ kind h. stored_none p v st rest c.args.place.now c.args.e.now kind h)

pub returns-in_err-store-clause-act : goal.returns-in_err-store-clause-act
returns-in_err-store-clause-act c = λ input output calls.
    let p = c.args.program.now in
    let old = c.args.self.now in
    let v : View = runner_view p old in
    let st : State = state_of p old input output calls in
    let rest = todo_at (body_at p old.frame) old.frame.spot.outer.items (old.frame.spot.at + 1) in
    let a = assign v c.args.place.now c.args.e.now in
    let e = c.in_err-store.field-0.0 in
    let path : c.as_slice.result.now ≡ c.in_ok-number.field-0.path = cc in
    let same = ap (λ q. store old.memory c.in_ok-number.field-0.number q c.in_ok-number.field-0.tree) path ∙ c.in_ok-number.ensures in
    refused p (record old { memory = c.store.new.self }) input output calls e c.from_residual-in_err-store.result a (do_statement p v st rest (t.Assign c.args.place.now c.args.e.now)) c.from_residual-in_err-store.ensures.1 (subst (Refuses e) same c.in_err-store.ensures.refused) (λ kind h. stored_none p v st rest c.args.place.now c.args.e.now kind h)

pub returns-clause-act : goal.returns-clause-act
unfolding to_do
returns-clause-act c = λ input output calls.
    let p = c.args.program.now in
    let old = c.args.self.now in
    let v : View = runner_view p old in
    let st : State = state_of p old input output calls in
    let rest = todo_at (body_at p old.frame) old.frame.spot.outer.items (old.frame.spot.at + 1) in
    let a = assign v c.args.place.now c.args.e.now in
    let path : c.as_slice.result.now ≡ c.in_ok-number.field-0.path = cc in
    let new : a ≡ Got c.store.new.self = sym c.in_ok-number.ensures ∙ ap (λ q. store old.memory c.in_ok-number.field-0.number q c.in_ok-number.field-0.tree) (sym path) ∙ c.in_ok-store.ensures.stored in
    sym (stored p v st rest c.args.place.now c.args.e.now c.store.new.self new)
