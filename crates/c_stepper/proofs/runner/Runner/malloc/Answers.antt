use Rattle.std.proofs.Common.{◌≡◌, ◌+◌, ◌∙◌, sym, ap, subst, false, true}
use Rattle.c_tree.specs.Tree as t
use Rattle.c_tree.specs.Tree.{Statement, body_of}
use Rattle.c_meaning.specs.Answer.{Got}
use Rattle.c_meaning.specs.Evaluate.{View}
use Rattle.c_meaning.specs.States.{State}
use Rattle.c_meaning.specs.Steps.{Onward, do_statement, to_do}
use Rattle.c_stepper.specs.Spots.{todo_at}
use Rattle.c_stepper.specs.Runners.{state_of, runner_view, body_at}
use Rattle.std.proofs.Common.{Some, [], ◌∷◌, ◌++◌}
use Rattle.c_cells.specs.Halts.{Refuses}
use Rattle.c_meaning.specs.Cells.{Block, Blocks}
use Rattle.c_meaning.specs.Fresh.{fresh}
use Rattle.c_meaning.specs.States.{store}
use Rattle.c_evaluation.specs.Stores.{address_stored}
use Rattle.c_stepper.proofs.Acting.{stops_store, refused, made, made_none}
use Rattle.c_stepper.proofs.runner.Runner.malloc.Goals as goal

pub returns-in_err-number-clause-act : goal.returns-in_err-number-clause-act
returns-in_err-number-clause-act c = λ input output calls.
    let p = c.args.program.now in
    let old = c.args.self.now in
    let v : View = runner_view p old in
    let st : State = state_of p old input output calls in
    let rest = todo_at (body_at p old.frame) old.frame.spot.outer.items (old.frame.spot.at + 1) in
    let a = address_stored v old.memory c.args.place.now c.args.of.now in
    let e = c.in_err-number.field-0.0 in
    stops_store old.memory p old input output calls e c.from_residual-in_err-number.result a (do_statement p v st rest (t.Malloc c.args.place.now c.args.of.now)) c.from_residual-in_err-number.ensures.1 c.in_err-number.ensures (λ kind h. made_none p v st rest c.args.place.now c.args.of.now kind h)

pub returns-in_err-store-clause-act : goal.returns-in_err-store-clause-act
returns-in_err-store-clause-act c = λ input output calls.
    let p = c.args.program.now in
    let old = c.args.self.now in
    let v : View = runner_view p old in
    let st : State = state_of p old input output calls in
    let rest = todo_at (body_at p old.frame) old.frame.spot.outer.items (old.frame.spot.at + 1) in
    let a = address_stored v old.memory c.args.place.now c.args.of.now in
    let e = c.in_err-store.field-0.0 in
    let path : c.as_slice-at.result.now ≡ c.in_ok-number.field-0.path = cc in
    let same = ap (λ q. store old.memory c.in_ok-number.field-0.number q c.in_ok-number.field-0.tree) path ∙ c.in_ok-number.ensures in
    refused p (record old { memory = c.store.new.self }) input output calls e c.from_residual-in_err-store.result a (do_statement p v st rest (t.Malloc c.args.place.now c.args.of.now)) c.from_residual-in_err-store.ensures.1 (subst (Refuses e) same c.in_err-store.ensures.refused) (λ kind h. made_none p v st rest c.args.place.now c.args.of.now kind h)

pub returns-clause-act : goal.returns-clause-act
unfolding to_do
returns-clause-act c = λ input output calls.
    let p = c.args.program.now in
    let old = c.args.self.now in
    let v : View = runner_view p old in
    let st : State = state_of p old input output calls in
    let rest = todo_at (body_at p old.frame) old.frame.spot.outer.items (old.frame.spot.at + 1) in
    let a = address_stored v old.memory c.args.place.now c.args.of.now in
    let path : c.as_slice-at.result.now ≡ c.in_ok-number.field-0.path = cc in
    let new : a ≡ Got c.store.new.self = sym c.in_ok-number.ensures ∙ ap (λ q. store old.memory c.in_ok-number.field-0.number q c.in_ok-number.field-0.tree) (sym path) ∙ c.in_ok-store.ensures.stored in
    let h = made p v st rest c.args.place.now c.args.of.now c.store.new.self new in
    let block : c.in_ok-block.block ≡ record { of = c.args.of.now; tree = fresh false p.declarations c.args.of.now; heap = true } =
    c.in_ok-block.ensures ∙ ap (λ ds. record { of = c.args.of.now; tree = fresh false ds c.args.of.now; heap = true }) c.declared-declared.ensures in
    let pushed = c.in_ok-push.ensures.ok ∙ ap (λ (b : Block). c.store.new.self ++ Some b ∷ []) block in
    ap (λ (m : Blocks). Onward (record (to_do st rest) { blocks = m })) pushed ∙ sym h
