use Rattle.std.proofs.Common.{◌≡◌, ◌+◌, sym, subst, ℕ, Err}
use Rattle.c_tree.specs.Tree as t
use Rattle.c_tree.specs.Tree.{Statement, body_of}
use Rattle.c_meaning.specs.Answer.{Got}
use Rattle.c_meaning.specs.Evaluate.{View}
use Rattle.c_meaning.specs.States.{State}
use Rattle.c_meaning.specs.Steps.{do_statement, to_do}
use Rattle.c_cells.specs.Halts.{Tells}
use Rattle.c_stepper.specs.Spots.{todo_at}
use Rattle.c_evaluation.specs.Stores.{byte_put}
use Rattle.c_stepper.specs.Runners.{state_of, runner_view, body_at}
use Rattle.c_stepper.proofs.Acting.{stops, wrote, wrote_none}
use Rattle.c_stepper.proofs.runner.Runner.put_char.Goals as goal

pub returns-in_err-byte-clause-act : goal.returns-in_err-byte-clause-act
returns-in_err-byte-clause-act c = λ input output calls.
    let p = c.args.program.now in
    let old = c.args.self.now in
    let v : View = runner_view p old in
    let st : State = state_of p old input output calls in
    let rest = todo_at (body_at p old.frame) old.frame.spot.outer.items (old.frame.spot.at + 1) in
    let a = c.args.e.now in
    let e = c.in_err-byte.field-0.0 in
    let told = subst (λ w. Tells (λ (n : ℕ). n) (Err e) (byte_put w a)) c.scope.ensures.view c.in_err-byte.ensures in
    stops (λ (n : ℕ). n) p old input output calls e c.from_residual.result (byte_put v a) (do_statement p v st rest (t.PutChar a)) c.from_residual.ensures.1 told (λ kind h. wrote_none p v st rest a kind h)

pub returns-clause-act : goal.returns-clause-act
unfolding to_do
returns-clause-act c = λ input output calls.
    let p = c.args.program.now in
    let old = c.args.self.now in
    let v : View = runner_view p old in
    let st : State = state_of p old input output calls in
    let rest = todo_at (body_at p old.frame) old.frame.spot.outer.items (old.frame.spot.at + 1) in
    let a = c.args.e.now in
    let told : byte_put v a ≡ Got c.in_ok-byte.byte = sym (subst (λ w. Got c.in_ok-byte.byte ≡ byte_put w a) c.scope.ensures.view c.in_ok-byte.ensures) in
    sym (wrote p v st rest a c.in_ok-byte.byte told)
