use Rattle.std.proofs.Common.{◌≡◌, ◌∙◌, ◌∷◌, [], sym, ap, arith, List}
use Rattle.c_meaning.specs.Evaluate as e
use Rattle.c_meaning.specs.Evaluate.{View}
use Rattle.c_meaning.specs.Values as w
use Rattle.c_evaluation.specs.declared.value.Value.{Value}
use Rattle.c_evaluation.specs.Values.{value_of, values_of}
use Rattle.c_evaluation.specs.Scopes.{view_at}
use Rattle.c_stepper.proofs.Calling.{with_values, values_whole, value_next, value_none, no_more_values, cons_of, tail_of, no_items, values_push, exit_by}
use Rattle.c_stepper.proofs.call.values.Goals as goal

pub loop-rest-init : goal.loop-rest-init
loop-rest-init c =
    let v : View = view_at c.args.scope.now in
    ap (λ (l : List Value). with_values v (values_of l) c.args.arguments.now) c.new-list.ensures ∙ values_whole v c.args.arguments.now

pub returns-in_err-value_of : goal.returns-in_err-value_of
returns-in_err-value_of c =
    let v : View = view_at c.args.scope.now in
    let done = values_of c.loop-rest.list in
    let rest = c.loop-rest.rest.now in
    let x = c.first-item.result in
    let split : rest ≡ x ∷ tail_of rest = cons_of rest x (omega arith) c.first-item.is in
    exit_by value_of values_of c.in_err-value_of.field-0.0 c.from_residual.result (e.value v x) (e.values v c.args.arguments.now) c.from_residual.ensures.1 c.in_err-value_of.ensures
    (λ kind h. value_none v done x (tail_of rest) kind h ∙ ap (with_values v done) (sym split) ∙ c.loop-rest.invariant)

pub loop-rest-preserved : goal.loop-rest-preserved
loop-rest-preserved c =
    let v : View = view_at c.args.scope.now in
    let done = values_of c.loop-rest.list in
    let rest = c.loop-rest.rest.now in
    let x = c.first-item.result in
    let y = c.in_ok-value_of.field-0 in
    let split : rest ≡ x ∷ tail_of rest = cons_of rest x (omega arith) c.first-item.is in
    ap (λ (l : List Value). with_values v (values_of l) (tail_of rest)) c.in_ok-push.ensures.ok
    ∙ ap (λ (l : List w.Value). with_values v l (tail_of rest)) (values_push c.loop-rest.list y)
    ∙ sym (value_next v done x (tail_of rest) (value_of y) c.in_ok-value_of.ensures)
    ∙ ap (with_values v done) (sym split) ∙ c.loop-rest.invariant

pub returns : goal.returns
returns c =
    let v : View = view_at c.args.scope.now in
    let done = values_of c.loop-rest.list in
    let rest = c.loop-rest.rest.now in
    let none : rest ≡ [] = no_items rest (omega arith) in
    sym (no_more_values v done) ∙ ap (with_values v done) (sym none) ∙ c.loop-rest.invariant
