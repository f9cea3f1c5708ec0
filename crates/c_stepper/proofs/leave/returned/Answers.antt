use Rattle.std.proofs.Common.{◌∙◌, sym, ap, subst, Option, Some}
use Rattle.std.specs.Option.{option_map}
use Rattle.c_tree.specs.Tree as t
use Rattle.c_meaning.specs.Answer.{Got, ◌>>=◌}
use Rattle.c_meaning.specs.Evaluate as m
use Rattle.c_meaning.specs.Evaluate.{View}
use Rattle.c_meaning.specs.States.{view}
use Rattle.c_meaning.specs.Steps as n
use Rattle.c_cells.specs.Halts.{Tells}
use Rattle.c_evaluation.specs.Scopes.{view_at}
use Rattle.c_evaluation.specs.Types.{object_of}
use Rattle.c_evaluation.specs.Values.{value_of}
use Rattle.c_evaluation.proofs.Evaluations.{exit, onward_with}
use Rattle.c_stepper.specs.Leaving.{given_of}
use Rattle.c_stepper.proofs.leave.returned.Goals as goal

pub returns-in_err-value-in-Some : goal.returns-in_err-value-in-Some
unfolding n.returned
returns-in_err-value-in-Some c =
    let v : View = view_at c.args.scope.now in
    let of = option_map object_of c.args.of in
    let r = c.from_residual.result in
    subst (λ (o : Option t.Expr). Tells (option_map given_of) r (n.returned v of o)) (sym c.in-Some.is)
    (exit value_of (option_map given_of) c.in_err-value-in-Some.field-0.0 r (m.value v c.in-Some.e) (λ x. n.result_of v.declared of x >>= (λ y. Got (Some y))) c.from_residual.ensures.1 c.in_err-value-in-Some.ensures)

pub returns-in_err-given-in-Some : goal.returns-in_err-given-in-Some
unfolding n.returned view
returns-in_err-given-in-Some c =
    let v : View = view_at c.args.scope.now in
    let of = option_map object_of c.args.of in
    let r = c.from_residual-in_err-given-in-Some.result in
    let x = value_of c.in_ok-value-in-Some.value in
    subst (λ (o : Option t.Expr). Tells (option_map given_of) r (n.returned v of o)) (sym c.in-Some.is)
    (onward_with (option_map given_of) r (m.value v c.in-Some.e) x (λ x. n.result_of v.declared of x >>= (λ y. Got (Some y))) c.in_ok-value-in-Some.ensures
    (exit given_of (option_map given_of) c.in_err-given-in-Some.field-0.0 r (n.result_of v.declared of x) (λ y. Got (Some y)) c.from_residual-in_err-given-in-Some.ensures.1 c.in_err-given-in-Some.ensures))

pub returns-in-None : goal.returns-in-None
unfolding n.returned
returns-in-None c =
    let v : View = view_at c.args.scope.now in
    let of = option_map object_of c.args.of in
    ap (λ (o : Option t.Expr). n.returned v of o) (sym c.in-None.is)

pub returns-in_ok-given-in-Some : goal.returns-in_ok-given-in-Some
unfolding n.returned view ◌>>=◌
returns-in_ok-given-in-Some c =
    let v : View = view_at c.args.scope.now in
    let of = option_map object_of c.args.of in
    let x = value_of c.in_ok-value-in-Some.value in
    ap (λ a. a >>= (λ y. Got (Some y))) c.in_ok-given-in-Some.ensures
    ∙ ap (λ a. a >>= (λ x. n.result_of v.declared of x >>= (λ y. Got (Some y)))) c.in_ok-value-in-Some.ensures
    ∙ ap (λ (o : Option t.Expr). n.returned v of o) (sym c.in-Some.is)
