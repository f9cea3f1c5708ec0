use Rattle.std.proofs.Common.{sym, subst, Option}
use Rattle.c_tree.specs.Tree as t
use Rattle.c_meaning.specs.Evaluate as m
use Rattle.c_meaning.specs.Evaluate.{View}
use Rattle.c_meaning.specs.Steps as n
use Rattle.c_cells.specs.Halts.{Tells}
use Rattle.c_evaluation.specs.Scopes.{view_at, site_of}
use Rattle.c_evaluation.proofs.Evaluations.{exit, onward_with}
use Rattle.c_stepper.specs.Runners.{target_of}
use Rattle.c_stepper.specs.Calls.{site_target}
use Rattle.c_stepper.proofs.call.target_of.Goals as goal

pub returns-in_err-site-in-Some : goal.returns-in_err-site-in-Some
unfolding n.target_of
returns-in_err-site-in-Some c =
    let v : View = view_at c.args.scope.now in
    let r = c.from_residual.result in
    subst (λ (o : Option t.Place). Tells target_of r (n.target_of v o)) (sym c.in-Some.is)
    (exit site_of target_of c.in_err-site-in-Some.field-0.0 r (m.place v c.in-Some.place) (site_target v) c.from_residual.ensures.1 c.in_err-site-in-Some.ensures)

pub returns-in_ok-site-in-Some : goal.returns-in_ok-site-in-Some
unfolding n.target_of
returns-in_ok-site-in-Some c =
    let v : View = view_at c.args.scope.now in
    let r = c.site_target.result in
    subst (λ (o : Option t.Place). Tells target_of r (n.target_of v o)) (sym c.in-Some.is)
    (onward_with target_of r (m.place v c.in-Some.place) (site_of c.in_ok-site-in-Some.site) (site_target v) c.in_ok-site-in-Some.ensures c.site_target.ensures)
