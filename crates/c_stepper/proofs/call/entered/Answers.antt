use Rattle.std.proofs.Common.{ℕ, Option}
use Rattle.c_meaning.specs.Evaluate as e
use Rattle.c_meaning.specs.Evaluate.{View}
use Rattle.c_meaning.specs.Steps as n
use Rattle.c_evaluation.specs.Values.{values_of}
use Rattle.c_evaluation.specs.Scopes.{view_at}
use Rattle.c_evaluation.proofs.Evaluations.{exit, onward_with}
use Rattle.c_stepper.specs.Runners.{target_of}
use Rattle.c_stepper.specs.Calls.{callee_function, entered_with, entered_of}
use Rattle.c_stepper.proofs.call.entered.Goals as goal

pub returns-in_err-which-clause-value : goal.returns-in_err-which-clause-value
returns-in_err-which-clause-value c =
    let p = c.args.scope.now.program.now in
    let v : View = view_at c.args.scope.now in
    exit (λ (o : Option ℕ). o) entered_of c.in_err-which.field-0.0 c.from_residual.result (callee_function p v c.args.who.now) _ c.from_residual.ensures.1 c.in_err-which.ensures.value

pub returns-in_err-target-clause-value : goal.returns-in_err-target-clause-value
returns-in_err-target-clause-value c =
    let p = c.args.scope.now.program.now in
    let v : View = view_at c.args.scope.now in
    let r = c.from_residual-in_err-target.result in
    onward_with entered_of r (callee_function p v c.args.who.now) c.in_ok-which.which _ c.in_ok-which.ensures.value
    (exit target_of entered_of c.in_err-target.field-0.0 r (n.target_of v c.args.into.now) _ c.from_residual-in_err-target.ensures.1 c.in_err-target.ensures)

pub returns-in_err-values-clause-value : goal.returns-in_err-values-clause-value
returns-in_err-values-clause-value c =
    let p = c.args.scope.now.program.now in
    let v : View = view_at c.args.scope.now in
    let r = c.from_residual-in_err-values.result in
    let target = target_of c.in_ok-target.target in
    onward_with entered_of r (callee_function p v c.args.who.now) c.in_ok-which.which _ c.in_ok-which.ensures.value
    (onward_with entered_of r (n.target_of v c.args.into.now) target _ c.in_ok-target.ensures
    (exit values_of entered_of c.in_err-values.field-0.0 r (e.values v c.args.arguments.now) (λ xs. entered_with p target xs c.in_ok-which.which) c.from_residual-in_err-values.ensures.1 c.in_err-values.ensures))

pub returns-clause-value : goal.returns-clause-value
returns-clause-value c =
    let p = c.args.scope.now.program.now in
    let v : View = view_at c.args.scope.now in
    let r = c.found.result in
    let target = target_of c.in_ok-target.target in
    onward_with entered_of r (callee_function p v c.args.who.now) c.in_ok-which.which _ c.in_ok-which.ensures.value
    (onward_with entered_of r (n.target_of v c.args.into.now) target _ c.in_ok-target.ensures
    (onward_with entered_of r (e.values v c.args.arguments.now) (values_of c.in_ok-values.values) (λ xs. entered_with p target xs c.in_ok-which.which) c.in_ok-values.ensures c.found.ensures.value))
