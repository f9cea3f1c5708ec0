use Rattle.std.proofs.Common.{ℕ, Option}
use Rattle.c_meaning.specs.Evaluate.{View}
use Rattle.c_evaluation.specs.Values.{value_of}
use Rattle.c_evaluation.specs.Scopes.{view_at}
use Rattle.c_evaluation.proofs.Evaluations.{exit, onward_with}
use Rattle.c_stepper.specs.Calls.{callee_value, function_called}
use Rattle.c_stepper.proofs.call.callee_by_value.Goals as goal

pub returns-in_err-value-clause-value : goal.returns-in_err-value-clause-value
returns-in_err-value-clause-value c =
    let scope = c.args.scope.now in
    let v : View = view_at scope in
    exit value_of (λ (o : Option ℕ). o) c.in_err-value.field-0.0 c.from_residual.result (callee_value v c.args.who.now) (function_called scope.program.now.functions) c.from_residual.ensures.1 c.in_err-value.ensures

pub returns-clause-value : goal.returns-clause-value
returns-clause-value c =
    let scope = c.args.scope.now in
    let v : View = view_at scope in
    let r = c.function_called.result in
    let x = value_of c.in_ok-value.value in
    onward_with (λ (o : Option ℕ). o) r (callee_value v c.args.who.now) x (function_called scope.program.now.functions) c.in_ok-value.ensures c.function_called.ensures.value
