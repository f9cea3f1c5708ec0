use Rattle.std.proofs.Common.{Bool}
use Rattle.c_meaning.specs.Evaluate as m
use Rattle.c_meaning.specs.Evaluate.{View}
use Rattle.c_evaluation.specs.Stores.{truth_in}
use Rattle.c_evaluation.specs.Values.{value_of}
use Rattle.c_evaluation.specs.Scopes.{view_at}
use Rattle.c_evaluation.proofs.Evaluations.{exit, onward_with}
use Rattle.c_evaluation.proofs.store.test.Goals as goal

pub returns-in_err-value : goal.returns-in_err-value
returns-in_err-value c =
    let v : View = view_at c.args.scope.now in
    exit value_of (λ (n : Bool). n) c.in_err-value.field-0.0 c.from_residual.result (m.value v c.args.e.now) truth_in c.from_residual.ensures.1 c.in_err-value.ensures

pub returns : goal.returns
returns c =
    let v : View = view_at c.args.scope.now in
    onward_with (λ (n : Bool). n) c.holds.result (m.value v c.args.e.now) (value_of c.in_ok-value.value) truth_in c.in_ok-value.ensures c.holds.ensures
