use Rattle.c_meaning.specs.Evaluate as m
use Rattle.c_meaning.specs.Evaluate.{View}
use Rattle.c_meaning.specs.Steps.{free_value}
use Rattle.c_evaluation.specs.Values.{value_of}
use Rattle.c_evaluation.specs.Scopes.{view_at}
use Rattle.c_evaluation.proofs.Freeing.{no_free, free_with}
use Rattle.c_evaluation.proofs.store.freed.Goals as goal

pub returns-in_err-value : goal.returns-in_err-value
returns-in_err-value c =
    let v : View = view_at c.args.scope.now in
    let blocks = c.args.scope.now.memory.now in
    no_free value_of blocks c.in_err-value.field-0.0 c.from_residual.result (m.value v c.args.e.now) (free_value blocks) c.from_residual.ensures.1 c.in_err-value.ensures

pub returns : goal.returns
returns c =
    let v : View = view_at c.args.scope.now in
    let blocks = c.args.scope.now.memory.now in
    free_with blocks c.freed_value.result (m.value v c.args.e.now) (value_of c.in_ok-value.value) (free_value blocks) c.in_ok-value.ensures c.freed_value.ensures
