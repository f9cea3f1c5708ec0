use Rattle.c_meaning.specs.Evaluate as m
use Rattle.c_meaning.specs.Evaluate.{View}
use Rattle.c_meaning.specs.Steps.{put_value, assign}
use Rattle.c_evaluation.specs.Values.{value_of}
use Rattle.c_evaluation.specs.Scopes.{view_at, site_of}
use Rattle.c_evaluation.proofs.Taking.{no_store, store_with}
use Rattle.c_evaluation.proofs.store.assigned.Goals as goal

pub returns-in_err-site : goal.returns-in_err-site
unfolding assign
returns-in_err-site c =
    let v : View = view_at c.args.scope.now in
    no_store site_of c.args.scope.now.memory.now c.in_err-site.field-0.0 c.from_residual.result (m.place v c.args.place.now) _ c.from_residual.ensures.1 c.in_err-site.ensures

pub returns-in_err-value : goal.returns-in_err-value
unfolding assign
returns-in_err-value c =
    let v : View = view_at c.args.scope.now in
    let blocks = c.args.scope.now.memory.now in
    let r = c.from_residual-in_err-value.result in
    let site = site_of c.in_ok-site.site in
    store_with blocks r (m.place v c.args.place.now) site _ c.in_ok-site.ensures
    (no_store value_of blocks c.in_err-value.field-0.0 r (m.value v c.args.e.now) (put_value v site) c.from_residual-in_err-value.ensures.1 c.in_err-value.ensures)

pub returns : goal.returns
unfolding assign
returns c =
    let v : View = view_at c.args.scope.now in
    let blocks = c.args.scope.now.memory.now in
    let r = c.put_value.result in
    let site = site_of c.in_ok-site.site in
    store_with blocks r (m.place v c.args.place.now) site _ c.in_ok-site.ensures
    (store_with blocks r (m.value v c.args.e.now) (value_of c.in_ok-value.value) (put_value v site) c.in_ok-value.ensures c.put_value.ensures)
