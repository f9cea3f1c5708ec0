use Rattle.std.proofs.Common.{subst, [], length}
use Rattle.c_tree.specs.Tree as t
use Rattle.c_meaning.specs.Cells.{Leaf, Pointer}
use Rattle.c_meaning.specs.Types.{Of}
use Rattle.c_meaning.specs.Values as w
use Rattle.c_meaning.specs.Evaluate as m
use Rattle.c_meaning.specs.Evaluate.{View}
use Rattle.c_meaning.specs.Steps.{put_value}
use Rattle.c_evaluation.specs.Stores.{Stores}
use Rattle.c_evaluation.specs.Scopes.{view_at, site_of}
use Rattle.c_evaluation.proofs.Taking.{no_store, store_with}
use Rattle.c_evaluation.proofs.store.malloced.Goals as goal

pub returns-in_err-site : goal.returns-in_err-site
returns-in_err-site c =
    let v : View = view_at c.args.scope.now in
    no_store site_of c.args.scope.now.memory.now c.in_err-site.field-0.0 c.from_residual.result (m.place v c.args.place.now) (λ site. put_value v site (w.Typed (Of (t.Pointer c.args.of.now)) (Leaf (Pointer (length c.args.scope.now.memory.now) [])))) c.from_residual.ensures.1 c.in_err-site.ensures

pub returns : goal.returns
returns c =
    let v : View = view_at c.args.scope.now in
    let blocks = c.args.scope.now.memory.now in
    let r = c.put_value.result in
    let site = site_of c.in_ok-site.site in
    store_with blocks r (m.place v c.args.place.now) site (λ site. put_value v site (w.Typed (Of (t.Pointer c.args.of.now)) (Leaf (Pointer (length c.args.scope.now.memory.now) [])))) c.in_ok-site.ensures
    (subst (λ x. Stores blocks r (put_value v site x)) c.in_ok-value.ensures c.put_value.ensures)
