use Rattle.std.proofs.Common.{◌≡◌, ◌∙◌, sym, ap, Ok, Err}
use Rattle.c_meaning.specs.Cells.{Tree}
use Rattle.c_meaning.specs.Answer.{Got, Bad}
use Rattle.c_meaning.specs.Evaluate as m
use Rattle.c_meaning.specs.Evaluate.{View}
use Rattle.c_meaning.specs.States.{view}
use Rattle.c_meaning.specs.Steps.{taken, put_root, put_value}
use Rattle.c_cells.specs.Halts.{said}
use Rattle.c_evaluation.specs.Values.{value_of}
use Rattle.c_evaluation.specs.Scopes.{view_at, site_of, names_at}
use Rattle.c_evaluation.proofs.Taking.{root_put, root_not_put, no_store, store_with}
use Rattle.c_cells.specs.declared.halt.Halt.TheVariants.{Stuck}
use Rattle.c_evaluation.specs.declared.store.Store.{Store}
use Rattle.c_evaluation.proofs.store.put_value.Goals as goal

pub returns-in_err-tree : goal.returns-in_err-tree
unfolding put_value view
returns-in_err-tree c =
    let scope = c.args.scope.now in
    let v : View = view_at scope in
    let at = site_of c.args.site in
    let x = value_of c.args.value in
    let blocks = scope.memory.now in
    no_store (λ (t : Tree). t) blocks c.in_err-tree.field-0.0 c.from_residual.result (taken v.declared at.of x) (put_root v at.root at.path) c.from_residual.ensures.1 c.in_err-tree.ensures

pub returns-in-Ok : goal.returns-in-Ok
unfolding put_value view
returns-in-Ok c =
    let scope = c.args.scope.now in
    let v : View = view_at scope in
    let at = site_of c.args.site in
    let x = value_of c.args.value in
    let blocks = scope.memory.now in
    let s : Store = record { number = c.in-Ok.number; path = c.args.site.path; tree = c.in_ok-tree.tree } in
    let there : m.root_number v at.root ≡ Got c.in-Ok.number = sym c.root_number.ensures ∙ ap (said (λ n. n)) c.in-Ok.is in
    store_with blocks (Ok s) (taken v.declared at.of x) c.in_ok-tree.tree (put_root v at.root at.path) c.in_ok-tree.ensures
    (sym (root_put scope.program.now scope.reach (names_at scope) blocks at.root at.path c.in_ok-tree.tree c.in-Ok.number there))

pub returns-in-Err : goal.returns-in-Err
unfolding put_value view
returns-in-Err c =
    let scope = c.args.scope.now in
    let v : View = view_at scope in
    let at = site_of c.args.site in
    let x = value_of c.args.value in
    let blocks = scope.memory.now in
    let none : m.root_number v at.root ≡ Bad c.in-Err.kind = sym c.root_number.ensures ∙ ap (said (λ n. n)) c.in-Err.is in
    store_with blocks (Err (Stuck c.in-Err.kind)) (taken v.declared at.of x) c.in_ok-tree.tree (put_root v at.root at.path) c.in_ok-tree.ensures
    (sym (root_not_put scope.program.now scope.reach (names_at scope) blocks at.root at.path c.in_ok-tree.tree c.in-Err.kind none))
