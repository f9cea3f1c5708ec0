use Rattle.std.proofs.Common.{◌≡◌, ◌∙◌, sym, ap, subst, true, false}
use Rattle.c_tree.specs.Tree as t
use Rattle.c_meaning.specs.declared.StuckKind.TheVariants as k
use Rattle.c_meaning.specs.Answer.{Got, Bad, or_bad}
use Rattle.c_meaning.specs.Evaluate as m
use Rattle.c_meaning.specs.Evaluate.{View}
use Rattle.c_meaning.specs.States.{view}
use Rattle.c_cells.specs.Halts.{said, Tells}
use Rattle.c_evaluation.specs.Values.{value_of}
use Rattle.c_cells.specs.Slots.{found_block}
use Rattle.c_evaluation.specs.Scopes.{view_at}
use Rattle.c_evaluation.proofs.Parts.{pointer_gone, pointer_unlike, pointer_alike}
use Rattle.c_evaluation.proofs.cast.found_pointer.Goals as goal

pub returns-then-holds_type : goal.returns-then-holds_type
unfolding view
returns-then-holds_type c =
    let v : View = view_at c.args.scope.now in
    let s = c.args.name.now in
    let path = c.args.path.now in
    let b = (found_block c.in-Ok.block) in
    let there : or_bad k.GoneUse (v.block c.args.number) ≡ Got b = sym c.block_of.ensures ∙ ap (said found_block) c.in-Ok.is in
    let holds : m.holds_type v.declared (t.Struct s) path b ≡ true = cc in
    let result = c.retyped.ensures in
    subst (Tells value_of c.retyped.result) (sym (pointer_alike v s c.args.number path b there holds)) result

pub returns-else-holds_type : goal.returns-else-holds_type
unfolding view
returns-else-holds_type c =
    let v : View = view_at c.args.scope.now in
    let s = c.args.name.now in
    let path = c.args.path.now in
    let b = (found_block c.in-Ok.block) in
    let there : or_bad k.GoneUse (v.block c.args.number) ≡ Got b = sym c.block_of.ensures ∙ ap (said found_block) c.in-Ok.is in
    let other : m.holds_type v.declared (t.Struct s) path b ≡ false = cc in
    sym (pointer_unlike v s c.args.number path b there other)

pub returns-in-Err : goal.returns-in-Err
returns-in-Err c =
    let v : View = view_at c.args.scope.now in
    let gone : or_bad k.GoneUse (v.block c.args.number) ≡ Bad c.in-Err.kind = sym c.block_of.ensures ∙ ap (said found_block) c.in-Err.is in
    sym (pointer_gone v c.args.name.now c.args.number c.args.path.now c.in-Err.kind gone)
