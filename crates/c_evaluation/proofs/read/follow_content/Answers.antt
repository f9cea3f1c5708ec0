use Rattle.std.proofs.Common.{◌≡◌, ◌∙◌, sym, ap}
use Rattle.c_meaning.specs.declared.StuckKind.TheVariants as k
use Rattle.c_meaning.specs.Cells.{Pointer}
use Rattle.c_meaning.specs.Answer.{Bad, or_bad}
use Rattle.c_meaning.specs.Evaluate as m
use Rattle.c_meaning.specs.Evaluate.{View}
use Rattle.c_cells.specs.Halts.{said}
use Rattle.c_evaluation.specs.Types.{object_of}
use Rattle.c_evaluation.specs.Values.{content_of}
use Rattle.c_cells.specs.Slots.{found_block}
use Rattle.c_evaluation.specs.Scopes.{view_at}
use Rattle.c_evaluation.proofs.Reading.{follow_gone}
use Rattle.c_evaluation.proofs.read.follow_content.Goals as goal

pub returns-in-Err : goal.returns-in-Err
returns-in-Err c =
    let v : View = view_at c.args.scope.now in
    let of = object_of c.args.to in
    let content : content_of c.args.content ≡ Pointer c.in-Pointer.number c.in-Pointer.path.now = ap content_of c.in-Pointer.is in
    let gone : or_bad k.GoneUse (v.block c.in-Pointer.number) ≡ Bad c.in-Err.kind = sym c.block_of.ensures ∙ ap (said found_block) c.in-Err.is in
    sym (ap (m.follow_cell v of) content ∙ follow_gone v of c.in-Pointer.number c.in-Pointer.path.now c.in-Err.kind gone)
