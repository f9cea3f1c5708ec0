use Rattle.std.proofs.Common.{◌≡◌, ◌∙◌, sym, ap}
use Rattle.c_meaning.specs.declared.StuckKind.TheVariants as k
use Rattle.c_meaning.specs.Cells.{Pointer}
use Rattle.c_meaning.specs.Answer.{Bad, or_bad}
use Rattle.c_meaning.specs.Evaluate.{View, read_cell}
use Rattle.c_cells.specs.Views.{cell_of}
use Rattle.c_cells.specs.Halts.{said}
use Rattle.c_evaluation.specs.Types.{object_of}
use Rattle.c_cells.specs.Slots.{found_block}
use Rattle.c_evaluation.specs.Scopes.{view_at}
use Rattle.c_evaluation.proofs.Reading.{read_gone}
use Rattle.c_evaluation.proofs.read.read_cell.Goals as goal

pub returns-in-Err : goal.returns-in-Err
returns-in-Err c =
    let v : View = view_at c.args.scope.now in
    let of = object_of c.args.of in
    let cell : c.args.cell.now ≡ Pointer c.in-Pointer.number c.in-Pointer.field-1 = sym c.cell.view_is ∙ ap cell_of c.in-Pointer.is in
    let gone : or_bad k.GoneUse (v.block c.in-Pointer.number) ≡ Bad c.in-Err.kind = sym c.block_of.ensures ∙ ap (said found_block) c.in-Err.is in
    sym (ap (read_cell v of) cell ∙ read_gone v of c.in-Pointer.number c.in-Pointer.field-1 c.in-Err.kind gone)
