use Rattle.std.proofs.Common.{◌≡◌, ◌∙◌, sym, ap}
use Rattle.c_meaning.specs.Answer.{Bad}
use Rattle.c_meaning.specs.Values as w
use Rattle.c_meaning.specs.Evaluate as m
use Rattle.c_meaning.specs.Evaluate.{View}
use Rattle.c_cells.specs.Halts.{said}
use Rattle.c_evaluation.specs.Types.{object_of}
use Rattle.c_evaluation.specs.Values.{value_of, content_of, tree_in}
use Rattle.c_evaluation.specs.Scopes.{view_at}
use Rattle.c_evaluation.proofs.Binary.{bind_bad}
use Rattle.c_evaluation.proofs.read.follow_held.Goals as goal

pub returns-in-Err : goal.returns-in-Err
returns-in-Err c =
    let none : w.leaf (tree_in (value_of c.args.value.now)) ≡ Bad c.in-Err.kind = sym c.held.ensures ∙ ap (said content_of) c.in-Err.is in
    sym (bind_bad (w.leaf (tree_in (value_of c.args.value.now))) c.in-Err.kind (m.follow_cell (view_at c.args.scope.now) (object_of c.args.to)) none)
