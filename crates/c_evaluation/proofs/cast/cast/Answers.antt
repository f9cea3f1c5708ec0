use Rattle.std.proofs.Common.{◌≡◌, ◌∙◌, sym, ap, true}
use Rattle.c_meaning.specs.Answer.{Bad}
use Rattle.c_meaning.specs.Values as w
use Rattle.c_cells.specs.Halts.{said}
use Rattle.c_evaluation.specs.Values.{value_of, content_of, tree_in, type_in}
use Rattle.c_evaluation.specs.Scopes.{view_at}
use Rattle.std.proofs.Common.{◌||◌}
use Rattle.c_meaning.specs.Types.{points_to_object}
use Rattle.c_evaluation.specs.Casts.{is_number}
use Rattle.c_evaluation.proofs.Casts.{no_scalar}
use Rattle.c_evaluation.proofs.cast.cast.Goals as goal

pub returns-in-Err : goal.returns-in-Err
returns-in-Err c =
    let x = value_of c.args.value.now in
    let fits : is_number c.args.to.now || points_to_object (type_in x) ≡ true = cc in
    let none : w.leaf (tree_in x) ≡ Bad c.in-Err.kind = sym c.held.ensures ∙ ap (said content_of) c.in-Err.is in
    sym (no_scalar (view_at c.args.scope.now) c.args.to.now x c.in-Err.kind fits none)
