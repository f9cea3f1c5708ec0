use Rattle.std.proofs.Common.{◌≡◌, ◌∙◌, sym, ap, subst, Some, None}
use Rattle.std.specs.Option.{option_copied}
use Rattle.c_meaning.specs.Cells.{part}
use Rattle.c_meaning.specs.Evaluate.{View}
use Rattle.c_cells.specs.Halts.{Tells}
use Rattle.c_evaluation.specs.Values.{value_of}
use Rattle.c_evaluation.specs.Scopes.{view_at, site_of}
use Rattle.c_evaluation.proofs.Reading.{part_none, part_some}
use Rattle.c_evaluation.proofs.read.load_tree.Goals as goal

pub returns-in-Some : goal.returns-in-Some
returns-in-Some c =
    let v : View = view_at c.args.scope.now in
    let at = site_of c.args.site.now in
    let there : part at.path c.args.tree.now ≡ Some c.in-Some.tree.now = ap (λ p. part p c.args.tree.now) (sym c.as_slice.ensures) ∙ sym c.part.ensures ∙ ap option_copied c.in-Some.is in
    subst (Tells value_of c.read_as.result) (sym (part_some v at c.args.tree.now c.in-Some.tree.now there)) c.read_as.ensures

pub returns-in-None : goal.returns-in-None
returns-in-None c =
    let v : View = view_at c.args.scope.now in
    let at = site_of c.args.site.now in
    let none : part at.path c.args.tree.now ≡ None = ap (λ p. part p c.args.tree.now) (sym c.as_slice.ensures) ∙ sym c.part.ensures ∙ ap option_copied c.in-None.is in
    sym (part_none v at c.args.tree.now none)
