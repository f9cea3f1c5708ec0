use Rattle.std.proofs.Common.{◌≡◌, ◌∙◌, sym, ap, subst}
use Rattle.c_meaning.specs.Answer.{Got, Bad}
use Rattle.c_meaning.specs.Evaluate as m
use Rattle.c_meaning.specs.Evaluate.{View}
use Rattle.c_cells.specs.Halts.{said, Tells}
use Rattle.c_evaluation.specs.Values.{value_of}
use Rattle.c_cells.specs.Slots.{found_block}
use Rattle.c_evaluation.specs.Scopes.{view_at, site_of}
use Rattle.c_evaluation.proofs.Reading.{load_gone, load_there}
use Rattle.c_evaluation.proofs.read.load.Goals as goal

pub returns-in-Ok : goal.returns-in-Ok
returns-in-Ok c =
    let v : View = view_at c.args.scope.now in
    let at = site_of c.args.site.now in
    let there : m.root_block v at.root ≡ Got (found_block c.in-Ok.block) = sym c.root_block.ensures ∙ ap (said found_block) c.in-Ok.is in
    subst (Tells value_of c.load_part.result) (sym (load_there v at (found_block c.in-Ok.block) there)) c.load_part.ensures

pub returns-in-Err : goal.returns-in-Err
returns-in-Err c =
    let v : View = view_at c.args.scope.now in
    let at = site_of c.args.site.now in
    let gone : m.root_block v at.root ≡ Bad c.in-Err.kind = sym c.root_block.ensures ∙ ap (said found_block) c.in-Err.is in
    sym (load_gone v at c.in-Err.kind gone)
