use Rattle.std.proofs.Common.{◌≡◌, ◌∙◌, sym, ap}
use Rattle.c_meaning.specs.Answer.{Bad}
use Rattle.c_meaning.specs.Evaluate as m
use Rattle.c_meaning.specs.Evaluate.{View}
use Rattle.c_cells.specs.Halts.{said}
use Rattle.c_evaluation.specs.Scopes.{view_at, site_of}
use Rattle.c_evaluation.proofs.Reading.{address_bad}
use Rattle.c_evaluation.proofs.read.address.Goals as goal

pub returns : goal.returns
returns c =
    let at = site_of c.args.site in
    let none : m.root_number (view_at c.args.scope.now) at.root ≡ Bad c.in-Err.kind = sym c.root_number.ensures ∙ ap (said (λ n. n)) c.in-Err.is in
    sym (address_bad (view_at c.args.scope.now) at c.in-Err.kind none)
