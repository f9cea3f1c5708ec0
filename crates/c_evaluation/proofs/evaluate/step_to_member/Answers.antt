use Rattle.std.proofs.Common.{◌≡◌, ◌∙◌, sym, ap}
use Rattle.c_meaning.specs.Answer.{Got, Bad}
use Rattle.c_meaning.specs.Evaluate as m
use Rattle.c_cells.specs.Halts.{said}
use Rattle.c_evaluation.specs.Scopes.{view_at, site_of, step_of}
use Rattle.c_meaning.specs.States.{view}
use Rattle.c_evaluation.proofs.Evaluations.{no_member, to_member}
use Rattle.c_evaluation.proofs.evaluate.step_to_member.Goals as goal

pub returns-in-Ok : goal.returns-in-Ok
unfolding view
returns-in-Ok c =
    let v = view_at c.args.scope.now in
    let at = site_of c.args.site in
    let there : m.member v.declared c.args.name.now at.of ≡ Got (step_of c.in-Ok.step) =
    sym c.member.ensures ∙ ap (said step_of) c.in-Ok.is in
    let h = c.in_ok-onward-in-Ok.ensures in
    ap Got h ∙ sym (to_member v c.args.name.now at (step_of c.in-Ok.step) there)

pub returns : goal.returns
unfolding view
returns c =
    let v = view_at c.args.scope.now in
    let at = site_of c.args.site in
    let none : m.member v.declared c.args.name.now at.of ≡ Bad c.in-Err.kind =
    sym c.member.ensures ∙ ap (said step_of) c.in-Err.is in
    sym (no_member v c.args.name.now at c.in-Err.kind none)
