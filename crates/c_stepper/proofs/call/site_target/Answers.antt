use Rattle.std.proofs.Common.{◌≡◌, ◌∙◌, ℕ, sym, ap, subst}
use Rattle.c_meaning.specs.Answer.{Got, Bad}
use Rattle.c_meaning.specs.Evaluate as m
use Rattle.c_meaning.specs.Evaluate.{View}
use Rattle.c_cells.specs.Halts.{said, Tells}
use Rattle.c_evaluation.specs.Scopes.{view_at, site_of}
use Rattle.c_stepper.specs.Runners.{target_of}
use Rattle.c_stepper.proofs.Calling.{no_target, some_target}
use Rattle.c_stepper.proofs.call.site_target.Goals as goal

pub returns-in-Ok : goal.returns-in-Ok
returns-in-Ok c =
    let v : View = view_at c.args.scope.now in
    let s = site_of c.args.site in
    let there : m.root_number v s.root ≡ Got c.in-Ok.number = sym c.root_number.ensures ∙ ap (said (λ (n : ℕ). n)) c.in-Ok.is in
    subst (Tells target_of c.into_block.result) (sym (some_target v s c.in-Ok.number there)) c.into_block.ensures

pub returns-in-Err : goal.returns-in-Err
returns-in-Err c =
    let v : View = view_at c.args.scope.now in
    let s = site_of c.args.site in
    let none : m.root_number v s.root ≡ Bad c.in-Err.kind = sym c.root_number.ensures ∙ ap (said (λ (n : ℕ). n)) c.in-Err.is in
    sym (no_target v s c.in-Err.kind none)
