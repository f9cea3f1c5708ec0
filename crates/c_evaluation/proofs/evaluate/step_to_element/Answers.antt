use Rattle.std.proofs.Common.{◌≡◌, ◌∙◌, sym, ap, rules, w64}
use Rattle.std.specs.Prelude.{FitsSigned}
use Rattle.std.proofs.lemmas.Int.{to_z-of_z}
use Rattle.c_meaning.specs.Answer.{Got, Bad}
use Rattle.c_meaning.specs.Values as w
use Rattle.c_meaning.specs.Evaluate as m
use Rattle.c_cells.specs.Halts.{said}
use Rattle.c_evaluation.specs.Values.{value_of}
use Rattle.c_evaluation.specs.Scopes.{site_of, step_of}
use Rattle.c_evaluation.specs.Types.{place_type_of}
use Rattle.c_evaluation.proofs.Evaluations.{no_number, no_element}
use Rattle.c_evaluation.proofs.evaluate.step_to_element.Goals as goal

pub returns-in-Ok : goal.returns-in-Ok
returns-in-Ok c =
    let x = value_of c.args.x.now in
    let at = site_of c.args.site in
    let number : w.as_int x ≡ Got c.in-Ok.z = sym c.as_int.ensures ∙ ap (said (λ z. z)) c.in-Ok.is in
    let fits : FitsSigned w64 c.in-Ok.z = search rules in
    let none : m.element c.in-Ok.z (place_type_of c.args.site.of) ≡ Bad c.in-Err-element.kind = ap (λ z. m.element z (place_type_of c.args.site.of)) (sym (to_z-of_z w64 c.in-Ok.z fits)) ∙ sym c.element.ensures ∙ ap (said step_of) c.in-Err-element.is in
    sym (no_element at x c.in-Ok.z c.in-Err-element.kind number none)

pub returns : goal.returns
returns c =
    let x = value_of c.args.x.now in
    let none : w.as_int x ≡ Bad c.in-Err.kind = sym c.as_int.ensures ∙ ap (said (λ z. z)) c.in-Err.is in
    sym (no_number (site_of c.args.site) x c.in-Err.kind none)
