use Rattle.std.proofs.Common.{◌≡◌, ◌∙◌, sym, ap, subst, ℕ}
use Rattle.c_meaning.specs.Answer.{Got}
use Rattle.c_meaning.specs.Values as w
use Rattle.c_cells.specs.Halts.{said, Tells}
use Rattle.c_evaluation.specs.Stores.{byte_of_number}
use Rattle.c_evaluation.specs.Values.{value_of}
use Rattle.c_evaluation.proofs.Taking.{some_put}
use Rattle.std.proofs.Common.{rules, w64}
use Rattle.std.specs.Prelude.{FitsSigned}
use Rattle.std.proofs.lemmas.Int.{to_z-of_z}
use Rattle.c_evaluation.proofs.store.byte_in.Goals as goal

pub returns-in-Ok : goal.returns-in-Ok
returns-in-Ok c =
    let x = value_of c.args.value.now in
    let number : w.as_int x ≡ Got c.in-Ok.z = sym c.as_int.ensures ∙ ap (said (λ z. z)) c.in-Ok.is in
    let fits : FitsSigned w64 c.in-Ok.z = search rules in
    let told = c.byte_from.ensures in
    subst (Tells (λ (n : ℕ). n) c.byte_from.result) (ap byte_of_number (to_z-of_z w64 c.in-Ok.z fits) ∙ sym (some_put x c.in-Ok.z number)) told
