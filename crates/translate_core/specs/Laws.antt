-- What holds of refusals.
use Rattle.std.specs.Prelude.{List}
use Rattle.p2c_text.specs.declared.dialect.Dialect.{Dialect}
use Rattle.p2c_text.specs.Text.{NamedBytes}
use Rattle.agreement.specs.Writers.{Writing}
use Rattle.translate_core.specs.Accepted.{Accepts}
use Rattle.translate_core.specs.Refused.{Refuses}
use Rattle.translate_core.specs.declared.refusal.Refusal.{Refusal}
use Rattle.translate_core.specs.declared.refusal.Refusal.TheVariants as refusal

-- the refusal speaks of the texts
abbrev pub IsOfTexts : Refusal → Type 0
IsOfTexts (refusal.Memory error) = ⊥
IsOfTexts _ = Unit {0}

-- texts that are refused are not accepted
abbrev pub RefusedAreNotAccepted : Type 0
RefusedAreNotAccepted = (d : Dialect) (texts : List NamedBytes) (r : Refusal) (ws : List Writing) → IsOfTexts r → Refuses d texts r → Accepts d texts ws → ⊥
