use Rattle.translate_core.proofs.NotAccepted.{refused_are_not_accepted}
use Rattle.translate_core.proofs.laws.refused_are_not_accepted.Goals as goal

pub returns : goal.returns
returns c = refused_are_not_accepted
