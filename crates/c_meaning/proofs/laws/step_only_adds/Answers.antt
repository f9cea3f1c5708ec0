use Rattle.c_meaning.proofs.Grows.{step_adds as law}
use Rattle.c_meaning.proofs.laws.step_only_adds.Goals as goal

pub returns : goal.returns
returns c = law
