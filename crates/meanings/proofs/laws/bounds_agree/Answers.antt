use Rattle.meanings.proofs.SteadyCode.{bounds_agree as law}
use Rattle.meanings.proofs.laws.bounds_agree.Goals as goal

pub returns : goal.returns
returns c = law
