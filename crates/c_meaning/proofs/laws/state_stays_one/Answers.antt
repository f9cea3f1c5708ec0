use Rattle.c_meaning.proofs.Stays.{state_stays as law}
use Rattle.c_meaning.proofs.laws.state_stays_one.Goals as goal

pub returns : goal.returns
returns c = law
