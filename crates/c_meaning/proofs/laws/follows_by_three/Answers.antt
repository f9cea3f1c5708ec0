use Rattle.c_meaning.proofs.Backward.{follows_by_three as law}
use Rattle.c_meaning.proofs.laws.follows_by_three.Goals as goal

pub returns : goal.returns
returns c = law
