use Rattle.c_meaning.proofs.Later.{going_is_extended as law}
use Rattle.c_meaning.proofs.laws.going_is_extended.Goals as goal

pub returns : goal.returns
returns c = law
