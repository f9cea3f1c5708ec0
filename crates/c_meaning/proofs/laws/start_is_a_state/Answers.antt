use Rattle.c_meaning.proofs.Stays.{start_is_state as law}
use Rattle.c_meaning.proofs.laws.start_is_a_state.Goals as goal

pub returns : goal.returns
returns c = law
