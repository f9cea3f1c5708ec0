use Rattle.c_meaning.proofs.Reached.{reached_is_state as law}
use Rattle.c_meaning.proofs.laws.reached_is_a_state.Goals as goal

pub returns : goal.returns
returns c = law
