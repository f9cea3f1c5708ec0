use Rattle.c_meaning.proofs.Touched.{step_changes as law}
use Rattle.c_meaning.proofs.laws.step_changes_what_it_names.Goals as goal

pub returns : goal.returns
returns c = law
