use Rattle.program_shape.proofs.Writers.{writers_have_shape as law}
use Rattle.program_shape.proofs.laws.writers_have_shape.Goals as goal

pub returns : goal.returns
returns c = law
