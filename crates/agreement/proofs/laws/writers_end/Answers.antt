use Rattle.agreement.proofs.WritersEnd.{writers_end as law}
use Rattle.agreement.proofs.laws.writers_end.Goals as goal

pub returns : goal.returns
returns c = law
