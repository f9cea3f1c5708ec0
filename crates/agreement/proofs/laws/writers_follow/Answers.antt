use Rattle.agreement.proofs.WritersAgree.{writers_follow as law}
use Rattle.agreement.proofs.laws.writers_follow.Goals as goal

pub returns : goal.returns
returns c = law
