use Rattle.pascal_meaning.proofs.Unseen.{temporaries_are_unseen as law}
use Rattle.pascal_meaning.proofs.laws.temporaries_are_unseen.Goals as goal

pub returns : goal.returns
returns c = law
