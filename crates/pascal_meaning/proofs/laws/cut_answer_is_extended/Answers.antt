use Rattle.pascal_meaning.proofs.Bounds.{cut_is_extended as law}
use Rattle.pascal_meaning.proofs.laws.cut_answer_is_extended.Goals as goal

pub returns : goal.returns
returns c = law
