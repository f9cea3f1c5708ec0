use Rattle.pascal_meaning.proofs.Bounds.{final_stays as law}
use Rattle.pascal_meaning.proofs.laws.final_answer_stays.Goals as goal

pub returns : goal.returns
returns c = law
