use Rattle.c_meaning.proofs.Later.{final_stays as law}
use Rattle.c_meaning.proofs.laws.final_answer_stays.Goals as goal

pub returns : goal.returns
returns c = law
