use Rattle.c_grammar.proofs.NoFaults.{no_faults}
use Rattle.c_grammar.proofs.laws.texts_have_no_faults.Goals as goal

pub returns : goal.returns
returns c = no_faults
