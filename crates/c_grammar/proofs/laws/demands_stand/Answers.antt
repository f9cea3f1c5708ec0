use Rattle.c_grammar.proofs.StandProgram.{program_stand}
use Rattle.c_grammar.proofs.laws.demands_stand.Goals as goal

pub returns : goal.returns
returns c = program_stand
