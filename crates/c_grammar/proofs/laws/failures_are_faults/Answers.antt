use Rattle.c_grammar.proofs.FailuresFault.{failing_faults}
use Rattle.c_grammar.proofs.laws.failures_are_faults.Goals as goal

pub returns : goal.returns
returns c = failing_faults
