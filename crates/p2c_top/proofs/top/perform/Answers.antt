use Rattle.p2c_top.proofs.Clauses.{run_input}
use Rattle.p2c_top.proofs.top.perform.Goals as goal

pub returns-in-Run-clause-of_input : goal.returns-in-Run-clause-of_input
returns-in-Run-clause-of_input g c = rw c.in-Run.is (run_input _ _ _ _ _ _ _ _ c.execute.ensures.read_fault c.execute.ensures.ahead c.execute.ensures.put_before)
