use Rattle.c_cells.proofs.LastStructs.{IsNotBelow, left}
use Rattle.c_cells.proofs.structs.Declared.last_struct.Given as goal

abbrev pub invariant-loop-place : goal.invariant-loop-place
invariant-loop-place l = IsNotBelow l.self.list.now l.name l.above l.place

abbrev pub decreases-loop-place : goal.decreases-loop-place
decreases-loop-place l = left l.place
