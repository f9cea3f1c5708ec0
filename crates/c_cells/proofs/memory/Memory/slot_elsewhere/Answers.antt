use Rattle.std.proofs.Common.{rules}
use Rattle.c_cells.proofs.Spread.{slot_kept}
use Rattle.c_cells.proofs.memory.Memory.slot_elsewhere.Goals as goal

pub returns-in-Some-clause-kept : goal.returns-in-Some-clause-kept
returns-in-Some-clause-kept c = rw (← c.self.view_is) (slot_kept _ _ c.self.invariant.0 _ c.in-Some.place _ (search rules) (search rules))
