use Rattle.std.proofs.Common.{rules}
use Rattle.c_cells.proofs.Spread.{number_kept}
use Rattle.c_cells.proofs.memory.Memory.get_number.Goals as goal

pub returns-then-is_kept : goal.returns-then-is_kept
returns-then-is_kept c = rw (← c.self.view_is) (number_kept _ _ c.self.invariant.0 _ _ _ _ (rw c.deref-then-is_kept.ensures.value at c.slot_at.ensures) (search rules) c.get_number.ensures)
