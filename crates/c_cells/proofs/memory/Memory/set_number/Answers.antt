use Rattle.std.proofs.Common.{rules}
use Rattle.c_cells.proofs.Spread.{holds_int}
use Rattle.c_cells.proofs.memory.Memory.set_number.Goals as goal

pub returns-then-is_kept-clause-int : goal.returns-then-is_kept-clause-int
returns-then-is_kept-clause-int c t = rw (← c.self.view_is) (holds_int _ _ c.self.invariant.0 _ _ (search rules) (c.set_number.ensures.int t))

pub returns-in-Some-clause-int : goal.returns-in-Some-clause-int
returns-in-Some-clause-int c t = rw (← c.self.view_is) (holds_int _ _ c.self.invariant.0 _ _ (search rules) (c.set_number-in-Some.ensures.int t))
