use Rattle.std.proofs.Common.{◌≡◌, ◌++◌}
use Rattle.c_cells.proofs.memory.Memory.append.Given as goal

abbrev pub invariant-loop-slot : goal.invariant-loop-slot
invariant-loop-slot l = l.self ≡ l.fn.self ++ l.yielded
