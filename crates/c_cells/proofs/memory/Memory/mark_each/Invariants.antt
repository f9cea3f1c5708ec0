use Rattle.std.proofs.Common.{◌≡◌, ◌+◌}
use Rattle.c_cells.specs.Slots.{removed}
use Rattle.c_cells.proofs.memory.Memory.mark_each.Given as goal

abbrev pub invariant-loop-left : goal.invariant-loop-left
invariant-loop-left l = record {
  same : removed l.number l.left l.self ≡ removed l.fn.first l.fn.count l.fn.self;
  number : l.number + l.left ≡ l.fn.first + l.fn.count;
}

abbrev pub decreases-loop-left : goal.decreases-loop-left
decreases-loop-left l = l.left
