use Rattle.std.proofs.Common.{◌≤◌, length, drop}
use Rattle.c_cells.specs.Kept.{AllGone}
use Rattle.c_cells.proofs.kept.count_there.Given as goal

abbrev pub invariant-loop-count : goal.invariant-loop-count
invariant-loop-count l = record {
  within : l.count ≤ length l.fn.kept;
  gone : AllGone (drop l.count l.fn.kept);
}

abbrev pub decreases-loop-count : goal.decreases-loop-count
decreases-loop-count l = l.count
