use Rattle.std.proofs.Common.{◌≡◌, ◌+◌, ◌<◌, length}
use Rattle.c_conditions.specs.Cells.{sum_of, capped}
use Rattle.c_conditions.proofs.declaration.struct_cells.Given as goal

abbrev pub invariant-loop-rest : goal.invariant-loop-rest
invariant-loop-rest l = record { value : capped (sum_of l.fn.structs l.fn.members) ≡ capped (l.cells + sum_of l.structs l.rest); small : l.cells < 18446744073709551616 }

abbrev pub decreases-loop-rest : goal.decreases-loop-rest
decreases-loop-rest l = length l.rest
