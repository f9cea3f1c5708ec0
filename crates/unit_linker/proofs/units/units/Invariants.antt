use Rattle.std.proofs.Common.{length}
use Rattle.unit_linker.proofs.FileLemmas.{Naming}
use Rattle.unit_linker.proofs.units.units.Given as goal

abbrev pub invariant-loop-file : goal.invariant-loop-file
invariant-loop-file l = Naming l.files l.rest l.units.entries

abbrev pub decreases-loop-file : goal.decreases-loop-file
decreases-loop-file l = length l.rest
