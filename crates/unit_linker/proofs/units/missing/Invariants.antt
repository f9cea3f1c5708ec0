use Rattle.std.proofs.Common.{◌≡◌, length}
use Rattle.unit_linker.specs.Files.{first_missing, all_uses}
use Rattle.unit_linker.proofs.units.missing.Given as goal

abbrev pub invariant-loop-file : goal.invariant-loop-file
invariant-loop-file l = first_missing l.units.entries (all_uses l.rest) ≡ first_missing l.units.entries (all_uses l.files)

abbrev pub decreases-loop-file : goal.decreases-loop-file
decreases-loop-file l = length l.rest
