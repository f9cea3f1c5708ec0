use Rattle.std.proofs.Common.{◌≡◌, length}
use Rattle.unit_linker.specs.Files.{first_missing}
use Rattle.unit_linker.proofs.units.missing_in.Given as goal

abbrev pub invariant-loop-first : goal.invariant-loop-first
invariant-loop-first l = first_missing l.units.entries l.rest ≡ first_missing l.units.entries l.uses

abbrev pub decreases-loop-first : goal.decreases-loop-first
decreases-loop-first l = length l.rest
