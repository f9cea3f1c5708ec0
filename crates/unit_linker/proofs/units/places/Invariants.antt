use Rattle.std.proofs.Common.{◌≡◌, ◌++◌, length}
use Rattle.unit_linker.specs.Files.{places}
use Rattle.unit_linker.proofs.units.places.Given as goal

abbrev pub invariant-loop-first : goal.invariant-loop-first
invariant-loop-first l = l.places ++ places l.units.entries l.rest ≡ places l.units.entries l.uses

abbrev pub decreases-loop-first : goal.decreases-loop-first
decreases-loop-first l = length l.rest
