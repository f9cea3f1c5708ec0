use Rattle.std.proofs.Common.{◌≡◌, ◌++◌, length, map}
use Rattle.unit_linker.specs.Files.{uses_of}
use Rattle.unit_linker.proofs.units.graph.Given as goal

abbrev pub invariant-loop-file : goal.invariant-loop-file
invariant-loop-file l = l.graph.items ++ map (uses_of l.units.entries) l.rest ≡ map (uses_of l.units.entries) l.files

abbrev pub decreases-loop-file : goal.decreases-loop-file
decreases-loop-file l = length l.rest
