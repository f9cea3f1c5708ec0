use Rattle.std.proofs.Common.{◌≡◌, ◌++◌, length}
use Rattle.std.specs.List.{filter_map}
use Rattle.unit_linker.specs.Faults.{name_at}
use Rattle.unit_linker.proofs.linking.names_at.Given as goal

abbrev pub invariant-loop-first : goal.invariant-loop-first
invariant-loop-first l = l.names ++ filter_map (name_at l.files) l.rest ≡ filter_map (name_at l.files) l.places

abbrev pub decreases-loop-first : goal.decreases-loop-first
decreases-loop-first l = length l.rest
