use Rattle.std.proofs.Common.{ℕ, ◌<◌, List, ◌∷◌}
use Rattle.unit_linker.specs.Graph.{IsCycle}
use Rattle.unit_linker.proofs.cycle.first_cycle.Given as goal

abbrev pub invariant-loop-file : goal.invariant-loop-file
invariant-loop-file l = (v : ℕ) (path : List ℕ) → v < l.file → IsCycle l.graph (v ∷ path) → ⊥
