-- The search for a way through the files that use each other in their interfaces. An answer is which files have a mark, and the way.
use Rattle.std.specs.Prelude.{ℕ, zero, suc, Bool, true, false, nat_eq, List, [], ◌∷◌, ◌++◌, Option, Some, None, slice_get, slice_set}
use Rattle.unit_linker.specs.declared.graph.FileUses.{FileUses}
use Rattle.unit_linker.specs.Graph.{interface_of}
use Rattle.unit_linker.specs.Walk.{is_unmarked}

abbrev pub Answer : Type 0
Answer = List Bool × Option (List ℕ)

unfoldable pub begun_at : ℕ → Answer → Answer
begun_at u (marks, None) = (marks, None)
begun_at u (marks, Some path) = (marks, Some (u ∷ path))

-- the first answer with a way, or else what comes from its marks
unfoldable pub or_then : Answer → (List Bool → Answer) → Answer
or_then (marks, None) next = next marks
or_then (marks, Some path) next = (marks, Some path)

unfoldable pub unless_known : Bool → Answer → (List Bool → Answer) → List Bool → Answer
unless_known true found next marks = or_then found next
unless_known false found next marks = next marks

unfoldable pub unless_there : Bool → Answer → List Bool → Answer
unless_there true other marks = (marks, Some [])
unless_there false other marks = other

-- a way by one of these, the first that has one
unfoldable pub by_one_of : (ℕ → List Bool → Answer) → (goal : ℕ) → List ℕ → List Bool → Answer
by_one_of way goal [] marks = (marks, None)
by_one_of way goal (v ∷ vs) marks =
    unless_there (nat_eq v goal) (unless_known (is_unmarked (slice_get marks v)) (way v (slice_set marks v true)) (by_one_of way goal vs) marks) marks

-- a way from a file to the goal, nested at most n deep
unfoldable pub way : ℕ → List FileUses → (goal from : ℕ) → List Bool → Answer
way zero graph goal from marks = (marks, None)
way (suc n) graph goal from marks = begun_at from (by_one_of (way n graph goal) goal (interface_of graph from) marks)

unfoldable pub way_by : ℕ → List FileUses → (goal : ℕ) → List ℕ → List Bool → Answer
way_by n graph goal vs marks = by_one_of (way n graph goal) goal vs marks

-- the marks, whether there is a way, and a path with the way behind it
unfoldable pub told : List ℕ → Answer → List Bool × Bool × List ℕ
told path (marks, None) = (marks, false, path)
told path (marks, Some found) = (marks, true, path ++ found)
