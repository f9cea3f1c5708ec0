-- The walk through the files that use each other. A state is which files were entered, and the order so far.
use Rattle.std.specs.Prelude.{ℕ, zero, suc, Bool, true, false, List, [], ◌∷◌, ◌++◌, Option, Some, None, slice_get, slice_set}
use Rattle.unit_linker.specs.declared.graph.FileUses.{FileUses}
use Rattle.unit_linker.specs.Graph.{interface_of, implementation_of}

abbrev pub State : Type 0
State = List Bool × List ℕ

unfoldable pub is_unmarked : Option Bool → Bool
is_unmarked (Some false) = true
is_unmarked _ = false

unfoldable pub each : (ℕ → State → State) → List ℕ → State → State
each visit [] s = s
each visit (u ∷ us) s = each visit us (visit u s)

unfoldable pub placed : ℕ → State → State
placed u s = (s.0, s.1 ++ u ∷ [])

unfoldable pub when : Bool → State → State → State
when true t s = t
when false t s = s

-- nested at most n deep
unfoldable pub visit : ℕ → List FileUses → ℕ → State → State
visit zero graph u s = s
visit (suc n) graph u s =
    when (is_unmarked (slice_get s.0 u)) (placed u (each (visit n graph) (interface_of graph u) (slice_set s.0 u true, s.1))) s

unfoldable pub visit_all : ℕ → List FileUses → List ℕ → State → State
visit_all n graph us s = each (visit n graph) us s

unfoldable pub for_member : Option ℕ → State → (ℕ → State) → State
for_member None s next = s
for_member (Some u) s next = next u

-- the members from this place on, at most m of them
unfoldable pub through : (m n : ℕ) → List FileUses → (place : ℕ) → State → State
through zero n graph place s = s
through (suc m) n graph place s = for_member (slice_get s.1 place) s (λ u. through m n graph (suc place) (visit_all n graph (implementation_of graph u) s))
