-- Laws of the order of units.
use Rattle.std.specs.Prelude.{◌≡◌, ℕ, List, ◌∷◌, ◌++◌}
use Rattle.unit_linker.specs.declared.graph.FileUses.{FileUses}
use Rattle.unit_linker.specs.Graph.{Among, interface_of, IsAcyclic, IsOrder}
use Rattle.unit_linker.specs.Slots.{IsOnce}

pub record StandsBefore (order : List ℕ) (v u : ℕ) : Type 0 where
  pub front : List ℕ
  pub back : List ℕ
  pub is : order ≡ front ++ u ∷ back
  pub among : Among front v

-- there is at most one order
abbrev pub OrdersAreOne : Type 0
OrdersAreOne = (graph : List FileUses) (uses order other : List ℕ) → IsOrder graph uses order → IsOrder graph uses other → order ≡ other

-- no unit stands in it twice
abbrev pub UnitsStandOnce : Type 0
UnitsStandOnce = (graph : List FileUses) (uses order : List ℕ) → IsAcyclic graph → IsOrder graph uses order → IsOnce order

-- what a unit uses in its interface stands before it
abbrev pub UsesStandBefore : Type 0
UsesStandBefore = (graph : List FileUses) (uses order : List ℕ) → IsOrder graph uses order → (u v : ℕ) → Among order u → Among (interface_of graph u) v → StandsBefore order v u
