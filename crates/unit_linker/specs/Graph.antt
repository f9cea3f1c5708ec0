-- Files that use each other. A file is its place in the list of given files.
use Rattle.std.specs.Prelude.{◌≡◌, ℕ, suc, ◌≤◌, ◌<◌, ◌⊎◌, List, [], ◌∷◌, ◌++◌, length, Option, Some, None, slice_get}
use Rattle.unit_linker.specs.declared.graph.FileUses.{FileUses}

abbrev pub Among : List ℕ → ℕ → Type 0
Among [] v = ⊥
Among (u ∷ us) v = (u ≡ v) ⊎ Among us v

unfoldable pub interface_in : Option FileUses → List ℕ
interface_in None = []
interface_in (Some f) = f.interface

unfoldable pub implementation_in : Option FileUses → List ℕ
implementation_in None = []
implementation_in (Some f) = f.implementation

-- what a file uses in its interface; a program uses there what it uses
unfoldable pub interface_of : List FileUses → ℕ → List ℕ
interface_of graph u = interface_in (slice_get graph u)

unfoldable pub implementation_of : List FileUses → ℕ → List ℕ
implementation_of graph u = implementation_in (slice_get graph u)

-- each use is of a file in the list
pub record IsClosed (graph : List FileUses) : Type 0 where
  pub interface : (u v : ℕ) → Among (interface_of graph u) v → v < length graph
  pub implementation : (u v : ℕ) → Among (implementation_of graph u) v → v < length graph

-- ---- cycles

-- each uses the next in its interface, and the last one uses `end`
unfoldable pub LeadsTo : List FileUses → (path : List ℕ) → (end : ℕ) → Type 0
LeadsTo graph [] end = ⊥
LeadsTo graph (u ∷ []) end = Among (interface_of graph u) end
LeadsTo graph (u ∷ v ∷ path) end = Among (interface_of graph u) v × LeadsTo graph (v ∷ path) end

unfoldable pub IsCycle : List FileUses → List ℕ → Type 0
IsCycle graph [] = ⊥
IsCycle graph (u ∷ path) = LeadsTo graph (u ∷ path) u

-- no list of files returns to its first by interface uses
pub record IsAcyclic (graph : List FileUses) : Type 0 where
  pub never : (cycle : List ℕ) → IsCycle graph cycle → ⊥

-- it begins with the first file that is on any cycle
pub record IsFirstCycle (graph : List FileUses) (cycle : List ℕ) : Type 0 where
  pub returns : IsCycle graph cycle
  pub first : (u v : ℕ) (path more : List ℕ) → cycle ≡ u ∷ path → v < u → IsCycle graph (v ∷ more) → ⊥

-- a cycle that begins with the file, or None where the file is on no cycle
unfoldable pub IsCycleAt : List FileUses → ℕ → Option (List ℕ) → Type 0
IsCycleAt graph u None = (path : List ℕ) → IsCycle graph (u ∷ path) → ⊥
IsCycleAt graph u (Some cycle) = (path : List ℕ) × (cycle ≡ u ∷ path) × IsCycle graph (u ∷ path)

-- ---- the order of units

-- to visit files one after the other makes the order `before` into `after`: a file that is not in it yet is put behind those that its interface uses
pub data Visits (graph : List FileUses) : (files before after : List ℕ) → Type 0 where
  none : (order : List ℕ) → Visits graph [] order order
  known : (u : ℕ) (us before after : List ℕ) → Among before u → Visits graph us before after → Visits graph (u ∷ us) before after
  new : (u : ℕ) (us before inner after : List ℕ) → (Among before u → ⊥)
      → Visits graph (interface_of graph u) before inner → Visits graph us (inner ++ u ∷ []) after → Visits graph (u ∷ us) before after

-- to go through the order from this place on, while it grows, and visit the implementation uses of each member
pub data Grows (graph : List FileUses) : (place : ℕ) → (before after : List ℕ) → Type 0 where
  end : (place : ℕ) (order : List ℕ) → length order ≤ place → Grows graph place order order
  member : (place u : ℕ) (before more after : List ℕ) → slice_get before place ≡ Some u
      → Visits graph (implementation_of graph u) before more → Grows graph (suc place) more after → Grows graph place before after

-- the order of the units that a program with these uses needs
pub record IsOrder (graph : List FileUses) (uses order : List ℕ) : Type 0 where
  pub direct : List ℕ
  pub visits : Visits graph uses [] direct
  pub grows : Grows graph 0 direct order
