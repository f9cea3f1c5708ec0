-- A program with its units in their order.
use Rattle.std.specs.Prelude.{◌≡◌, ℕ, List, [], ◌∷◌, None, slice_get}
use Rattle.std.specs.List.{filter_map}
use Rattle.pascal_tree.specs.declared.files.SourceFile.{SourceFile}
use Rattle.unit_linker.specs.declared.linking.Linked.{Linked}
use Rattle.unit_linker.specs.Graph.{interface_of, IsAcyclic, IsOrder}
use Rattle.unit_linker.specs.Faults.{IsSound}
use Rattle.unit_linker.specs.Files.{interface_uses, named, places, graph_of, programs, double, missing}

-- one program; units of different names; each use is of a unit; no list of units returns to its first by interface uses
pub record IsLinked (files : List SourceFile) (linked : Linked) : Type 0 where
  pub program : programs files ≡ linked.program ∷ []
  pub once : double files ≡ None
  pub given : missing files ≡ None
  pub acyclic : IsAcyclic (graph_of files)
  pub order : List ℕ
  pub ordered : IsOrder (graph_of files) (places (named files) (interface_uses linked.program)) order
  pub units : linked.units.items ≡ filter_map (slice_get files) order

-- the order of the units of a program at this place
pub record IsOrdered (files : List SourceFile) (program : ℕ) (order : List ℕ) : Type 0 where
  pub sound : IsSound files
  pub acyclic : IsAcyclic (graph_of files)
  pub ordered : IsOrder (graph_of files) (interface_of (graph_of files) program) order
