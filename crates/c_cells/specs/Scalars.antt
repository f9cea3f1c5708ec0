-- The scalar with which a variable begins.
use Rattle.std.specs.Prelude.{Bool, if◌then◌else◌}
use Rattle.c_meaning.specs.Cells.{Cell, Tree, Leaf, Empty}
use Rattle.c_cells.specs.Views.{cell_of}
use Rattle.c_cells.specs.declared.cell.CellNode.{CellNode}

-- it is zero, or holds nothing
abbrev pub scalar_cell : Bool → Cell → Cell
scalar_cell zeroed zero = if zeroed then zero else Empty

abbrev pub scalar_tree : Bool → CellNode → Tree
scalar_tree zeroed zero = Leaf (scalar_cell zeroed (cell_of zero))
