-- What the memory of the runner is seen as.
use Rattle.c_meaning.specs.Cells as m
use Rattle.c_meaning.specs.Cells.{Cell, Tree, Leaf, Fork, End}
use Rattle.c_cells.specs.declared.cell.CellNode.{CellNode}
use Rattle.c_cells.specs.declared.cell.CellNode.TheVariants as node

abbrev pub cell_of : CellNode → Cell
cell_of node.Empty = m.Empty
cell_of (node.Int z) = m.Int z
cell_of (node.Word n) = m.Word n
cell_of (node.Byte n) = m.Byte n
cell_of node.Null = m.Null
cell_of (node.Pointer block path) = m.Pointer block path
cell_of (node.Function name) = m.Function name
