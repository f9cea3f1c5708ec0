-- What a level of a tree of cells is seen as.
use Rattle.c_meaning.specs.Cells.{Tree, Leaf}
use Rattle.c_cells.specs.Forks.{forks}
use Rattle.c_cells.specs.declared.tree.CellTreeNode.{CellTreeNode}
use Rattle.c_cells.specs.declared.tree.CellTreeNode.TheVariants as node

abbrev pub tree_of : CellTreeNode → Tree
tree_of (node.Leaf cell) = Leaf cell
tree_of (node.Branch children) = forks children
