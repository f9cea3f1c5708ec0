-- Each child is smaller than its tree.
use Rattle.std.specs.Prelude.{◌+◌, ◌≤◌, max, List, [], ◌∷◌}
use Rattle.std.proofs.Common.{arith}
use denote.Param.Weighed.{most}
use Rattle.c_meaning.specs.Cells.{Tree}
use Rattle.c_cells.specs.Forks.{forks, tree_size}
use Rattle.c_cells.specs.TreeViews.{tree_of}
use Rattle.c_cells.specs.declared.tree.CellTreeNode.{CellTreeNode}
use Rattle.c_cells.specs.declared.tree.CellTreeNode.TheVariants as node
use Rattle.c_cells.specs.declared.tree.CellTree.TheDeep.{deep-CellTreeNode}

pub most_le-tree_size : (all : List Tree) → most (λ a. tree_size a + 1) all ≤ tree_size (forks all)
most_le-tree_size [] = omega arith
most_le-tree_size (a ∷ rest) = omega (arith, most_le-tree_size rest)

pub tree_falls : (n : CellTreeNode) → max (deep-CellTreeNode n) 0 ≤ tree_size (tree_of n)
tree_falls (node.Branch children) = omega (arith, most_le-tree_size children)
tree_falls _ = omega arith
