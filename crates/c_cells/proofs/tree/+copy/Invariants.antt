use Rattle.std.proofs.Common.{◌≡◌, ◌+◌, ◌*◌, ◌≤◌, ◌++◌, length}
use Rattle.c_cells.specs.Forks.{forks, tree_size}
use Rattle.c_cells.proofs.tree.+copy.Given as goal

abbrev pub decreases-copy_tree : goal.decreases-copy_tree
decreases-copy_tree l = 2 * tree_size l.tree.now + 1

abbrev pub decreases-copy_trees : goal.decreases-copy_trees
decreases-copy_trees l = 2 * tree_size (forks l.trees.now)

abbrev pub invariant-copy_trees-loop-rest : goal.invariant-copy_trees-loop-rest
invariant-copy_trees-loop-rest l = record {
  copied : l.list ++ l.rest ≡ l.initial.rest;
  smaller : tree_size (forks l.rest) ≤ tree_size (forks l.fn.trees);
}

abbrev pub decreases-copy_trees-loop-rest : goal.decreases-copy_trees-loop-rest
decreases-copy_trees-loop-rest l = length l.rest
