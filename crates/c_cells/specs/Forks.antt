-- Children as a tree, and how large a tree is.
use Rattle.std.specs.Prelude.{ℕ, ◌+◌, List, [], ◌∷◌}
use Rattle.c_meaning.specs.Cells.{Tree, Leaf, Fork, End}

-- the tree with these children
abbrev pub forks : List Tree → Tree
forks [] = End
forks (a ∷ rest) = Fork a (forks rest)

-- larger than each child
abbrev pub tree_size : Tree → ℕ
tree_size (Leaf c) = 0
tree_size (Fork a rest) = tree_size a + 1 + tree_size rest
tree_size End = 0
