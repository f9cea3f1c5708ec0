-- The blocks of `int64_t` variables.
use Rattle.std.proofs.Common.{◌≡◌, false}
use Rattle.c_tree.specs.Tree as t
use Rattle.c_meaning.specs.Cells.{Cell, Leaf, Block}
use Rattle.c_cells.specs.Slots.{int_block}

pub int_variable : (b : Block) (cell : Cell) → b.of ≡ t.Int → b.heap ≡ false → b.tree ≡ Leaf cell → b ≡ int_block cell
int_variable b cell of heap tree = λ i. record { of = of i; tree = tree i; heap = heap i }
