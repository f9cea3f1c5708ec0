use Rattle.std.proofs.Common.{length}
use Rattle.c_cells.proofs.tree.CellTree.+part.Given as goal

abbrev pub decreases-part : goal.decreases-part
decreases-part l = length l.path.now
