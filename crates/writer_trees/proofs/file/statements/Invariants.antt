use Rattle.std.proofs.Common.{length}
use Rattle.writer_trees.proofs.Firsts.{SoFar}
use Rattle.writer_trees.proofs.file.statements.Given as goal

abbrev pub invariant-loop-statement : goal.invariant-loop-statement
invariant-loop-statement l = SoFar l.dialect l.fn.all l.rest l.written.items

abbrev pub decreases-loop-statement : goal.decreases-loop-statement
decreases-loop-statement l = length l.rest
