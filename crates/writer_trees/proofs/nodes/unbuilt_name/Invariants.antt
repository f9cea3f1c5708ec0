use Rattle.std.proofs.Common.{length}
use Rattle.writer_trees.proofs.Firsts.{NamesSoFar}
use Rattle.writer_trees.proofs.nodes.unbuilt_name.Given as goal

abbrev pub invariant-loop-name : goal.invariant-loop-name
invariant-loop-name l = NamesSoFar l.fn.names l.rest

abbrev pub decreases-loop-name : goal.decreases-loop-name
decreases-loop-name l = length l.rest
