use Rattle.std.proofs.Common.{◌+◌, ◌*◌, max}
use Rattle.c_tree.specs.Tree.{expr_size}
use Rattle.c_evaluation.proofs.numbers.+resolved.Given as goal

abbrev pub decreases-resolved : goal.decreases-resolved
decreases-resolved l = 2 * expr_size l.e.now

abbrev pub decreases-resolved_two : goal.decreases-resolved_two
decreases-resolved_two l = 2 * max (expr_size l.a.now) (expr_size l.b.now) + 1
