use Rattle.std.proofs.Common.{◌≡◌, ◌+◌, ◌*◌, ◌≤◌, length}
use Rattle.c_tree.specs.Tree.{body_of, statement_size, body_size}
use Rattle.c_conditions.specs.World.{seen}
use Rattle.c_conditions.specs.StatementSteps.{statements}
use Rattle.c_conditions.proofs.checker.Checker.+statement.Given as goal

abbrev pub decreases-statement : goal.decreases-statement
decreases-statement l = 3 * statement_size l.s.now + 2

abbrev pub decreases-block : goal.decreases-block
decreases-block l = 3 * body_size (body_of l.list.now) + 1

abbrev pub decreases-statements : goal.decreases-statements
decreases-statements l = 3 * body_size (body_of l.list.now)

abbrev pub invariant-statements-loop-rest : goal.invariant-statements-loop-rest
invariant-statements-loop-rest l = record {
  value : statements (body_of l.fn.list) (seen l.initial.self) ≡ statements (body_of l.rest) (seen l.self);
  smaller : body_size (body_of l.rest) ≤ body_size (body_of l.fn.list);
}

abbrev pub decreases-statements-loop-rest : goal.decreases-statements-loop-rest
decreases-statements-loop-rest l = length l.rest
