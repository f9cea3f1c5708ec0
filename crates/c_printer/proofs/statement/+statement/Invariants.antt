use Rattle.std.proofs.Common.{◌≡◌, ◌+◌, ◌*◌, ◌≤◌, ◌++◌, length}
use Rattle.c_tree.specs.statements.Tree.{body_of, statement_size, body_size}
use Rattle.c_printer.specs.Text.{body_text}
use Rattle.c_printer.proofs.statement.+statement.Given as goal

abbrev pub decreases-put_statement : goal.decreases-put_statement
decreases-put_statement l = 3 * statement_size l.s.now + 2

abbrev pub decreases-put_body : goal.decreases-put_body
decreases-put_body l = 3 * body_size (body_of l.body.now) + 1

abbrev pub decreases-put_statements : goal.decreases-put_statements
decreases-put_statements l = 3 * body_size (body_of l.list.now)

abbrev pub invariant-put_statements-loop-rest : goal.invariant-put_statements-loop-rest
invariant-put_statements-loop-rest l = record {
  written : l.out.items ++ body_text l.level (body_of l.rest) ≡ l.initial.out.items ++ body_text l.level (body_of l.initial.rest);
  smaller : body_size (body_of l.rest) ≤ body_size (body_of l.fn.list);
}

abbrev pub decreases-put_statements-loop-rest : goal.decreases-put_statements-loop-rest
decreases-put_statements-loop-rest l = length l.rest
