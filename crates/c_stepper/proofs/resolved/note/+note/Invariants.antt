use Rattle.std.proofs.Common.{◌≡◌, ◌+◌, ◌*◌, ◌++◌, List, length}
use Rattle.c_tree.specs.Tree.{Statement, statement_size, body_size, body_of}
use Rattle.c_evaluation.specs.Numbers.{variables_of}
use Rattle.c_stepper.specs.Codes.{Extends}
use Rattle.c_stepper.proofs.Noting.{Each}
use Rattle.c_stepper.proofs.resolved.note.+note.Given as goal

abbrev pub decreases-note_list : goal.decreases-note_list
decreases-note_list l = 3 * body_size (body_of l.list.now)

abbrev pub decreases-note_statement : goal.decreases-note_statement
decreases-note_statement l = 3 * statement_size l.statement.now + 2

abbrev pub decreases-note_branches : goal.decreases-note_branches
decreases-note_branches l = 3 * statement_size l.statement.now + 1

abbrev pub invariant-note_list-loop-first : goal.invariant-note_list-loop-first
invariant-note_list-loop-first l = record {
  list : (done : List Statement) × (done ++ l.rest ≡ l.fn.list) × Each l.fn.names.program.now (variables_of l.fn.names) l.nodes.items l.own.items done;
  extends : Extends l.fn.nodes.items l.nodes.items;
}

abbrev pub decreases-note_list-loop-first : goal.decreases-note_list-loop-first
decreases-note_list-loop-first l = length l.rest
