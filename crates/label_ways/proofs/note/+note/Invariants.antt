use Rattle.std.proofs.Common.{◌≡◌, ◌+◌, ◌*◌}
use Rattle.c_tree.specs.Tree.{statement_size, body_size, body_of}
use Rattle.label_ways.proofs.Noting.{Noted}
use Rattle.label_ways.proofs.note.+note.Given as goal

abbrev pub decreases-note_in : goal.decreases-note_in
decreases-note_in l = 3 * body_size (body_of l.list.now)

abbrev pub decreases-note_at : goal.decreases-note_at
decreases-note_at l = 3 * statement_size l.statement.now + 2

abbrev pub decreases-note_below : goal.decreases-note_below
decreases-note_below l = 3 * body_size (body_of l.list.now) + 1

abbrev pub invariant-note_in-loop-i : goal.invariant-note_in-loop-i
invariant-note_in-loop-i l = record {
  outer : l.outer.items ≡ l.fn.outer.items;
  ways : Noted l.fn.outer.items l.fn.list l.fn.ways l.ways l.i;
}
