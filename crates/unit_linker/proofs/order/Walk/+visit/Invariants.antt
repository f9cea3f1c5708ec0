use Rattle.std.proofs.Common.{◌≡◌, ◌+◌, ◌*◌, length}
use Rattle.unit_linker.specs.Walk.{visit_all}
use Rattle.unit_linker.proofs.order.Walk.+visit.Given as goal

abbrev pub decreases-visit : goal.decreases-visit
decreases-visit l = 2 * l.depth

abbrev pub decreases-visit_all : goal.decreases-visit_all
decreases-visit_all l = 2 * l.depth + 1

abbrev pub invariant-visit_all-loop-first : goal.invariant-visit_all-loop-first
invariant-visit_all-loop-first l =
    visit_all l.depth l.graph l.rest (l.self.marks.items, l.self.order.items) ≡ visit_all l.depth l.graph l.fn.files (l.initial.self.marks.items, l.initial.self.order.items)

abbrev pub decreases-visit_all-loop-first : goal.decreases-visit_all-loop-first
decreases-visit_all-loop-first l = length l.rest
