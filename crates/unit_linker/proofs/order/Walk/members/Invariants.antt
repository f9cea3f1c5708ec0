use Rattle.std.proofs.Common.{◌≡◌, ◌-◌, length}
use Rattle.unit_linker.specs.Walk.{through}
use Rattle.unit_linker.proofs.order.Walk.members.Given as goal

abbrev pub invariant-loop-place : goal.invariant-loop-place
invariant-loop-place l =
    through (length l.graph - l.place) (length l.graph) l.graph l.place (l.self.marks.items, l.self.order.items)
    ≡ through (length l.graph) (length l.graph) l.graph 0 (l.initial.self.marks.items, l.initial.self.order.items)
