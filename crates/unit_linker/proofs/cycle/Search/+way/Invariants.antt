use Rattle.std.proofs.Common.{◌≡◌, ◌+◌, ◌*◌, length}
use Rattle.unit_linker.specs.Search.{told, way_by}
use Rattle.unit_linker.proofs.cycle.Search.+way.Given as goal

abbrev pub decreases-way : goal.decreases-way
decreases-way l = 2 * l.depth

abbrev pub decreases-way_by : goal.decreases-way_by
decreases-way_by l = 2 * l.depth + 1

abbrev pub invariant-way_by-loop-first : goal.invariant-way_by-loop-first
invariant-way_by-loop-first l =
    told l.self.path.items (way_by l.depth l.graph l.goal l.rest l.self.marks.items)
    ≡ told l.initial.self.path.items (way_by l.depth l.graph l.goal l.fn.files l.initial.self.marks.items)

abbrev pub decreases-way_by-loop-first : goal.decreases-way_by-loop-first
decreases-way_by-loop-first l = length l.rest
