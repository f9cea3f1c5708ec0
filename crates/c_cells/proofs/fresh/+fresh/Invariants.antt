use Rattle.std.proofs.Common.{◌≡◌, ◌+◌, ◌*◌, ◌++◌, length, take, replicate}
use Rattle.c_meaning.specs.Fresh.{fresh}
use Rattle.c_cells.proofs.FreshTrees.{member_trees}
use Rattle.c_cells.proofs.fresh.+fresh.Given as goal

abbrev pub decreases-fresh_among : goal.decreases-fresh_among
decreases-fresh_among l = 8 * l.above + 4

abbrev pub decreases-fresh_struct : goal.decreases-fresh_struct
decreases-fresh_struct l = 8 * l.above + 3

abbrev pub decreases-fresh_members : goal.decreases-fresh_members
decreases-fresh_members l = 8 * l.above + 7

abbrev pub decreases-fresh_member : goal.decreases-fresh_member
decreases-fresh_member l = 8 * l.above + 6

abbrev pub decreases-fresh_elements : goal.decreases-fresh_elements
decreases-fresh_elements l = 8 * l.above + 5

abbrev pub invariant-fresh_members-loop-rest : goal.invariant-fresh_members-loop-rest
invariant-fresh_members-loop-rest l =
    let above = take l.above l.declared.list.now in
    l.list ++ member_trees l.zeroed above l.rest ≡ member_trees l.zeroed above l.initial.rest

abbrev pub decreases-fresh_members-loop-rest : goal.decreases-fresh_members-loop-rest
decreases-fresh_members-loop-rest l = length l.rest

abbrev pub invariant-fresh_elements-loop-index : goal.invariant-fresh_elements-loop-index
invariant-fresh_elements-loop-index l = l.list ≡ replicate l.index (fresh l.zeroed (take l.above l.declared.list.now) l.of)
