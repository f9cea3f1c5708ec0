use Rattle.std.proofs.Common.{◌≡◌, ◌+◌, List, Some, sym, ap, subst, ◌∙◌}
use Rattle.std.specs.Prelude.{slice_get}
use Rattle.c_stepper.specs.declared.resolved.code.Node.{Node}
use Rattle.c_stepper.specs.declared.resolved.code.Row.{Row}
use Rattle.c_stepper.proofs.Coding.{Walks, begins, walks, row_found}
use Rattle.c_stepper.proofs.quick.row_at.Goals as goal

pub loop-level-init : goal.loop-level-init
loop-level-init c = begins c.args.code.now c.args.outer.now

pub loop-level-preserved : goal.loop-level-preserved
loop-level-preserved c =
    let code = c.args.code.now in
    let outer = c.args.outer.now in
    let l = c.in-Some.level.now in
    let node = c.in-Some-node_in.node.now in
    let there : slice_get code.nodes.items (c.loop-level.row.start + l.at) ≡ Some node = ap (λ (ns : List Node). slice_get ns (c.loop-level.row.start + l.at)) (sym c.as_slice-nodes.ensures.value) ∙ c.in-Some-node_in.ensures.node in
    subst (λ (row : Row). Walks code outer row c.in-Some.after.now) (sym c.branch_row-row.ensures) (walks code outer c.loop-level.rest.now c.in-Some.after.now c.loop-level.row l node c.loop-level.invariant c.in-Some.ensures.cases.0 there c.in-Some-node_in.ensures.within)

pub returns : goal.returns
returns c = row_found c.args.code.now c.args.outer.now c.loop-level.rest.now c.loop-level.row c.loop-level.invariant c.in_default.ensures.cases
