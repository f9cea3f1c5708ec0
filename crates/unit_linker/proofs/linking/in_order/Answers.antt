use Rattle.std.proofs.Common.{rules}
use Rattle.unit_linker.specs.Graph.{IsFirstCycle}
use Rattle.unit_linker.proofs.LinkLemmas.{closed_as, within_as, span_there}
use Rattle.unit_linker.proofs.linking.in_order.Goals as goal

pub first_cycle-requires : goal.first_cycle-requires
first_cycle-requires c = closed_as c.args.files.now c.args.graph.now c.requires.graph

pub cycle_fault-requires : goal.cycle_fault-requires
cycle_fault-requires c =
    let first : IsFirstCycle c.args.graph.now c.in-Some.cycle.items = search rules in
    span_there c.args.files.now c.args.graph.now c.in-Some.cycle.items _ c.requires.graph first c.as_slice.ensures.value

pub order-requires-clause-closed : goal.order-requires-clause-closed
order-requires-clause-closed c = closed_as c.args.files.now c.args.graph.now c.requires.graph

pub order-requires-clause-within : goal.order-requires-clause-within
order-requires-clause-within c = within_as c.args.files.now c.args.graph.now _ c.args.program c.requires.graph c.interface_of.ensures
