use Rattle.std.proofs.Common.{◌≡◌, map, rules}
use Rattle.unit_linker.specs.Files.{uses_of}
use Rattle.unit_linker.proofs.LinkLemmas.{missing_is, sound_is, graph_is}
use Rattle.unit_linker.proofs.linking.unit_order.Goals as goal

pub returns-in-Some-clause-refused : goal.returns-in-Some-clause-refused
returns-in-Some-clause-refused c =
    let m = missing_is c.args.files.now c.in-Ok.units.entries c.missing.result c.in-Some.span c.in-Ok.ensures.named c.missing.ensures c.in-Some.is in
    (c.requires.program, m.0, c.requires.one, c.in-Ok.ensures.once, m.1, m.2)

pub in_order-requires-clause-sound : goal.in_order-requires-clause-sound
in_order-requires-clause-sound c = sound_is c.args.files.now c.in-Ok.units.entries c.missing.result c.in-Ok.ensures.once c.in-Ok.ensures.named c.missing.ensures c.in_default.is

pub in_order-requires-clause-graph : goal.in_order-requires-clause-graph
in_order-requires-clause-graph c =
    let made : c.in_ok-graph.graph.items ≡ map (uses_of c.in-Ok.units.entries) c.args.files.now = search rules in
    graph_is c.args.files.now c.in-Ok.units.entries c.in_ok-graph.graph.items _ c.as_slice.ensures.value made c.in-Ok.ensures.named
