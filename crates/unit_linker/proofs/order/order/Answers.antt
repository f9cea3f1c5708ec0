use Rattle.unit_linker.proofs.Visited.{order_found, nothing_settled}
use Rattle.unit_linker.proofs.order.order.Goals as goal

pub returns : goal.returns
returns c =
    let graph = c.args.graph.now in
    let marks = c.in_ok-no_marks.field-0.items in
    order_found graph c.requires.closed c.requires.acyclic c.args.uses.now c.requires.within
    (marks, c.new.result.items) (c.visit_all.new.self.marks.items, c.visit_all.new.self.order.items) (c.members.new.self.marks.items, c.members.new.self.order.items)
    (nothing_settled graph marks c.new.result.items c.in_ok-no_marks.ensures c.new.ensures.items) c.new.ensures.items c.in_ok-visit_all.ensures c.in_ok-members.ensures
