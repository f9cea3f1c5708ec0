use Rattle.unit_linker.proofs.NoWay.{cycle_told, first_mark}
use Rattle.unit_linker.proofs.cycle.cycle_at.Goals as goal

pub returns : goal.returns
returns c =
    cycle_told c.args.graph.now c.args.file c.in_ok-no_marks.field-0.items c.enter.new.marks.items _ c.new.result.items c.requires.closed c.requires.within
    c.in_ok-no_marks.ensures
    (first_mark _ c.args.file _ _ _ c.requires.within c.in_ok-no_marks.ensures c.enter.ensures.new c.enter.ensures.marks)
    c.new.ensures.items (λ v. v.items) c.in_ok-found.found c.way.new.self.path c.then_some.result c.in_ok-found.ensures c.then_some.ensures
