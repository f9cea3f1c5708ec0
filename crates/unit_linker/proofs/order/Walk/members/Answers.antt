use Rattle.std.proofs.Common.{◌≡◌, ◌+◌, ◌-◌, ◌∙◌, length, sym, arith}
use Rattle.unit_linker.specs.Graph.{implementation_of}
use Rattle.unit_linker.specs.Walk.{State, visit_all}
use Rattle.unit_linker.proofs.WalkSteps.{through_done, through_end, through_member}
use Rattle.unit_linker.proofs.order.Walk.members.Goals as goal

pub returns-in_default : goal.returns-in_default
returns-in_default c = through_end _ _ _ _ _ _ (sym c.member.ensures ∙ c.in_default.is) c.loop-place.invariant

pub loop-place-preserved : goal.loop-place-preserved
loop-place-preserved c =
    let graph = c.args.graph.now in
    let here : State = (c.loop-place.self.marks.items, c.loop-place.self.order.items) in
    let next : State = (c.visit_all.new.self.marks.items, c.visit_all.new.self.order.items) in
    let all : next ≡ visit_all (length graph) graph (implementation_of graph c.in-Some.file) here = cc (c.in_ok-visit_all.ensures, c.implementation_of.ensures) in
    let within = c.loop-place-test.true in
    through_member (length graph - (c.loop-place.place + 1)) (length graph - c.loop-place.place) (length graph) graph c.loop-place.place (c.loop-place.place + 1) c.in-Some.file here next
    (omega arith) (omega arith) (sym c.member.ensures ∙ c.in-Some.is) all
    ∙ c.loop-place.invariant

pub returns : goal.returns
returns c = through_done _ _ _ _ _ _ (omega arith) c.loop-place.invariant
