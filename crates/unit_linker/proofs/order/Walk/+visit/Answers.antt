use Rattle.std.proofs.Common.{◌≡◌, ◌∙◌, true, sym, arith, slice_set}
use Rattle.unit_linker.specs.Graph.{interface_of}
use Rattle.unit_linker.specs.Walk.{State, placed, visit_all}
use Rattle.unit_linker.proofs.WalkSteps.{visit_deepest, visit_known, visit_new, visit_first, visit_none}
use Rattle.unit_linker.proofs.order.Walk.+visit.Goals as goal

pub visit-returns-in_default : goal.visit-returns-in_default
visit-returns-in_default t c = visit_deepest _ _ _ _ (omega (arith, c.in_default.ensures))

pub visit-returns-then-not-enter : goal.visit-returns-then-not-enter
visit-returns-then-not-enter t c =
    let e = visit_known c.args.depth c.in-Some.below c.args.graph.now c.args.file (c.args.self.now.marks.items, c.args.self.now.order.items) (omega (arith, c.in-Some.ensures)) (sym c.if-not-enter.ensures.new) in
    cc (e, c.if-not-enter.ensures.marks)

pub visit-returns : goal.visit-returns
unfolding placed
visit-returns t c =
    let all : ◌≡◌ {A = State} (c.visit_all.new.self.marks.items, c.visit_all.new.self.order.items)
    (visit_all c.in-Some.below c.args.graph.now (interface_of c.args.graph.now c.args.file) (slice_set c.args.self.now.marks.items c.args.file true, c.args.self.now.order.items))
    = cc (c.in_ok-visit_all.ensures, c.interface_of.ensures, c.if-not-enter.ensures.marks) in
    let e = visit_new c.args.depth c.in-Some.below c.args.graph.now c.args.file (c.args.self.now.marks.items, c.args.self.now.order.items)
    (c.visit_all.new.self.marks.items, c.visit_all.new.self.order.items) (omega (arith, c.in-Some.ensures)) (sym c.if-not-enter.ensures.new) all in
    cc (e, c.in_ok-push.ensures.items)

pub visit_all-loop-first-preserved : goal.visit_all-loop-first-preserved
visit_all-loop-first-preserved t c = visit_first _ _ c.in-Some.first.now c.in-Some.after.now _ _ _ c.in-Some.ensures.cases.0 c.in_ok-visit.ensures ∙ c.loop-first.invariant

pub visit_all-returns : goal.visit_all-returns
visit_all-returns t c = visit_none _ _ _ _ _ c.in_default.ensures.cases c.loop-first.invariant
