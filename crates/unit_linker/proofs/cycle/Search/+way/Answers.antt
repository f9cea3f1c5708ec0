use Rattle.std.proofs.Common.{◌≡◌, ◌∙◌, ◌∷◌, [], ◌++◌, true, false, sym, ap, arith, slice_set}
use Rattle.unit_linker.specs.Graph.{interface_of}
use Rattle.unit_linker.specs.Search.{told, way, way_by}
use Rattle.unit_linker.proofs.SearchSteps.{Told, way_deepest, way_begun, told_found, told_nothing, told_path, popped, by_none, by_goal, by_known, by_way, by_others}
use Rattle.unit_linker.proofs.cycle.Search.+way.Goals as goal

pub way-returns-in_default : goal.way-returns-in_default
way-returns-in_default t c = way_deepest _ _ _ _ _ _ (omega (arith, c.in_default.ensures))

pub way-returns-then-not-found : goal.way-returns-then-not-found
way-returns-then-not-found t c =
    let path = c.args.self.now.path.items in
    let marks = c.args.self.now.marks.items in
    let answer = way_by c.in-Some.below c.args.graph.now c.args.goal (interface_of c.args.graph.now c.args.from) marks in
    let all : ◌≡◌ {A = Told} (c.way_by.new.self.marks.items, false, c.way_by.new.self.path.items) (told (path ++ c.args.from ∷ []) answer)
    = cc (c.in_ok-found.ensures, c.interface_of.ensures, c.in_ok-push.ensures.items, c.if-not-found.true) in
    let nothing = told_nothing path c.args.from answer _ _ all in
    let e = nothing ∙ ap (told path) (way_begun c.args.depth c.in-Some.below c.args.graph.now c.args.goal c.args.from marks (omega (arith, c.in-Some.ensures))) in
    let back = popped path c.way_by.new.self.path.items c.pop.new.self.items c.args.from _ (told_path (path ++ c.args.from ∷ []) answer _ _ all) c.way_by.new.self.path.ok.0 c.pop.ensures.rest in
    cc (e, back, c.if-not-found.true)

pub way-returns-else-not-found : goal.way-returns-else-not-found
way-returns-else-not-found t c =
    let path = c.args.self.now.path.items in
    let marks = c.args.self.now.marks.items in
    let answer = way_by c.in-Some.below c.args.graph.now c.args.goal (interface_of c.args.graph.now c.args.from) marks in
    let all : ◌≡◌ {A = Told} (c.way_by.new.self.marks.items, true, c.way_by.new.self.path.items) (told (path ++ c.args.from ∷ []) answer)
    = cc (c.in_ok-found.ensures, c.interface_of.ensures, c.in_ok-push.ensures.items, c.if-not-found.false) in
    let e = told_found path c.args.from answer _ _ all ∙ ap (told path) (way_begun c.args.depth c.in-Some.below c.args.graph.now c.args.goal c.args.from marks (omega (arith, c.in-Some.ensures))) in
    cc (e, c.if-not-found.false)

pub way_by-returns-then-first-goal : goal.way_by-returns-then-first-goal
way_by-returns-then-first-goal t c =
    by_goal c.args.depth c.args.graph.now c.args.goal c.in-Some.first.now c.in-Some.after.now c.loop-first.rest.now c.loop-first.self.marks.items c.loop-first.self.path.items _
    c.in-Some.ensures.cases.0 c.if-first-goal.true c.loop-first.invariant

pub way_by-returns-then-branch : goal.way_by-returns-then-branch
way_by-returns-then-branch t c =
    let found : ◌≡◌ {A = Told} (c.way.new.self.marks.items, true, c.way.new.self.path.items)
    (told c.loop-first.self.path.items (way c.args.depth c.args.graph.now c.args.goal c.in-Some.first.now (slice_set c.loop-first.self.marks.items c.in-Some.first.now true)))
    = cc (c.in_ok-way.ensures, c.if-enter.ensures.marks, c.if-branch.true) in
    by_way c.args.depth c.args.graph.now c.args.goal c.in-Some.first.now c.in-Some.after.now c.loop-first.rest.now c.loop-first.self.marks.items _ c.loop-first.self.path.items _ _
    c.in-Some.ensures.cases.0 c.if-first-goal.false (sym c.if-enter.ensures.new) found c.loop-first.invariant

pub way_by-loop-first-preserved-else-branch : goal.way_by-loop-first-preserved-else-branch
way_by-loop-first-preserved-else-branch t c =
    let nothing : ◌≡◌ {A = Told} (c.way.new.self.marks.items, false, c.way.new.self.path.items)
    (told c.loop-first.self.path.items (way c.args.depth c.args.graph.now c.args.goal c.in-Some.first.now (slice_set c.loop-first.self.marks.items c.in-Some.first.now true)))
    = cc (c.in_ok-way.ensures, c.if-enter.ensures.marks, c.if-branch.false) in
    by_others c.args.depth c.args.graph.now c.args.goal c.in-Some.first.now c.in-Some.after.now c.loop-first.rest.now c.loop-first.self.marks.items _ c.loop-first.self.path.items _
    c.in-Some.ensures.cases.0 c.if-first-goal.false (sym c.if-enter.ensures.new) nothing
    ∙ c.loop-first.invariant

pub way_by-loop-first-preserved : goal.way_by-loop-first-preserved
way_by-loop-first-preserved t c =
    ap (λ m. told c.loop-first.self.path.items (way_by c.args.depth c.args.graph.now c.args.goal c.in-Some.after.now m)) c.if-enter.ensures.marks
    ∙ by_known c.args.depth c.args.graph.now c.args.goal c.in-Some.first.now c.in-Some.after.now c.loop-first.rest.now c.loop-first.self.marks.items c.loop-first.self.path.items
    c.in-Some.ensures.cases.0 c.if-first-goal.false (sym c.if-enter.ensures.new)
    ∙ c.loop-first.invariant

pub way_by-returns : goal.way_by-returns
way_by-returns t c = by_none _ _ _ _ _ _ _ c.in_default.ensures.cases c.loop-first.invariant
