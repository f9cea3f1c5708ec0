use Rattle.std.proofs.Common.{◌≡◌, ◌+◌, List, Some, sym, ap, subst, ◌∙◌}
use Rattle.std.specs.Prelude.{slice_get, if◌then◌else◌}
use Rattle.label_ways.specs.declared.level.Level.{Level}
use Rattle.c_stepper.specs.declared.resolved.code.Node.{Node}
use Rattle.c_stepper.specs.declared.resolved.code.Row.{Row}
use Rattle.c_stepper.specs.declared.quick.Course.{Course}
use Rattle.c_stepper.specs.Quick.{IsRowAt, Moves, Does}
use Rattle.c_stepper.proofs.Coding.{is_here, at_row, branch_row}
use Rattle.c_stepper.proofs.quick.turn.Goals as goal

pub returns-in-Stopped-clause-turns : goal.returns-in-Stopped-clause-turns
returns-in-Stopped-clause-turns c = λ guide own.
    let code = c.args.code.now in
    let f = c.args.frame.now in
    let node = c.in-Some.node.now in
    let there : slice_get code.nodes.items (c.args.row.start + f.spot.at) ≡ Some node = ap (λ (ns : List Node). slice_get ns (c.args.row.start + f.spot.at)) (sym c.as_slice.ensures.value) ∙ c.in-Some.ensures.node in
    let at = at_row code f.spot.outer.items c.args.row f.spot.at node c.requires there c.in-Some.ensures.within in
    subst (λ (course : Course). Does guide f c.act.new.frame c.args.memory.now c.act.new.memory course) c.in-Stopped.is (c.act.ensures.does guide (is_here guide f code node own at))

pub returns-in-On-clause-turns : goal.returns-in-On-clause-turns
returns-in-On-clause-turns c = λ guide own.
    let code = c.args.code.now in
    let f = c.args.frame.now in
    let node = c.in-Some.node.now in
    let there : slice_get code.nodes.items (c.args.row.start + f.spot.at) ≡ Some node = ap (λ (ns : List Node). slice_get ns (c.args.row.start + f.spot.at)) (sym c.as_slice.ensures.value) ∙ c.in-Some.ensures.node in
    let at = at_row code f.spot.outer.items c.args.row f.spot.at node c.requires there c.in-Some.ensures.within in
    subst (λ (course : Course). Does guide f c.act.new.frame c.args.memory.now c.act.new.memory course) c.in-On.is (c.act.ensures.does guide (is_here guide f code node own at))

pub returns-in-On-clause-row : goal.returns-in-On-clause-row
returns-in-On-clause-row c =
    let moved = subst (λ (course : Course). Moves c.args.frame.now c.act.new.frame course) c.in-On.is c.act.ensures.moves in
    subst (λ (outer : List Level). IsRowAt c.args.code.now outer c.args.row) (sym moved) c.requires

pub returns-in-Into-clause-turns : goal.returns-in-Into-clause-turns
returns-in-Into-clause-turns c = λ guide own.
    let code = c.args.code.now in
    let f = c.args.frame.now in
    let node = c.in-Some.node.now in
    let there : slice_get code.nodes.items (c.args.row.start + f.spot.at) ≡ Some node = ap (λ (ns : List Node). slice_get ns (c.args.row.start + f.spot.at)) (sym c.as_slice.ensures.value) ∙ c.in-Some.ensures.node in
    let at = at_row code f.spot.outer.items c.args.row f.spot.at node c.requires there c.in-Some.ensures.within in
    subst (λ (course : Course). Does guide f c.act.new.frame c.args.memory.now c.act.new.memory course) c.in-Into.is (c.act.ensures.does guide (is_here guide f code node own at))

pub returns-in-Into-clause-row : goal.returns-in-Into-clause-row
returns-in-Into-clause-row c =
    let code = c.args.code.now in
    let f = c.args.frame.now in
    let node = c.in-Some.node.now in
    let second = c.in-Into.second in
    let there : slice_get code.nodes.items (c.args.row.start + f.spot.at) ≡ Some node = ap (λ (ns : List Node). slice_get ns (c.args.row.start + f.spot.at)) (sym c.as_slice.ensures.value) ∙ c.in-Some.ensures.node in
    let at = at_row code f.spot.outer.items c.args.row f.spot.at node c.requires there c.in-Some.ensures.within in
    let moved = subst (λ (course : Course). Moves f c.act.new.frame course) c.in-Into.is c.act.ensures.moves in
    subst (λ (row : Row). IsRowAt code c.act.new.frame.spot.outer.items row) (sym c.branch_row.ensures)
    (subst (λ (outer : List Level). IsRowAt code outer (if second then node.second else node.first)) (sym moved) (branch_row code f.spot.outer.items (record { at = f.spot.at; second = second }) node at))
