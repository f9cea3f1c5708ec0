use Rattle.std.proofs.Common.{◌≡◌, ◌∙◌, sym, ap, arith, true}
use Rattle.std.proofs.lemmas.Result.{on_ok_weaker}
use Rattle.c_tree.specs.Tree as m
use Rattle.c_tree.specs.Tree.{body_of}
use Rattle.label_ways.specs.Labels.{or_way, inside, path_of, path_statement}
use Rattle.label_ways.specs.Ways.{way_in, below}
use Rattle.label_ways.proofs.Noting.{item_get, item_size, noted_next, if_added, while_added, else_added}
use Rattle.label_ways.proofs.note.+note.Goals as goal

pub note_in-note_at-requires : goal.note_in-note_at-requires
note_in-note_at-requires t c =
    let s = c.index-list-i.result in
    let here = item_get c.args.list.now c.loop-i.i s (omega arith) c.index-list-i.is in
    let below = item_size c.args.list.now c.loop-i.i s here in
    (omega (arith, below), tt)

pub note_in-loop-i-preserved : goal.note_in-loop-i-preserved
note_in-loop-i-preserved t c =
    let s = c.index-list-i.result in
    let same = c.loop-i.invariant.outer in
    record {
      outer = c.in_ok-note_at.ensures.outer ∙ same;
      ways = noted_next c.args.outer.now.items c.args.list.now c.args.ways.now c.loop-i.ways c.note_at.new.ways c.loop-i.i s (omega arith) c.index-list-i.is c.loop-i.invariant.ways
          (λ x. c.in_ok-note_at.ensures.ways x ∙ ap (λ o. or_way (way_in c.loop-i.ways x) (below o (path_statement x c.loop-i.i s))) same);
    }

pub note_at-returns-in-If-clause-ways : goal.note_at-returns-in-If-clause-ways
note_at-returns-in-If-clause-ways t c =
    let a = c.as_slice-in-If.result.now in
    let st : c.args.statement.now ≡ m.If c.in-If.field-0 (body_of a) = cc in
    on_ok_weaker c.note_below.result
    (λ h x. if_added c.args.outer.now.items c.args.ways.now c.note_below.new.ways c.args.i c.in-If.field-0 a h x
    ∙ ap (λ s. or_way (way_in c.args.ways.now x) (below c.args.outer.now.items (path_statement x c.args.i s))) (sym st))
    c.note_below.ensures.ways

pub note_at-returns-in-While-clause-ways : goal.note_at-returns-in-While-clause-ways
note_at-returns-in-While-clause-ways t c =
    let a = c.as_slice-in-While.result.now in
    let st : c.args.statement.now ≡ m.While c.in-While.field-0 (body_of a) = cc in
    on_ok_weaker c.note_below-in-While.result
    (λ h x. while_added c.args.outer.now.items c.args.ways.now c.note_below-in-While.new.ways c.args.i c.in-While.field-0 a h x
    ∙ ap (λ s. or_way (way_in c.args.ways.now x) (below c.args.outer.now.items (path_statement x c.args.i s))) (sym st))
    c.note_below-in-While.ensures.ways

pub note_at-returns-in_ok-note_below-in-IfElse-clause-ways : goal.note_at-returns-in_ok-note_below-in-IfElse-clause-ways
note_at-returns-in_ok-note_below-in-IfElse-clause-ways t c =
    let i = c.args.i in
    let a = c.as_slice-in-IfElse.result.now in
    let b = c.as_slice-in-IfElse-2.result.now in
    let first = c.note_below-in-IfElse.new.ways in
    let st : c.args.statement.now ≡ m.IfElse c.in-IfElse.field-0 (body_of a) (body_of b) = cc in
    on_ok_weaker c.note_below-in-IfElse-2.result
    (λ h x. else_added c.args.outer.now.items c.args.ways.now first c.note_below-in-IfElse-2.new.ways i c.in-IfElse.field-0 a b c.in_ok-note_below-in-IfElse.ensures.ways
    (λ y. h y ∙ ap (λ o. or_way (way_in first y) (below o (inside i true (path_of y 0 b)))) c.in_ok-note_below-in-IfElse.ensures.outer) x
    ∙ ap (λ s. or_way (way_in c.args.ways.now x) (below c.args.outer.now.items (path_statement x i s))) (sym st))
    c.note_below-in-IfElse-2.ensures.ways
