use Rattle.std.proofs.Common.{◌≡◌, ◌∙◌, ap, map, subst, arith}
use Rattle.label_ways.specs.Ways.{way_in, Leads}
use Rattle.label_ways.proofs.Noting.{each_next}
use Rattle.label_ways.proofs.note.ways_of_functions.Goals as goal

pub loop-function-preserved : goal.loop-function-preserved
loop-function-preserved c = λ x.
    let ways = c.in_ok-ways_of.field-0 in
    ap (map (λ t. way_in t x)) c.in_ok-push.ensures.items
    ∙ each_next c.loop-function.list.items c.args.functions.now c.loop-function.function-index ways c.function-item.result (omega arith) c.function-item.is c.loop-function.invariant
    (subst (Leads ways) c.as_slice.ensures c.in_ok-ways_of.ensures) x
