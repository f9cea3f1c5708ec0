use Rattle.unit_linker.proofs.TakeLemmas.{some_taken, none_taken}
use Rattle.unit_linker.proofs.taking.take_all.Goals as goal

pub loop-first-preserved-in_ok-push : goal.loop-first-preserved-in_ok-push
loop-first-preserved-in_ok-push c =
    some_taken c.args.slots.now.items c.args.places.now c.loop-first.rest.now c.in-Some.after.now c.loop-first.slots.items _ c.in-Some.first.now c.loop-first.files.items _ c.in-Some-take_at.file c.take_at.result
    c.loop-first.invariant c.in-Some.ensures.cases.0 c.take_at.ensures.file c.take_at.ensures.slots c.in-Some-take_at.is c.in_ok-push.ensures.items

pub loop-first-preserved : goal.loop-first-preserved
loop-first-preserved c =
    none_taken c.args.slots.now.items c.args.places.now c.loop-first.rest.now c.in-Some.after.now c.loop-first.slots.items _ c.in-Some.first.now c.loop-first.files.items c.take_at.result
    c.loop-first.invariant c.in-Some.ensures.cases.0 c.take_at.ensures.file c.take_at.ensures.slots c.in_default-take_at.is
