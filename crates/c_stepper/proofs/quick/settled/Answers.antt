use Rattle.std.proofs.Common.{List, refl, subst, arith}
use Rattle.label_ways.specs.declared.level.Level.{Level}
use Rattle.c_stepper.specs.declared.spot.Spot.{Spot}
use Rattle.c_stepper.specs.Quick.{IsRowAt, Leaves}
use Rattle.c_stepper.proofs.Coding.{left_one, none_left, still_todo}
use Rattle.c_stepper.proofs.quick.settled.Goals as goal

pub returns-then-spot-row-clause-row : goal.returns-then-spot-row-clause-row
returns-then-spot-row-clause-row c = subst (λ (outer : List Level). IsRowAt c.args.code.now outer c.in-Some.row) c.as_slice.ensures.value c.in-Some.ensures

pub returns-in_default-last_level-clause-todo : goal.returns-in_default-last_level-clause-todo
returns-in_default-last_level-clause-todo c =
    let spot = c.loop-row.spot in
    let new : Spot = record spot { outer = c.last_level.new.outer } in
    still_todo c.args.code.now c.args.spot.now spot new c.loop-row.invariant (none_left c.args.code.now spot new c.in_default-last_level.ensures.0 c.in_default-last_level.ensures.1 refl)

pub loop-row-preserved : goal.loop-row-preserved
loop-row-preserved c =
    let code = c.args.code.now in
    let spot = c.loop-row.spot in
    let row = c.in-Some.row in
    let new : Spot = record { outer = c.last_level.new.outer; at = c.in-Some-place_after.at } in
    let here = subst (λ (outer : List Level). IsRowAt code outer row) c.as_slice.ensures.value c.in-Some.ensures in
    let after = subst (λ (outer : List Level). Leaves code outer c.in-Some-place_after.at) c.as_slice-in-Some.ensures.value c.in-Some-place_after.ensures in
    still_todo code c.args.spot.now spot new c.loop-row.invariant (left_one code spot new c.in-Some-last_level.field-0 row here (omega (arith, c.if-spot-row.false)) c.in-Some-last_level.ensures after)
