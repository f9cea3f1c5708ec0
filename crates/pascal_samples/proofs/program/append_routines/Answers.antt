use Rattle.std.proofs.Common.{◌≡◌, ◌+◌, ◌-◌, arith}
use Rattle.pascal_samples.proofs.TextLemmas.{routines_text-step, routines_text-end, goes_on, ends}
use Rattle.pascal_samples.proofs.program.append_routines.Goals as goal

pub loop-number-init : goal.loop-number-init
loop-number-init c = let all : c.args.size + 1 - 1 ≡ c.args.size = omega arith in rw all

pub loop-number-preserved : goal.loop-number-preserved
loop-number-preserved c =
    goes_on c.loop-number.out.items _ _ _ _ _ c.in_ok-append_routine.ensures
    (routines_text-step c.loop-number.state c.loop-number.number (c.args.size + 1) c.draws-drawn.result c.draws-drawn.ensures c.loop-number-test.true) c.loop-number.invariant

pub returns : goal.returns
returns c = ends c.loop-number.out.items _ _ (routines_text-end c.loop-number.state c.loop-number.number (c.args.size + 1) c.loop-number-test.false) c.loop-number.invariant
