use Rattle.std.proofs.Common.{◌≡◌, ◌∙◌, ℕ, Option, Some, sym, ap, subst, arith}
use Rattle.c_stepper.specs.declared.runner.Frame.{Frame}
use Rattle.c_stepper.specs.Quick.{code_at, IsCodeOf}
use Rattle.c_stepper.proofs.Coding.{code_is, next_stays}
use Rattle.c_stepper.proofs.Quickly.{no_steps, one_step, left_lists, stays_steps}
use Rattle.c_stepper.proofs.quick.dash.Goals as goal

pub loop-taken-init : goal.loop-taken-init
loop-taken-init c = record {
  row = λ some. absurd (omega (arith, some, c.empty-row.ensures));
  steps = λ guide own. no_steps guide c.args.frame.now c.args.memory.now;
  most = omega arith;
}

pub loop-taken-preserved : goal.loop-taken-preserved
loop-taken-preserved c =
    let code = c.args.code.now in
    let f0 = c.args.frame.now in
    let b0 = c.args.memory.now in
    let f = c.loop-taken.frame in
    let b = c.loop-taken.memory in
    let n = c.loop-taken.taken in
    let i = c.loop-taken.invariant in
    let spot = c.row_here.new.spot in
    record {
      row = λ some. c.in-Some-turn.ensures.row;
      steps = λ guide own.
          let h = i.steps guide own in
          let own1 : IsCodeOf guide.code f.function code = subst (λ (k : Option ℕ). IsCodeOf guide.code k code) (sym (ap (λ (x : Frame). x.function) h.rest)) own in
          one_step n guide f0 (record f { spot = spot }) c.turn.new.frame b0 b c.turn.new.memory (left_lists n guide code f0 f spot b0 b own c.row_here.ensures.todo h) (c.in-Some-turn.ensures.turns guide own1);
      most = omega (arith, i.most, c.loop-taken-test.true);
    }

pub returns-in_default-clause-steps : goal.returns-in_default-clause-steps
returns-in_default-clause-steps c = λ guide own.
    left_lists c.loop-taken.taken guide c.args.code.now c.args.frame.now c.loop-taken.frame c.row_here.new.spot c.args.memory.now c.loop-taken.memory own c.row_here.ensures.todo (c.loop-taken.invariant.steps guide own)

pub returns-in_default-turn-clause-steps : goal.returns-in_default-turn-clause-steps
returns-in_default-turn-clause-steps c = λ guide own.
    let code = c.args.code.now in
    let f0 = c.args.frame.now in
    let b0 = c.args.memory.now in
    let f = c.loop-taken.frame in
    let b = c.loop-taken.memory in
    let n = c.loop-taken.taken in
    let spot = c.row_here.new.spot in
    let h = c.loop-taken.invariant.steps guide own in
    let own1 : IsCodeOf guide.code f.function code = subst (λ (k : Option ℕ). IsCodeOf guide.code k code) (sym (ap (λ (x : Frame). x.function) h.rest)) own in
    let stays = c.in_default-turn.ensures.turns guide own1 in
    stays_steps n guide f0 (record f { spot = spot }) c.turn.new.frame b0 b c.turn.new.memory (left_lists n guide code f0 f spot b0 b own c.row_here.ensures.todo h) stays.0 stays.1

pub returns-in_default-turn-clause-here : goal.returns-in_default-turn-clause-here
returns-in_default-turn-clause-here c = λ guide is.
    let code = c.args.code.now in
    let f = c.loop-taken.frame in
    let b = c.loop-taken.memory in
    let spot = c.row_here.new.spot in
    let h = c.loop-taken.invariant.steps guide (code_is guide.code c.args.frame.now.function code is) in
    let function : code_at guide.code f.function ≡ Some code = ap (λ (x : Frame). code_at guide.code x.function) h.rest ∙ is in
    next_stays guide (record f { spot = spot }) c.turn.new.frame code c.in-Some.here c.place_in-here.result b c.turn.new.memory function c.in-Some.ensures.row (λ own. c.in_default-turn.ensures.turns guide own)
    c.place_in-here.ensures.at c.place_in-here.ensures.within c.place_in-here.ensures.small
