use Rattle.std.proofs.Common.{◌≡◌, ◌++◌, ◌∙◌, ap, sym, subst, List, ℕ, Option, arith}
use Rattle.c_meaning.specs.States.{State}
use Rattle.c_meaning.specs.Steps.{Onward, CStep}
use Rattle.held_bytes.specs.declared.output.HeldOutput.{HeldOutput}
use Rattle.held_bytes.specs.Held.{bytes_in}
use Rattle.c_machine.specs.declared.machine.Stepped.TheVariants as s
use Rattle.c_stepper.specs.Runners.{state_of}
use Rattle.c_machine.specs.Machines.{stood, Dashes, Steps}
use Rattle.c_stepper.proofs.Counting.{none_more}
use Rattle.c_machine.proofs.Machining.{dashed, no_dash, takes_none, takes_as}
use Rattle.c_machine.proofs.machine.Machine.step.Goals as goal

pub returns-then-dashed-gt0-clause-step : goal.returns-then-dashed-gt0-clause-step
returns-then-dashed-gt0-clause-step g c = λ going left output calls is count.
    let p = c.args.program.now in
    let old = c.args.self.now in
    let new = c.dash-dashed.new.self in
    let w = g.O.Sink.written c.args.out.now in
    let one : c.dash-dashed.result.taken ≡ 1 = omega (arith, c.dash-dashed.ensures.most, c.if-dashed-gt0.true) in
    let d = subst (λ (n : ℕ). Dashes p old new n) one c.dash-dashed.ensures.dashes in
    subst (λ (o : Option (List ℕ)). Steps p old.output.bytes.items old.calls new o w w output calls s.Going (CStep p (stood p old left output calls))) (sym is) (dashed p old new left output calls w d count)

pub returns-then-dashed-gt0-clause-takes : goal.returns-then-dashed-gt0-clause-takes
returns-then-dashed-gt0-clause-takes g c = λ going.
    let p = c.args.program.now in
    let old = c.args.self.now in
    let new = c.dash-dashed.new.self in
    let w = g.O.Sink.written c.args.out.now in
    let one : c.dash-dashed.result.taken ≡ 1 = omega (arith, c.dash-dashed.ensures.most, c.if-dashed-gt0.true) in
    let d = subst (λ (n : ℕ). Dashes p old new n) one c.dash-dashed.ensures.dashes in
    takes_none p old new (g.I.Source.left c.args.input.now) w w s.Going
    (λ rest output calls over count. dashed p old new rest output calls w d count)
    (λ h. ap (λ i. i.over) d.input ∙ h)
    (c.requires.is_for.ahead going)
    (λ _ over rest output calls asks none. d.reads_not rest output calls 0 (stood p old rest output calls) (omega arith) (none_more p (Onward (stood p old rest output calls))) asks)
    (λ h. cc)

pub returns-else-dashed-gt0-clause-step : goal.returns-else-dashed-gt0-clause-step
returns-else-dashed-gt0-clause-step g c = λ going left output calls is count.
    let p = c.args.program.now in
    let old = c.args.self.now in
    let mid = c.dash-dashed.new.self in
    let new = c.next_step.new.self in
    let w = g.O.Sink.written c.args.out.now in
    let w2 = g.O.Sink.written c.next_step.new.out in
    let left1 = g.I.Source.left c.next_step.new.input in
    let r = c.next_step.result in
    let zero_ : c.dash-dashed.result.taken ≡ 0 = omega (arith, c.if-dashed-gt0.false) in
    let d = subst (λ (n : ℕ). Dashes p old mid n) zero_ c.dash-dashed.ensures.dashes in
    let state : stood p mid left output calls ≡ stood p old left output calls = no_dash p old mid d (bytes_in mid.input ++ left) output calls ∙ ap (λ i. state_of p old.runner (bytes_in i ++ left) output calls) d.input in
    subst (λ (o : HeldOutput). Steps p o.bytes.items old.calls new left1 w w2 output calls r (CStep p (stood p old left output calls))) d.output
    (subst (λ (n : ℕ). Steps p mid.output.bytes.items n new left1 w w2 output calls r (CStep p (stood p old left output calls))) d.calls
    (subst (λ (st : State). Steps p mid.output.bytes.items mid.calls new left1 w w2 output calls r (CStep p st)) state (c.next_step.ensures.step left output calls is (count ∙ sym d.calls))))

pub returns-else-dashed-gt0-clause-takes : goal.returns-else-dashed-gt0-clause-takes
returns-else-dashed-gt0-clause-takes g c = λ going.
    let p = c.args.program.now in
    let old = c.args.self.now in
    let mid = c.dash-dashed.new.self in
    let zero_ : c.dash-dashed.result.taken ≡ 0 = omega (arith, c.if-dashed-gt0.false) in
    let d = subst (λ (n : ℕ). Dashes p old mid n) zero_ c.dash-dashed.ensures.dashes in
    takes_as p old mid c.next_step.new.self (g.I.Source.left c.args.input.now) (g.I.Source.left c.next_step.new.input) (g.O.Sink.written c.args.out.now) (g.O.Sink.written c.next_step.new.out) c.next_step.result
    (no_dash p old mid d) d.input d.output d.calls c.next_step.ensures.takes
