use Rattle.std.proofs.Common.{◌≡◌, ◌++◌, ◌∙◌, ap, sym, subst, List, ℕ, Option, Some}
use Rattle.c_meaning.specs.States.{State}
use Rattle.c_meaning.specs.Steps.{CStep}
use Rattle.held_bytes.specs.declared.output.HeldOutput.{HeldOutput}
use Rattle.held_bytes.specs.Held.{bytes_in}
use Rattle.c_stepper.specs.Runners.{state_of}
use Rattle.c_machine.specs.Machines.{stood, Steps, Takes}
use Rattle.c_machine.proofs.Machining.{takes_none, takes_as}
use Rattle.c_stepper.proofs.Seeking.{reads_no_byte}
use Rattle.c_machine.proofs.machine.Machine.next_step.Goals as goal

pub returns-in-Some-leap-clause-step : goal.returns-in-Some-leap-clause-step
returns-in-Some-leap-clause-step g c = λ left output calls is count.
    let p = c.args.program.now in
    let old = c.args.self.now in
    subst (λ (o : Option (List ℕ)). Steps p old.output.bytes.items old.calls c.leap.new.self o (g.O.Sink.written c.args.out.now) (g.O.Sink.written c.leap.new.out) output calls c.in-Some-leap.stepped (CStep p (stood p old left output calls))) (sym is) (c.in-Some-leap.ensures.step left output calls count)

pub returns-in-Some-leap-clause-takes : goal.returns-in-Some-leap-clause-takes
returns-in-Some-leap-clause-takes g c =
    let p = c.args.program.now in
    let old = c.args.self.now in
    let going = c.requires.going in
    takes_none p old c.leap.new.self (g.I.Source.left c.args.input.now) (g.O.Sink.written c.args.out.now) (g.O.Sink.written c.leap.new.out) c.in-Some-leap.stepped
    (λ rest output calls over count. c.in-Some-leap.ensures.step rest output calls count)
    (λ h. ap (λ i. i.over) c.leap.ensures.input ∙ h)
    (c.requires.is_for.ahead going)
    (λ done before rest output calls asks none. reads_no_byte p old.runner (bytes_in old.input ++ rest) output calls (c.requires.is_for.frames going).guide (c.leap.ensures.reads_not (c.in-Some-leap.is ∙ ap Some done)) asks)
    (λ h. c.leap.ensures.no_input (c.in-Some-leap.is ∙ ap Some h))

pub returns-in-None-clause-step : goal.returns-in-None-clause-step
returns-in-None-clause-step g c = λ left output calls is count.
    let p = c.args.program.now in
    let old = c.args.self.now in
    let mid = c.leap.new.self in
    let new = c.stepwise-in-None.new.self in
    let same = c.leap.ensures.none c.in-None.is in
    let d = same.0 in
    let w = g.O.Sink.written c.args.out.now in
    let w2 = g.O.Sink.written c.stepwise-in-None.new.out in
    let left1 = g.I.Source.left c.stepwise-in-None.new.input in
    let r = c.stepwise-in-None.result in
    let out_is = ap (λ o. g.O.Sink.written o) same.1 in
    let state : stood p mid left output calls ≡ stood p old left output calls = d.state (bytes_in mid.input ++ left) output calls ∙ ap (λ i. state_of p old.runner (bytes_in i ++ left) output calls) d.input in
    subst (λ (u : Option (List ℕ)). Steps p old.output.bytes.items old.calls new left1 u w2 output calls r (CStep p (stood p old left output calls))) out_is
    (subst (λ (o : HeldOutput). Steps p o.bytes.items old.calls new left1 (g.O.Sink.written c.leap.new.out) w2 output calls r (CStep p (stood p old left output calls))) d.output
    (subst (λ (n : ℕ). Steps p mid.output.bytes.items n new left1 (g.O.Sink.written c.leap.new.out) w2 output calls r (CStep p (stood p old left output calls))) d.calls
    (subst (λ (st : State). Steps p mid.output.bytes.items mid.calls new left1 (g.O.Sink.written c.leap.new.out) w2 output calls r (CStep p st)) state (c.stepwise-in-None.ensures.step left output calls is (count ∙ sym d.calls)))))

pub returns-in-None-clause-takes : goal.returns-in-None-clause-takes
returns-in-None-clause-takes g c =
    let p = c.args.program.now in
    let old = c.args.self.now in
    let mid = c.leap.new.self in
    let new = c.stepwise-in-None.new.self in
    let same = c.leap.ensures.none c.in-None.is in
    let d = same.0 in
    let w2 = g.O.Sink.written c.stepwise-in-None.new.out in
    let left = g.I.Source.left c.args.input.now in
    let left1 = g.I.Source.left c.stepwise-in-None.new.input in
    let r = c.stepwise-in-None.result in
    subst (λ (u : Option (List ℕ)). Takes p old new left left1 u w2 r) (ap (λ o. g.O.Sink.written o) same.1)
    (takes_as p old mid new left left1 (g.O.Sink.written c.leap.new.out) w2 r d.state d.input d.output d.calls c.stepwise-in-None.ensures.takes)
