use Rattle.std.proofs.Common.{◌≡◌, ◌++◌, ◌∙◌, refl, sym, ap, subst, Some, List, ℕ, Option, false}
use Rattle.c_meaning.specs.States.{State}
use Rattle.c_meaning.specs.Steps.{CStep}
use Rattle.held_bytes.specs.Held.{bytes_in}
use Rattle.c_stepper.specs.Runners.{AsksForByte, reads_in, reads_here}
use Rattle.c_machine.specs.Machines.{stood, Steps}
use Rattle.c_machine.proofs.Machining.{takes_none, takes_as, told_step}
use Rattle.c_stepper.proofs.Seeking.{not_asked}
use Rattle.c_machine.proofs.machine.Machine.stepwise.Goals as goal

pub returns-then-reads-clause-takes : goal.returns-then-reads-clause-takes
returns-then-reads-clause-takes g c =
    let p = c.args.program.now in
    let old = c.args.self.now in
    takes_as p old (record old { runner = c.settle-next.new.self }) c.read.new.self (g.I.Source.left c.args.input.now) (g.I.Source.left c.read.new.input) (g.O.Sink.written c.args.out.now) (g.O.Sink.written c.read.new.out) c.read.result
    c.settle-next.ensures.same refl refl refl c.read.ensures.takes

pub returns-then-reads-clause-step : goal.returns-then-reads-clause-step
returns-then-reads-clause-step g c = λ left output calls is count.
    let p = c.args.program.now in
    let old = c.args.self.now in
    subst (λ (st : State). Steps p old.output.bytes.items old.calls c.read.new.self (g.I.Source.left c.read.new.input) (g.O.Sink.written c.args.out.now) (g.O.Sink.written c.read.new.out) output calls c.read.result (CStep p st))
    (c.settle-next.ensures.same (bytes_in old.input ++ left) output calls)
    (told_step p (record old { runner = c.settle-next.new.self }) c.read.new.self (g.I.Source.left c.args.input.now) (g.I.Source.left c.read.new.input) (g.O.Sink.written c.args.out.now) (g.O.Sink.written c.read.new.out) c.read.result left output calls c.read.ensures.takes is c.read.ensures.end count)

pub returns-else-reads-clause-takes : goal.returns-else-reads-clause-takes
returns-else-reads-clause-takes g c =
    let p = c.args.program.now in
    let old = c.args.self.now in
    let settled = c.settle-next.new.self in
    let other : reads_here p settled.frame ≡ false = ap reads_in (sym c.settle-next.ensures.next) ∙ sym c.reads.ensures ∙ c.if-reads.false in
    takes_none p old c.act.new.self (g.I.Source.left c.args.input.now) (g.O.Sink.written c.args.out.now) (g.O.Sink.written c.act.new.out) c.act.result
    (λ rest output calls over count.
    subst (λ (st : State). Steps p old.output.bytes.items old.calls c.act.new.self (Some rest) (g.O.Sink.written c.args.out.now) (g.O.Sink.written c.act.new.out) output calls c.act.result (CStep p st))
    (c.settle-next.ensures.same (bytes_in old.input ++ rest) output calls) (c.act.ensures.step rest output calls count))
    (λ h. ap (λ i. i.over) c.act.ensures.input ∙ h)
    (c.requires.is_for.ahead c.requires.going)
    (λ _ before rest output calls asks none.
    not_asked p settled (bytes_in old.input ++ rest) output calls other c.settle-next.ensures.settled (subst (AsksForByte p) (sym (c.settle-next.ensures.same (bytes_in old.input ++ rest) output calls)) asks))
    c.act.ensures.no_input

pub returns-else-reads-clause-step : goal.returns-else-reads-clause-step
returns-else-reads-clause-step g c = λ left output calls is count.
    let p = c.args.program.now in
    let old = c.args.self.now in
    subst (λ (o : Option (List ℕ)). Steps p old.output.bytes.items old.calls c.act.new.self o (g.O.Sink.written c.args.out.now) (g.O.Sink.written c.act.new.out) output calls c.act.result (CStep p (stood p old left output calls))) (sym is)
    (subst (λ (st : State). Steps p old.output.bytes.items old.calls c.act.new.self (Some left) (g.O.Sink.written c.args.out.now) (g.O.Sink.written c.act.new.out) output calls c.act.result (CStep p st))
    (c.settle-next.ensures.same (bytes_in old.input ++ left) output calls) (c.act.ensures.step left output calls count))
