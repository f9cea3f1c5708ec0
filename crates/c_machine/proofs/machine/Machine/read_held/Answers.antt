use Rattle.std.proofs.Common.{◌≡◌, ◌+◌, ◌++◌, ◌∙◌, subst, Ok, Some}
use Rattle.c_meaning.specs.Steps.{CStep, after_byte}
use Rattle.held_bytes.specs.Held.{bytes_in, first_of}
use Rattle.c_machine.specs.declared.machine.Machine.{Machine}
use Rattle.c_stepper.specs.declared.runner.Done.{Done}
use Rattle.c_stepper.specs.Runners.{Acts}
use Rattle.c_machine.specs.Machines.{stood}
use Rattle.c_machine.proofs.Machining.{first_held, read_goes}
use Rattle.c_machine.proofs.machine.Machine.read_held.Goals as goal

pub returns-in-Ok-clause-step : goal.returns-in-Ok-clause-step
returns-in-Ok-clause-step g c = λ left output calls none count.
    let p = c.args.program.now in
    let old = c.args.self.now in
    let held = bytes_in old.input in
    let byte : c.first.result ≡ first_of (held ++ left) = c.first.ensures ∙ first_held held left none in
    let new : Machine = record old { runner = c.read.new.self; input = c.advance.new.self; taken = old.taken + 1 } in
    let next = CStep p (stood p old left output calls) in
    let acts = subst (λ (d : Done). Acts p c.read.new.self (after_byte (held ++ left)) output calls (Ok d) next) c.in-Ok.ensures.going (c.in-Ok.ensures.act (held ++ left) output calls byte) in
    read_goes p new held left output calls (g.O.Sink.written c.args.out.now) next none c.advance.ensures.rest acts count

pub returns-in-Err-clause-step : goal.returns-in-Err-clause-step
returns-in-Err-clause-step g c = λ left output calls none count.
    let p = c.args.program.now in
    let old = c.args.self.now in
    let held = bytes_in old.input in
    let byte : c.first.result ≡ first_of (held ++ left) = c.first.ensures ∙ first_held held left none in
    c.halt.ensures.step p c.read.new.self (Some left) (after_byte (held ++ left)) output calls (CStep p (stood p old left output calls)) (c.in-Err.ensures.act (held ++ left) output calls byte)
