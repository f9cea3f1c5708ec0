use Rattle.std.proofs.Common.{◌++◌, Some}
use Rattle.c_meaning.specs.Steps.{CStep}
use Rattle.held_bytes.specs.Held.{bytes_in}
use Rattle.c_machine.specs.Machines.{stood}
use Rattle.c_machine.proofs.machine.Machine.act.Goals as goal

pub returns-in-Err-clause-step : goal.returns-in-Err-clause-step
returns-in-Err-clause-step g c = λ left output calls count.
    let p = c.args.program.now in
    let old = c.args.self.now in
    c.halt.ensures.step p c.step.new.self (Some left) (bytes_in old.input ++ left) output calls (CStep p (stood p old left output calls)) (c.in-Err.ensures.act (bytes_in old.input ++ left) output calls)
