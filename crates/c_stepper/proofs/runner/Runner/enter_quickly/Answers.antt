use Rattle.std.proofs.Common.{Ok, Err}
use Rattle.c_stepper.specs.Calls.{entry_with}
use Rattle.c_stepper.proofs.QuickCalling.{called, call_reads_not}
use Rattle.c_stepper.proofs.runner.Runner.enter_quickly.Goals as goal

pub returns-in-Ok-clause-leaps : goal.returns-in-Ok-clause-leaps
returns-in-Ok-clause-leaps c =
    let p = c.args.program.now in
    let old = c.args.self.now in
    let e = entry_with c.args.function c.args.target old.parameters.items in
    (call_reads_not old.guide old.frame old.memory e c.requires.entry, λ input output calls. called p old c.enter.new.self e (Ok c.in-Ok.done) input output calls c.requires.fits c.requires.entry (c.in-Ok.ensures.act input output calls))

pub returns-in-Err-clause-leaps : goal.returns-in-Err-clause-leaps
returns-in-Err-clause-leaps c = λ input output calls.
    let old = c.args.self.now in
    called c.args.program.now old c.enter.new.self (entry_with c.args.function c.args.target old.parameters.items) (Err c.in-Err.halt) input output calls c.requires.fits c.requires.entry (c.in-Err.ensures.act input output calls)
