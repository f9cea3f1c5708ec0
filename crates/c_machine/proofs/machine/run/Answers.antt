use Rattle.std.proofs.Common.{sym, subst, inl, List, ℕ, Option}
use Rattle.c_machine.specs.Machines.{TakesFew}
use Rattle.c_machine.specs.declared.machine.Ended.TheVariants as ended
use Rattle.c_machine.proofs.Running.{none_ran, none_taken}
use Rattle.c_machine.proofs.machine.run.Goals as goal

pub returns-in-Err-clause-ran : goal.returns-in-Err-clause-ran
returns-in-Err-clause-ran g c = λ bytes is. none_ran c.args.program.now bytes c.args.steps (g.O.Sink.written c.args.out.now)

pub returns-in-Err-clause-ahead : goal.returns-in-Err-clause-ahead
returns-in-Err-clause-ahead g c = λ bytes is.
    subst (λ (o : Option (List ℕ)). TakesFew c.args.program.now bytes o c.args.steps (ended.Memory c.in-Err.error)) (sym is) (none_taken c.args.program.now bytes c.args.steps c.in-Err.error)

pub returns-in-Err-clause-put : goal.returns-in-Err-clause-put
returns-in-Err-clause-put g c = λ bytes is. inl is
