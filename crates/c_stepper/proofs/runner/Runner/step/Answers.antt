use Rattle.std.proofs.Common.{◌≡◌, ◌∙◌, Some, None, sym, ap, subst}
use Rattle.std.specs.Option.{option_copied}
use Rattle.c_stepper.specs.Runners.{statement_at, Acts}
use Rattle.c_stepper.proofs.Stepping.{acted, fallen}
use Rattle.c_stepper.proofs.runner.Runner.step.Goals as goal

pub returns-in-Some-clause-act : goal.returns-in-Some-clause-act
returns-in-Some-clause-act c = λ input output calls.
    let p = c.args.program.now in
    let old = c.args.self.now in
    let s = c.in-Some.statement.now in
    let here : statement_at p old.frame ≡ Some s = sym c.requires.next ∙ ap option_copied c.in-Some.is in
    subst (Acts p c.act.new.self input output calls c.act.result) (acted p old input output calls s here) (c.act.ensures.act input output calls)

pub returns-in-None-clause-act : goal.returns-in-None-clause-act
returns-in-None-clause-act c = λ input output calls.
    let p = c.args.program.now in
    let old = c.args.self.now in
    let here : statement_at p old.frame ≡ None = sym c.requires.next ∙ ap option_copied c.in-None.is in
    subst (Acts p c.leave.new.self input output calls c.leave.result) (fallen p old input output calls here c.requires.settled) (c.leave.ensures.act input output calls)
