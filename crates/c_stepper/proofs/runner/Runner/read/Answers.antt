use Rattle.std.proofs.Common.{◌≡◌, ◌∙◌, Some, sym, ap, subst}
use Rattle.std.specs.Option.{option_copied}
use Rattle.c_meaning.specs.Steps.{after_byte}
use Rattle.c_stepper.specs.Runners.{statement_at, Acts}
use Rattle.c_stepper.proofs.Stepping.{acted}
use Rattle.c_stepper.proofs.runner.Runner.read.Goals as goal

pub returns-clause-act : goal.returns-clause-act
returns-clause-act c = λ input output calls is.
    let p = c.args.program.now in
    let old = c.args.self.now in
    let s = c.in-Some.statement.now in
    let here : statement_at p old.frame ≡ Some s = sym c.current.ensures.value ∙ ap option_copied c.in-Some.is in
    subst (Acts p c.read_into.new.self (after_byte input) output calls c.read_into.result) (acted p old input output calls s here) (c.read_into.ensures.act input output calls is)
