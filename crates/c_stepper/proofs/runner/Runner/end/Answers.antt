use Rattle.std.proofs.Common.{sym, ℕ}
use Rattle.std.specs.Option.{option_map}
use Rattle.c_meaning.specs.Steps.{status_of, leave_to}
use Rattle.std.proofs.Common.{[]}
use Rattle.c_stepper.specs.Leaving.{given_of}
use Rattle.c_stepper.proofs.Acting.{stops}
use Rattle.c_stepper.proofs.Leaving.{ends, ends_stuck}
use Rattle.c_stepper.proofs.runner.Runner.end.Goals as goal

pub returns-in_err-status : goal.returns-in_err-status
returns-in_err-status c = λ p st.
    let answer = option_map given_of c.args.answer.now in
    stops (λ (n : ℕ). n) p c.args.self.now st.input st.output st.calls c.in_err-status.field-0.0 c.from_residual.result (status_of answer) (leave_to p st [] answer) c.from_residual.ensures.1 c.in_err-status.ensures (λ kind h. ends_stuck p st answer kind h)

pub returns : goal.returns
returns c = λ p st.
    let answer = option_map given_of c.args.answer.now in
    sym (ends p st answer c.in_ok-status.status (sym c.in_ok-status.ensures))
