use Rattle.std.proofs.Common.{◌+◌, ◌++◌, ◌∷◌, ◌∙◌, [], ap, subst, Ok}
use Rattle.std.proofs.lemmas.List.{length-append}
use Rattle.held_bytes.specs.Held.{bytes_in}
use Rattle.c_machine.specs.declared.machine.Machine.{Machine}
use Rattle.c_stepper.specs.declared.runner.Done.{Done}
use Rattle.c_stepper.specs.Runners.{Acts}
use Rattle.c_machine.proofs.Machining.{went}
use Rattle.c_machine.proofs.machine.Machine.after.Goals as goal

pub returns-in-Going-clause-step : goal.returns-in-Going-clause-step
returns-in-Going-clause-step g c = λ p left output calls next acts count.
    let old = c.args.self.now in
    let new : Machine = record old { taken = old.taken + 1 } in
    went p new left output calls (g.O.Sink.written c.args.out.now) next (subst (λ (d : Done). Acts p old.runner (bytes_in old.input ++ left) output calls (Ok d) next) c.in-Going.is acts) count

pub returns-in-Entered-clause-step : goal.returns-in-Entered-clause-step
returns-in-Entered-clause-step g c = λ p left output calls next acts count.
    let old = c.args.self.now in
    let new : Machine = record old { taken = old.taken + 1; calls = old.calls + 1 } in
    let entered = subst (λ (d : Done). Acts p old.runner (bytes_in old.input ++ left) output calls (Ok d) next) c.in-Entered.is acts in
    went p new left output (calls ++ entered.0 ∷ []) (g.O.Sink.written c.args.out.now) next entered.1 (length-append calls (entered.0 ∷ []) ∙ ap (λ n. n + 1) count)
