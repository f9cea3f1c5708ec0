use Rattle.std.proofs.Common.{◌∙◌, ap, sym, Option, ℕ}
use Rattle.std.proofs.Common.{Some}
use Rattle.c_stepper.specs.Runners.{parts_at}
use Rattle.c_stepper.proofs.frames.result_of.Goals as goal

pub returns-in-None : goal.returns-in-None
returns-in-None c = ap Some c.int.ensures ∙ ap (λ (f : Option ℕ). (parts_at c.args.program.now f).result) (sym c.in-None.is)
