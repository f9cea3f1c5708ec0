use Rattle.std.proofs.Common.{◌∙◌, ap, sym}
use Rattle.std.specs.Option.{option_copied}
use Rattle.std.specs.Prelude.{slice_get}
use Rattle.c_stepper.proofs.Guiding.{counted_some, counted_none}
use Rattle.c_stepper.proofs.frames.is_counted.Goals as goal

pub returns-in-Some : goal.returns-in-Some
returns-in-Some c = λ p g.
    counted_some p.functions c.args.function c.in-Some.counted.now (ap (λ l. slice_get l c.args.function) (sym g.counted ∙ sym c.deref.ensures.value) ∙ sym c.mark_at.ensures ∙ ap option_copied c.in-Some.is)

pub returns-in-None : goal.returns-in-None
returns-in-None c = λ p g. counted_none p.functions c.args.function (ap (λ l. slice_get l c.args.function) (sym g.counted ∙ sym c.deref.ensures.value) ∙ sym c.mark_at.ensures ∙ ap option_copied c.in-None.is)
