use Rattle.std.proofs.Common.{◌++◌, ◌∷◌, [], ap, ◌∙◌, List, ℕ}
use Rattle.std.specs.Option.{is_some}
use Rattle.c_meaning.specs.Entries.{number_at_end}
use Rattle.c_stepper.proofs.Guiding.{next_counted, all_counted}
use Rattle.c_stepper.proofs.guide.counted.Goals as goal

pub loop-first-preserved : goal.loop-first-preserved
loop-first-preserved c =
    let counts = c.ends_in_number.ensures ∙ ap (λ (name : List ℕ). is_some (number_at_end name)) c.as_slice.ensures in
    next_counted c.args.functions.now c.loop-first.rest.now c.in-Some.after.now c.loop-first.list.items _ c.in-Some.first.now c.loop-first.invariant c.in-Some.ensures.cases.0 (c.in_ok-push.ensures.items ∙ ap (λ b. c.loop-first.list.items ++ b ∷ []) counts)

pub returns : goal.returns
returns c = all_counted c.args.functions.now c.loop-first.rest.now c.loop-first.list.items c.loop-first.invariant c.in_default.ensures.cases
