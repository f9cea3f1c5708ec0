use Rattle.std.proofs.Common.{◌≡◌, ◌∙◌, sym, ap, Some, None}
use Rattle.std.specs.Prelude.{slice_get}
use Rattle.std.specs.Option.{option_copied}
use Rattle.label_ways.specs.Labels.{path_of}
use Rattle.label_ways.specs.Ways.{body_in}
use Rattle.label_ways.proofs.Noting.{guided, unguided}
use Rattle.label_ways.proofs.note.ProgramWays.get.Goals as goal

pub returns-in-Some-ways_at : goal.returns-in-Some-ways_at
returns-in-Some-ways_at c = λ p h.
    let t = c.args.self.now in
    let x = c.args.label.now in
    let is : slice_get t.functions.items c.in-Some.number ≡ Some c.in-Some-ways_at.ways.now = ap (λ l. slice_get l c.in-Some.number) (sym c.deref.ensures.value) ∙ sym c.ways_at.ensures ∙ ap option_copied c.in-Some-ways_at.is in
    c.get-in-Some-ways_at.ensures ∙ guided p t c.in-Some.number x c.in-Some-ways_at.ways.now is h ∙ ap (λ f. path_of x 0 (body_in p f)) (sym c.in-Some.is)

pub returns-in-None-ways_at : goal.returns-in-None-ways_at
returns-in-None-ways_at c = λ p h.
    let t = c.args.self.now in
    let x = c.args.label.now in
    let is : slice_get t.functions.items c.in-Some.number ≡ None = ap (λ l. slice_get l c.in-Some.number) (sym c.deref.ensures.value) ∙ sym c.ways_at.ensures ∙ ap option_copied c.in-None-ways_at.is in
    unguided p t c.in-Some.number x is h ∙ ap (λ f. path_of x 0 (body_in p f)) (sym c.in-Some.is)
