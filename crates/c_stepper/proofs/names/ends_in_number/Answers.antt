use Rattle.std.proofs.Common.{◌≡◌, ◌∙◌, [], sym, ap, arith}
use Rattle.c_stepper.specs.Marks.{numbered_after}
use Rattle.c_stepper.proofs.Marking.{ends_so}
use Rattle.c_stepper.proofs.Calling.{no_items}
use Rattle.c_stepper.proofs.names.ends_in_number.Goals as goal

pub returns : goal.returns
returns c =
    let rest = c.loop-rest.rest.now in
    let none : rest ≡ [] = no_items rest (omega arith) in
    c.has_number.ensures ∙ ap (numbered_after c.loop-rest.mark) (sym none) ∙ c.loop-rest.invariant ∙ sym (ends_so c.args.name.now)
