use Rattle.std.proofs.Common.{List, ap, sym, ◌∙◌}
use Rattle.std.specs.Prelude.{slice_get}
use Rattle.std.specs.Option.{option_copied}
use Rattle.c_stepper.specs.declared.resolved.code.Node.{Node}
use Rattle.c_stepper.proofs.Coding.{node_next}
use Rattle.c_stepper.proofs.quick.node_here.Goals as goal

pub returns-in-Some : goal.returns-in-Some
returns-in-Some c =
    node_next c.args.guide.now c.args.frame.now c.in-Some.code.now c.args.here c.node_of.result c.requires (sym c.code_of.ensures.same ∙ ap option_copied c.in-Some.is) (c.node_of.ensures ∙ ap (λ (l : List Node). slice_get l c.args.here) c.deref.ensures.value)
