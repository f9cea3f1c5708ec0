use Rattle.std.proofs.Common.{ap, sym, ◌∙◌}
use Rattle.std.specs.Option.{option_copied}
use Rattle.c_stepper.proofs.Quickly.{no_steps}
use Rattle.c_stepper.proofs.quick.quick_steps.Goals as goal

pub returns-in-Some-clause-steps : goal.returns-in-Some-clause-steps
returns-in-Some-clause-steps c = c.dash.ensures.steps c.args.guide.now c.in-Some.ensures.code

pub returns-in-None-clause-steps : goal.returns-in-None-clause-steps
returns-in-None-clause-steps c = no_steps c.args.guide.now c.args.frame.now c.args.memory.now

pub returns-in-Some-clause-here : goal.returns-in-Some-clause-here
returns-in-Some-clause-here c = c.dash.ensures.here c.args.guide.now (sym c.code_of.ensures.same ∙ ap option_copied c.in-Some.is)
