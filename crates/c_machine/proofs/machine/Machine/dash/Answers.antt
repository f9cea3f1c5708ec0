use Rattle.std.proofs.Common.{◌++◌, refl}
use Rattle.held_bytes.specs.Held.{bytes_in}
use Rattle.c_machine.proofs.machine.Machine.dash.Goals as goal

pub returns-clause-dashes : goal.returns-clause-dashes
returns-clause-dashes c =
    let p = c.args.program.now in
    let old = c.args.self.now in
    let guide = (c.requires.is_for.frames c.requires.going).guide in
    let steps = c.quick_steps-dashed.ensures.steps in
    record {
      runs = λ left output calls. steps.runs p old.runner (bytes_in old.input ++ left) output calls guide;
      reads_not = λ left output calls j st low is asks. steps.reads_not p old.runner (bytes_in old.input ++ left) output calls j st guide low is asks;
      taken = refl;
      input = refl;
      output = refl;
      calls = refl;
      over = refl;
    }
