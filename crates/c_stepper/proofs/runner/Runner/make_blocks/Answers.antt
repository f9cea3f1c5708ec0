use Rattle.std.proofs.Common.{◌≡◌, ◌∙◌, ◌++◌, ap, List, Some, false}
use Rattle.c_tree.specs.Tree.{Statement}
use Rattle.c_tree.specs.declared.program.CVariable.{CVariable}
use Rattle.c_meaning.specs.Cells.{Blocks}
use Rattle.c_meaning.specs.Fresh.{fresh_blocks}
use Rattle.c_stepper.specs.Runners.{parts_at}
use Rattle.c_stepper.proofs.Entering.{room}
use Rattle.c_stepper.proofs.runner.Runner.make_blocks.Goals as goal

pub returns-clause-fits : goal.returns-clause-fits
returns-clause-fits c =
    let p = c.args.program.now in
    let parts = parts_at p (Some c.args.function) in
    let locals : c.written_text-text.result.locals.now ≡ parts.locals = ap (λ (x : List CVariable × List CVariable × List Statement). x.1) c.written_text-text.ensures in
    let made = c.in_ok-push_fresh.ensures.blocks ∙ ap (λ ls. c.append.new.self ++ fresh_blocks false c.declared-declared.result.list.now ls) locals in
    room false c.declared-declared.result.list.now c.args.self.now.memory c.args.self.now.parameters.items c.append.new.self c.push_fresh.new.memory parts.parameters parts.locals (c.in_ok-append.ensures.ok.0 ∙ ap (λ (m : Blocks). m ++ c.args.self.now.parameters.items) c.begin.ensures) made c.in_ok-push_fresh.ensures.small c.requires.parameters
