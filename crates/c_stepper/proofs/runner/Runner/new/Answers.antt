use Rattle.std.proofs.Common.{◌≡◌, ◌∙◌, ◌++◌, None, refl, ap, length, true, false}
use Rattle.c_meaning.specs.Fresh.{fresh_blocks}
use Rattle.c_meaning.specs.Cells.{Blocks}
use Rattle.c_stepper.specs.declared.runner.Target.TheVariants as g
use Rattle.c_stepper.specs.declared.runner.Runner.{Runner}
use Rattle.c_stepper.proofs.Entering.{starts, fits_start, fresh_length}
use Rattle.c_stepper.proofs.runner.Runner.new.Goals as goal

pub returns-clause-state : goal.returns-clause-state
returns-clause-state c = λ input.
    let p = c.args.program.now in
    let it : Runner = record { frame = record { function = None; reach = c.len.result; base = c.in_ok-base.base; spot = c.start.result; target = g.Nowhere }; below = c.new-2.result; memory = c.push_fresh-2.new.memory; parameters = c.new-3.result; guide = c.in_ok-guide.guide; alloc = c.args.alloc } in
    let first : c.push_fresh.new.memory ≡ fresh_blocks true p.declarations p.globals =
    c.in_ok-base.ensures.blocks ∙ ap (λ (m : Blocks). m ++ fresh_blocks true c.declared-declared.result.list.now c.as_slice.result.now) c.new-memory.ensures ∙ ap (λ gs. fresh_blocks true c.declared-declared.result.list.now gs) c.as_slice.ensures ∙ ap (λ ds. fresh_blocks true ds p.globals) c.declared-declared.ensures in
    let base : c.in_ok-base.base ≡ length p.globals = c.in_ok-base.ensures.number ∙ ap length first ∙ fresh_length true p.declarations p.globals in
    let second = c.in_ok-push_fresh.ensures.blocks ∙ ap (λ (m : Blocks). m ++ fresh_blocks false c.declared-declared.result.list.now c.as_slice-locals.result.now) first ∙ ap (λ ls. fresh_blocks true p.declarations p.globals ++ fresh_blocks false c.declared-declared.result.list.now ls) c.as_slice-locals.ensures ∙ ap (λ ds. fresh_blocks true p.declarations p.globals ++ fresh_blocks false ds p.main.locals) c.declared-declared.ensures in
    starts p it input refl c.len.ensures base c.start.ensures.0 c.start.ensures.1 refl c.new-2.ensures.items second

pub returns-clause-fits : goal.returns-clause-fits
returns-clause-fits c =
    let p = c.args.program.now in
    let it : Runner = record { frame = record { function = None; reach = c.len.result; base = c.in_ok-base.base; spot = c.start.result; target = g.Nowhere }; below = c.new-2.result; memory = c.push_fresh-2.new.memory; parameters = c.new-3.result; guide = c.in_ok-guide.guide; alloc = c.args.alloc } in
    let second = c.in_ok-push_fresh.ensures.blocks ∙ ap (λ ds. c.push_fresh.new.memory ++ fresh_blocks false ds c.as_slice-locals.result.now) c.declared-declared.ensures in
    fits_start p it c.push_fresh.new.memory c.as_slice-locals.result.now refl c.in_ok-base.ensures.number c.new-2.ensures.items c.as_slice-locals.ensures second c.in_ok-push_fresh.ensures.small c.in_ok-guide.ensures
