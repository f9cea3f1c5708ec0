use Rattle.std.proofs.Common.{◌≡◌, ◌+◌, ◌∙◌, ◌++◌, ◌∷◌, [], sym, ap, subst, arith, List}
use Rattle.c_meaning.specs.Cells.{Blocks}
use Rattle.c_stepper.specs.declared.runner.Frame.{Frame}
use Rattle.c_stepper.specs.declared.runner.Runner.{Runner}
use Rattle.c_stepper.specs.Spots.{todo_at}
use Rattle.c_stepper.specs.Runners.{target_of, state_of, frame_of, body_at, FitsFrame}
use Rattle.c_stepper.specs.Guides.{IsGuide}
use Rattle.c_stepper.specs.Calls.{entered_state}
use Rattle.c_stepper.proofs.Entering.{begins, fits_begun, entry_done_is}
use Rattle.c_stepper.proofs.runner.Runner.enter.Goals as goal

pub returns-clause-act : goal.returns-clause-act
returns-clause-act c = λ input output calls.
    let p = c.args.program.now in
    let old = c.args.self.now in
    let n = c.args.function in
    let target = target_of c.args.target in
    let blocks : Blocks = c.args.self.now.parameters.items in
    let caller = c.replace-caller.result in
    let rest = todo_at (body_at p old.frame) old.frame.spot.outer.items (old.frame.spot.at + 1) in
    let new : Runner = record { frame = c.replace-caller.new.dest; below = c.push_frame.new.below; memory = c.make_blocks.new.self.memory; parameters = c.make_blocks.new.self.parameters; guide = c.make_blocks.new.self.guide; alloc = c.make_blocks.new.self.alloc } in
    let after = c.replace-caller.ensures.after in
    let step : Frame → Frame = λ f. record f { spot = record { outer = f.spot.outer; at = f.spot.at + 1 } } in
    let reach : c.in-Some.reach ≡ n + 1 = omega (arith, c.in-Some.ensures) in
    let below = c.in_ok-push_frame.ensures ∙ ap (λ (l : List Frame). l ++ caller ∷ []) c.in_ok-base.ensures.rest.1 in
    let stepped : frame_of p caller ≡ record (frame_of p old.frame) { todo = rest } = ap (frame_of p) c.replace-caller.ensures.value ∙ ap (λ (f : Frame). frame_of p (step f)) c.in_ok-base.ensures.rest.0 in
    entry_done_is p new input output calls n c.done_by_call.result c.is_counted.result (entered_state p (state_of p old input output calls) rest (n, target, blocks)) c.done_by_call.ensures (c.is_counted.ensures p (subst (IsGuide p) (sym c.in_ok-base.ensures.guide) c.requires.fits.guide))
    (begins p old new caller n target blocks (ap (λ (f : Frame). f.function) after) (ap (λ (f : Frame). f.reach) after ∙ reach) (ap (λ (f : Frame). f.base) after ∙ c.in_ok-base.ensures.base) (ap (λ (f : Frame). f.spot.outer.items) after ∙ c.start.ensures.0) (ap (λ (f : Frame). f.spot.at) after ∙ c.start.ensures.1) (ap (λ (f : Frame). target_of f.target) after)
    below rest stepped c.in_ok-base.ensures.made input output calls)

pub returns-clause-fits : goal.returns-clause-fits
returns-clause-fits c =
    let p = c.args.program.now in
    let old = c.args.self.now in
    let n = c.args.function in
    let caller = c.replace-caller.result in
    let new : Runner = record { frame = c.replace-caller.new.dest; below = c.push_frame.new.below; memory = c.make_blocks.new.self.memory; parameters = c.make_blocks.new.self.parameters; guide = c.make_blocks.new.self.guide; alloc = c.make_blocks.new.self.alloc } in
    let after = c.replace-caller.ensures.after in
    let step : Frame → Frame = λ f. record f { spot = record { outer = f.spot.outer; at = f.spot.at + 1 } } in
    let is : caller ≡ step old.frame = c.replace-caller.ensures.value ∙ ap step c.in_ok-base.ensures.rest.0 in
    fits_begun p old new caller n (target_of c.args.target) c.args.self.now.parameters.items c.requires.fits (ap (λ (f : Frame). f.function) after) (ap (λ (f : Frame). f.base) after ∙ c.in_ok-base.ensures.base) c.in_ok-base.ensures.fits
    (c.in_ok-push_frame.ensures ∙ ap (λ (l : List Frame). l ++ caller ∷ []) c.in_ok-base.ensures.rest.1) (subst (FitsFrame p) (sym is) c.requires.fits.frame) (subst (IsGuide p) (sym c.in_ok-base.ensures.guide) c.requires.fits.guide)
