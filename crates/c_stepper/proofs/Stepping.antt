-- The statement that comes next is the step.
use Rattle.std.proofs.Common.{◌≡◌, ℕ, ◌+◌, List, Some, None, sym, ap, subst}
use Rattle.std.specs.Prelude.{All}
use Rattle.c_tree.specs.Tree.{Statement}
use Rattle.c_tree.specs.declared.program.CProgram.{CProgram}
use Rattle.c_meaning.specs.Steps.{do_statement, leave, view_of, do_next, CStep}
use Rattle.c_stepper.specs.declared.guide.Guide.{Guide}
use Rattle.c_stepper.specs.Guides.{IsGuide}
use Rattle.c_stepper.specs.Spots.{todo_at}
use Rattle.c_stepper.specs.Runners.{state_of, runner_view, body_at, FitsFrame, FitsFrames, Stays, IsSettled, statement_at}
use Rattle.c_stepper.specs.declared.runner.Runner.{Runner}
use Rattle.c_stepper.proofs.Todo.{todo_next, todo_end}

module _ (c : CProgram) (it : Runner) (input output calls : List ℕ) where
  pub acted : (s : Statement) → statement_at c it.frame ≡ Some s
      → do_statement c (runner_view c it) (state_of c it input output calls) (todo_at (body_at c it.frame) it.frame.spot.outer.items (it.frame.spot.at + 1)) s ≡ CStep c (state_of c it input output calls)
  unfolding CStep do_next view_of
  acted s h = sym (ap (do_next c (state_of c it input output calls)) (todo_next (body_at c it.frame) it.frame.spot.outer.items it.frame.spot.at s h))

  pub fallen : statement_at c it.frame ≡ None → IsSettled c it.frame → leave c (state_of c it input output calls) None ≡ CStep c (state_of c it input output calls)
  unfolding CStep do_next
  fallen h s = sym (ap (do_next c (state_of c it input output calls)) (todo_end (body_at c it.frame) it.frame.spot.outer.items it.frame.spot.at h s))

-- where the frames stay, their blocks stay in range
pub stays_fits : (c : CProgram) (old new : Runner) → Stays old new → FitsFrames c old → FitsFrames c new
stays_fits c old new s h = record {
  frame = rw (s.function, s.base) h.frame;
  below = subst (All (FitsFrame c)) (sym s.below) h.below;
  guide = subst (IsGuide c) (sym s.guide) h.guide;
}

pub guide_stays : (c : CProgram) (t u : Guide) → u ≡ t → IsGuide c t → IsGuide c u
guide_stays c t u e h = subst (IsGuide c) (sym e) h
