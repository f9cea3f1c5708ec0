-- Calls that reckon with numbers alone.
use Rattle.std.specs.Prelude.{◌≡◌, ℕ, ℤ, ◌<◌, List, [], ◌∷◌, Option, Some, None}
use Rattle.c_tree.specs.Tree as t
use Rattle.c_tree.specs.Tree.{Expr, Place}
use Rattle.c_tree.specs.declared.statement.CCallee.{CCallee}
use Rattle.c_tree.specs.declared.program.CProgram.{CProgram}
use Rattle.c_meaning.specs.Cells.{Int, Blocks}
use Rattle.c_meaning.specs.Types.{Plain}
use Rattle.c_meaning.specs.Answer.{Got}
use Rattle.c_meaning.specs.States as m
use Rattle.c_meaning.specs.States.{view}
use Rattle.c_meaning.specs.Steps.{names_from}
use Rattle.c_cells.specs.Slots.{int_block, HoldsInt}
use Rattle.c_evaluation.specs.declared.numbers.Variable.{Variable}
use Rattle.c_evaluation.specs.declared.numbers.Number.{Number}
use Rattle.c_evaluation.specs.Numbers.{place_number, Evaluates}
use Rattle.c_stepper.specs.declared.resolved.code.ResolvedCall.{ResolvedCall}
use Rattle.c_stepper.specs.declared.call.Entry.{Entry}
use Rattle.c_stepper.specs.declared.guide.Guide.{Guide}
use Rattle.c_stepper.specs.declared.runner.Frame.{Frame}
use Rattle.c_stepper.specs.Guides.{IsGuide}
use Rattle.c_stepper.specs.Runners as r
use Rattle.c_stepper.specs.Runners.{variables_at, statement_at, state_of, Acts}
use Rattle.c_stepper.specs.Calls.{IsEntry, entered_of, entered}

-- the place for an answer is the block of the variable, which is there, or there is none
abbrev pub IsTargetOf : Blocks → ℕ → Option Variable → m.Target → Type 0
IsTargetOf blocks base None target = target ≡ m.Nowhere
IsTargetOf blocks base (Some variable) target = let n = place_number base variable in (target ≡ m.Into n [] (Plain t.Int)) × HoldsInt blocks n

-- the blocks hold what the numbers are, one after another
abbrev pub HoldAll : Blocks → ℕ → List Number → Blocks → Type 0
HoldAll blocks base [] [] = Unit {0}
HoldAll blocks base (n ∷ numbers) (b ∷ made) = ((z : ℤ) × (b ≡ Some (int_block (Int z))) × Evaluates blocks base n z) × HoldAll blocks base numbers made
HoldAll blocks base _ _ = ⊥

-- the parts of the entry that a call makes
pub record Entering (f : Frame) (blocks : Blocks) (call : ResolvedCall) (e : Entry) : Type 0 where
  pub function : e.function ≡ call.function
  pub reached : call.function < f.reach
  pub target : IsTargetOf blocks f.base call.target (r.target_of e.target)
  pub parameters : HoldAll blocks f.base call.arguments.items e.parameters

-- a call comes next, and it enters this, in each program whose guide this is
abbrev pub QuickEntry : Guide → Frame → Blocks → Entry → Type 0
QuickEntry guide f blocks e = (c : CProgram) → IsGuide c guide → (into : Option Place) × (who : CCallee) × (arguments : List Expr) × (statement_at c f ≡ Some (t.Call into who arguments))
    × IsEntry c e × (Got (entered_of e) ≡ entered c (view c f.reach (names_from f.base (variables_at c f)) blocks) into who arguments)
