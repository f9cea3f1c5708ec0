-- Answers that are numbers, to variables of `int64_t`.
use Rattle.std.specs.Prelude.{◌≡◌, ℕ, ℤ, [], ◌∷◌, ◌++◌, Some}
use Rattle.c_tree.specs.Tree as t
use Rattle.c_tree.specs.Tree.{Expr}
use Rattle.c_tree.specs.declared.program.CProgram.{CProgram}
use Rattle.c_meaning.specs.Cells.{Leaf, Int, Blocks}
use Rattle.c_meaning.specs.Answer.{Got}
use Rattle.c_meaning.specs.Values.{int}
use Rattle.c_meaning.specs.Evaluate.{value}
use Rattle.c_meaning.specs.States.{Names, view, store, without}
use Rattle.c_meaning.specs.Steps.{names_from}
use Rattle.c_cells.specs.Slots.{HoldsInt}
use Rattle.c_stepper.specs.declared.guide.Guide.{Guide}
use Rattle.c_stepper.specs.declared.runner.Frame.{Frame}
use Rattle.c_stepper.specs.declared.runner.Runner.{Runner}
use Rattle.c_stepper.specs.Guides.{IsGuide}
use Rattle.c_stepper.specs.Runners.{variables_at, statement_at}

-- a `return` comes next, and it gives this number, in each program whose guide this is
abbrev pub GivesNumber : Guide → Frame → Blocks → ℤ → Type 0
GivesNumber guide f blocks z = (c : CProgram) → IsGuide c guide → (x : Expr) × (statement_at c f ≡ Some (t.Return (Some x))) × (value (view c f.reach (names_from f.base (variables_at c f)) blocks) x ≡ Got (int z))

-- the number is in the block of the variable, those of the function with these names are gone, and the function below goes on
pub record LeavesNumber (names : Names) (old new : Runner) (number : ℕ) (z : ℤ) : Type 0 where
  pub held : HoldsInt old.memory number
  pub stored : Blocks
  pub is : store old.memory number [] (Leaf (Int z)) ≡ Got stored
  pub memory : new.memory ≡ without names stored
  pub frame : old.below.items ≡ new.below.items ++ new.frame ∷ []
  pub guide : new.guide ≡ old.guide
