-- Calls and answers by numbers alone.
use Rattle.std.specs.Prelude.{◌≡◌, ℕ, ◌+◌, ◌<◌, ◌^◌, List, Option, Some, None, Result, Ok, Err}
use Rattle.c_tree.specs.declared.program.CProgram.{CProgram}
use Rattle.c_meaning.specs.Cells.{Blocks}
use Rattle.c_meaning.specs.Steps.{CStep}
use Rattle.c_cells.specs.declared.halt.Halt.{Halt}
use Rattle.c_stepper.specs.declared.guide.Guide.{Guide}
use Rattle.c_stepper.specs.declared.runner.Frame.{Frame}
use Rattle.c_stepper.specs.declared.runner.Runner.{Runner}
use Rattle.c_stepper.specs.declared.runner.Done.{Done}
use Rattle.c_stepper.specs.declared.quick_change.Change.{Change}
use Rattle.c_stepper.specs.declared.quick_change.Change.TheVariants as change
use Rattle.c_stepper.specs.Runners.{state_of, Acts}
use Rattle.c_stepper.specs.Calls.{entry_with}
use Rattle.c_stepper.specs.Quick.{ReadsNot}
use Rattle.c_stepper.specs.QuickCalls.{QuickEntry}
use Rattle.c_stepper.specs.QuickReturns.{GivesNumber}

-- what comes next is this change, where these are the blocks of the parameters
abbrev pub Changes : Guide → Frame → Blocks → Blocks → Change → Type 0
Changes guide f blocks parameters (change.Enter n target) = QuickEntry guide f blocks (entry_with n target parameters) × (f.spot.at + 1 < 2 ^ 64)
Changes guide f blocks parameters (change.Give z) = GivesNumber guide f blocks z
Changes guide f blocks parameters change.Other = Unit {0}

-- a step that numbers alone say, or none, with which the state stays as it is
abbrev pub Leaps : CProgram → (old new : Runner) → Result (Option Done) Halt → Type 0
Leaps c old new (Ok None) = (input output calls : List ℕ) → state_of c new input output calls ≡ state_of c old input output calls
Leaps c old new (Ok (Some done)) = ReadsNot old.guide old.frame × ((input output calls : List ℕ) → Acts c new input output calls (Ok done) (CStep c (state_of c old input output calls)))
Leaps c old new (Err halt) = (input output calls : List ℕ) → Acts c new input output calls (Err halt) (CStep c (state_of c old input output calls))
