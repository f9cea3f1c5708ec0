-- The end of a function.
use Rattle.std.specs.Prelude.{◌≡◌, ℕ, List, Option, Some, None, Result, Ok, Err}
use Rattle.c_tree.specs.declared.program.CDeclaration.{CDeclaration}
use Rattle.c_meaning.specs.Cells.{Blocks}
use Rattle.c_meaning.specs.Answer.{Answer, Got, Bad, ◌>>=◌}
use Rattle.c_meaning.specs.Types.{PlaceType}
use Rattle.c_meaning.specs.Values.{Value, value_of, as_int}
use Rattle.c_meaning.specs.States as m
use Rattle.c_meaning.specs.Steps.{taken, in_status}
use Rattle.c_cells.specs.declared.halt.Halt.{Halt}
use Rattle.c_cells.specs.declared.halt.Halt.TheVariants.{Stuck, Memory}
use Rattle.c_evaluation.specs.declared.store.Store.{Store}
use Rattle.c_evaluation.specs.Types.{object_of}
use Rattle.c_stepper.specs.declared.leave.Given.{Given}

-- the value that a function gives
abbrev pub given_of : Given → Value
given_of g = value_of (object_of g.of) g.tree

-- the status that a value is
abbrev pub status_in : Value → Answer ℕ
status_in x = as_int x >>= in_status

-- the blocks after a store, or without one
abbrev pub stored_in : Blocks → Option Store → Answer Blocks
stored_in blocks None = Got blocks
stored_in blocks (Some s) = m.store blocks s.number s.path s.tree

-- those are these
abbrev pub Answers : Blocks → Result (Option Store) Halt → Answer Blocks → Type 0
Answers blocks (Ok store) answer = stored_in blocks store ≡ answer
Answers blocks (Err (Stuck kind)) answer = Bad kind ≡ answer
Answers blocks (Err Memory) answer = Unit {0}

-- what is stored of a value
abbrev pub place_answer : List CDeclaration → Blocks → ℕ → List ℕ → PlaceType → Value → Answer Blocks
place_answer ds blocks n path of x = taken ds of x >>= m.store blocks n path
