-- How the meaning of a C program follows that of a Pascal program.
use Rattle.std.specs.Prelude.{◌≡◌, ℕ, ◌≤◌, List, ◌++◌}
use Rattle.c_tree.specs.declared.program.CProgram.{CProgram}
use Rattle.c_meaning.specs.declared.StuckKind.{StuckKind}
use Rattle.c_meaning.specs.Runs as c
use Rattle.c_meaning.specs.Runs.{CAnswer, CRun}

-- the answer of a Pascal program at a bound: it ended, was cut at the bound, read what is undefined, or came to what stands in no tree that an elaboration makes
pub data PascalAnswer : Type 0 where
  End : (output : List ℕ) (status : ℕ) (calls : List ℕ) → PascalAnswer
  Cut : (output calls : List ℕ) → PascalAnswer
  Undefined : (output calls : List ℕ) → PascalAnswer
  Malformed : (output calls : List ℕ) → PascalAnswer

-- what it has written
abbrev pub output_of : PascalAnswer → List ℕ
output_of (End output status calls) = output
output_of (Cut output calls) = output
output_of (Undefined output calls) = output
output_of (Malformed output calls) = output

-- the routines that it has entered
abbrev pub calls_of : PascalAnswer → List ℕ
calls_of (End output status calls) = calls
calls_of (Cut output calls) = calls
calls_of (Undefined output calls) = calls
calls_of (Malformed output calls) = calls

-- one list goes on from another
pub record Extends (front whole : List ℕ) : Type 0 where
  pub more : List ℕ
  pub is : whole ≡ front ++ more

-- at no bound is the answer undefined
abbrev pub IsDefined : (ℕ → PascalAnswer) → Type 0
IsDefined pascal = (n : ℕ) (output calls : List ℕ) → pascal n ≡ Undefined output calls → ⊥

-- at no bound is the answer malformed
abbrev pub IsWellFormed : (ℕ → PascalAnswer) → Type 0
IsWellFormed pascal = (n : ℕ) (output calls : List ℕ) → pascal n ≡ Malformed output calls → ⊥

-- the two meanings follow each other
pub record Follows (pascal : ℕ → PascalAnswer) (run : ℕ → CAnswer) : Type 0 where
  -- nothing follows a program whose tree is malformed
  pub well_formed : IsWellFormed pascal
  -- where the one ends, the other ends, with the same output, status and calls
  pub ends : (n : ℕ) (output : List ℕ) (status : ℕ) (calls : List ℕ) → pascal n ≡ End output status calls → (m : ℕ) × (run m ≡ c.End output status calls)
  -- if nothing undefined is read, C is never stuck
  pub never_stuck : IsDefined pascal → (m : ℕ) (kind : StuckKind) (output : List ℕ) → run m ≡ c.Stuck kind output → ⊥
  -- and it ends only so as the Pascal program ends
  pub ends_only : IsDefined pascal → (m : ℕ) (output : List ℕ) (status : ℕ) (calls : List ℕ) → run m ≡ c.End output status calls → (n : ℕ) × (pascal n ≡ End output status calls)
  -- where the Pascal program goes on, C goes on, for as many steps at least
  pub goes_on : (n : ℕ) (output calls : List ℕ) → pascal n ≡ Cut output calls → (m : ℕ) × (n ≤ m) × (run m ≡ c.Going output calls)
  -- if nothing undefined is read, what C has written and entered is a prefix of the Pascal program's
  pub goes_on_only : IsDefined pascal → (m : ℕ) (output calls : List ℕ) → run m ≡ c.Going output calls → (n : ℕ) × Extends output (output_of (pascal n)) × Extends calls (calls_of (pascal n))
  -- up to an undefined read, output and calls are the same
  pub reaches_undefined : (n : ℕ) (output calls : List ℕ) → pascal n ≡ Undefined output calls → (m : ℕ) × (run m ≡ c.Going output calls)

-- a program follows a Pascal meaning for every input
abbrev pub FollowsAlways : (List ℕ → ℕ → PascalAnswer) → CProgram → Type 0
FollowsAlways pascal program = (input : List ℕ) → Follows (pascal input) (CRun program input)
