-- What running a text does.
use Rattle.std.specs.Prelude.{◌≡◌, ◌⊎◌, ℕ, ◌≤◌, ◌<◌, Option, None, Some, List, length, Result, Ok, Err}
use Rattle.c_tree.specs.declared.program.CProgram.{CProgram}
use Rattle.c_grammar.specs.Text.{CText}
use Rattle.c_meaning.specs.Runs.{CAnswer, Going, End, CRun}
use Rattle.c_meaning.specs.Runs as run
use Rattle.c_machine.specs.Machines.{CutShort, PutBeforeTaken, Ran, TakesFew, told}
use Rattle.c_reader.specs.declared.fault.CTextFault.{CTextFault}
use Rattle.c_reader.specs.declared.fault.CTextFault.TheVariants as fault
use Rattle.c_machine.specs.declared.machine.Ended as e
use Rattle.c_machine.specs.declared.machine.Ended.TheVariants as ended
use Rattle.p2c_outside.specs.Told.{Named, WhereTold, Gains}
use Rattle.p2c_top.specs.Messages.{status_of}
use Rattle.p2c_top.specs.Words.{Running, task_asked}
use Rattle.p2c_top.specs.declared.outcome.Outcome.{Outcome}
use Rattle.p2c_top.specs.declared.outcome.Outcome.TheVariants.{Ended, BadText, ReadFault, WriteFault, OutOfMemory, Spent, Stuck}

-- how a run ended, by the answer of its program
abbrev pub ended_as : CAnswer → Outcome
ended_as (Going output calls) = Spent
ended_as (End output status calls) = Ended status
ended_as (run.Stuck kind output) = Stuck kind

-- the source is a text, and where the input is told its program answers so after so many steps, and
-- what was written gained its output
pub record Executes (source : List ℕ) (steps : ℕ) (input old new : Option (List ℕ)) (outcome : Outcome) : Type 0 where
  pub program : CProgram
  pub text : CText source program
  pub ran : (left : List ℕ) → input ≡ Some left → (outcome ≡ ended_as (CRun program left steps)) × Gains old new (told (CRun program left steps))

-- what was written gained the output of the source's program after some of the steps
pub record ExecutesPart (source : List ℕ) (steps : ℕ) (input old new : Option (List ℕ)) : Type 0 where
  pub program : CProgram
  pub text : CText source program
  pub ran : (left : List ℕ) → input ≡ Some left → (some : ℕ) × (some ≤ steps) × Gains old new (told (CRun program left some))

-- the source is a text, and where the input is told its program came to a byte that the input failed to give
pub record InputFails (source : List ℕ) (steps : ℕ) (input input' old new : Option (List ℕ)) : Type 0 where
  pub program : CProgram
  pub text : CText source program
  pub ran : (left : List ℕ) → input ≡ Some left → Ran program left input' steps old new ended.InputFault

-- ---- the answer to what the runner says

abbrev pub outcome_of_run : Result e.Ended CTextFault → Outcome
outcome_of_run (Ok (ended.Status status calls)) = Ended status
outcome_of_run (Ok ended.Spent) = Spent
outcome_of_run (Ok (ended.Stuck kind)) = Stuck kind
outcome_of_run (Ok ended.InputFault) = ReadFault
outcome_of_run (Ok ended.OutputFault) = WriteFault
outcome_of_run (Ok (ended.Memory error)) = OutOfMemory
outcome_of_run (Err (fault.At kind line)) = BadText kind line
outcome_of_run (Err (fault.Memory error)) = OutOfMemory

-- ---- what is taken and put

-- the source is a text, and where the input is told few bytes were taken of it that no `getchar` of its
-- program asked for, up to where its run stopped with the answer of this status
pub record TakesOnly (source : List ℕ) (steps : ℕ) (input input' : Option (List ℕ)) (status : ℕ) : Type 0 where
  pub program : CProgram
  pub text : CText source program
  pub answer : e.Ended
  pub is : status ≡ status_of (outcome_of_run (Ok answer))
  pub few : (left : List ℕ) → input ≡ Some left → TakesFew program left input' steps answer

-- the source is a text, and where the input is told all that its program writes was put before more input was taken
pub record PutsBefore (source : List ℕ) (steps : ℕ) (input input' old new : Option (List ℕ)) : Type 0 where
  pub program : CProgram
  pub text : CText source program
  pub put : (left : List ℕ) → input ≡ Some left → PutBeforeTaken program left input' steps old new

-- what was written gained a proper prefix of the output of the source's program
pub record CutsOff (source : List ℕ) (steps : ℕ) (input old new : Option (List ℕ)) : Type 0 where
  pub program : CProgram
  pub text : CText source program
  pub cut : (left : List ℕ) → input ≡ Some left → CutShort program left steps old new

-- this holds of a source, which is the file of the name where the files are told
abbrev pub OfFile : Option Named → (name : List ℕ) → (List ℕ → Type 0) → Type 0
OfFile told name P = (source : List ℕ) × WhereTold told name (λ bytes. source ≡ bytes) × P source

-- nothing was written, or what the program of the file had written after some of the steps
abbrev pub MayExecutePart : Option Named → (name : List ℕ) → (steps : ℕ) → (input old new : Option (List ℕ)) → Type 0
MayExecutePart told name steps input old new = (new ≡ old) ⊎ OfFile told name (λ source. ExecutesPart source steps input old new)

-- a fault of the files came before the run, and nothing was done; or a fault of the input ended the run
abbrev pub ReadFails : (failed taken kept : Type 0) → Option Named → (name : List ℕ) → (steps : ℕ) → (input input' old new : Option (List ℕ)) → Type 0
ReadFails failed taken kept told name steps input input' old new = (failed × kept) ⊎ (taken × OfFile told name (λ source. InputFails source steps input input' old new))

-- nothing was taken of the input, or few bytes that the program of the file did not ask for
abbrev pub MayTake : (kept : Type 0) → Option Named → (name : List ℕ) → (steps : ℕ) → (input input' : Option (List ℕ)) → (status : ℕ) → Type 0
MayTake kept told name steps input input' status = kept ⊎ OfFile told name (λ source. TakesOnly source steps input input' status)

-- nothing was taken of the input, or what the program of the file had written by then was put before
abbrev pub MayPutBefore : (kept : Type 0) → Option Named → (name : List ℕ) → (steps : ℕ) → (input input' old new : Option (List ℕ)) → Type 0
MayPutBefore kept told name steps input input' old new = kept ⊎ OfFile told name (λ source. PutsBefore source steps input input' old new)

-- ---- the top call

-- a status of a program that was run
abbrev pub IsOfRun : ℕ → Type 0
IsOfRun status = (status ≤ 209) ⊎ (status ≡ 246) ⊎ (status ≡ 247)

-- the program of the file has this status after so many steps, and what was written gained its output
abbrev pub EndsWith : (status : ℕ) → Option Named → (name : List ℕ) → (steps : ℕ) → (input old new : Option (List ℕ)) → Type 0
EndsWith status told name steps input old new =
    (outcome : Outcome) × (status ≡ status_of outcome) × OfFile told name (λ source. Executes source steps input old new outcome)

-- where the files are told, the file of the name is there, and is too long or no text
abbrev pub NotRun : Option Named → (name : List ℕ) → Type 0
NotRun told name = WhereTold told name (λ bytes. (67108864 < length bytes) ⊎ ((c : CProgram) → CText bytes c → ⊥))

-- the words ask to run a file that is told, and it is a text
abbrev pub AsksForText : Option Named → (words : List (List ℕ)) → Type 0
AsksForText None words = ⊥
AsksForText (Some files) words = (steps : ℕ) × (name source : List ℕ) × (c : CProgram) × (task_asked words ≡ Some (Running steps name)) × (files name ≡ Some source) × (length source ≤ 67108864) × CText source c
