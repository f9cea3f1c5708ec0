-- What each answer says, by what the words ask for.
use Rattle.std.specs.Prelude.{◌≡◌, ◌≢◌, ◌⊎◌, ℕ, ◌≤◌, ◌<◌, Option, None, Some, List, length, ⊤}
use Rattle.p2c_text.specs.declared.dialect.Dialect.{Dialect}
use Rattle.c_reader.specs.Read.{IsNoText}
use Rattle.p2c_outside.specs.Counts.{Rose}
use Rattle.p2c_outside.specs.Told.{Named, WhereTold}
use Rattle.held_bytes.specs.Written.{Says}
use Rattle.p2c_top.specs.Words.{Task, Translating, Running, IsRunning, name_asked, task_asked}
use Rattle.p2c_top.specs.Messages.{status_of, file_of, message_of}
use Rattle.p2c_top.specs.Reading.{Lacks, LacksFirst, Passes}
use Rattle.p2c_top.specs.Translated.{Translates, TranslatesPart, RefusedWith}
use Rattle.p2c_top.specs.Executed.{Executes, CutsOff, OfFile, MayExecutePart, MayPutBefore, MayTake, ReadFails}
use Rattle.p2c_top.specs.declared.outcome.Outcome.{Outcome}
use Rattle.p2c_top.specs.declared.outcome.Outcome.TheVariants.{Done, Ended, Usage, TooLong, BadSource, BadText, Missing, ReadFault, WriteFault, OutOfMemory, Spent, Stuck}

-- to words that ask for nothing
abbrev pub NothingAnswer : Outcome → Type 0
NothingAnswer Usage = ⊤
NothingAnswer OutOfMemory = ⊤
NothingAnswer _ = ⊥

-- to the task of a translation
abbrev pub TranslationAnswer : Option Named → Dialect → (names : List (List ℕ)) → (old new : Option (List ℕ)) → Outcome → Type 0
TranslationAnswer told d names old new Done = Translates told d names old new
TranslationAnswer told d names old new TooLong = Passes told 8388608 names
TranslationAnswer told d names old new (BadSource fault file line) = RefusedWith told d names (BadSource fault file line)
TranslationAnswer told d names old new (Missing file) = LacksFirst told names file
TranslationAnswer told d names old new ReadFault = ⊤
TranslationAnswer told d names old new WriteFault = TranslatesPart told d names old new
TranslationAnswer told d names old new OutOfMemory = ⊤
TranslationAnswer told d names old new _ = ⊥

-- to the task of a run
abbrev pub RunAnswer : Option Named → (name : List ℕ) → (steps : ℕ) → (input old new : Option (List ℕ)) → Outcome → Type 0
RunAnswer told name steps input old new (Ended status) = (status ≤ 209) × OfFile told name (λ source. Executes source steps input old new (Ended status))
RunAnswer told name steps input old new Spent = OfFile told name (λ source. Executes source steps input old new Spent)
RunAnswer told name steps input old new (Stuck kind) = OfFile told name (λ source. Executes source steps input old new (Stuck kind))
RunAnswer told name steps input old new TooLong = WhereTold told name (λ bytes. 67108864 < length bytes)
RunAnswer told name steps input old new (BadText kind line) = WhereTold told name (λ bytes. IsNoText bytes kind line)
RunAnswer told name steps input old new (Missing file) = Lacks told name × (file ≡ 0)
RunAnswer told name steps input old new ReadFault = ⊤
RunAnswer told name steps input old new WriteFault = OfFile told name (λ source. CutsOff source steps input old new)
RunAnswer told name steps input old new OutOfMemory = MayExecutePart told name steps input old new
RunAnswer told name steps input old new _ = ⊥

-- Where the files and the input are told as these, and what was written went from one to the other.
abbrev pub AnswersTo : Option Named → Option Task → (input old new : Option (List ℕ)) → Outcome → Type 0
AnswersTo told None input old new outcome = NothingAnswer outcome
AnswersTo told (Some (Translating d names)) input old new outcome = TranslationAnswer told d names old new outcome
AnswersTo told (Some (Running steps name)) input old new outcome = RunAnswer told name steps input old new outcome

-- where the files are told, one that the task names is absent
abbrev pub LacksOne : Option Named → Option Task → Type 0
LacksOne told None = ⊥
LacksOne told (Some (Translating d names)) = (file : ℕ) × LacksFirst told names file
LacksOne told (Some (Running steps name)) = Lacks told name

pub record Answer (told : Option Named) (task : Option Task) (input old new : Option (List ℕ)) (outcome : Outcome) : Type 0 where
  pub says : AnswersTo told task input old new outcome

-- ---- what failed, and what stays as it was

-- a file is not there
abbrev pub IsMissing : Outcome → Type 0
IsMissing (Missing file) = ⊤
IsMissing _ = ⊥

-- the counts of the files, of the input and of the output rose where the answer says so, and else not
pub record Counts (task : Option Task) (lacked lacked' failed failed' taken taken' put put' : ℕ) (outcome : Outcome) : Type 0 where
  pub missing : IsMissing outcome → Rose lacked lacked'
  pub read_fault : outcome ≡ ReadFault → Rose failed failed' ⊎ (IsRunning task × Rose taken taken')
  pub write_fault : outcome ≡ WriteFault → Rose put put'
  pub none_missing : (IsMissing outcome → ⊥) → outcome ≢ ReadFault → lacked' ≡ lacked
  pub no_read_fault : (IsMissing outcome → ⊥) → outcome ≢ ReadFault → failed' ≡ failed
  pub no_input_fault : outcome ≢ ReadFault → taken' ≡ taken
  pub no_write_fault : outcome ≢ WriteFault → put' ≡ put

-- what a run tells of its input: what failed where it could not read, how much was taken, and what was put before
pub record RunInput (task : Option Task) (failed taken kept same : Type 0) (told : Option Named) (input input' old new : Option (List ℕ)) (outcome : Outcome) : Type 0 where
  pub fault : (steps : ℕ) (name : List ℕ) → task ≡ Some (Running steps name) → outcome ≡ ReadFault → ReadFails failed taken kept told name steps input input' old new
  pub few : (steps : ℕ) (name : List ℕ) → task ≡ Some (Running steps name) → MayTake same told name steps input input' (status_of outcome)
  pub put : (steps : ℕ) (name : List ℕ) → task ≡ Some (Running steps name) → MayPutBefore same told name steps input input' old new

-- the answers that come before anything is done
abbrev pub IsEarly : Outcome → Type 0
IsEarly Usage = ⊤
IsEarly TooLong = ⊤
IsEarly (BadSource fault file line) = ⊤
IsEarly (BadText kind line) = ⊤
IsEarly (Missing file) = ⊤
IsEarly _ = ⊥

-- the input and the output are those before
pub record Stays {I O : Type 0} (task : Option Task) (input input' : I) (out out' : O) (outcome : Outcome) : Type 0 where
  pub early : IsEarly outcome → (input' ≡ input) × (out' ≡ out)
  pub same_input : (IsRunning task → ⊥) → input' ≡ input
  pub same_out : (IsRunning task → ⊥) → outcome ≢ Done → outcome ≢ WriteFault → out' ≡ out

-- ---- the line on standard error

-- The status is that of an answer to the words, and standard error took the line for this answer, up
-- to its own first fault.
abbrev pub Reports : (status : ℕ) → (words : List (List ℕ)) → Option Named → (input old new err err' : Option (List ℕ)) → (faults faults' : ℕ) → Type 0
Reports status words told input old new err err' faults faults' =
    (outcome : Outcome) × (status ≡ status_of outcome) × AnswersTo told (task_asked words) input old new outcome
    × Says err err' faults faults' (message_of outcome (name_asked words (file_of outcome)))
