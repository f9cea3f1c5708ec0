-- The states for which a machine stands, and what its steps and runs tell.
use Rattle.std.specs.Prelude.{◌≡◌, ◌≢◌, ◌⊎◌, ℕ, ◌+◌, ◌≤◌, ◌<◌, true, false, List, [], ◌++◌, length, Option, Some, None}
use Rattle.c_tree.specs.declared.program.CProgram.{CProgram}
use Rattle.c_meaning.specs.States.{State}
use Rattle.c_meaning.specs.Steps.{Next, Onward, Ended, Halted, CStep}
use Rattle.c_meaning.specs.Runs as m
use Rattle.c_meaning.specs.Runs.{CAnswer, start, run_from, CRun}
use Rattle.p2c_outside.specs.Counts.{Rose}
use Rattle.p2c_outside.specs.Told as o
use Rattle.p2c_outside.specs.Told.{Gains}
use Rattle.held_bytes.specs.Written.{GainsPart}
use Rattle.held_bytes.specs.Held.{bytes_in, IsDry, Moves}
use Rattle.c_stepper.specs.Runners.{FitsFrames, state_of, AsksForByte}
use Rattle.c_machine.specs.declared.machine.Machine.{Machine}
use Rattle.c_machine.specs.declared.machine.Stepped.{Stepped}
use Rattle.c_machine.specs.declared.machine.Stepped.TheVariants as s
use Rattle.c_machine.specs.declared.machine.Ended as e
use Rattle.c_machine.specs.declared.machine.Ended.TheVariants as v

-- the state for which a machine stands, where these bytes are left of the input, and these were written and entered
abbrev pub stood : CProgram → Machine → (left output calls : List ℕ) → State
stood c m left output calls = state_of c m.runner (bytes_in m.input ++ left) output calls

-- the machine was made for the program
pub record IsFor (c : CProgram) (m : Machine) : Type 0 where
  pub frames : m.over ≡ None → FitsFrames c m.runner
  pub counted : m.calls ≤ m.taken
  pub few : length m.output.bytes.items < 4096
  pub ahead : m.over ≡ None → length (bytes_in m.input) < 4096

-- it stands at the start of `main`
pub record Begins (c : CProgram) (m : Machine) : Type 0 where
  pub state : (input : List ℕ) → stood c m input [] [] ≡ start c input
  pub calls : m.calls ≡ 0
  pub taken : m.taken ≡ 0
  pub going : m.over ≡ None
  pub held : m.output.bytes.items ≡ []
  pub input : m.input.over ≡ false

-- ---- steps

-- both stand for the same states
pub record StandsAs (c : CProgram) (old new : Machine) : Type 0 where
  pub state : (input output calls : List ℕ) → state_of c new.runner input output calls ≡ state_of c old.runner input output calls
  pub input : new.input ≡ old.input
  pub output : new.output ≡ old.output
  pub calls : new.calls ≡ old.calls
  pub taken : new.taken ≡ old.taken
  pub over : new.over ≡ old.over

-- so many steps lead from one machine to the other: none asks for a byte, and nothing is written
pub record Dashes (c : CProgram) (old new : Machine) (n : ℕ) : Type 0 where
  pub runs : (left output calls : List ℕ) → run_from c n (Onward (stood c old left output calls)) ≡ Onward (stood c new left output calls)
  pub reads_not : (left output calls : List ℕ) (j : ℕ) (st : State) → j < n → run_from c j (Onward (stood c old left output calls)) ≡ Onward st → AsksForByte c st → ⊥
  pub taken : new.taken ≡ old.taken + n
  pub input : new.input ≡ old.input
  pub output : new.output ≡ old.output
  pub calls : new.calls ≡ old.calls
  pub over : new.over ≡ old.over

-- the machine goes on in the next state, having put and held what the step writes
pub record Goes (c : CProgram) (held : List ℕ) (new : Machine) (left' written written' : Option (List ℕ)) (output : List ℕ) (next : Next) : Type 0 where
  pub left : List ℕ
  pub added : List ℕ
  pub calls : List ℕ
  pub step : next ≡ Onward (stood c new left (output ++ added) calls)
  pub input : left' ≡ Some left
  pub count : length calls ≡ new.calls
  pub put : Moves held new.output.bytes.items written written' added

-- the output at a point of a run
abbrev pub output_at : Next → List ℕ
output_at (Onward st) = st.output
output_at (Ended status output calls) = output
output_at (Halted kind output) = output

-- what was put is less than what was held, or than that and what the step writes
abbrev pub Loses : (held : List ℕ) → (written written' : Option (List ℕ)) → (output : List ℕ) → Next → Type 0
Loses held w w' output next = GainsPart w w' held ⊎ ((added : List ℕ) × (output_at next ≡ output ++ added) × GainsPart w w' (held ++ added))

-- what a step tells, where so many calls were counted and these bytes were held before it
abbrev pub Steps : CProgram → (held : List ℕ) → (count : ℕ) → (new : Machine) → (left' written written' : Option (List ℕ)) → (output calls : List ℕ) → Stepped → Next → Type 0
Steps c held count new left' w w' output calls s.Going next = Goes c held new left' w w' output next
Steps c held count new left' w w' output calls (s.Ended status) next = (next ≡ Ended status output calls) × (new.calls ≡ count) × Gains w w' held
Steps c held count new left' w w' output calls (s.Stuck kind) next = (next ≡ Halted kind output) × Gains w w' held
Steps c held count new left' w w' output calls s.InputFault next = Gains w w' held
Steps c held count new left' w w' output calls s.OutputFault next = Loses held w w' output next
Steps c held count new left' w w' output calls (s.Memory e) next = Gains w w' held

-- few bytes were taken ahead of a state: a byte less than a piece, or a piece where the state asks for one of them
abbrev pub AreFew : CProgram → State → List ℕ → Type 0
AreFew c st ahead = (length ahead < 4096) ⊎ ((length ahead ≤ 4096) × AsksForByte c st)

-- a byte is wanted where none is held, and what was held is put
pub record PutsFirst (c : CProgram) (old : Machine) (w w' : Option (List ℕ)) : Type 0 where
  pub dry : IsDry old.input
  pub asks : (rest output calls : List ℕ) → AsksForByte c (stood c old rest output calls)
  pub put : (calls : List ℕ) → length calls ≡ old.calls → (more : List ℕ) × Gains w w' (old.output.bytes.items ++ more)

-- what a step tells of the bytes that it takes, whatever comes after them
pub record Takes (c : CProgram) (old new : Machine) (left left' w w' : Option (List ℕ)) (result : Stepped) : Type 0 where
  pub taken : List ℕ
  pub loses : o.Loses left left' taken
  pub step : (rest output calls : List ℕ) → (new.input.over ≡ true → rest ≡ []) → length calls ≡ old.calls
      → Steps c old.output.bytes.items old.calls new (Some rest) w w' output calls result (CStep c (stood c old (taken ++ rest) output calls))
  -- after the end nothing is taken
  pub ends : old.input.over ≡ true → (taken ≡ []) × (new.input.over ≡ true)
  pub few : (rest output calls : List ℕ) → AreFew c (stood c old (taken ++ rest) output calls) (bytes_in old.input ++ taken)
  -- before the end each byte that is asked for is there
  pub served : result ≡ s.Going → new.input.over ≡ false → (rest output calls : List ℕ) → AsksForByte c (stood c old (taken ++ rest) output calls) → bytes_in old.input ++ taken ≢ []
  -- bytes are taken only where one is wanted, and what was held is put before
  pub put_first : (taken ≡ []) ⊎ PutsFirst c old w w'
  -- what is wanted is a byte
  pub wants : result ≡ s.InputFault → (old.input.over ≡ false) × (bytes_in old.input ≡ []) × (taken ≡ []) × ((rest output calls : List ℕ) → AsksForByte c (stood c old rest output calls))

-- the number of steps that are done, one more where the step is: it went on, or ended `main`
abbrev pub counted : Stepped → ℕ → ℕ
counted s.Going n = n + 1
counted (s.Ended status) n = n + 1
counted (s.Stuck kind) n = n
counted s.InputFault n = n
counted s.OutputFault n = n
counted (s.Memory e) n = n

-- ---- the end of a machine

-- what is held is put, and where that fails the answer says so
abbrev pub Closes : (held : List ℕ) → (written written' : Option (List ℕ)) → (answer result : Stepped) → Type 0
Closes held w w' answer result = ((result ≡ answer) × Gains w w' held) ⊎ ((result ≡ s.OutputFault) × GainsPart w w' held)

-- the same machine, but for its output and the answer that comes again
pub record SameBut (old new : Machine) : Type 0 where
  pub runner : new.runner ≡ old.runner
  pub input : new.input ≡ old.input
  pub calls : new.calls ≡ old.calls
  pub taken : new.taken ≡ old.taken

-- the sink failed where the answer says so, and else not
pub record PutFaults (before after : ℕ) (result : Stepped) : Type 0 where
  pub none : result ≢ s.OutputFault → after ≡ before
  pub some : result ≡ s.OutputFault → Rose before after

-- the source failed where the answer says so, and else not
pub record TakeFaults (before after : ℕ) (result : Stepped) : Type 0 where
  pub none : result ≢ s.InputFault → after ≡ before
  pub some : result ≡ s.InputFault → Rose before after

-- an answer but Going comes again
pub record IsOver (old new : Machine) (result : Stepped) : Type 0 where
  pub going : result ≡ s.Going → new.over ≡ old.over
  pub over : result ≢ s.Going → new.over ≡ Some result

-- bytes are written behind those that are held
abbrev pub Writes : (held held' : List ℕ) → (written written' : Option (List ℕ)) → (added : List ℕ) → Stepped → Type 0
Writes held held' w w' added s.Going = Moves held held' w w' added
Writes held held' w w' added (s.Memory e) = Gains w w' held
Writes held held' w w' added s.OutputFault = GainsPart w w' held ⊎ GainsPart w w' (held ++ added)
Writes held held' w w' added _ = ⊥

-- ---- runs

-- a point that a run reaches
pub record Reaches (c : CProgram) (input : List ℕ) (most : ℕ) : Type 0 where
  pub steps : ℕ
  pub within : steps ≤ most
  pub output : List ℕ
  pub calls : List ℕ
  pub is : CRun c input steps ≡ m.Going output calls

-- the output that is told of a run
abbrev pub told : CAnswer → List ℕ
told (m.Going output calls) = output
told (m.End output status calls) = output
told (m.Stuck kind output) = output

-- what was written is less than what a run writes
pub record CutShort (c : CProgram) (input : List ℕ) (most : ℕ) (written written' : Option (List ℕ)) : Type 0 where
  pub steps : ℕ
  pub within : steps ≤ most
  pub cut : GainsPart written written' (told (CRun c input steps))

-- the state after so many steps from the start of `main`
abbrev pub IsAfter : CProgram → (input : List ℕ) → (steps : ℕ) → State → Type 0
IsAfter c input steps st = run_from c steps (Onward (start c input)) ≡ Onward st

-- at none of the first steps is a byte asked for where the input is used up: no `getchar` gives -1
abbrev pub MeetsNoEnd : CProgram → (input : List ℕ) → (steps : ℕ) → Type 0
MeetsNoEnd c input steps = (j : ℕ) (st : State) → j < steps → IsAfter c input j st → AsksForByte c st → st.input ≢ []

-- the run on the bytes that were taken comes to ask for a byte more than these, for the first time, and all that it writes was put
pub record WantsInput (c : CProgram) (input : List ℕ) (left' : Option (List ℕ)) (most : ℕ) (written written' : Option (List ℕ)) : Type 0 where
  pub taken : List ℕ
  pub loses : o.Loses (Some input) left' taken
  pub steps : ℕ
  pub within : steps < most
  pub state : State
  pub is : IsAfter c taken steps state
  pub asks : AsksForByte c state
  pub used_up : state.input ≡ []
  pub first : MeetsNoEnd c taken steps
  pub put : Gains written written' state.output

-- a run stops in a state after so many steps: the next step ends it or is stuck, the steps are done, or
-- a byte is asked for which the input failed to give
abbrev pub StopsIn : CProgram → State → (steps most : ℕ) → e.Ended → Type 0
StopsIn c st steps most (v.Status status calls) = (steps < most) × ((output : List ℕ) × (k : List ℕ) × (CStep c st ≡ Ended status output k))
StopsIn c st steps most v.Spent = steps ≡ most
StopsIn c st steps most (v.Stuck kind) = (steps < most) × ((output : List ℕ) × (CStep c st ≡ Halted kind output))
StopsIn c st steps most v.InputFault = AsksForByte c st
StopsIn c st steps most v.OutputFault = Unit {0}
StopsIn c st steps most (v.Memory e) = Unit {0}

-- few bytes are taken that no `getchar` asks for: where a run stops in a state, the bytes `ahead` of its input are taken, and the rest is left
pub record TakesFew (c : CProgram) (input : List ℕ) (left' : Option (List ℕ)) (most : ℕ) (ended : e.Ended) : Type 0 where
  pub steps : ℕ
  pub within : steps ≤ most
  pub state : State
  pub is : IsAfter c input steps state
  pub ahead : List ℕ
  pub loses : o.Loses (Some state.input) left' ahead
  pub few : AreFew c state ahead
  pub stop : StopsIn c state steps most ended

-- All that a program writes is put before more input is taken: `piece` was taken last, and by then the
-- run on the bytes before it had come, for the first time, to ask for a byte more than these.
pub record PutBefore (c : CProgram) (input : List ℕ) (left' : Option (List ℕ)) (most : ℕ) (written written' : Option (List ℕ)) : Type 0 where
  pub before : List ℕ
  pub piece : List ℕ
  pub loses : o.Loses (Some input) left' (before ++ piece)
  pub steps : ℕ
  pub within : steps < most
  pub state : State
  pub is : IsAfter c before steps state
  pub asks : AsksForByte c state
  pub used_up : state.input ≡ []
  pub first : MeetsNoEnd c before steps
  pub more : List ℕ
  pub put : Gains written written' (state.output ++ more)

-- nothing was taken of the input, or what was written by then was put before
abbrev pub PutBeforeTaken : CProgram → (input : List ℕ) → (left' : Option (List ℕ)) → (most : ℕ) → (written written' : Option (List ℕ)) → Type 0
PutBeforeTaken c input left' most w w' = (left' ≡ Some input) ⊎ PutBefore c input left' most w w'

-- what a run tells by its answer
abbrev pub Ran : CProgram → (input : List ℕ) → (left' : Option (List ℕ)) → ℕ → (written written' : Option (List ℕ)) → e.Ended → Type 0
Ran c input left' steps w w' (v.Status status calls) = (output : List ℕ) × (k : List ℕ) × (CRun c input steps ≡ m.End output status k) × (length k ≡ calls) × Gains w w' output
Ran c input left' steps w w' v.Spent = (output : List ℕ) × (k : List ℕ) × (CRun c input steps ≡ m.Going output k) × Gains w w' output
Ran c input left' steps w w' (v.Stuck kind) = (output : List ℕ) × (CRun c input steps ≡ m.Stuck kind output) × Gains w w' output
Ran c input left' steps w w' v.InputFault = ((r : Reaches c input steps) × Gains w w' r.output) × WantsInput c input left' steps w w'
Ran c input left' steps w w' v.OutputFault = CutShort c input steps w w'
Ran c input left' steps w w' (v.Memory e) = (r : Reaches c input steps) × Gains w w' r.output

-- the answer of a run that is over, where so many calls were counted
abbrev pub ended_by : ℕ → Stepped → e.Ended
ended_by calls s.Going = v.Spent
ended_by calls (s.Ended status) = v.Status status calls
ended_by calls (s.Stuck kind) = v.Stuck kind
ended_by calls s.InputFault = v.InputFault
ended_by calls s.OutputFault = v.OutputFault
ended_by calls (s.Memory error) = v.Memory error

-- source and sink failed where the answer says so, and else not
pub record RunFaults (taken taken' put put' : ℕ) (result : e.Ended) : Type 0 where
  pub no_input : result ≢ v.InputFault → taken' ≡ taken
  pub input : result ≡ v.InputFault → Rose taken taken'
  pub no_output : result ≢ v.OutputFault → put' ≡ put
  pub output : result ≡ v.OutputFault → Rose put put'

-- a status is one of 0..209
abbrev pub HasStatus : e.Ended → Type 0
HasStatus (v.Status status calls) = status < 210
HasStatus _ = Unit {0}
