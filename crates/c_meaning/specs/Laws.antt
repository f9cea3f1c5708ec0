-- What holds of every run and every step, as statements that functions of the crate prove.
use Rattle.std.specs.Prelude.{◌≡◌, ℕ, ◌≤◌, List}
use Rattle.c_tree.specs.declared.program.CProgram.{CProgram}
use Rattle.c_meaning.specs.StateOf.{IsStateOf}
use Rattle.c_meaning.specs.States.{State}
use Rattle.c_meaning.specs.Steps.{Next, Onward, Ended, Halted, CStep}
use Rattle.c_meaning.specs.Runs.{CAnswer, Going, End, Stuck, start, run_from, CRun}
use Rattle.c_meaning.specs.Changes.{Changes, touched}
use Rattle.c_meaning.specs.Follows as p
use Rattle.c_meaning.specs.Follows.{PascalAnswer, Extends, IsWellFormed, Follows}

-- ---- runs

-- an answer after which the run does not go on
abbrev pub IsFinal : CAnswer → Type 0
IsFinal (Going output calls) = ⊥
IsFinal (End output status calls) = Unit {0}
IsFinal (Stuck kind output) = Unit {0}

-- a run that ended or is stuck stays so: its answer is the answer after each greater number of steps
abbrev pub FinalStays : Type 0
FinalStays = (c : CProgram) (input : List ℕ) (m j : ℕ) (answer : CAnswer) → IsFinal answer → m ≤ j → CRun c input m ≡ answer → CRun c input j ≡ answer

-- an answer has this output and these calls, and maybe more; where it is stuck only its output is told
abbrev pub Shows : (output calls : List ℕ) → CAnswer → Type 0
Shows output calls (Going output' calls') = Extends output output' × Extends calls calls'
Shows output calls (End output' status calls') = Extends output output' × Extends calls calls'
Shows output calls (Stuck kind output') = Extends output output'

-- what a run has written and entered stays at the front of every later answer
abbrev pub GoingIsExtended : Type 0
GoingIsExtended = (c : CProgram) (input : List ℕ) (m j : ℕ) (output calls : List ℕ) → m ≤ j → CRun c input m ≡ Going output calls → Shows output calls (CRun c input j)

-- the run of C follows the Pascal meaning of a well-formed tree as soon as it ends where that ends, goes on where that is cut, and reaches what is undefined
abbrev pub FollowsByThree : Type 0
FollowsByThree = (pascal : ℕ → PascalAnswer) (c : CProgram) (input : List ℕ) → IsWellFormed pascal
    → ((n : ℕ) (output : List ℕ) (status : ℕ) (calls : List ℕ) → pascal n ≡ p.End output status calls → (m : ℕ) × (CRun c input m ≡ End output status calls))
    → ((n : ℕ) (output calls : List ℕ) → pascal n ≡ p.Cut output calls → (m : ℕ) × (n ≤ m) × (CRun c input m ≡ Going output calls))
    → ((n : ℕ) (output calls : List ℕ) → pascal n ≡ p.Undefined output calls → (m : ℕ) × (CRun c input m ≡ Going output calls))
    → Follows pascal (CRun c input)

-- ---- steps

-- what a step makes of the output and the calls of a state
abbrev pub OnlyAdds : State → Next → Type 0
OnlyAdds st (Onward new) = Extends st.output new.output × Extends st.calls new.calls
OnlyAdds st (Ended status output calls) = Extends st.output output × Extends st.calls calls
OnlyAdds st (Halted kind output) = output ≡ st.output

-- a step only adds to output and calls
abbrev pub StepAdds : Type 0
StepAdds = (c : CProgram) (st : State) → OnlyAdds st (CStep c st)

-- a step changes at most the blocks that it names, gives new blocks new numbers, and keeps the types of blocks
abbrev pub StepChanges : Type 0
StepChanges = (c : CProgram) (st new : State) → CStep c st ≡ Onward new → Changes (touched c st) st.blocks new.blocks

-- a run begins in a state of its program
abbrev pub StartIsState : Type 0
StartIsState = (c : CProgram) (input : List ℕ) → IsStateOf c (start c input)

-- and a step leads from such a state to such a state
abbrev pub StateStays : Type 0
StateStays = (c : CProgram) (st new : State) → IsStateOf c st → CStep c st ≡ Onward new → IsStateOf c new

-- so every state that a run reaches is one
abbrev pub ReachedIsState : Type 0
ReachedIsState = (c : CProgram) (input : List ℕ) (m : ℕ) (st : State) → run_from c m (Onward (start c input)) ≡ Onward st → IsStateOf c st
