-- What running a text answers.
use Rattle.std.specs.Prelude.{◌≡◌, ℕ, List, Option, Some}
use Rattle.c_tree.specs.declared.program.CProgram.{CProgram}
use Rattle.c_grammar.specs.Text.{CText}
use Rattle.c_machine.specs.Machines.{PutBeforeTaken, Ran, TakesFew}
use Rattle.c_machine.specs.declared.machine.Ended.{Ended}

-- the bytes are a text, and where the input is told its program was run for at most so many steps
pub record IsRun (bytes : List ℕ) (steps : ℕ) (input input' written written' : Option (List ℕ)) (ended : Ended) : Type 0 where
  pub program : CProgram
  pub text : CText bytes program
  pub ran : (left : List ℕ) → input ≡ Some left → Ran program left input' steps written written' ended
  pub ahead : (left : List ℕ) → input ≡ Some left → TakesFew program left input' steps ended
  pub put : (left : List ℕ) → input ≡ Some left → PutBeforeTaken program left input' steps written written'
