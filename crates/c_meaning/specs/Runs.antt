-- What a program answers after so many steps.
use Rattle.std.specs.Prelude.{ℕ, zero, suc, true, false, List, [], ◌++◌, length, Some}
use Rattle.c_tree.specs.Tree as t
use Rattle.c_tree.specs.declared.program.CProgram.{CProgram}
use Rattle.c_meaning.specs.declared.StuckKind.{StuckKind}
use Rattle.c_meaning.specs.Fresh.{fresh_blocks}
use Rattle.c_meaning.specs.States.{Nowhere, State}
use Rattle.c_meaning.specs.Steps.{Next, Onward, Ended, Halted, names_from, CStep}

-- the answer after some steps: the run goes on, has ended, or is stuck
pub data CAnswer : Type 0 where
  Going : (output calls : List ℕ) → CAnswer
  End : (output : List ℕ) (status : ℕ) (calls : List ℕ) → CAnswer
  Stuck : (kind : StuckKind) (output : List ℕ) → CAnswer

-- the start of `main`
unfoldable pub start : CProgram → List ℕ → State
start c input = record {
  frame = record { result = Some t.Int; body = c.main.body; reach = length c.functions; names = names_from (length c.globals) c.main.locals; todo = c.main.body; target = Nowhere };
  below = [];
  blocks = fresh_blocks true c.declarations c.globals ++ fresh_blocks false c.declarations c.main.locals;
  input = input;
  output = [];
  calls = [];
}

-- what at most m steps make of a point of a run
unfoldable pub run_from : CProgram → ℕ → Next → Next
run_from c m (Ended status output calls) = Ended status output calls
run_from c m (Halted kind output) = Halted kind output
run_from c zero (Onward st) = Onward st
run_from c (suc m) (Onward st) = run_from c m (CStep c st)

-- what is told of a point of a run
unfoldable pub answer_of : Next → CAnswer
answer_of (Onward st) = Going st.output st.calls
answer_of (Ended status output calls) = End output status calls
answer_of (Halted kind output) = Stuck kind output

-- the answer of a program after m steps from the start of `main`
unfoldable pub CRun : CProgram → (input : List ℕ) → (m : ℕ) → CAnswer
CRun c input m = answer_of (run_from c m (Onward (start c input)))
