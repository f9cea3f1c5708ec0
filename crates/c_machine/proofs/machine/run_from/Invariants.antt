use Rattle.std.proofs.Common.{◌≡◌, ◌+◌, ℕ, List, Some, None, true}
use Rattle.p2c_outside.specs.Told.{IsEmpty}
use Rattle.c_machine.specs.Machines.{IsFor, PutBeforeTaken}
use Rattle.c_machine.proofs.Running.{Along}
use Rattle.c_machine.proofs.machine.run_from.Given as goal

abbrev pub invariant-loop-left : goal.invariant-loop-left
invariant-loop-left g l = record {
  is_for : IsFor l.program l.machine;
  going : l.machine.over ≡ None;
  taken : l.machine.taken + l.left ≡ l.fn.steps;
  end : l.machine.input.over ≡ true → IsEmpty (g.I.Source.left l.input);
  along : (bytes : List ℕ) → g.I.Source.left l.initial.input ≡ Some bytes → Along l.program bytes l.machine (g.I.Source.left l.input) (g.O.Sink.written l.initial.out) (g.O.Sink.written l.out);
  put : (bytes : List ℕ) → g.I.Source.left l.initial.input ≡ Some bytes → PutBeforeTaken l.program bytes (g.I.Source.left l.input) l.fn.steps (g.O.Sink.written l.initial.out) (g.O.Sink.written l.out);
  no_input : g.I.Source.faults l.input ≡ g.I.Source.faults l.initial.input;
  no_output : g.O.Sink.faults l.out ≡ g.O.Sink.faults l.initial.out;
}

abbrev pub decreases-loop-left : goal.decreases-loop-left
decreases-loop-left g l = l.left
