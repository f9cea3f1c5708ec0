use Rattle.std.proofs.Common.{◌≡◌, ◌++◌, ◌-◌}
use Rattle.pascal_samples.specs.Text.{routines_text}
use Rattle.pascal_samples.proofs.program.append_routines.Given as goal

abbrev pub invariant-loop-number : goal.invariant-loop-number
invariant-loop-number l =
    l.out.items ++ routines_text l.state l.number (l.number-end - l.number) ≡ l.initial.out.items ++ routines_text l.initial.state 1 l.size
