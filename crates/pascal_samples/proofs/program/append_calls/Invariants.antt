use Rattle.std.proofs.Common.{◌≡◌, ◌++◌, ◌-◌}
use Rattle.pascal_samples.specs.Text.{calls_text}
use Rattle.pascal_samples.proofs.program.append_calls.Given as goal

abbrev pub invariant-loop-number : goal.invariant-loop-number
invariant-loop-number l =
    l.out.items ++ calls_text l.number (l.number-end - l.number) ≡ l.initial.out.items ++ calls_text 1 l.size
