use Rattle.std.proofs.Common.{◌≡◌, ◌++◌}
use Rattle.c_printer.specs.Text.{margin}
use Rattle.c_printer.proofs.statement.put_margin.Given as goal

abbrev pub invariant-loop-step : goal.invariant-loop-step
invariant-loop-step l = l.out.items ≡ l.initial.out.items ++ margin l.step
