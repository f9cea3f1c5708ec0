use Rattle.std.proofs.Common.{◌≡◌, ◌++◌, length}
use Rattle.c_printer.specs.Text.{all_text, function_text}
use Rattle.c_printer.proofs.program.put_functions.Given as goal

abbrev pub invariant-loop-rest : goal.invariant-loop-rest
invariant-loop-rest l = l.out.items ++ all_text function_text l.rest ≡ l.initial.out.items ++ all_text function_text l.initial.rest

abbrev pub decreases-loop-rest : goal.decreases-loop-rest
decreases-loop-rest l = length l.rest
