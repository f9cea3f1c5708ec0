use Rattle.std.proofs.Common.{◌≡◌, ◌++◌, length}
use Rattle.c_printer.specs.Text.{more_text, variable_text}
use Rattle.c_printer.proofs.program.put_more_parameters.Given as goal

abbrev pub invariant-loop-rest : goal.invariant-loop-rest
invariant-loop-rest l = l.out.items ++ more_text variable_text l.rest ≡ l.initial.out.items ++ more_text variable_text l.initial.rest

abbrev pub decreases-loop-rest : goal.decreases-loop-rest
decreases-loop-rest l = length l.rest
