use Rattle.std.proofs.Common.{◌≡◌, ◌+◌, length}
use Rattle.c_grammar.specs.Token.{is_name_byte}
use Rattle.c_scanner.specs.Cut.{run}
use Rattle.c_scanner.proofs.bytes.name_run.Given as goal

abbrev pub invariant-loop-rest : goal.invariant-loop-rest
invariant-loop-rest l = record { value : run is_name_byte l.fn.bytes ≡ l.n + run is_name_byte l.rest; within : l.n + length l.rest ≡ length l.fn.bytes }

abbrev pub decreases-loop-rest : goal.decreases-loop-rest
decreases-loop-rest l = length l.rest
