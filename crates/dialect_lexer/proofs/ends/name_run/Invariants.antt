use Rattle.std.proofs.Common.{◌≡◌, ◌+◌, length}
use Rattle.dialect_lexer.specs.Ends.{run}
use Rattle.dialect_lexer.specs.Bytes.{is_name_byte}
use Rattle.dialect_lexer.proofs.ends.name_run.Given as goal

abbrev pub invariant-loop-rest : goal.invariant-loop-rest
invariant-loop-rest l = record { value : run (is_name_byte l.dialect) l.fn.bytes ≡ l.n + run (is_name_byte l.dialect) l.rest; within : l.n + length l.rest ≡ length l.fn.bytes }

abbrev pub decreases-loop-rest : goal.decreases-loop-rest
decreases-loop-rest l = length l.rest
