use Rattle.std.proofs.Common.{◌≡◌, ◌+◌, length}
use Rattle.dialect_lexer.specs.Ends.{closing_end, further}
use Rattle.dialect_lexer.proofs.ends.closing_end.Given as goal

abbrev pub invariant-loop-rest : goal.invariant-loop-rest
invariant-loop-rest l = record { value : closing_end l.closer l.fn.bytes ≡ further l.n (closing_end l.closer l.rest); within : l.n + length l.rest ≡ length l.fn.bytes }

abbrev pub decreases-loop-rest : goal.decreases-loop-rest
decreases-loop-rest l = length l.rest
