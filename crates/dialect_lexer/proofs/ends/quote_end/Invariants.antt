use Rattle.std.proofs.Common.{◌≡◌, ◌+◌, length}
use Rattle.dialect_lexer.specs.Ends.{quote_end, further}
use Rattle.dialect_lexer.proofs.ends.quote_end.Given as goal

abbrev pub invariant-loop-rest : goal.invariant-loop-rest
invariant-loop-rest l = record { value : quote_end l.fn.bytes ≡ further l.n (quote_end l.rest); within : l.n + length l.rest ≡ length l.fn.bytes }

abbrev pub decreases-loop-rest : goal.decreases-loop-rest
decreases-loop-rest l = length l.rest
