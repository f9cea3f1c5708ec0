use Rattle.std.proofs.Common.{◌≡◌, ◌+◌, ◌≤◌, ◌^◌, length}
use Rattle.dialect_lexer.specs.Cut.{read_digits, all_more}
use Rattle.dialect_lexer.proofs.ends.read_digits.Given as goal

abbrev pub invariant-loop-rest : goal.invariant-loop-rest
invariant-loop-rest l = record { value : read_digits l.base l.fn.value l.fn.bytes ≡ all_more l.found.len (read_digits l.base l.found.value l.rest); within : l.found.len + length l.rest ≡ length l.fn.bytes; small : l.found.value ≤ 2 ^ 63 }

abbrev pub decreases-loop-rest : goal.decreases-loop-rest
decreases-loop-rest l = length l.rest
