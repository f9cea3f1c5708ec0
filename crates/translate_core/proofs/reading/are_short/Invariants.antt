use Rattle.std.proofs.Common.{◌≡◌, ◌+◌, length}
use Rattle.translate_core.specs.Accepted.{size}
use Rattle.translate_core.proofs.reading.are_short.Given as goal

abbrev pub invariant-loop-rest : goal.invariant-loop-rest
invariant-loop-rest l = size l.fn.texts + l.left ≡ 8388608 + size l.rest

abbrev pub decreases-loop-rest : goal.decreases-loop-rest
decreases-loop-rest l = length l.rest
