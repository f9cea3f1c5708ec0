use Rattle.std.proofs.Common.{◌<◌, length}
use Rattle.scopes_bench.proofs.declare.Given as goal

abbrev pub invariant-loop-number : goal.invariant-loop-number
invariant-loop-number l = 0 < length l.scopes
