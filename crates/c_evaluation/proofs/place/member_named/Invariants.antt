use Rattle.std.proofs.Common.{◌≡◌, ◌+◌, ◌≤◌, length}
use Rattle.c_meaning.specs.Types.{member_from}
use Rattle.c_evaluation.proofs.place.member_named.Given as goal

abbrev pub invariant-loop-rest : goal.invariant-loop-rest
invariant-loop-rest l = record {
  same : member_from l.child l.name l.rest ≡ member_from 0 l.fn.name l.fn.members;
  counted : l.child + length l.rest ≤ length l.fn.members;
}

abbrev pub decreases-loop-rest : goal.decreases-loop-rest
decreases-loop-rest l = length l.rest
