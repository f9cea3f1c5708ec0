use Rattle.std.proofs.Common.{◌≡◌, ◌≤◌, length}
use Rattle.std.specs.Str.Parse.{digits_value, digits_value_after}
use Rattle.c_expr_parser.proofs.step.value_at_most.Given as goal

-- the digits that were read make the value, which is not too large
abbrev pub invariant-loop-rest : goal.invariant-loop-rest
invariant-loop-rest l = (digits_value 10 l.fn.digits ≡ digits_value_after 10 l.value l.rest) × (l.value ≤ l.most)

abbrev pub decreases-loop-rest : goal.decreases-loop-rest
decreases-loop-rest l = length l.rest
