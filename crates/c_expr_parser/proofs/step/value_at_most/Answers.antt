use Rattle.std.proofs.Common.{arith}
use Rattle.std.specs.Str.Parse.{digits_value}
use Rattle.c_expr_parser.proofs.Digits.{too_large}
use Rattle.c_expr_parser.proofs.step.value_at_most.Goals as goal

pub returns-then-value-from : goal.returns-then-value-from
returns-then-value-from c =
    too_large c.loop-rest.value c.args.most (digits_value 10 c.args.digits.now) c.digit_value.result c.loop-rest.rest.now c.digit_value.ensures c.in-len1-up.len_at_least (omega (arith, c.if-value-from.true, c.from.ensures)) c.loop-rest.invariant.0
