use Rattle.std.proofs.Common.{◌≡◌, max, ap, ◌∙◌, arith}
use Rattle.pascal_tree.specs.ExpressionHeights.{arg_height, expr_height, last_height}
use Rattle.pascal_tree.proofs.ExpressionNodes.{arg_value}
use Rattle.pascal_tree.proofs.heights.expressions.+expressions.Goals as goal

pub arg_height-returns-in-Value : goal.arg_height-returns-in-Value
arg_height-returns-in-Value t c =
    let e : arg_height c.args.arg.now ≡ max (expr_height c.in-Value.value) (max (last_height c.in-Value.width) (last_height c.in-Value.decimals)) = ap arg_height c.in-Value.is ∙ arg_value c.in-Value.value c.in-Value.width c.in-Value.decimals c.in-Value.span in
    grind arith
