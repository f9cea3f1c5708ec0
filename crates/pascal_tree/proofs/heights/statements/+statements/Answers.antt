use Rattle.std.proofs.Common.{◌≡◌, max, ap, ◌∙◌, arith}
use Rattle.pascal_tree.specs.ExpressionHeights.{expr_height}
use Rattle.pascal_tree.specs.StatementHeights.{plain_height, stmt_height, else_height}
use Rattle.pascal_tree.proofs.StatementNodes.{plain_if}
use Rattle.pascal_tree.proofs.heights.statements.+statements.Goals as goal

pub plain_height-returns-in-If : goal.plain_height-returns-in-If
plain_height-returns-in-If t c =
    let e : plain_height c.args.plain.now ≡ max (expr_height c.in-If.condition) (max (stmt_height c.in-If.yes) (else_height c.in-If.no)) = ap plain_height c.in-If.is ∙ plain_if c.in-If.condition c.in-If.yes c.in-If.no c.in-If.span in
    grind arith
