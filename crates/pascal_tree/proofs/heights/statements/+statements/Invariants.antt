use Rattle.std.proofs.Common.{◌≡◌, max, map, drop}
use Rattle.pascal_tree.specs.Height.{capped}
use Rattle.pascal_tree.specs.ExpressionHeights.{greatest}
use Rattle.pascal_tree.specs.StatementHeights.{stmt_height, arm_height}
use Rattle.pascal_tree.proofs.heights.statements.+statements.Given as goal

abbrev pub invariant-stmts_height-loop-stmt : goal.invariant-stmts_height-loop-stmt
invariant-stmts_height-loop-stmt l = max l.most (capped (greatest (map stmt_height (drop l.stmt-index l.stmts)))) ≡ capped (greatest (map stmt_height l.fn.stmts))

abbrev pub invariant-arm_heights-loop-arm : goal.invariant-arm_heights-loop-arm
invariant-arm_heights-loop-arm l = max l.most (capped (greatest (map arm_height (drop l.arm-index l.arms)))) ≡ capped (greatest (map arm_height l.fn.arms))
