use Rattle.std.proofs.Common.{◌≡◌, max, map, drop}
use Rattle.pascal_tree.specs.Height.{capped}
use Rattle.pascal_tree.specs.ExpressionHeights.{greatest}
use Rattle.pascal_tree.specs.TypeHeights.{formal_height}
use Rattle.pascal_tree.proofs.heights.types.+formals.Given as goal

abbrev pub invariant-formal_heights-loop-formal : goal.invariant-formal_heights-loop-formal
invariant-formal_heights-loop-formal l = max l.most (capped (greatest (map formal_height (drop l.formal-index l.formals)))) ≡ capped (greatest (map formal_height l.fn.formals))
