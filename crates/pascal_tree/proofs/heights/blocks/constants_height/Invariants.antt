use Rattle.std.proofs.Common.{◌≡◌, max, map, drop}
use Rattle.pascal_tree.specs.Height.{capped}
use Rattle.pascal_tree.specs.ExpressionHeights.{greatest}
use Rattle.pascal_tree.specs.BlockHeights.{definition_height}
use Rattle.pascal_tree.proofs.heights.blocks.constants_height.Given as goal

abbrev pub invariant-loop-definition : goal.invariant-loop-definition
invariant-loop-definition l = max l.most (capped (greatest (map definition_height (drop l.definition-index l.part.definitions)))) ≡ capped (greatest (map definition_height l.fn.part.definitions))
