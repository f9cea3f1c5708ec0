use Rattle.std.proofs.Common.{◌≡◌, max, map, drop}
use Rattle.pascal_tree.specs.Height.{capped}
use Rattle.pascal_tree.specs.ExpressionHeights.{greatest}
use Rattle.pascal_tree.specs.BlockHeights.{declaration_height}
use Rattle.pascal_tree.proofs.heights.blocks.+blocks.Given as goal

abbrev pub invariant-declarations_height-loop-declaration : goal.invariant-declarations_height-loop-declaration
invariant-declarations_height-loop-declaration l = max l.most (capped (greatest (map declaration_height (drop l.declaration-index l.declarations)))) ≡ capped (greatest (map declaration_height l.fn.declarations))
