use Rattle.std.proofs.Common.{◌≡◌, max, map, drop}
use Rattle.pascal_tree.specs.Height.{capped}
use Rattle.pascal_tree.specs.ExpressionHeights.{greatest}
use Rattle.pascal_tree.specs.BlockHeights.{section_height}
use Rattle.pascal_tree.proofs.heights.blocks.variables_height.Given as goal

abbrev pub invariant-loop-section : goal.invariant-loop-section
invariant-loop-section l = max l.most (capped (greatest (map section_height (drop l.section-index l.part.sections)))) ≡ capped (greatest (map section_height l.fn.part.sections))
