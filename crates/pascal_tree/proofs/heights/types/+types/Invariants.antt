use Rattle.std.proofs.Common.{◌≡◌, max, map, drop}
use Rattle.pascal_tree.specs.Height.{capped}
use Rattle.pascal_tree.specs.ExpressionHeights.{greatest}
use Rattle.pascal_tree.specs.TypeHeights.{type_height, section_height, variant_height}
use Rattle.pascal_tree.proofs.heights.types.+types.Given as goal

abbrev pub invariant-index_heights-loop-index : goal.invariant-index_heights-loop-index
invariant-index_heights-loop-index l = max l.most (capped (greatest (map type_height (drop l.index-index l.types)))) ≡ capped (greatest (map type_height l.fn.types))

abbrev pub invariant-section_heights-loop-section : goal.invariant-section_heights-loop-section
invariant-section_heights-loop-section l = max l.most (capped (greatest (map section_height (drop l.section-index l.sections)))) ≡ capped (greatest (map section_height l.fn.sections))

abbrev pub invariant-variant_heights-loop-variant : goal.invariant-variant_heights-loop-variant
invariant-variant_heights-loop-variant l = max l.most (capped (greatest (map variant_height (drop l.variant-index l.variants)))) ≡ capped (greatest (map variant_height l.fn.variants))
