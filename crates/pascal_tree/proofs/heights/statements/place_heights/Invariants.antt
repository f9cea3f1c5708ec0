use Rattle.std.proofs.Common.{◌≡◌, max, map, drop}
use Rattle.pascal_tree.specs.Height.{capped}
use Rattle.pascal_tree.specs.ExpressionHeights.{greatest, place_height}
use Rattle.pascal_tree.proofs.heights.statements.place_heights.Given as goal

abbrev pub invariant-loop-place : goal.invariant-loop-place
invariant-loop-place l = max l.most (capped (greatest (map place_height (drop l.place-index l.places)))) ≡ capped (greatest (map place_height l.fn.places))
