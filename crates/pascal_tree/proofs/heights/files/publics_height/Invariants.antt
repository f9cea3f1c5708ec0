use Rattle.std.proofs.Common.{◌≡◌, max, map, drop}
use Rattle.pascal_tree.specs.Height.{capped}
use Rattle.pascal_tree.specs.ExpressionHeights.{greatest}
use Rattle.pascal_tree.specs.Height.{public_height}
use Rattle.pascal_tree.proofs.heights.files.publics_height.Given as goal

abbrev pub invariant-loop-public : goal.invariant-loop-public
invariant-loop-public l = max l.most (capped (greatest (map public_height (drop l.public-index l.publics)))) ≡ capped (greatest (map public_height l.fn.publics))
