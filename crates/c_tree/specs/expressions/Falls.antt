-- Each part of a place is smaller than the place.
use Rattle.std.specs.Prelude.{◌≤◌, List, [], ◌∷◌}
use Rattle.std.proofs.Common.{arith}
use denote.Param.Weighed.{most}
use Rattle.c_tree.specs.expressions.Tree.{place_size}
use Rattle.c_tree.specs.expressions.View.{base_place, selected}
use Rattle.c_tree.specs.expressions.Sizes.{selector_size, selectors_size, selected_size}
use Rattle.c_tree.specs.declared.expr.CBasePlace.{CBasePlace}
use Rattle.c_tree.specs.declared.expr.CBasePlace.TheVariants as base
use Rattle.c_tree.specs.declared.expr.CSelector.{CSelector}
use Rattle.c_tree.specs.declared.expr.CSelector.TheVariants as selector
use Rattle.c_tree.specs.declared.expr.CPlace.TheInside.{Inside}
use Rattle.c_tree.specs.declared.expr.CExpr.TheDeep.{deep-CPlace, deep-CBasePlace, deep-CSelector}

base_falls : (b : CBasePlace) → deep-CBasePlace b ≤ place_size (base_place b)
base_falls (base.Variable name) = omega arith
base_falls (base.Pointee a) = omega arith

selector_falls : (s : CSelector) → deep-CSelector s ≤ selector_size s
selector_falls (selector.Member name) = omega arith
selector_falls (selector.Index a) = omega arith

selectors_fall : (all : List CSelector) → most deep-CSelector all ≤ selectors_size all
selectors_fall [] = omega arith
selectors_fall (s ∷ rest) = omega (arith, selector_falls s, selectors_fall rest)

pub place_falls : (a : Inside) → deep-CPlace a ≤ place_size (selected (base_place a.base) a.selectors)
place_falls a = omega (arith, base_falls a.base, selectors_fall a.selectors, selected_size (base_place a.base) a.selectors)
