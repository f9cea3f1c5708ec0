use Rattle.std.proofs.Common.{◌≡◌, ◌+◌, ◌*◌, ◌≤◌, length}
use Rattle.c_tree.specs.Tree.{expr_size, place_size}
use Rattle.c_tree.specs.expressions.View.{base_place}
use Rattle.c_tree.specs.expressions.Sizes.{selector_size, selectors_size}
use Rattle.c_conditions.specs.World.{seen}
use Rattle.c_conditions.specs.Steps.{each}
use Rattle.c_conditions.specs.ExprSteps.{selector_step}
use Rattle.c_conditions.proofs.checker.Checker.+expr.Given as goal

abbrev pub decreases-expr : goal.decreases-expr
decreases-expr l = 5 * expr_size l.e.now

abbrev pub decreases-variable : goal.decreases-variable
decreases-variable l = 5 * place_size l.p.now + 3

abbrev pub decreases-base_place : goal.decreases-base_place
decreases-base_place l = 5 * place_size (base_place l.base.now)

abbrev pub decreases-selectors : goal.decreases-selectors
decreases-selectors l = 5 * selectors_size l.list.now + 2

abbrev pub decreases-selector : goal.decreases-selector
decreases-selector l = 5 * selector_size l.selector.now + 1

abbrev pub invariant-selectors-loop-rest : goal.invariant-selectors-loop-rest
invariant-selectors-loop-rest l = record {
  value : each selector_step l.fn.list (seen l.initial.self) ≡ each selector_step l.rest (seen l.self);
  smaller : selectors_size l.rest ≤ selectors_size l.fn.list;
}

abbrev pub decreases-selectors-loop-rest : goal.decreases-selectors-loop-rest
decreases-selectors-loop-rest l = length l.rest
