use Rattle.std.proofs.Common.{◌≡◌, ◌+◌, ◌*◌, ◌≤◌, max, length}
use Rattle.c_tree.specs.Tree.{expr_size, place_size}
use Rattle.c_tree.specs.expressions.View.{base_place}
use Rattle.c_tree.specs.expressions.Sizes.{selector_size, selectors_size}
use Rattle.c_evaluation.specs.Evaluations.{onto_selectors}
use Rattle.c_evaluation.specs.Scopes.{view_at, site_of}
use Rattle.c_evaluation.proofs.evaluate.+evaluate.Given as goal

abbrev pub decreases-value_of : goal.decreases-value_of
decreases-value_of l = 5 * expr_size l.e.now

abbrev pub decreases-read : goal.decreases-read
decreases-read l = 5 * place_size l.place.now + 4

abbrev pub decreases-address_of : goal.decreases-address_of
decreases-address_of l = 5 * place_size l.place.now + 4

abbrev pub decreases-unary_of : goal.decreases-unary_of
decreases-unary_of l = 5 * expr_size l.a.now + 1

abbrev pub decreases-cast_of : goal.decreases-cast_of
decreases-cast_of l = 5 * expr_size l.a.now + 1

abbrev pub decreases-binary_of : goal.decreases-binary_of
decreases-binary_of l = 5 * max (expr_size l.a.now) (expr_size l.b.now) + 1

abbrev pub decreases-place_of : goal.decreases-place_of
decreases-place_of l = 5 * place_size l.place.now + 3

abbrev pub decreases-base_site : goal.decreases-base_site
decreases-base_site l = 5 * place_size (base_place l.base.now)

abbrev pub decreases-pointee_of : goal.decreases-pointee_of
decreases-pointee_of l = 5 * expr_size l.a.now + 1

abbrev pub decreases-selected_site : goal.decreases-selected_site
decreases-selected_site l = 5 * selectors_size l.list.now + 2

abbrev pub decreases-step_to : goal.decreases-step_to
decreases-step_to l = 5 * selector_size l.selector.now + 1

abbrev pub decreases-index_of : goal.decreases-index_of
decreases-index_of l = 5 * expr_size l.a.now + 1

abbrev pub invariant-selected_site-loop-rest : goal.invariant-selected_site-loop-rest
invariant-selected_site-loop-rest l = record {
  same : onto_selectors (view_at l.fn.scope) l.rest (site_of l.site) ≡ onto_selectors (view_at l.fn.scope) l.fn.list (site_of l.fn.site);
  smaller : selectors_size l.rest ≤ selectors_size l.fn.list;
}

abbrev pub decreases-selected_site-loop-rest : goal.decreases-selected_site-loop-rest
decreases-selected_site-loop-rest l = length l.rest
