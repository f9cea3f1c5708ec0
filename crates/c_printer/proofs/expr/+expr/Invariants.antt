use Rattle.std.proofs.Common.{◌≡◌, ◌+◌, ◌*◌, ◌≤◌, ◌++◌, length}
use Rattle.c_tree.specs.Tree.{expr_size, place_size}
use Rattle.c_tree.specs.expressions.View.{base_place}
use Rattle.c_tree.specs.expressions.Sizes.{selector_size, selectors_size}
use Rattle.c_printer.specs.Selectors.{selectors_text}
use Rattle.c_printer.proofs.expr.+expr.Given as goal

abbrev pub decreases-put_expr : goal.decreases-put_expr
decreases-put_expr l = 5 * expr_size l.e.now

abbrev pub decreases-put_address : goal.decreases-put_address
decreases-put_address l = 5 * place_size l.p.now + 4

abbrev pub decreases-put_unary : goal.decreases-put_unary
decreases-put_unary l = 5 * expr_size l.a.now + 1

abbrev pub decreases-put_converted : goal.decreases-put_converted
decreases-put_converted l = 5 * expr_size l.a.now + 1

abbrev pub decreases-put_place : goal.decreases-put_place
decreases-put_place l = 5 * place_size l.p.now + 3

abbrev pub decreases-put_base_place : goal.decreases-put_base_place
decreases-put_base_place l = 5 * place_size (base_place l.base.now)

abbrev pub decreases-put_pointee : goal.decreases-put_pointee
decreases-put_pointee l = 5 * expr_size l.a.now + 1

abbrev pub decreases-put_selectors : goal.decreases-put_selectors
decreases-put_selectors l = 5 * selectors_size l.list.now + 2

abbrev pub decreases-put_selector : goal.decreases-put_selector
decreases-put_selector l = 5 * selector_size l.selector.now + 1

abbrev pub invariant-put_selectors-loop-rest : goal.invariant-put_selectors-loop-rest
invariant-put_selectors-loop-rest l = record {
  written : l.out.items ++ selectors_text l.rest ≡ l.initial.out.items ++ selectors_text l.initial.rest;
  smaller : selectors_size l.rest ≤ selectors_size l.fn.list;
}

abbrev pub decreases-put_selectors-loop-rest : goal.decreases-put_selectors-loop-rest
decreases-put_selectors-loop-rest l = length l.rest
