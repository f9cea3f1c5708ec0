-- How deep selectors are: no deeper than the place that they select.
use Rattle.std.specs.Prelude.{ℕ, ◌+◌, ◌≤◌, max, List, [], ◌∷◌}
use Rattle.std.proofs.Common.{arith}
use Rattle.c_tree.specs.expressions.Tree.{Place, place_size, expr_size}
use Rattle.c_tree.specs.expressions.View.{select, selected}
use Rattle.c_tree.specs.declared.expr.CSelector.{CSelector}
use Rattle.c_tree.specs.declared.expr.CSelector.TheVariants as selector

abbrev pub selector_size : CSelector → ℕ
selector_size (selector.Member name) = 0
selector_size (selector.Index a) = expr_size a + 1

abbrev pub selectors_size : List CSelector → ℕ
selectors_size [] = 0
selectors_size (s ∷ rest) = max (selector_size s) (selectors_size rest)

select_size : (p : Place) (s : CSelector) → max (place_size p) (selector_size s) ≤ place_size (select p s)
select_size p (selector.Member name) = omega arith
select_size p (selector.Index a) = omega arith

pub selected_size : (p : Place) (all : List CSelector) → max (place_size p) (selectors_size all) ≤ place_size (selected p all)
selected_size p [] = omega arith
selected_size p (s ∷ rest) = omega (arith, select_size p s, selected_size (select p s) rest)
