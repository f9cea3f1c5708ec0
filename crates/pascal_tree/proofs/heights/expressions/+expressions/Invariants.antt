use Rattle.std.proofs.Common.{◌≡◌, max, map, drop}
use Rattle.pascal_tree.specs.Height.{capped}
use Rattle.pascal_tree.specs.ExpressionHeights.{greatest, added_height, multiplied_height, elem_height, selector_height, expr_height, arg_height}
use Rattle.pascal_tree.proofs.heights.expressions.+expressions.Given as goal

abbrev pub invariant-added_heights-loop-added : goal.invariant-added_heights-loop-added
invariant-added_heights-loop-added l = max l.most (capped (greatest (map added_height (drop l.added-index l.terms)))) ≡ capped (greatest (map added_height l.fn.terms))

abbrev pub invariant-multiplied_heights-loop-multiplied : goal.invariant-multiplied_heights-loop-multiplied
invariant-multiplied_heights-loop-multiplied l = max l.most (capped (greatest (map multiplied_height (drop l.multiplied-index l.factors)))) ≡ capped (greatest (map multiplied_height l.fn.factors))

abbrev pub invariant-elem_heights-loop-elem : goal.invariant-elem_heights-loop-elem
invariant-elem_heights-loop-elem l = max l.most (capped (greatest (map elem_height (drop l.elem-index l.elems)))) ≡ capped (greatest (map elem_height l.fn.elems))

abbrev pub invariant-selector_heights-loop-selector : goal.invariant-selector_heights-loop-selector
invariant-selector_heights-loop-selector l = max l.most (capped (greatest (map selector_height (drop l.selector-index l.selectors)))) ≡ capped (greatest (map selector_height l.fn.selectors))

abbrev pub invariant-expr_heights-loop-expr : goal.invariant-expr_heights-loop-expr
invariant-expr_heights-loop-expr l = max l.most (capped (greatest (map expr_height (drop l.expr-index l.exprs)))) ≡ capped (greatest (map expr_height l.fn.exprs))

abbrev pub invariant-arg_heights-loop-arg : goal.invariant-arg_heights-loop-arg
invariant-arg_heights-loop-arg l = max l.most (capped (greatest (map arg_height (drop l.arg-index l.args)))) ≡ capped (greatest (map arg_height l.fn.args))
