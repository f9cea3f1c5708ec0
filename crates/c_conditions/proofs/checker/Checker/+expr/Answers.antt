use Rattle.std.proofs.Common.{ap, arith}
use Rattle.c_tree.specs.Tree.{place_size}
use Rattle.c_tree.specs.expressions.View.{base_place}
use Rattle.c_tree.specs.expressions.Sizes.{selectors_size, selected_size}
use Rattle.c_conditions.proofs.checker.Checker.+expr.Goals as goal

pub variable-selectors-requires : goal.variable-selectors-requires
variable-selectors-requires t c =
    (omega (arith, ap place_size c.p.view_is, ap selectors_size c.as_slice.ensures, selected_size (base_place c.p.inside.base) c.p.inside.selectors), tt)
