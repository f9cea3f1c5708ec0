use Rattle.std.proofs.Common.{ap, arith}
use Rattle.std.proofs.lemmas.Result.{on_ok_weaker}
use Rattle.c_tree.specs.Tree.{place_size}
use Rattle.c_tree.specs.expressions.View.{base_place}
use Rattle.c_tree.specs.expressions.Sizes.{selectors_size, selected_size}
use Rattle.c_printer.proofs.PlaceTexts.{place_written}
use Rattle.c_printer.proofs.expr.+expr.Goals as goal

pub put_place-put_selectors-requires : goal.put_place-put_selectors-requires
put_place-put_selectors-requires t c =
    (omega (arith, ap place_size c.p.view_is, ap selectors_size c.as_slice.ensures, selected_size (base_place c.p.inside.base) c.p.inside.selectors), tt)

pub put_place-returns : goal.put_place-returns
put_place-returns t c =
    on_ok_weaker c.put_selectors.result (place_written _ _ _ _ _ _ _ c.p.view_is c.as_slice.ensures c.in_ok-put_base_place.ensures) c.put_selectors.ensures
