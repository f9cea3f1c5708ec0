use Rattle.std.proofs.Common.{◌≡◌, ◌++◌}
use Rattle.c_tree.specs.types.View.{base_of, pointers}
use Rattle.c_printer.specs.Text.{type_text}
use Rattle.c_printer.proofs.types.put_type.Given as goal

abbrev pub invariant-loop-stars : goal.invariant-loop-stars
invariant-loop-stars l = l.out.items ≡ l.fn.out.items ++ type_text (pointers l.stars (base_of l.of-inside.base))
