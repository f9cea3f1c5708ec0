-- Casts of what a scalar holds.
use Rattle.std.specs.Prelude.{Bool, true, false}
use Rattle.c_tree.specs.Tree as t
use Rattle.c_tree.specs.declared.operators.CCast.{CCast}
use Rattle.c_tree.specs.declared.operators.CCast.TheVariants as to
use Rattle.c_meaning.specs.Cells.{Cell}
use Rattle.c_meaning.specs.Answer.{Answer}
use Rattle.c_meaning.specs.Values.{Value, int_of_cell, word_of_cell}
use Rattle.c_meaning.specs.Evaluate.{View, retyped, struct_pointer}

-- whether it is a cast to a number
abbrev pub is_number : CCast → Bool
is_number to.Int = true
is_number to.Word = true
is_number _ = false

abbrev pub cast_cell : View → CCast → Cell → Answer Value
cast_cell v to.Int c = int_of_cell c
cast_cell v to.Word c = word_of_cell c
cast_cell v to.VoidPointer c = retyped t.VoidPointer c
cast_cell v (to.StructPointer s) c = struct_pointer v s c
