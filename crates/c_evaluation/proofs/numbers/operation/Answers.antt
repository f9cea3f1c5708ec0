use Rattle.std.proofs.Common.{◌≡◌, sym, arith, w64, to_z, of_z}
use Rattle.std.proofs.lemmas.Int.{ints}
use Rattle.c_tree.specs.declared.operators.CBinary.TheVariants as b
use Rattle.c_evaluation.proofs.Found.{at_op, compared, less, at_most, greater, at_least, equals, differs}
use Rattle.c_evaluation.proofs.numbers.operation.Goals as goal

pub returns-in-Add : goal.returns-in-Add
returns-in-Add c = λ ds.
    let x_is : to_z w64 (of_z w64 c.args.x) ≡ c.args.x = grind (arith, ints) in
    let y_is : to_z w64 (of_z w64 c.args.y) ≡ c.args.y = grind (arith, ints) in
    at_op ds c.args.op b.Add _ _ c.args.x c.args.y c.sum.result (sym c.in-Add.is) x_is y_is (c.sum.ensures ds)

pub returns-in-Subtract : goal.returns-in-Subtract
returns-in-Subtract c = λ ds.
    let x_is : to_z w64 (of_z w64 c.args.x) ≡ c.args.x = grind (arith, ints) in
    let y_is : to_z w64 (of_z w64 c.args.y) ≡ c.args.y = grind (arith, ints) in
    at_op ds c.args.op b.Subtract _ _ c.args.x c.args.y c.difference.result (sym c.in-Subtract.is) x_is y_is (c.difference.ensures ds)

pub returns-in-Multiply : goal.returns-in-Multiply
returns-in-Multiply c = λ ds.
    let x_is : to_z w64 (of_z w64 c.args.x) ≡ c.args.x = grind (arith, ints) in
    let y_is : to_z w64 (of_z w64 c.args.y) ≡ c.args.y = grind (arith, ints) in
    at_op ds c.args.op b.Multiply _ _ c.args.x c.args.y c.product.result (sym c.in-Multiply.is) x_is y_is (c.product.ensures ds)

pub returns-in-Less : goal.returns-in-Less
returns-in-Less c = λ ds.
    let x_is : to_z w64 (of_z w64 c.args.x) ≡ c.args.x = grind (arith, ints) in
    let y_is : to_z w64 (of_z w64 c.args.y) ≡ c.args.y = grind (arith, ints) in
    at_op ds c.args.op b.Less _ _ c.args.x c.args.y c.one_if.result (sym c.in-Less.is) x_is y_is (compared ds b.Less (to_z w64 (of_z w64 c.args.x)) (to_z w64 (of_z w64 c.args.y)) _ c.one_if.result (less ds _ _) c.one_if.ensures)

pub returns-in-AtMost : goal.returns-in-AtMost
returns-in-AtMost c = λ ds.
    let x_is : to_z w64 (of_z w64 c.args.x) ≡ c.args.x = grind (arith, ints) in
    let y_is : to_z w64 (of_z w64 c.args.y) ≡ c.args.y = grind (arith, ints) in
    at_op ds c.args.op b.AtMost _ _ c.args.x c.args.y c.one_if-in-AtMost.result (sym c.in-AtMost.is) x_is y_is (compared ds b.AtMost (to_z w64 (of_z w64 c.args.x)) (to_z w64 (of_z w64 c.args.y)) _ c.one_if-in-AtMost.result (at_most ds _ _) c.one_if-in-AtMost.ensures)

pub returns-in-Greater : goal.returns-in-Greater
returns-in-Greater c = λ ds.
    let x_is : to_z w64 (of_z w64 c.args.x) ≡ c.args.x = grind (arith, ints) in
    let y_is : to_z w64 (of_z w64 c.args.y) ≡ c.args.y = grind (arith, ints) in
    at_op ds c.args.op b.Greater _ _ c.args.x c.args.y c.one_if-in-Greater.result (sym c.in-Greater.is) x_is y_is (compared ds b.Greater (to_z w64 (of_z w64 c.args.x)) (to_z w64 (of_z w64 c.args.y)) _ c.one_if-in-Greater.result (greater ds _ _) c.one_if-in-Greater.ensures)

pub returns-in-AtLeast : goal.returns-in-AtLeast
returns-in-AtLeast c = λ ds.
    let x_is : to_z w64 (of_z w64 c.args.x) ≡ c.args.x = grind (arith, ints) in
    let y_is : to_z w64 (of_z w64 c.args.y) ≡ c.args.y = grind (arith, ints) in
    at_op ds c.args.op b.AtLeast _ _ c.args.x c.args.y c.one_if-in-AtLeast.result (sym c.in-AtLeast.is) x_is y_is (compared ds b.AtLeast (to_z w64 (of_z w64 c.args.x)) (to_z w64 (of_z w64 c.args.y)) _ c.one_if-in-AtLeast.result (at_least ds _ _) c.one_if-in-AtLeast.ensures)

pub returns-in-Equal : goal.returns-in-Equal
returns-in-Equal c = λ ds.
    let x_is : to_z w64 (of_z w64 c.args.x) ≡ c.args.x = grind (arith, ints) in
    let y_is : to_z w64 (of_z w64 c.args.y) ≡ c.args.y = grind (arith, ints) in
    at_op ds c.args.op b.Equal _ _ c.args.x c.args.y c.one_if-in-Equal.result (sym c.in-Equal.is) x_is y_is (compared ds b.Equal (to_z w64 (of_z w64 c.args.x)) (to_z w64 (of_z w64 c.args.y)) _ c.one_if-in-Equal.result (equals ds _ _ c.is_same.result (sym c.is_same.ensures)) c.one_if-in-Equal.ensures)

pub returns-in-NotEqual : goal.returns-in-NotEqual
returns-in-NotEqual c = λ ds.
    let x_is : to_z w64 (of_z w64 c.args.x) ≡ c.args.x = grind (arith, ints) in
    let y_is : to_z w64 (of_z w64 c.args.y) ≡ c.args.y = grind (arith, ints) in
    at_op ds c.args.op b.NotEqual _ _ c.args.x c.args.y c.one_if-in-NotEqual.result (sym c.in-NotEqual.is) x_is y_is (compared ds b.NotEqual (to_z w64 (of_z w64 c.args.x)) (to_z w64 (of_z w64 c.args.y)) _ c.one_if-in-NotEqual.result (differs ds _ _ c.is_same-in-NotEqual.result (sym c.is_same-in-NotEqual.ensures)) c.one_if-in-NotEqual.ensures)
