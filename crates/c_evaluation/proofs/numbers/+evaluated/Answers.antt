use Rattle.std.proofs.Common.{◌≡◌, subst, w64, to_z, of_z, arith}
use Rattle.std.proofs.lemmas.Int.{ints}
use Rattle.std.specs.Prelude.{ℤ, IfSome}
use Rattle.c_evaluation.specs.declared.numbers.Number.{Number}
use Rattle.c_evaluation.specs.Numbers.{Evaluates, EvaluatesTwo}
use Rattle.c_evaluation.proofs.Resolving.{evaluated_operand, evaluated_pair, evaluated_two, joined_two}
use Rattle.c_evaluation.proofs.numbers.+evaluated.Goals as goal

pub evaluated-returns-in-Operand : goal.evaluated-returns-in-Operand
evaluated-returns-in-Operand t c = evaluated_operand c.args.memory.now c.args.base c.args.number.now c.in-Operand.operand c.held.result c.in-Operand.is c.held.ensures

pub evaluated-returns-in-Pair : goal.evaluated-returns-in-Pair
evaluated-returns-in-Pair t c = evaluated_pair c.args.memory.now c.args.base c.args.number.now c.in-Pair.op c.in-Pair.a c.in-Pair.b c.evaluated_pair.result c.in-Pair.is c.evaluated_pair.ensures

pub evaluated-returns-in-Two : goal.evaluated-returns-in-Two
evaluated-returns-in-Two t c =
    let blocks = c.args.memory.now in
    let base = c.args.base in
    let op = c.in-Two.op in
    let o = c.evaluated_two.result in
    evaluated_two blocks base c.args.number.now op c.in-Two.a c.in-Two.b o c.in-Two.is
    (subst (λ (b : Number). IfSome o (λ (z : ℤ). EvaluatesTwo blocks base op c.in-Two.a.value b z)) c.deref-in-Two.ensures
    (subst (λ (a : Number). IfSome o (λ (z : ℤ). EvaluatesTwo blocks base op a c.deref-in-Two.result.now z)) c.deref.ensures c.evaluated_two.ensures))

pub evaluated_two-returns-in-Some-Some : goal.evaluated_two-returns-in-Some-Some
evaluated_two-returns-in-Some-Some t c =
    let blocks = c.args.memory.now in
    let base = c.args.base in
    let a = c.args.a.now in
    let b = c.args.b.now in
    let x = c.in-Some-Some.x in
    let y = c.in-Some-Some.y in
    let x_is : x ≡ to_z w64 (of_z w64 x) = grind (arith, ints) in
    let y_is : y ≡ to_z w64 (of_z w64 y) = grind (arith, ints) in
    joined_two blocks base c.args.op a b _ _ c.operation.result (subst (λ (z : ℤ). Evaluates blocks base a z) x_is c.in-Some-Some.ensures) (subst (λ (z : ℤ). Evaluates blocks base b z) y_is c.in-Some-Some.ensures') c.operation.ensures
