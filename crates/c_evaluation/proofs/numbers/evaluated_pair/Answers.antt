use Rattle.std.proofs.Common.{◌≡◌, subst, w64, to_z, of_z, arith}
use Rattle.std.proofs.lemmas.Int.{ints}
use Rattle.std.specs.Prelude.{ℤ}
use Rattle.c_evaluation.specs.Numbers.{Holds}
use Rattle.c_evaluation.proofs.Resolving.{joined_pair}
use Rattle.c_evaluation.proofs.numbers.evaluated_pair.Goals as goal

pub returns-in-Some-Some : goal.returns-in-Some-Some
returns-in-Some-Some c =
    let blocks = c.args.memory.now in
    let base = c.args.base in
    let x = c.in-Some-Some.x in
    let y = c.in-Some-Some.y in
    let x_is : x ≡ to_z w64 (of_z w64 x) = grind (arith, ints) in
    let y_is : y ≡ to_z w64 (of_z w64 y) = grind (arith, ints) in
    joined_pair blocks base c.args.op c.args.a c.args.b _ _ c.operation.result (subst (λ (z : ℤ). Holds blocks base c.args.a z) x_is c.in-Some-Some.ensures) (subst (λ (z : ℤ). Holds blocks base c.args.b z) y_is c.in-Some-Some.ensures') c.operation.ensures
