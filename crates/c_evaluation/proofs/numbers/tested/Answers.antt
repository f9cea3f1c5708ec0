use Rattle.std.proofs.Common.{◌≡◌, subst, sym, w64, to_z, of_z, arith}
use Rattle.std.proofs.lemmas.Int.{ints}
use Rattle.std.specs.Prelude.{ℤ, Bool, not}
use Rattle.c_evaluation.specs.Numbers.{Evaluates, Chooses}
use Rattle.c_evaluation.proofs.Resolving.{chooses}
use Rattle.c_evaluation.proofs.numbers.tested.Goals as goal

pub returns-in-Some : goal.returns-in-Some
returns-in-Some c =
    let blocks = c.args.memory.now in
    let base = c.args.base in
    let number = c.args.number.now in
    let z = c.in-Some.z in
    let same : z ≡ to_z w64 (of_z w64 z) = grind (arith, ints) in
    subst (λ (q : Bool). Chooses blocks base number (not q)) (sym c.is_zero.ensures) (chooses blocks base number _ (subst (λ (y : ℤ). Evaluates blocks base number y) same c.in-Some.ensures))
