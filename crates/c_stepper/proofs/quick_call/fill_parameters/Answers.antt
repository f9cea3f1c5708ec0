use Rattle.std.proofs.Common.{◌≡◌, ◌++◌, ◌∷◌, [], ◌∙◌, ap, subst, w64, to_z, of_z, arith}
use Rattle.std.proofs.lemmas.Int.{ints}
use Rattle.std.specs.Prelude.{ℤ}
use Rattle.c_evaluation.specs.Numbers.{Evaluates}
use Rattle.c_stepper.proofs.QuickCalling.{next_parameter, all_parameters}
use Rattle.c_stepper.proofs.quick_call.fill_parameters.Goals as goal

pub loop-first-preserved : goal.loop-first-preserved
loop-first-preserved c =
    let blocks = c.args.memory.now in
    let base = c.args.base in
    let n = c.in-Some.first.now in
    let z = c.in-Some-evaluated.z in
    let same : z ≡ to_z w64 (of_z w64 z) = grind (arith, ints) in
    next_parameter blocks base c.args.numbers.now c.loop-first.rest.now c.in-Some.after.now c.loop-first.parameters.items _ n _ c.loop-first.invariant c.in-Some.ensures.cases.0 (c.in_ok-push.ensures.items ∙ ap (λ o. c.loop-first.parameters.items ++ o ∷ []) c.int.ensures) (subst (λ (y : ℤ). Evaluates blocks base n y) same c.in-Some-evaluated.ensures)

pub returns : goal.returns
returns c = λ found. all_parameters c.args.memory.now c.args.base c.args.numbers.now c.loop-first.rest.now c.loop-first.parameters.items c.loop-first.invariant c.in_default.ensures.cases
