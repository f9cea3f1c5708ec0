use Rattle.std.proofs.Common.{◌≡◌, ◌∙◌, sym, arith, true, false}
use Rattle.c_meaning.specs.Types.{type_eq}
use Rattle.c_evaluation.proofs.Signatures.{have_differ, have_go_on}
use Rattle.c_evaluation.proofs.types.variables_have.Goals as goal

pub returns-then-not-same_type : goal.returns-then-not-same_type
returns-then-not-same_type c =
    let x = c.x-item.result in
    let y = c.y-item.result in
    let differ : type_eq x y.of ≡ false = cc in
    sym (sym c.loop-left.invariant ∙ have_differ c.loop-left.left.now c.loop-left.right.now x y (omega arith) (omega arith) c.x-item.is c.y-item.is differ)

pub loop-left-preserved : goal.loop-left-preserved
loop-left-preserved c =
    let x = c.x-item.result in
    let y = c.y-item.result in
    let same : type_eq x y.of ≡ true = cc in
    sym (have_go_on c.loop-left.left.now c.loop-left.right.now x y (omega arith) (omega arith) c.x-item.is c.y-item.is same) ∙ c.loop-left.invariant
