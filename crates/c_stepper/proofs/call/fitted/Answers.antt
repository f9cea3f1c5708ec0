use Rattle.std.proofs.Common.{◌≡◌, ◌∙◌, ap, subst, List, Some, Err}
use Rattle.c_tree.specs.Tree.{Statement}
use Rattle.c_tree.specs.declared.program.CVariable.{CVariable}
use Rattle.c_meaning.specs.Cells.{Blocks}
use Rattle.c_meaning.specs.Answer.{Got, ◌>>=◌}
use Rattle.c_meaning.specs.Steps.{parameter_blocks}
use Rattle.c_cells.specs.Halts.{Tells}
use Rattle.c_evaluation.specs.Values.{values_of}
use Rattle.c_evaluation.proofs.Evaluations.{exit}
use Rattle.c_stepper.specs.Runners.{target_of, parts_at}
use Rattle.c_stepper.specs.Calls.{entered_of}
use Rattle.c_stepper.proofs.call.fitted.Goals as goal

pub returns-in_err-parameters-clause-value : goal.returns-in_err-parameters-clause-value
returns-in_err-parameters-clause-value c =
    let p = c.args.scope.now.program.now in
    let n = c.args.function in
    let target = target_of c.args.target in
    let xs = values_of c.args.values in
    let e = c.in_err-parameters.field-0.0 in
    let ps : c.written_text-text.result.parameters.now ≡ (parts_at p (Some n)).parameters = ap (λ (x : List CVariable × List CVariable × List Statement). x.0) c.written_text-text.ensures in
    let told = subst (λ (qs : List CVariable). Tells (λ (b : Blocks). b) (Err e) (parameter_blocks p.declarations qs xs)) ps c.in_err-parameters.ensures.value in
    exit (λ (b : Blocks). b) entered_of e c.from_residual.result (parameter_blocks p.declarations (parts_at p (Some n)).parameters xs) (λ (blocks : Blocks). Got (n, target, blocks)) c.from_residual.ensures.1 told

pub returns-clause-value : goal.returns-clause-value
unfolding ◌>>=◌
returns-clause-value c =
    let p = c.args.scope.now.program.now in
    let n = c.args.function in
    let target = target_of c.args.target in
    let xs = values_of c.args.values in
    let ps : c.written_text-text.result.parameters.now ≡ (parts_at p (Some n)).parameters = ap (λ (x : List CVariable × List CVariable × List Statement). x.0) c.written_text-text.ensures in
    let told = c.in_ok-parameters.ensures.value ∙ ap (λ (qs : List CVariable). parameter_blocks p.declarations qs xs) ps in
    ap (λ a. a >>= (λ (blocks : Blocks). Got (n, target, blocks))) told
