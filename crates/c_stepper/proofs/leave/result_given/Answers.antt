use Rattle.std.proofs.Common.{◌∙◌, sym, ap, Option}
use Rattle.std.specs.Option.{option_map}
use Rattle.c_meaning.specs.Cells.{Tree}
use Rattle.c_meaning.specs.Answer.{Got, ◌>>=◌}
use Rattle.c_meaning.specs.Values as w
use Rattle.c_meaning.specs.Steps.{result_of}
use Rattle.c_evaluation.specs.declared.types.Object.{Object}
use Rattle.c_evaluation.specs.Types.{object_of}
use Rattle.c_evaluation.specs.Values.{value_of}
use Rattle.c_stepper.specs.Leaving.{given_of}
use Rattle.c_stepper.proofs.Calling.{exit_by}
use Rattle.c_stepper.proofs.leave.result_given.Goals as goal

pub returns-in_err-tree-in-Some : goal.returns-in_err-tree-in-Some
unfolding result_of ◌>>=◌
returns-in_err-tree-in-Some c =
    let ds = c.args.scope.now.program.now.declarations in
    let x = value_of c.args.value in
    let of = object_of c.in-Some.of in
    exit_by (λ (t : Tree). t) given_of c.in_err-tree-in-Some.field-0.0 c.from_residual.result (w.converted ds of x) (result_of ds (option_map object_of c.args.of) x) c.from_residual.ensures.1 c.in_err-tree-in-Some.ensures
    (λ kind h. ap (λ a. a >>= (λ tree. Got (w.value_of of tree))) h ∙ ap (λ (o : Option Object). result_of ds (option_map object_of o) x) (sym c.in-Some.is))

pub returns-in-Some : goal.returns-in-Some
unfolding result_of ◌>>=◌
returns-in-Some c =
    let ds = c.args.scope.now.program.now.declarations in
    let x = value_of c.args.value in
    let of = object_of c.in-Some.of in
    ap (λ a. a >>= (λ tree. Got (w.value_of of tree))) c.in_ok-tree-in-Some.ensures ∙ ap (λ (o : Option Object). result_of ds (option_map object_of o) x) (sym c.in-Some.is)

pub returns : goal.returns
unfolding result_of
returns c =
    let ds = c.args.scope.now.program.now.declarations in
    let x = value_of c.args.value in
    ap (λ (o : Option Object). result_of ds (option_map object_of o) x) (sym c.in-None.is)
