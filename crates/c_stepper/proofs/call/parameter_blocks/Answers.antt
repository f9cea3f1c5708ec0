use Rattle.std.proofs.Common.{◌≡◌, ◌∙◌, ap, subst, reverse, List}
use Rattle.c_meaning.specs.Cells.{Blocks}
use Rattle.c_meaning.specs.Values as w
use Rattle.c_meaning.specs.Steps.{parameter_blocks}
use Rattle.c_evaluation.specs.declared.value.Value.{Value}
use Rattle.c_cells.specs.Halts.{Tells}
use Rattle.c_evaluation.specs.Values.{values_of}
use Rattle.c_stepper.proofs.Calling.{values_reverse}
use Rattle.c_stepper.proofs.call.parameter_blocks.Goals as goal

pub returns-clause-value : goal.returns-clause-value
returns-clause-value c =
    let ds = c.args.scope.now.program.now.declarations in
    let all : List Value = c.args.values in
    let items : c.from_vec.result ≡ reverse all = c.from_vec.ensures ∙ c.reverse.ensures.items ∙ ap reverse c.into_vec-backward.ensures in
    let same : reverse (values_of c.from_vec.result) ≡ values_of all = ap (λ (l : List Value). reverse (values_of l)) items ∙ values_reverse all in
    subst (λ (l : List w.Value). Tells (λ (b : Blocks). b) c.blocks_from.result (parameter_blocks ds c.args.parameters.now l)) same c.blocks_from.ensures.value
