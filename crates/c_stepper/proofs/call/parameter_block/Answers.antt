use Rattle.std.proofs.Common.{◌≡◌, ap, subst, false, Ok, Err}
use Rattle.c_tree.specs.Tree.{ObjectType}
use Rattle.c_meaning.specs.Cells.{Tree, Block}
use Rattle.c_meaning.specs.Answer.{Got}
use Rattle.c_meaning.specs.Values.{converted}
use Rattle.c_cells.specs.Halts.{Tells}
use Rattle.c_evaluation.specs.Values.{value_of}
use Rattle.c_evaluation.proofs.Evaluations.{exit, onward_with}
use Rattle.c_stepper.proofs.call.parameter_block.Goals as goal

pub returns-in_err-tree : goal.returns-in_err-tree
returns-in_err-tree c =
    let q = c.args.parameter.now in
    let ds = c.args.scope.now.program.now.declarations in
    let e = c.in_err-tree.field-0.0 in
    let x = value_of c.args.value in
    let told = subst (λ (of : ObjectType). Tells (λ (t : Tree). t) (Err e) (converted ds of x)) c.written.ensures c.in_err-tree.ensures in
    exit (λ (a : Tree). a) (λ (b : Block). b) e c.from_residual.result (converted ds q.of x) (λ (tree : Tree). Got (record { of = q.of; tree = tree; heap = false })) c.from_residual.ensures.1 told

pub returns : goal.returns
returns c =
    let q = c.args.parameter.now in
    let ds = c.args.scope.now.program.now.declarations in
    let tree = c.in_ok-tree.tree in
    let x = value_of c.args.value in
    let told = subst (λ (of : ObjectType). Got tree ≡ converted ds of x) c.written.ensures c.in_ok-tree.ensures in
    onward_with (λ (b : Block). b) (Ok (record { of = c.in_ok-of.of; tree = tree; heap = false })) (converted ds q.of x) tree (λ (tree : Tree). Got (record { of = q.of; tree = tree; heap = false })) told
    (ap (λ (of : ObjectType). Got (record { of = of; tree = tree; heap = false })) c.in_ok-of.ensures)
