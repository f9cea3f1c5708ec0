use Rattle.std.proofs.Common.{List, subst}
use Rattle.std.specs.Prelude.{IfOk}
use Rattle.c_tree.specs.Tree.{Statement}
use Rattle.c_tree.specs.declared.program.CVariable.{CVariable}
use Rattle.c_stepper.specs.declared.resolved.code.Code.{Code}
use Rattle.c_stepper.specs.Codes.{IsCode}
use Rattle.c_stepper.proofs.resolved.note.code_of_main.Goals as goal

pub returns : goal.returns
returns c =
    let p = c.args.program.now in
    subst (λ (body : List Statement). IfOk c.code_of.result (λ (code : Code). IsCode p p.main.locals code body)) c.as_slice-2.ensures
    (subst (λ (ls : List CVariable). IfOk c.code_of.result (λ (code : Code). IsCode p ls code c.as_slice-2.result.now)) c.as_slice.ensures c.code_of.ensures)
