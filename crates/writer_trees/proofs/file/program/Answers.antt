use Rattle.writer_trees.proofs.Firsts.{program_unbuilt, program_ok, program_err}
use Rattle.writer_trees.proofs.file.program.Goals as goal

pub returns-in-Some-clause-err : goal.returns-in-Some-clause-err
returns-in-Some-clause-err c = program_unbuilt c.args.dialect c.args.program.now c.in-Some.span c.in-Some.ensures

pub returns-in-None-clause-ok : goal.returns-in-None-clause-ok
returns-in-None-clause-ok c = program_ok (λ v. v.items) c.args.dialect c.args.program.now c.as_slice.result.now c.statements.result c.in-None.ensures c.as_slice.ensures c.statements.ensures.ok

pub returns-in-None-clause-err : goal.returns-in-None-clause-err
returns-in-None-clause-err c = program_err c.args.dialect c.args.program.now c.as_slice.result.now c.statements.result c.in-None.ensures c.as_slice.ensures c.statements.ensures.err
