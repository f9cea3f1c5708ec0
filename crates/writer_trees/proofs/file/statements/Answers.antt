use Rattle.writer_trees.proofs.Firsts.{none_so_far, one_more_so_far, all_so_far, refused_so_far}
use Rattle.writer_trees.proofs.file.statements.Goals as goal

pub loop-statement-init : goal.loop-statement-init
loop-statement-init c = none_so_far c.args.dialect c.args.all.now c.new-written.result.items c.new-written.ensures.items

pub loop-statement-preserved : goal.loop-statement-preserved
loop-statement-preserved c =
    one_more_so_far c.args.dialect c.args.all.now c.loop-statement.rest.now c.in-Some.after.now c.in-Some.statement.now c.loop-statement.written.items c.append.new.written.items c.loop-statement.invariant c.in-Some.ensures.cases.0 c.in-Ok.ensures.ok

pub returns-in-Err-clause-err : goal.returns-in-Err-clause-err
returns-in-Err-clause-err c =
    refused_so_far c.args.dialect c.args.all.now c.loop-statement.rest.now c.in-Some.after.now c.in-Some.statement.now c.loop-statement.written.items c.in-Err.fault c.loop-statement.invariant c.in-Some.ensures.cases.0 c.in-Err.ensures.err

pub returns-clause-ok : goal.returns-clause-ok
returns-clause-ok c = all_so_far c.args.dialect c.args.all.now c.loop-statement.rest.now c.loop-statement.written.items c.loop-statement.invariant c.in_default.ensures.cases
