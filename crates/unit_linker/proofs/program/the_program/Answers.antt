use Rattle.unit_linker.proofs.ProgramLemmas.{finding_begins, finding_next, second_found, none_found, one_found}
use Rattle.unit_linker.proofs.program.the_program.Goals as goal

pub loop-file-init : goal.loop-file-init
loop-file-init c = finding_begins c.args.files.now

pub loop-file-preserved : goal.loop-file-preserved
loop-file-preserved c =
    finding_next c.args.files.now c.loop-file.rest.now c.in-Some.after.now c.in-Some.file.now c.loop-file.found c.in-Ok.next c.loop-file.invariant c.in-Some.ensures.cases.0 c.in-Ok.ensures.next c.in-Ok.ensures.one

pub returns-in-Err-clause-refused : goal.returns-in-Err-clause-refused
returns-in-Err-clause-refused c = second_found c.args.files.now c.loop-file.rest.now c.in-Some.after.now c.in-Some.file.now c.loop-file.found c.in-Err.fault c.loop-file.invariant c.in-Some.ensures.cases.0 c.in-Err.ensures.second

pub returns-in-Some-found-clause-program : goal.returns-in-Some-found-clause-program
returns-in-Some-found-clause-program c = one_found c.args.files.now c.loop-file.rest.now c.loop-file.found c.in-Some-found.place c.loop-file.invariant c.in_default.ensures.cases c.in-Some-found.is

pub returns-in-None-clause-refused : goal.returns-in-None-clause-refused
returns-in-None-clause-refused c = none_found c.args.files.now c.loop-file.rest.now c.loop-file.found c.loop-file.invariant c.in_default.ensures.cases c.in-None.is
