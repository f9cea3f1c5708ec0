use Rattle.unit_linker.proofs.FileLemmas.{naming_begins, naming_next, naming_ends, none_double, double_found}
use Rattle.unit_linker.proofs.units.units.Goals as goal

pub loop-file-init : goal.loop-file-init
loop-file-init c = naming_begins c.args.files.now c.new-units.result.entries c.new-units.ensures.empty

pub loop-file-preserved : goal.loop-file-preserved
loop-file-preserved c =
    naming_next c.args.files.now c.loop-file.rest.now c.in-Some.after.now c.in-Some.file.now c.loop-file.units.entries c.add.new.units.entries c.loop-file.invariant c.in-Some.ensures.cases.0 c.in-Ok.ensures.added c.in-Ok.ensures.new

pub returns-in-Err-clause-double : goal.returns-in-Err-clause-double
returns-in-Err-clause-double c = double_found c.args.files.now c.loop-file.rest.now c.in-Some.after.now c.in-Some.file.now c.loop-file.units.entries c.in-Err.fault c.loop-file.invariant c.in-Some.ensures.cases.0 c.in-Err.ensures.known

pub returns-clause-named : goal.returns-clause-named
returns-clause-named c = naming_ends c.args.files.now c.loop-file.rest.now c.loop-file.units.entries c.loop-file.invariant c.in_default.ensures.cases

pub returns-clause-once : goal.returns-clause-once
returns-clause-once c = none_double c.args.files.now c.loop-file.rest.now c.loop-file.units.entries c.loop-file.invariant c.in_default.ensures.cases
