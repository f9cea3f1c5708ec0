use Rattle.unit_linker.proofs.FileLemmas.{file_misses, file_misses_none, files_miss_none}
use Rattle.unit_linker.proofs.units.missing.Goals as goal

pub returns-in-Some-missing_of : goal.returns-in-Some-missing_of
returns-in-Some-missing_of c = file_misses _ c.in-Some.file.now _ _ _ c.missing_of.result c.in-Some-missing_of.span c.in-Some.ensures.cases.0 c.missing_of.ensures c.in-Some-missing_of.is c.loop-file.invariant

pub loop-file-preserved : goal.loop-file-preserved
loop-file-preserved c = file_misses_none _ c.in-Some.file.now _ _ _ c.missing_of.result c.in-Some.ensures.cases.0 c.missing_of.ensures c.in_default-missing_of.is c.loop-file.invariant

pub returns : goal.returns
returns c = files_miss_none _ _ _ c.in_default.ensures.cases c.loop-file.invariant
