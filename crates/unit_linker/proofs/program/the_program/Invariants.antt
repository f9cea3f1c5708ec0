use Rattle.std.proofs.Common.{length}
use Rattle.unit_linker.proofs.ProgramLemmas.{Finding}
use Rattle.unit_linker.proofs.program.the_program.Given as goal

abbrev pub invariant-loop-file : goal.invariant-loop-file
invariant-loop-file l = Finding l.files l.rest l.found

abbrev pub decreases-loop-file : goal.decreases-loop-file
decreases-loop-file l = length l.rest
