use Rattle.std.proofs.Common.{length}
use Rattle.unit_linker.proofs.TakeLemmas.{Taking}
use Rattle.unit_linker.proofs.taking.take_all.Given as goal

abbrev pub invariant-loop-first : goal.invariant-loop-first
invariant-loop-first l = Taking l.initial.slots.items l.places l.rest l.slots.items l.files.items

abbrev pub decreases-loop-first : goal.decreases-loop-first
decreases-loop-first l = length l.rest
