use Rattle.std.proofs.Common.{length}
use Rattle.translate_core.specs.Reading.{ParsedUpTo}
use Rattle.translate_core.proofs.reading.trees.Given as goal

abbrev pub invariant-loop-text : goal.invariant-loop-text
invariant-loop-text l = ParsedUpTo l.fn.dialect l.fn.texts l.rest l.fn.lists l.left l.all

abbrev pub decreases-loop-text : goal.decreases-loop-text
decreases-loop-text l = length l.rest
