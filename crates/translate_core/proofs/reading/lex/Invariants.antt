use Rattle.std.proofs.Common.{length}
use Rattle.translate_core.specs.Reading.{LexedUpTo}
use Rattle.translate_core.proofs.reading.lex.Given as goal

abbrev pub invariant-loop-text : goal.invariant-loop-text
invariant-loop-text l = LexedUpTo l.fn.dialect l.fn.texts l.rest l.file l.lists

abbrev pub decreases-loop-text : goal.decreases-loop-text
decreases-loop-text l = length l.rest
