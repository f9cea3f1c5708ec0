use Rattle.std.proofs.Common.{◌≡◌, length}
use Rattle.c_grammar.specs.Seen.{tokens_of}
use Rattle.c_reader.specs.Main.{has_main}
use Rattle.c_reader.proofs.reading.has_main.Given as goal

abbrev pub invariant-loop-rest : goal.invariant-loop-rest
invariant-loop-rest l = has_main (tokens_of l.fn.tokens) ≡ has_main (tokens_of l.rest)

abbrev pub decreases-loop-rest : goal.decreases-loop-rest
decreases-loop-rest l = length l.rest
