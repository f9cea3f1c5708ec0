use Rattle.label_ways.proofs.Noting.{EachTo}
use Rattle.label_ways.proofs.note.ways_of_functions.Given as goal

abbrev pub invariant-loop-function : goal.invariant-loop-function
invariant-loop-function l = EachTo l.list.items l.fn.functions l.function-index
