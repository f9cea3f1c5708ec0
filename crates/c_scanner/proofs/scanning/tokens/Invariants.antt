use Rattle.std.proofs.Common.{◌≡◌, ◌+◌, length}
use Rattle.c_grammar.specs.Token.{CutsTo}
use Rattle.c_scanner.specs.Seen.{at_places}
use Rattle.c_scanner.proofs.scanning.tokens.Given as goal

abbrev pub invariant-loop-rest : goal.invariant-loop-rest
invariant-loop-rest l = record {
  cut : CutsTo l.fn.bytes (at_places l.tokens.items l.places.items) l.rest;
  within : l.place + length l.rest ≡ length l.fn.bytes;
  as_many : length l.places.items ≡ length l.tokens.items;
}

abbrev pub decreases-loop-rest : goal.decreases-loop-rest
decreases-loop-rest l = length l.rest
