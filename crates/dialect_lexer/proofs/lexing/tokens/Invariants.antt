use Rattle.std.proofs.Common.{◌≡◌, ◌+◌, ◌≤◌, List, length, drop}
use Rattle.dialect_lexer.specs.Tokens.{Placed, Cut, tokens_of, line_at}
use Rattle.dialect_lexer.proofs.lexing.tokens.Given as goal

abbrev pub invariant-loop-rest : goal.invariant-loop-rest
invariant-loop-rest l = record {
  cut : (pieces : List Placed) × Cut l.dialect 0 l.fn.bytes pieces l.rest × (l.tokens.items ≡ tokens_of l.file l.fn.bytes pieces);
  rest : l.rest ≡ drop l.start l.fn.bytes;
  within : l.start + length l.rest ≡ length l.fn.bytes;
  line : l.line ≡ line_at l.fn.bytes l.start;
  small : l.line ≤ 1 + l.start;
}

abbrev pub decreases-loop-rest : goal.decreases-loop-rest
decreases-loop-rest l = length l.rest
