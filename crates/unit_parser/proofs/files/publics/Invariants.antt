use Rattle.std.proofs.Common.{◌≡◌, ◌-◌}
use Rattle.token_parsing.specs.Parser.{again, begins}
use Rattle.expr_parser.specs.Tokens.{seen}
use Rattle.unit_parser.specs.Files.{publics, next_public, public_words}
use Rattle.unit_parser.proofs.files.publics.Given as goal

-- what is still to read gives what the whole gives
abbrev pub invariant-loop-turn : goal.invariant-loop-turn
invariant-loop-turn l = publics l.source.dialect l.source.end l.depth l.fn.first (seen l.source.bytes.now l.fn.tokens) ≡ again (begins public_words) (next_public l.source.dialect l.source.end l.depth) (l._turn-end - l._turn) l.all (seen l.source.bytes.now l.rest)
