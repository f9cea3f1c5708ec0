use Rattle.std.proofs.Common.{◌≡◌, ◌-◌}
use Rattle.c_grammar.specs.Seen.{tokens_of}
use Rattle.token_parsing.specs.Parser.{again, repeat}
use Rattle.c_parser.specs.Statements as statements
use Rattle.c_parser.specs.Programs as programs
use Rattle.c_parser.proofs.declarations.more_members.Given as goal

-- what is still to read gives what the whole gives
abbrev pub invariant-loop-turn : goal.invariant-loop-turn
invariant-loop-turn l = repeat statements.no_brace programs.next_member l.fn.first (tokens_of l.fn.tokens) ≡ again statements.no_brace programs.next_member (l._turn-end - l._turn) l.all (tokens_of l.rest)
