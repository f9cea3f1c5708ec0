use Rattle.std.proofs.Common.{◌≡◌, ◌-◌}
use Rattle.c_grammar.specs.Seen.{tokens_of}
use Rattle.token_parsing.specs.Parser.{again}
use Rattle.c_parser.specs.Programs as programs
use Rattle.c_parser.proofs.declarations.locals.Given as goal

-- what is still to read gives what the whole gives
abbrev pub invariant-loop-turn : goal.invariant-loop-turn
invariant-loop-turn l = programs.locals (tokens_of l.fn.tokens) ≡ again programs.begins_local programs.next_local (l._turn-end - l._turn) l.all (tokens_of l.rest)
