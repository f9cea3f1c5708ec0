use Rattle.std.proofs.Common.{◌≡◌, ◌-◌}
use Rattle.c_grammar.specs.declared.token.Mark.TheVariants as mark
use Rattle.c_grammar.specs.Seen.{tokens_of}
use Rattle.token_parsing.specs.Parser.{begins, again, repeat}
use Rattle.c_expr_parser.specs.Classes.{marks}
use Rattle.c_parser.specs.Programs as programs
use Rattle.c_parser.proofs.declarations.more_parameters.Given as goal

-- what is still to read gives what the whole gives
abbrev pub invariant-loop-turn : goal.invariant-loop-turn
invariant-loop-turn l = repeat (begins (marks mark.Comma)) programs.next_parameter l.fn.first (tokens_of l.fn.tokens) ≡ again (begins (marks mark.Comma)) programs.next_parameter (l._turn-end - l._turn) l.all (tokens_of l.rest)
