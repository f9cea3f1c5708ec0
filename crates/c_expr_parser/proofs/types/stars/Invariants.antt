use Rattle.std.proofs.Common.{◌≡◌, ◌-◌}
use Rattle.c_grammar.specs.declared.token.Mark.TheVariants as mark
use Rattle.c_grammar.specs.Seen.{tokens_of}
use Rattle.token_parsing.specs.Parser.{begins, again}
use Rattle.c_expr_parser.specs.Classes.{marks}
use Rattle.c_expr_parser.specs.Types as spec
use Rattle.c_expr_parser.proofs.types.stars.Given as goal

-- what is still to read gives what the whole gives
abbrev pub invariant-loop-turn : goal.invariant-loop-turn
invariant-loop-turn l =
    spec.stars l.fn.of (tokens_of l.fn.tokens) ≡ again (begins (marks mark.Star)) spec.pointer_to (l._turn-end - l._turn) l.of (tokens_of l.rest)
