use Rattle.std.proofs.Common.{◌≡◌, ◌-◌}
use Rattle.dialect_lexer.specs.declared.token.Symbol.TheVariants.{Comma}
use Rattle.token_parsing.specs.Parser.{again, begins}
use Rattle.expr_parser.specs.Tokens.{seen}
use Rattle.expr_parser.specs.Classes.{symbols}
use Rattle.expr_parser.specs.Expressions.{expr}
use Rattle.stmt_parser.specs.Statements.{more_places, next_place}
use Rattle.stmt_parser.proofs.headers.more_places.Given as goal

-- what is still to read gives what the whole gives
abbrev pub invariant-loop-turn : goal.invariant-loop-turn
invariant-loop-turn l = more_places l.source.end (expr l.source.dialect l.source.end l.depth) l.fn.first (seen l.source.bytes.now l.fn.tokens) ≡ again (begins (symbols Comma)) (next_place l.source.end (expr l.source.dialect l.source.end l.depth)) (l._turn-end - l._turn) l.all (seen l.source.bytes.now l.rest)
