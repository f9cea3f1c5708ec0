use Rattle.std.proofs.Common.{◌≡◌, ◌-◌}
use Rattle.dialect_lexer.specs.declared.token.Symbol.TheVariants.{Comma}
use Rattle.token_parsing.specs.Parser.{again, begins}
use Rattle.expr_parser.specs.Tokens.{seen}
use Rattle.expr_parser.specs.Classes.{symbols}
use Rattle.type_parser.specs.Names.{more_names, next_name}
use Rattle.type_parser.proofs.names.more_names.Given as goal

-- what is still to read gives what the whole gives
abbrev pub invariant-loop-turn : goal.invariant-loop-turn
invariant-loop-turn l = more_names l.fn.first (seen l.source.bytes.now l.fn.tokens) ≡ again (begins (symbols Comma)) (next_name) (l._turn-end - l._turn) l.all (seen l.source.bytes.now l.rest)
