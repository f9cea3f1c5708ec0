use Rattle.std.proofs.Common.{◌≡◌, ◌-◌}
use Rattle.dialect_lexer.specs.declared.token.Symbol.TheVariants.{Comma}
use Rattle.token_parsing.specs.Parser.{again, begins}
use Rattle.expr_parser.specs.Tokens.{seen}
use Rattle.expr_parser.specs.Classes.{symbols}
use Rattle.unit_parser.specs.Parts.{more_labels, next_label}
use Rattle.unit_parser.proofs.parts.more_labels.Given as goal

-- what is still to read gives what the whole gives
abbrev pub invariant-loop-turn : goal.invariant-loop-turn
invariant-loop-turn l = more_labels l.source.dialect l.source.end l.fn.first (seen l.source.bytes.now l.fn.tokens) ≡ again (begins (symbols Comma)) (next_label l.source.dialect l.source.end) (l._turn-end - l._turn) l.all (seen l.source.bytes.now l.rest)
