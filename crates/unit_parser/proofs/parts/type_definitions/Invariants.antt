use Rattle.std.proofs.Common.{◌≡◌, ◌-◌}
use Rattle.token_parsing.specs.Parser.{again, begins}
use Rattle.expr_parser.specs.Tokens.{seen}
use Rattle.expr_parser.specs.Classes.{identifiers}
use Rattle.type_parser.specs.Levels.{type_node}
use Rattle.unit_parser.specs.Parts.{type_definitions, next_type_definition}
use Rattle.unit_parser.proofs.parts.type_definitions.Given as goal

-- what is still to read gives what the whole gives
abbrev pub invariant-loop-turn : goal.invariant-loop-turn
invariant-loop-turn l = type_definitions l.source.end (type_node l.source.dialect l.source.end l.depth) l.fn.first (seen l.source.bytes.now l.fn.tokens) ≡ again (begins identifiers) (next_type_definition l.source.end (type_node l.source.dialect l.source.end l.depth)) (l._turn-end - l._turn) l.all (seen l.source.bytes.now l.rest)
