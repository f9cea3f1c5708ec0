use Rattle.std.proofs.Common.{◌≡◌, ◌-◌}
use Rattle.token_parsing.specs.Parser.{again, begins}
use Rattle.expr_parser.specs.Tokens.{seen}
use Rattle.expr_parser.specs.Classes.{identifiers}
use Rattle.type_parser.specs.Levels.{type_node}
use Rattle.unit_parser.specs.Parts.{var_sections, next_var_section}
use Rattle.unit_parser.proofs.parts.var_sections.Given as goal

-- what is still to read gives what the whole gives
abbrev pub invariant-loop-turn : goal.invariant-loop-turn
invariant-loop-turn l = var_sections l.source.end (type_node l.source.dialect l.source.end l.depth) l.fn.first (seen l.source.bytes.now l.fn.tokens) ≡ again (begins identifiers) (next_var_section l.source.end (type_node l.source.dialect l.source.end l.depth)) (l._turn-end - l._turn) l.all (seen l.source.bytes.now l.rest)
