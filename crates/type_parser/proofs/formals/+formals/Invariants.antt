use Rattle.std.proofs.Common.{◌≡◌, ◌-◌, ◌+◌, ◌*◌}
use Rattle.dialect_lexer.specs.declared.token.Symbol.TheVariants.{Semicolon}
use Rattle.token_parsing.specs.Parser.{again, begins}
use Rattle.expr_parser.specs.Tokens.{seen}
use Rattle.expr_parser.specs.Classes.{symbols}
use Rattle.type_parser.specs.Formals as spec
use Rattle.type_parser.specs.Levels as levels
use Rattle.type_parser.proofs.formals.+formals.Given as goal

-- the levels that are left, and at one level the callers above the called
abbrev pub decreases-formals : goal.decreases-formals
decreases-formals l = 16 * l.depth + 0

abbrev pub decreases-boxed_formals : goal.decreases-boxed_formals
decreases-boxed_formals l = 16 * l.depth + 1

abbrev pub decreases-procedure : goal.decreases-procedure
decreases-procedure l = 16 * l.depth + 2

abbrev pub decreases-function : goal.decreases-function
decreases-function l = 16 * l.depth + 2

abbrev pub decreases-formal : goal.decreases-formal
decreases-formal l = 16 * l.depth + 3

abbrev pub decreases-next_formal : goal.decreases-next_formal
decreases-next_formal l = 16 * l.depth + 4

abbrev pub decreases-more_formals : goal.decreases-more_formals
decreases-more_formals l = 16 * l.depth + 5

abbrev pub decreases-listed_formals : goal.decreases-listed_formals
decreases-listed_formals l = 16 * l.depth + 6

abbrev pub decreases-formals_by : goal.decreases-formals_by
decreases-formals_by l = 16 * l.depth + 7

-- what is still to read gives what the whole gives
abbrev pub invariant-more_formals-loop-turn : goal.invariant-more_formals-loop-turn
invariant-more_formals-loop-turn l = spec.more_formals l.source.end (levels.formals l.source.end l.depth) l.fn.first (seen l.source.bytes.now l.fn.tokens) ≡ again (begins (symbols Semicolon)) (spec.next_formal l.source.end (levels.formals l.source.end l.depth)) (l._turn-end - l._turn) l.all (seen l.source.bytes.now l.rest)
