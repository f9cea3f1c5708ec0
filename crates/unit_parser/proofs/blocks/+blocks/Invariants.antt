use Rattle.std.proofs.Common.{◌≡◌, ◌-◌, ◌+◌, ◌*◌}
use Rattle.token_parsing.specs.Parser.{again, begins}
use Rattle.expr_parser.specs.Tokens.{seen}
use Rattle.unit_parser.specs.Blocks.{block, routines, any_declarations, next_declaration, routine_words, declaration_words}
use Rattle.unit_parser.proofs.blocks.+blocks.Given as goal

-- the levels that are left, and at one level the callers above the called
abbrev pub decreases-block : goal.decreases-block
decreases-block l = 16 * l.depth + 0

abbrev pub decreases-routine_body : goal.decreases-routine_body
decreases-routine_body l = 16 * l.depth + 1

abbrev pub decreases-routine : goal.decreases-routine
decreases-routine l = 16 * l.depth + 2

abbrev pub decreases-routine_declared : goal.decreases-routine_declared
decreases-routine_declared l = 16 * l.depth + 3

abbrev pub decreases-declaration : goal.decreases-declaration
decreases-declaration l = 16 * l.depth + 4

abbrev pub decreases-next_declaration : goal.decreases-next_declaration
decreases-next_declaration l = 16 * l.depth + 5

abbrev pub decreases-routines : goal.decreases-routines
decreases-routines l = 16 * l.depth + 6

abbrev pub decreases-any_declarations : goal.decreases-any_declarations
decreases-any_declarations l = 16 * l.depth + 6

abbrev pub decreases-optional_declaration : goal.decreases-optional_declaration
decreases-optional_declaration l = 16 * l.depth + 6

abbrev pub decreases-ordered_declarations : goal.decreases-ordered_declarations
decreases-ordered_declarations l = 16 * l.depth + 7

abbrev pub decreases-declarations : goal.decreases-declarations
decreases-declarations l = 16 * l.depth + 8

abbrev pub decreases-block_by : goal.decreases-block_by
decreases-block_by l = 16 * l.depth + 9

-- what is still to read gives what the whole gives
abbrev pub invariant-routines-loop-turn : goal.invariant-routines-loop-turn
invariant-routines-loop-turn l = routines l.source.dialect l.source.end l.depth (block l.source.dialect l.source.end l.depth) l.fn.first (seen l.source.bytes.now l.fn.tokens) ≡ again (begins routine_words) (next_declaration l.source.dialect l.source.end l.depth (block l.source.dialect l.source.end l.depth)) (l._turn-end - l._turn) l.all (seen l.source.bytes.now l.rest)

abbrev pub invariant-any_declarations-loop-turn : goal.invariant-any_declarations-loop-turn
invariant-any_declarations-loop-turn l = any_declarations l.source.dialect l.source.end l.depth (block l.source.dialect l.source.end l.depth) l.fn.first (seen l.source.bytes.now l.fn.tokens) ≡ again (begins declaration_words) (next_declaration l.source.dialect l.source.end l.depth (block l.source.dialect l.source.end l.depth)) (l._turn-end - l._turn) l.all (seen l.source.bytes.now l.rest)
