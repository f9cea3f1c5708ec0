use Rattle.std.proofs.Common.{◌≡◌, ◌-◌, ◌+◌, ◌*◌}
use Rattle.c_grammar.specs.Seen.{tokens_of}
use Rattle.token_parsing.specs.Parser.{again}
use Rattle.c_expr_parser.specs.Expressions as expressions
use Rattle.c_expr_parser.proofs.expressions.+descent.Given as goal

-- the levels that are left, and at one level the callers above the called
abbrev pub decreases-expr : goal.decreases-expr
decreases-expr l = 16 * l.depth + 0

abbrev pub decreases-closed : goal.decreases-closed
decreases-closed l = 16 * l.depth + 1

abbrev pub decreases-element : goal.decreases-element
decreases-element l = 16 * l.depth + 1

abbrev pub decreases-pointee : goal.decreases-pointee
decreases-pointee l = 16 * l.depth + 2

abbrev pub decreases-unary : goal.decreases-unary
decreases-unary l = 16 * l.depth + 2

abbrev pub decreases-binary : goal.decreases-binary
decreases-binary l = 16 * l.depth + 2

abbrev pub decreases-cast : goal.decreases-cast
decreases-cast l = 16 * l.depth + 2

abbrev pub decreases-selected : goal.decreases-selected
decreases-selected l = 16 * l.depth + 2

abbrev pub decreases-selectors : goal.decreases-selectors
decreases-selectors l = 16 * l.depth + 3

abbrev pub decreases-base_place : goal.decreases-base_place
decreases-base_place l = 16 * l.depth + 3

abbrev pub decreases-place : goal.decreases-place
decreases-place l = 16 * l.depth + 4

abbrev pub decreases-read_variable : goal.decreases-read_variable
decreases-read_variable l = 16 * l.depth + 4

abbrev pub decreases-read_pointee : goal.decreases-read_pointee
decreases-read_pointee l = 16 * l.depth + 4

abbrev pub decreases-address : goal.decreases-address
decreases-address l = 16 * l.depth + 5

abbrev pub decreases-opened : goal.decreases-opened
decreases-opened l = 16 * l.depth + 6

abbrev pub decreases-expr_by : goal.decreases-expr_by
decreases-expr_by l = 16 * l.depth + 7

-- what is still to read gives what the whole gives
abbrev pub invariant-selectors-loop-turn : goal.invariant-selectors-loop-turn
invariant-selectors-loop-turn l = expressions.selectors (expressions.expr l.depth) l.fn.place (tokens_of l.fn.tokens) ≡ again expressions.begins_selector (expressions.selected (expressions.expr l.depth)) (l._turn-end - l._turn) l.place (tokens_of l.rest)
