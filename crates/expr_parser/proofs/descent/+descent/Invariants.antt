use Rattle.std.proofs.Common.{◌≡◌, ◌-◌, ◌+◌, ◌*◌}
use Rattle.dialect_lexer.specs.declared.token.Symbol.TheVariants.{Comma}
use Rattle.token_parsing.specs.Parser.{again, begins}
use Rattle.expr_parser.specs.Tokens.{seen}
use Rattle.expr_parser.specs.Classes.{symbols, multiplyings, addings}
use Rattle.expr_parser.specs.Places as places
use Rattle.expr_parser.specs.Factors as factors
use Rattle.expr_parser.specs.Expressions as expressions
use Rattle.expr_parser.proofs.descent.+descent.Given as goal

-- the levels that are left, and at one level the callers above the called
abbrev pub decreases-expr : goal.decreases-expr
decreases-expr l = 16 * l.depth + 0

abbrev pub decreases-factor : goal.decreases-factor
decreases-factor l = 16 * l.depth + 0

abbrev pub decreases-optional_after : goal.decreases-optional_after
decreases-optional_after l = 16 * l.depth + 1

abbrev pub decreases-next_expr : goal.decreases-next_expr
decreases-next_expr l = 16 * l.depth + 1

abbrev pub decreases-more_exprs : goal.decreases-more_exprs
decreases-more_exprs l = 16 * l.depth + 2

abbrev pub decreases-exprs : goal.decreases-exprs
decreases-exprs l = 16 * l.depth + 3

abbrev pub decreases-index : goal.decreases-index
decreases-index l = 16 * l.depth + 4

abbrev pub decreases-selected : goal.decreases-selected
decreases-selected l = 16 * l.depth + 5

abbrev pub decreases-next_selector : goal.decreases-next_selector
decreases-next_selector l = 16 * l.depth + 6

abbrev pub decreases-selectors : goal.decreases-selectors
decreases-selectors l = 16 * l.depth + 7

abbrev pub decreases-place_from : goal.decreases-place_from
decreases-place_from l = 16 * l.depth + 8

abbrev pub decreases-value_arg : goal.decreases-value_arg
decreases-value_arg l = 16 * l.depth + 2

abbrev pub decreases-one_arg : goal.decreases-one_arg
decreases-one_arg l = 16 * l.depth + 3

abbrev pub decreases-next_arg : goal.decreases-next_arg
decreases-next_arg l = 16 * l.depth + 4

abbrev pub decreases-more_args : goal.decreases-more_args
decreases-more_args l = 16 * l.depth + 5

abbrev pub decreases-listed_args : goal.decreases-listed_args
decreases-listed_args l = 16 * l.depth + 6

abbrev pub decreases-args : goal.decreases-args
decreases-args l = 16 * l.depth + 7

abbrev pub decreases-call : goal.decreases-call
decreases-call l = 16 * l.depth + 8

abbrev pub decreases-read_place : goal.decreases-read_place
decreases-read_place l = 16 * l.depth + 9

abbrev pub decreases-named : goal.decreases-named
decreases-named l = 16 * l.depth + 10

abbrev pub decreases-group : goal.decreases-group
decreases-group l = 16 * l.depth + 1

abbrev pub decreases-negation : goal.decreases-negation
decreases-negation l = 16 * l.depth + 1

abbrev pub decreases-elem : goal.decreases-elem
decreases-elem l = 16 * l.depth + 2

abbrev pub decreases-next_elem : goal.decreases-next_elem
decreases-next_elem l = 16 * l.depth + 3

abbrev pub decreases-more_elems : goal.decreases-more_elems
decreases-more_elems l = 16 * l.depth + 4

abbrev pub decreases-some_elems : goal.decreases-some_elems
decreases-some_elems l = 16 * l.depth + 5

abbrev pub decreases-elems : goal.decreases-elems
decreases-elems l = 16 * l.depth + 6

abbrev pub decreases-set : goal.decreases-set
decreases-set l = 16 * l.depth + 7

abbrev pub decreases-factor_by : goal.decreases-factor_by
decreases-factor_by l = 16 * l.depth + 11

abbrev pub decreases-next_factor : goal.decreases-next_factor
decreases-next_factor l = 16 * l.depth + 1

abbrev pub decreases-more_factors : goal.decreases-more_factors
decreases-more_factors l = 16 * l.depth + 2

abbrev pub decreases-term : goal.decreases-term
decreases-term l = 16 * l.depth + 3

abbrev pub decreases-next_term : goal.decreases-next_term
decreases-next_term l = 16 * l.depth + 4

abbrev pub decreases-more_terms : goal.decreases-more_terms
decreases-more_terms l = 16 * l.depth + 5

abbrev pub decreases-simple : goal.decreases-simple
decreases-simple l = 16 * l.depth + 6

abbrev pub decreases-compared : goal.decreases-compared
decreases-compared l = 16 * l.depth + 7

abbrev pub decreases-expr_by : goal.decreases-expr_by
decreases-expr_by l = 16 * l.depth + 8

-- what is still to read gives what the whole gives
abbrev pub invariant-more_exprs-loop-turn : goal.invariant-more_exprs-loop-turn
invariant-more_exprs-loop-turn l = places.more_exprs (expressions.expr l.source.dialect l.source.end l.depth) l.fn.first (seen l.source.bytes.now l.fn.tokens) ≡ again (begins (symbols Comma)) (places.next_expr (expressions.expr l.source.dialect l.source.end l.depth)) (l._turn-end - l._turn) l.all (seen l.source.bytes.now l.rest)

abbrev pub invariant-selectors-loop-turn : goal.invariant-selectors-loop-turn
invariant-selectors-loop-turn l = places.selectors l.source.end (expressions.expr l.source.dialect l.source.end l.depth) l.fn.first (seen l.source.bytes.now l.fn.tokens) ≡ again places.begins_selector (places.next_selector l.source.end (expressions.expr l.source.dialect l.source.end l.depth)) (l._turn-end - l._turn) l.all (seen l.source.bytes.now l.rest)

abbrev pub invariant-more_args-loop-turn : goal.invariant-more_args-loop-turn
invariant-more_args-loop-turn l = places.more_args l.source.dialect l.source.end (expressions.expr l.source.dialect l.source.end l.depth) l.fn.first (seen l.source.bytes.now l.fn.tokens) ≡ again (begins (symbols Comma)) (places.next_arg l.source.dialect l.source.end (expressions.expr l.source.dialect l.source.end l.depth)) (l._turn-end - l._turn) l.all (seen l.source.bytes.now l.rest)

abbrev pub invariant-more_elems-loop-turn : goal.invariant-more_elems-loop-turn
invariant-more_elems-loop-turn l = factors.more_elems l.source.end (expressions.expr l.source.dialect l.source.end l.depth) l.fn.first (seen l.source.bytes.now l.fn.tokens) ≡ again (begins (symbols Comma)) (factors.next_elem l.source.end (expressions.expr l.source.dialect l.source.end l.depth)) (l._turn-end - l._turn) l.all (seen l.source.bytes.now l.rest)

abbrev pub invariant-more_factors-loop-turn : goal.invariant-more_factors-loop-turn
invariant-more_factors-loop-turn l = expressions.more_factors (expressions.factor l.source.dialect l.source.end l.depth) l.fn.first (seen l.source.bytes.now l.fn.tokens) ≡ again (begins multiplyings) (expressions.next_factor (expressions.factor l.source.dialect l.source.end l.depth)) (l._turn-end - l._turn) l.all (seen l.source.bytes.now l.rest)

abbrev pub invariant-more_terms-loop-turn : goal.invariant-more_terms-loop-turn
invariant-more_terms-loop-turn l = expressions.more_terms l.source.end (expressions.factor l.source.dialect l.source.end l.depth) l.fn.first (seen l.source.bytes.now l.fn.tokens) ≡ again (begins addings) (expressions.next_term l.source.end (expressions.factor l.source.dialect l.source.end l.depth)) (l._turn-end - l._turn) l.all (seen l.source.bytes.now l.rest)
