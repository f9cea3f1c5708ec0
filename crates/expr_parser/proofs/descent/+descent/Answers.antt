use Rattle.std.proofs.Common.{◌≡◌, arith, rules, ap}
use Rattle.std.proofs.lemmas.Grind.{common_steps}
use Rattle.dialect_lexer.specs.declared.token.Symbol.TheVariants.{Comma}
use Rattle.token_parsing.specs.Parser.{again, repeat, begins}
use Rattle.expr_parser.specs.Tokens.{seen}
use Rattle.expr_parser.specs.Classes.{symbols, multiplyings, addings}
use Rattle.expr_parser.specs.Places as places
use Rattle.expr_parser.specs.Places.{more_exprs, selectors, more_args}
use Rattle.expr_parser.specs.Factors as factors
use Rattle.expr_parser.specs.Factors.{more_elems}
use Rattle.expr_parser.specs.Expressions as expressions
use Rattle.expr_parser.specs.Expressions.{expr, factor, more_factors, more_terms}
use Rattle.expr_parser.proofs.Turns.{one_more, no_more, as_long, deeper}
use Rattle.expr_parser.proofs.descent.+descent.Goals as goal

pub expr-returns-then-depth-eq0 : goal.expr-returns-then-depth-eq0
unfolding expr
expr-returns-then-depth-eq0 t c =
    let none : c.args.depth ≡ 0 = omega arith in
    let e = ap (λ n. expr c.args.source.now.dialect c.args.source.now.end n (seen c.args.source.now.bytes.now c.args.tokens.now)) none in
    first_of (search rules, grind (arith, common_steps))

pub expr-returns : goal.expr-returns
unfolding expr
expr-returns t c = rw (deeper (λ n. expr c.args.source.now.dialect c.args.source.now.end n (seen c.args.source.now.bytes.now c.args.tokens.now)) c.args.depth (omega arith)) c.expr_by.ensures

pub factor-returns-then-depth-eq0 : goal.factor-returns-then-depth-eq0
unfolding factor
factor-returns-then-depth-eq0 t c =
    let none : c.args.depth ≡ 0 = omega arith in
    let e = ap (λ n. factor c.args.source.now.dialect c.args.source.now.end n (seen c.args.source.now.bytes.now c.args.tokens.now)) none in
    first_of (search rules, grind (arith, common_steps))

pub factor-returns : goal.factor-returns
unfolding factor
factor-returns t c = rw (deeper (λ n. factor c.args.source.now.dialect c.args.source.now.end n (seen c.args.source.now.bytes.now c.args.tokens.now)) c.args.depth (omega arith)) c.factor_by.ensures

pub more_exprs-loop-turn-init : goal.more_exprs-loop-turn-init
unfolding more_exprs repeat
more_exprs-loop-turn-init t c = ap (λ n. again (begins (symbols Comma)) (places.next_expr (expressions.expr c.args.source.now.dialect c.args.source.now.end c.args.depth)) n c.args.first (seen c.args.source.now.bytes.now c.args.tokens.now)) (as_long c.args.source.now.bytes.now c.args.tokens.now)

pub more_exprs-returns-then-not-is : goal.more_exprs-returns-then-not-is
unfolding again
more_exprs-returns-then-not-is t c =
    let e = one_more (λ n. again (begins (symbols Comma)) (places.next_expr (expressions.expr c.args.source.now.dialect c.args.source.now.end c.args.depth)) n c.loop-turn.all (seen c.args.source.now.bytes.now c.loop-turn.rest.now)) _ c.loop-turn._turn c.loop-turn-test.true c.loop-turn.invariant in
    first_of (search rules, grind (arith, common_steps))

pub more_exprs-returns-in_err-longer : goal.more_exprs-returns-in_err-longer
unfolding again
more_exprs-returns-in_err-longer t c =
    let e = one_more (λ n. again (begins (symbols Comma)) (places.next_expr (expressions.expr c.args.source.now.dialect c.args.source.now.end c.args.depth)) n c.loop-turn.all (seen c.args.source.now.bytes.now c.loop-turn.rest.now)) _ c.loop-turn._turn c.loop-turn-test.true c.loop-turn.invariant in
    first_of (search rules, grind (arith, common_steps))

pub more_exprs-loop-turn-preserved : goal.more_exprs-loop-turn-preserved
unfolding again
more_exprs-loop-turn-preserved t c =
    let e = one_more (λ n. again (begins (symbols Comma)) (places.next_expr (expressions.expr c.args.source.now.dialect c.args.source.now.end c.args.depth)) n c.loop-turn.all (seen c.args.source.now.bytes.now c.loop-turn.rest.now)) _ c.loop-turn._turn c.loop-turn-test.true c.loop-turn.invariant in
    first_of (search rules, grind (arith, common_steps))

pub more_exprs-returns : goal.more_exprs-returns
unfolding again
more_exprs-returns t c =
    let e = no_more (λ n. again (begins (symbols Comma)) (places.next_expr (expressions.expr c.args.source.now.dialect c.args.source.now.end c.args.depth)) n c.loop-turn.all (seen c.args.source.now.bytes.now c.loop-turn.rest.now)) _ c.loop-turn._turn c.loop-turn-test.false c.loop-turn.invariant in
    first_of (search rules, grind (arith, common_steps))

pub selectors-loop-turn-init : goal.selectors-loop-turn-init
unfolding selectors repeat
selectors-loop-turn-init t c = ap (λ n. again places.begins_selector (places.next_selector c.args.source.now.end (expressions.expr c.args.source.now.dialect c.args.source.now.end c.args.depth)) n c.args.first (seen c.args.source.now.bytes.now c.args.tokens.now)) (as_long c.args.source.now.bytes.now c.args.tokens.now)

pub selectors-returns-then-not-is_selector : goal.selectors-returns-then-not-is_selector
unfolding again
selectors-returns-then-not-is_selector t c =
    let e = one_more (λ n. again places.begins_selector (places.next_selector c.args.source.now.end (expressions.expr c.args.source.now.dialect c.args.source.now.end c.args.depth)) n c.loop-turn.all (seen c.args.source.now.bytes.now c.loop-turn.rest.now)) _ c.loop-turn._turn c.loop-turn-test.true c.loop-turn.invariant in
    first_of (search rules, grind (arith, common_steps))

pub selectors-returns-in_err-longer : goal.selectors-returns-in_err-longer
unfolding again
selectors-returns-in_err-longer t c =
    let e = one_more (λ n. again places.begins_selector (places.next_selector c.args.source.now.end (expressions.expr c.args.source.now.dialect c.args.source.now.end c.args.depth)) n c.loop-turn.all (seen c.args.source.now.bytes.now c.loop-turn.rest.now)) _ c.loop-turn._turn c.loop-turn-test.true c.loop-turn.invariant in
    first_of (search rules, grind (arith, common_steps))

pub selectors-loop-turn-preserved : goal.selectors-loop-turn-preserved
unfolding again
selectors-loop-turn-preserved t c =
    let e = one_more (λ n. again places.begins_selector (places.next_selector c.args.source.now.end (expressions.expr c.args.source.now.dialect c.args.source.now.end c.args.depth)) n c.loop-turn.all (seen c.args.source.now.bytes.now c.loop-turn.rest.now)) _ c.loop-turn._turn c.loop-turn-test.true c.loop-turn.invariant in
    first_of (search rules, grind (arith, common_steps))

pub selectors-returns : goal.selectors-returns
unfolding again
selectors-returns t c =
    let e = no_more (λ n. again places.begins_selector (places.next_selector c.args.source.now.end (expressions.expr c.args.source.now.dialect c.args.source.now.end c.args.depth)) n c.loop-turn.all (seen c.args.source.now.bytes.now c.loop-turn.rest.now)) _ c.loop-turn._turn c.loop-turn-test.false c.loop-turn.invariant in
    first_of (search rules, grind (arith, common_steps))

pub more_args-loop-turn-init : goal.more_args-loop-turn-init
unfolding more_args repeat
more_args-loop-turn-init t c = ap (λ n. again (begins (symbols Comma)) (places.next_arg c.args.source.now.dialect c.args.source.now.end (expressions.expr c.args.source.now.dialect c.args.source.now.end c.args.depth)) n c.args.first (seen c.args.source.now.bytes.now c.args.tokens.now)) (as_long c.args.source.now.bytes.now c.args.tokens.now)

pub more_args-returns-then-not-is : goal.more_args-returns-then-not-is
unfolding again
more_args-returns-then-not-is t c =
    let e = one_more (λ n. again (begins (symbols Comma)) (places.next_arg c.args.source.now.dialect c.args.source.now.end (expressions.expr c.args.source.now.dialect c.args.source.now.end c.args.depth)) n c.loop-turn.all (seen c.args.source.now.bytes.now c.loop-turn.rest.now)) _ c.loop-turn._turn c.loop-turn-test.true c.loop-turn.invariant in
    first_of (search rules, grind (arith, common_steps))

pub more_args-returns-in_err-longer : goal.more_args-returns-in_err-longer
unfolding again
more_args-returns-in_err-longer t c =
    let e = one_more (λ n. again (begins (symbols Comma)) (places.next_arg c.args.source.now.dialect c.args.source.now.end (expressions.expr c.args.source.now.dialect c.args.source.now.end c.args.depth)) n c.loop-turn.all (seen c.args.source.now.bytes.now c.loop-turn.rest.now)) _ c.loop-turn._turn c.loop-turn-test.true c.loop-turn.invariant in
    first_of (search rules, grind (arith, common_steps))

pub more_args-loop-turn-preserved : goal.more_args-loop-turn-preserved
unfolding again
more_args-loop-turn-preserved t c =
    let e = one_more (λ n. again (begins (symbols Comma)) (places.next_arg c.args.source.now.dialect c.args.source.now.end (expressions.expr c.args.source.now.dialect c.args.source.now.end c.args.depth)) n c.loop-turn.all (seen c.args.source.now.bytes.now c.loop-turn.rest.now)) _ c.loop-turn._turn c.loop-turn-test.true c.loop-turn.invariant in
    first_of (search rules, grind (arith, common_steps))

pub more_args-returns : goal.more_args-returns
unfolding again
more_args-returns t c =
    let e = no_more (λ n. again (begins (symbols Comma)) (places.next_arg c.args.source.now.dialect c.args.source.now.end (expressions.expr c.args.source.now.dialect c.args.source.now.end c.args.depth)) n c.loop-turn.all (seen c.args.source.now.bytes.now c.loop-turn.rest.now)) _ c.loop-turn._turn c.loop-turn-test.false c.loop-turn.invariant in
    first_of (search rules, grind (arith, common_steps))

pub more_elems-loop-turn-init : goal.more_elems-loop-turn-init
unfolding more_elems repeat
more_elems-loop-turn-init t c = ap (λ n. again (begins (symbols Comma)) (factors.next_elem c.args.source.now.end (expressions.expr c.args.source.now.dialect c.args.source.now.end c.args.depth)) n c.args.first (seen c.args.source.now.bytes.now c.args.tokens.now)) (as_long c.args.source.now.bytes.now c.args.tokens.now)

pub more_elems-returns-then-not-is : goal.more_elems-returns-then-not-is
unfolding again
more_elems-returns-then-not-is t c =
    let e = one_more (λ n. again (begins (symbols Comma)) (factors.next_elem c.args.source.now.end (expressions.expr c.args.source.now.dialect c.args.source.now.end c.args.depth)) n c.loop-turn.all (seen c.args.source.now.bytes.now c.loop-turn.rest.now)) _ c.loop-turn._turn c.loop-turn-test.true c.loop-turn.invariant in
    first_of (search rules, grind (arith, common_steps))

pub more_elems-returns-in_err-longer : goal.more_elems-returns-in_err-longer
unfolding again
more_elems-returns-in_err-longer t c =
    let e = one_more (λ n. again (begins (symbols Comma)) (factors.next_elem c.args.source.now.end (expressions.expr c.args.source.now.dialect c.args.source.now.end c.args.depth)) n c.loop-turn.all (seen c.args.source.now.bytes.now c.loop-turn.rest.now)) _ c.loop-turn._turn c.loop-turn-test.true c.loop-turn.invariant in
    first_of (search rules, grind (arith, common_steps))

pub more_elems-loop-turn-preserved : goal.more_elems-loop-turn-preserved
unfolding again
more_elems-loop-turn-preserved t c =
    let e = one_more (λ n. again (begins (symbols Comma)) (factors.next_elem c.args.source.now.end (expressions.expr c.args.source.now.dialect c.args.source.now.end c.args.depth)) n c.loop-turn.all (seen c.args.source.now.bytes.now c.loop-turn.rest.now)) _ c.loop-turn._turn c.loop-turn-test.true c.loop-turn.invariant in
    first_of (search rules, grind (arith, common_steps))

pub more_elems-returns : goal.more_elems-returns
unfolding again
more_elems-returns t c =
    let e = no_more (λ n. again (begins (symbols Comma)) (factors.next_elem c.args.source.now.end (expressions.expr c.args.source.now.dialect c.args.source.now.end c.args.depth)) n c.loop-turn.all (seen c.args.source.now.bytes.now c.loop-turn.rest.now)) _ c.loop-turn._turn c.loop-turn-test.false c.loop-turn.invariant in
    first_of (search rules, grind (arith, common_steps))

pub more_factors-loop-turn-init : goal.more_factors-loop-turn-init
unfolding more_factors repeat
more_factors-loop-turn-init t c = ap (λ n. again (begins multiplyings) (expressions.next_factor (expressions.factor c.args.source.now.dialect c.args.source.now.end c.args.depth)) n c.args.first (seen c.args.source.now.bytes.now c.args.tokens.now)) (as_long c.args.source.now.bytes.now c.args.tokens.now)

pub more_factors-returns-then-not-is_multiplying : goal.more_factors-returns-then-not-is_multiplying
unfolding again
more_factors-returns-then-not-is_multiplying t c =
    let e = one_more (λ n. again (begins multiplyings) (expressions.next_factor (expressions.factor c.args.source.now.dialect c.args.source.now.end c.args.depth)) n c.loop-turn.all (seen c.args.source.now.bytes.now c.loop-turn.rest.now)) _ c.loop-turn._turn c.loop-turn-test.true c.loop-turn.invariant in
    first_of (search rules, grind (arith, common_steps))

pub more_factors-returns-in_err-longer : goal.more_factors-returns-in_err-longer
unfolding again
more_factors-returns-in_err-longer t c =
    let e = one_more (λ n. again (begins multiplyings) (expressions.next_factor (expressions.factor c.args.source.now.dialect c.args.source.now.end c.args.depth)) n c.loop-turn.all (seen c.args.source.now.bytes.now c.loop-turn.rest.now)) _ c.loop-turn._turn c.loop-turn-test.true c.loop-turn.invariant in
    first_of (search rules, grind (arith, common_steps))

pub more_factors-loop-turn-preserved : goal.more_factors-loop-turn-preserved
unfolding again
more_factors-loop-turn-preserved t c =
    let e = one_more (λ n. again (begins multiplyings) (expressions.next_factor (expressions.factor c.args.source.now.dialect c.args.source.now.end c.args.depth)) n c.loop-turn.all (seen c.args.source.now.bytes.now c.loop-turn.rest.now)) _ c.loop-turn._turn c.loop-turn-test.true c.loop-turn.invariant in
    first_of (search rules, grind (arith, common_steps))

pub more_factors-returns : goal.more_factors-returns
unfolding again
more_factors-returns t c =
    let e = no_more (λ n. again (begins multiplyings) (expressions.next_factor (expressions.factor c.args.source.now.dialect c.args.source.now.end c.args.depth)) n c.loop-turn.all (seen c.args.source.now.bytes.now c.loop-turn.rest.now)) _ c.loop-turn._turn c.loop-turn-test.false c.loop-turn.invariant in
    first_of (search rules, grind (arith, common_steps))

pub more_terms-loop-turn-init : goal.more_terms-loop-turn-init
unfolding more_terms repeat
more_terms-loop-turn-init t c = ap (λ n. again (begins addings) (expressions.next_term c.args.source.now.end (expressions.factor c.args.source.now.dialect c.args.source.now.end c.args.depth)) n c.args.first (seen c.args.source.now.bytes.now c.args.tokens.now)) (as_long c.args.source.now.bytes.now c.args.tokens.now)

pub more_terms-returns-then-not-is_adding : goal.more_terms-returns-then-not-is_adding
unfolding again
more_terms-returns-then-not-is_adding t c =
    let e = one_more (λ n. again (begins addings) (expressions.next_term c.args.source.now.end (expressions.factor c.args.source.now.dialect c.args.source.now.end c.args.depth)) n c.loop-turn.all (seen c.args.source.now.bytes.now c.loop-turn.rest.now)) _ c.loop-turn._turn c.loop-turn-test.true c.loop-turn.invariant in
    first_of (search rules, grind (arith, common_steps))

pub more_terms-returns-in_err-longer : goal.more_terms-returns-in_err-longer
unfolding again
more_terms-returns-in_err-longer t c =
    let e = one_more (λ n. again (begins addings) (expressions.next_term c.args.source.now.end (expressions.factor c.args.source.now.dialect c.args.source.now.end c.args.depth)) n c.loop-turn.all (seen c.args.source.now.bytes.now c.loop-turn.rest.now)) _ c.loop-turn._turn c.loop-turn-test.true c.loop-turn.invariant in
    first_of (search rules, grind (arith, common_steps))

pub more_terms-loop-turn-preserved : goal.more_terms-loop-turn-preserved
unfolding again
more_terms-loop-turn-preserved t c =
    let e = one_more (λ n. again (begins addings) (expressions.next_term c.args.source.now.end (expressions.factor c.args.source.now.dialect c.args.source.now.end c.args.depth)) n c.loop-turn.all (seen c.args.source.now.bytes.now c.loop-turn.rest.now)) _ c.loop-turn._turn c.loop-turn-test.true c.loop-turn.invariant in
    first_of (search rules, grind (arith, common_steps))

pub more_terms-returns : goal.more_terms-returns
unfolding again
more_terms-returns t c =
    let e = no_more (λ n. again (begins addings) (expressions.next_term c.args.source.now.end (expressions.factor c.args.source.now.dialect c.args.source.now.end c.args.depth)) n c.loop-turn.all (seen c.args.source.now.bytes.now c.loop-turn.rest.now)) _ c.loop-turn._turn c.loop-turn-test.false c.loop-turn.invariant in
    first_of (search rules, grind (arith, common_steps))
