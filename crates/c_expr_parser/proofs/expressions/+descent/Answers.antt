use Rattle.std.proofs.Common.{◌≡◌, arith, rules, ap}
use Rattle.std.proofs.lemmas.Grind.{common_steps}
use Rattle.c_grammar.specs.Seen.{tokens_of}
use Rattle.token_parsing.specs.Parser.{again, repeat}
use Rattle.c_expr_parser.specs.Expressions as expressions
use Rattle.c_expr_parser.specs.Expressions.{expr, selectors}
use Rattle.c_expr_parser.proofs.Turns.{one_more, no_more, as_long, deeper}
use Rattle.c_expr_parser.proofs.expressions.+descent.Goals as goal

pub expr-returns-then-depth-eq0 : goal.expr-returns-then-depth-eq0
unfolding expr
expr-returns-then-depth-eq0 t c =
    let none : c.args.depth ≡ 0 = omega arith in
    let e = ap (λ n. expr n (tokens_of c.args.tokens.now)) none in
    first_of (search rules, grind (arith, common_steps))

pub expr-returns : goal.expr-returns
unfolding expr
expr-returns t c = rw (deeper (λ n. expr n (tokens_of c.args.tokens.now)) c.args.depth (omega arith)) c.expr_by.ensures

pub selectors-loop-turn-init : goal.selectors-loop-turn-init
unfolding selectors repeat
selectors-loop-turn-init t c = ap (λ n. again expressions.begins_selector (expressions.selected (expressions.expr c.args.depth)) n c.args.place (tokens_of c.args.tokens.now)) (as_long c.args.tokens.now)

pub selectors-returns-then-not-is_selector : goal.selectors-returns-then-not-is_selector
unfolding again
selectors-returns-then-not-is_selector t c =
    let e = one_more (λ n. again expressions.begins_selector (expressions.selected (expressions.expr c.args.depth)) n c.loop-turn.place (tokens_of c.loop-turn.rest.now)) _ c.loop-turn._turn c.loop-turn-test.true c.loop-turn.invariant in
    first_of (search rules, grind (arith, common_steps))

pub selectors-returns-in_err-part : goal.selectors-returns-in_err-part
unfolding again
selectors-returns-in_err-part t c =
    let e = one_more (λ n. again expressions.begins_selector (expressions.selected (expressions.expr c.args.depth)) n c.loop-turn.place (tokens_of c.loop-turn.rest.now)) _ c.loop-turn._turn c.loop-turn-test.true c.loop-turn.invariant in
    first_of (search rules, grind (arith, common_steps))

pub selectors-loop-turn-preserved : goal.selectors-loop-turn-preserved
unfolding again
selectors-loop-turn-preserved t c =
    let e = one_more (λ n. again expressions.begins_selector (expressions.selected (expressions.expr c.args.depth)) n c.loop-turn.place (tokens_of c.loop-turn.rest.now)) _ c.loop-turn._turn c.loop-turn-test.true c.loop-turn.invariant in
    first_of (search rules, grind (arith, common_steps))

pub selectors-returns : goal.selectors-returns
unfolding again
selectors-returns t c =
    let e = no_more (λ n. again expressions.begins_selector (expressions.selected (expressions.expr c.args.depth)) n c.loop-turn.place (tokens_of c.loop-turn.rest.now)) _ c.loop-turn._turn c.loop-turn-test.false c.loop-turn.invariant in
    first_of (search rules, grind (arith, common_steps))
