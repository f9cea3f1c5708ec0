use Rattle.std.proofs.Common.{◌≡◌, arith, rules, ap}
use Rattle.std.proofs.lemmas.Grind.{common_steps}
use Rattle.dialect_lexer.specs.declared.token.Symbol.TheVariants.{Semicolon}
use Rattle.token_parsing.specs.Parser.{again, begins, repeat}
use Rattle.expr_parser.specs.Tokens.{seen}
use Rattle.expr_parser.specs.Classes.{symbols}
use Rattle.type_parser.specs.Formals as spec
use Rattle.type_parser.specs.Formals.{more_formals}
use Rattle.type_parser.specs.Levels as levels
use Rattle.type_parser.specs.Levels.{formals}
use Rattle.expr_parser.proofs.Turns.{one_more, no_more, as_long, deeper}
use Rattle.type_parser.proofs.formals.+formals.Goals as goal

pub formals-returns-then-depth-eq0 : goal.formals-returns-then-depth-eq0
unfolding formals
formals-returns-then-depth-eq0 t c =
    let none : c.args.depth ≡ 0 = omega arith in
    let e = ap (λ n. levels.formals c.args.source.now.end n (seen c.args.source.now.bytes.now c.args.tokens.now)) none in
    first_of (search rules, grind (arith, common_steps))

pub formals-returns : goal.formals-returns
unfolding formals
formals-returns t c = rw (deeper (λ n. levels.formals c.args.source.now.end n (seen c.args.source.now.bytes.now c.args.tokens.now)) c.args.depth (omega arith)) c.formals_by.ensures

pub more_formals-loop-turn-init : goal.more_formals-loop-turn-init
unfolding more_formals repeat
more_formals-loop-turn-init t c = ap (λ n. again (begins (symbols Semicolon)) (spec.next_formal c.args.source.now.end (levels.formals c.args.source.now.end c.args.depth)) n c.args.first (seen c.args.source.now.bytes.now c.args.tokens.now)) (as_long c.args.source.now.bytes.now c.args.tokens.now)

pub more_formals-returns-then-not-is : goal.more_formals-returns-then-not-is
unfolding again
more_formals-returns-then-not-is t c =
    let e = one_more (λ n. again (begins (symbols Semicolon)) (spec.next_formal c.args.source.now.end (levels.formals c.args.source.now.end c.args.depth)) n c.loop-turn.all (seen c.args.source.now.bytes.now c.loop-turn.rest.now)) _ c.loop-turn._turn c.loop-turn-test.true c.loop-turn.invariant in
    first_of (search rules, grind (arith, common_steps))

pub more_formals-returns-in_err-longer : goal.more_formals-returns-in_err-longer
unfolding again
more_formals-returns-in_err-longer t c =
    let e = one_more (λ n. again (begins (symbols Semicolon)) (spec.next_formal c.args.source.now.end (levels.formals c.args.source.now.end c.args.depth)) n c.loop-turn.all (seen c.args.source.now.bytes.now c.loop-turn.rest.now)) _ c.loop-turn._turn c.loop-turn-test.true c.loop-turn.invariant in
    first_of (search rules, grind (arith, common_steps))

pub more_formals-loop-turn-preserved : goal.more_formals-loop-turn-preserved
unfolding again
more_formals-loop-turn-preserved t c =
    let e = one_more (λ n. again (begins (symbols Semicolon)) (spec.next_formal c.args.source.now.end (levels.formals c.args.source.now.end c.args.depth)) n c.loop-turn.all (seen c.args.source.now.bytes.now c.loop-turn.rest.now)) _ c.loop-turn._turn c.loop-turn-test.true c.loop-turn.invariant in
    first_of (search rules, grind (arith, common_steps))

pub more_formals-returns : goal.more_formals-returns
unfolding again
more_formals-returns t c =
    let e = no_more (λ n. again (begins (symbols Semicolon)) (spec.next_formal c.args.source.now.end (levels.formals c.args.source.now.end c.args.depth)) n c.loop-turn.all (seen c.args.source.now.bytes.now c.loop-turn.rest.now)) _ c.loop-turn._turn c.loop-turn-test.false c.loop-turn.invariant in
    first_of (search rules, grind (arith, common_steps))
