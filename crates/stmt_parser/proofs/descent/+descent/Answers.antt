use Rattle.std.proofs.Common.{◌≡◌, arith, rules, ap}
use Rattle.std.proofs.lemmas.Grind.{common_steps}
use Rattle.dialect_lexer.specs.declared.token.Symbol.TheVariants.{Semicolon}
use Rattle.token_parsing.specs.Parser.{again, repeat, begins}
use Rattle.expr_parser.specs.Tokens.{seen}
use Rattle.expr_parser.specs.Classes.{symbols}
use Rattle.stmt_parser.specs.Statements.{more_stmts, next_stmt}
use Rattle.stmt_parser.specs.Cases.{begins_next_arm, more_arms, next_arm}
use Rattle.stmt_parser.specs.Levels.{stmt}
use Rattle.expr_parser.proofs.Turns.{one_more, no_more, as_long, deeper}
use Rattle.stmt_parser.proofs.descent.+descent.Goals as goal

pub stmt-returns-then-depth-eq0 : goal.stmt-returns-then-depth-eq0
unfolding stmt
stmt-returns-then-depth-eq0 t c =
    let none : c.args.depth ≡ 0 = omega arith in
    let e = ap (λ n. stmt c.args.source.now.dialect c.args.source.now.end n (seen c.args.source.now.bytes.now c.args.tokens.now)) none in
    first_of (search rules, grind (arith, common_steps))

pub stmt-returns : goal.stmt-returns
unfolding stmt
stmt-returns t c = rw (deeper (λ n. stmt c.args.source.now.dialect c.args.source.now.end n (seen c.args.source.now.bytes.now c.args.tokens.now)) c.args.depth (omega arith)) c.stmt_by.ensures

pub more_stmts-loop-turn-init : goal.more_stmts-loop-turn-init
unfolding more_stmts repeat
more_stmts-loop-turn-init t c = ap (λ n. again (begins (symbols Semicolon)) (next_stmt (stmt c.args.source.now.dialect c.args.source.now.end c.args.depth)) n c.args.first (seen c.args.source.now.bytes.now c.args.tokens.now)) (as_long c.args.source.now.bytes.now c.args.tokens.now)

pub more_stmts-returns-then-not-is : goal.more_stmts-returns-then-not-is
unfolding again
more_stmts-returns-then-not-is t c =
    let e = one_more (λ n. again (begins (symbols Semicolon)) (next_stmt (stmt c.args.source.now.dialect c.args.source.now.end c.args.depth)) n c.loop-turn.all (seen c.args.source.now.bytes.now c.loop-turn.rest.now)) _ c.loop-turn._turn c.loop-turn-test.true c.loop-turn.invariant in
    first_of (search rules, grind (arith, common_steps))

pub more_stmts-returns-in_err-longer : goal.more_stmts-returns-in_err-longer
unfolding again
more_stmts-returns-in_err-longer t c =
    let e = one_more (λ n. again (begins (symbols Semicolon)) (next_stmt (stmt c.args.source.now.dialect c.args.source.now.end c.args.depth)) n c.loop-turn.all (seen c.args.source.now.bytes.now c.loop-turn.rest.now)) _ c.loop-turn._turn c.loop-turn-test.true c.loop-turn.invariant in
    first_of (search rules, grind (arith, common_steps))

pub more_stmts-loop-turn-preserved : goal.more_stmts-loop-turn-preserved
unfolding again
more_stmts-loop-turn-preserved t c =
    let e = one_more (λ n. again (begins (symbols Semicolon)) (next_stmt (stmt c.args.source.now.dialect c.args.source.now.end c.args.depth)) n c.loop-turn.all (seen c.args.source.now.bytes.now c.loop-turn.rest.now)) _ c.loop-turn._turn c.loop-turn-test.true c.loop-turn.invariant in
    first_of (search rules, grind (arith, common_steps))

pub more_stmts-returns : goal.more_stmts-returns
unfolding again
more_stmts-returns t c =
    let e = no_more (λ n. again (begins (symbols Semicolon)) (next_stmt (stmt c.args.source.now.dialect c.args.source.now.end c.args.depth)) n c.loop-turn.all (seen c.args.source.now.bytes.now c.loop-turn.rest.now)) _ c.loop-turn._turn c.loop-turn-test.false c.loop-turn.invariant in
    first_of (search rules, grind (arith, common_steps))

pub more_arms-loop-turn-init : goal.more_arms-loop-turn-init
unfolding more_arms repeat
more_arms-loop-turn-init t c = ap (λ n. again begins_next_arm (next_arm c.args.source.now.dialect c.args.source.now.end (stmt c.args.source.now.dialect c.args.source.now.end c.args.depth)) n c.args.first (seen c.args.source.now.bytes.now c.args.tokens.now)) (as_long c.args.source.now.bytes.now c.args.tokens.now)

pub more_arms-returns-then-not-is_next_arm : goal.more_arms-returns-then-not-is_next_arm
unfolding again
more_arms-returns-then-not-is_next_arm t c =
    let e = one_more (λ n. again begins_next_arm (next_arm c.args.source.now.dialect c.args.source.now.end (stmt c.args.source.now.dialect c.args.source.now.end c.args.depth)) n c.loop-turn.all (seen c.args.source.now.bytes.now c.loop-turn.rest.now)) _ c.loop-turn._turn c.loop-turn-test.true c.loop-turn.invariant in
    first_of (search rules, grind (arith, common_steps))

pub more_arms-returns-in_err-longer : goal.more_arms-returns-in_err-longer
unfolding again
more_arms-returns-in_err-longer t c =
    let e = one_more (λ n. again begins_next_arm (next_arm c.args.source.now.dialect c.args.source.now.end (stmt c.args.source.now.dialect c.args.source.now.end c.args.depth)) n c.loop-turn.all (seen c.args.source.now.bytes.now c.loop-turn.rest.now)) _ c.loop-turn._turn c.loop-turn-test.true c.loop-turn.invariant in
    first_of (search rules, grind (arith, common_steps))

pub more_arms-loop-turn-preserved : goal.more_arms-loop-turn-preserved
unfolding again
more_arms-loop-turn-preserved t c =
    let e = one_more (λ n. again begins_next_arm (next_arm c.args.source.now.dialect c.args.source.now.end (stmt c.args.source.now.dialect c.args.source.now.end c.args.depth)) n c.loop-turn.all (seen c.args.source.now.bytes.now c.loop-turn.rest.now)) _ c.loop-turn._turn c.loop-turn-test.true c.loop-turn.invariant in
    first_of (search rules, grind (arith, common_steps))

pub more_arms-returns : goal.more_arms-returns
unfolding again
more_arms-returns t c =
    let e = no_more (λ n. again begins_next_arm (next_arm c.args.source.now.dialect c.args.source.now.end (stmt c.args.source.now.dialect c.args.source.now.end c.args.depth)) n c.loop-turn.all (seen c.args.source.now.bytes.now c.loop-turn.rest.now)) _ c.loop-turn._turn c.loop-turn-test.false c.loop-turn.invariant in
    first_of (search rules, grind (arith, common_steps))
