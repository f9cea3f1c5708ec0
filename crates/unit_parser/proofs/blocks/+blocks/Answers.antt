use Rattle.std.proofs.Common.{◌≡◌, arith, rules, ap}
use Rattle.std.proofs.lemmas.Grind.{common_steps}
use Rattle.token_parsing.specs.Parser.{again, begins, repeat}
use Rattle.expr_parser.specs.Tokens.{seen}
use Rattle.unit_parser.specs.Blocks.{block, routines, any_declarations, next_declaration, routine_words, declaration_words}
use Rattle.expr_parser.proofs.Turns.{one_more, no_more, as_long, deeper}
use Rattle.unit_parser.proofs.blocks.+blocks.Goals as goal

pub block-returns-then-depth-eq0 : goal.block-returns-then-depth-eq0
unfolding block
block-returns-then-depth-eq0 t c =
    let none : c.args.depth ≡ 0 = omega arith in
    let e = ap (λ n. block c.args.source.now.dialect c.args.source.now.end n (seen c.args.source.now.bytes.now c.args.tokens.now)) none in
    first_of (search rules, grind (arith, common_steps))

pub block-returns : goal.block-returns
unfolding block
block-returns t c = rw (deeper (λ n. block c.args.source.now.dialect c.args.source.now.end n (seen c.args.source.now.bytes.now c.args.tokens.now)) c.args.depth (omega arith)) c.block_by.ensures

pub routines-loop-turn-init : goal.routines-loop-turn-init
unfolding routines repeat
routines-loop-turn-init t c = ap (λ n. again (begins routine_words) (next_declaration c.args.source.now.dialect c.args.source.now.end c.args.depth (block c.args.source.now.dialect c.args.source.now.end c.args.depth)) n c.args.first (seen c.args.source.now.bytes.now c.args.tokens.now)) (as_long c.args.source.now.bytes.now c.args.tokens.now)

pub routines-returns-then-not-is_routine : goal.routines-returns-then-not-is_routine
unfolding again
routines-returns-then-not-is_routine t c =
    let e = one_more (λ n. again (begins routine_words) (next_declaration c.args.source.now.dialect c.args.source.now.end c.args.depth (block c.args.source.now.dialect c.args.source.now.end c.args.depth)) n c.loop-turn.all (seen c.args.source.now.bytes.now c.loop-turn.rest.now)) _ c.loop-turn._turn c.loop-turn-test.true c.loop-turn.invariant in
    first_of (search rules, grind (arith, common_steps))

pub routines-returns-in_err-longer : goal.routines-returns-in_err-longer
unfolding again
routines-returns-in_err-longer t c =
    let e = one_more (λ n. again (begins routine_words) (next_declaration c.args.source.now.dialect c.args.source.now.end c.args.depth (block c.args.source.now.dialect c.args.source.now.end c.args.depth)) n c.loop-turn.all (seen c.args.source.now.bytes.now c.loop-turn.rest.now)) _ c.loop-turn._turn c.loop-turn-test.true c.loop-turn.invariant in
    first_of (search rules, grind (arith, common_steps))

pub routines-loop-turn-preserved : goal.routines-loop-turn-preserved
unfolding again
routines-loop-turn-preserved t c =
    let e = one_more (λ n. again (begins routine_words) (next_declaration c.args.source.now.dialect c.args.source.now.end c.args.depth (block c.args.source.now.dialect c.args.source.now.end c.args.depth)) n c.loop-turn.all (seen c.args.source.now.bytes.now c.loop-turn.rest.now)) _ c.loop-turn._turn c.loop-turn-test.true c.loop-turn.invariant in
    first_of (search rules, grind (arith, common_steps))

pub routines-returns : goal.routines-returns
unfolding again
routines-returns t c =
    let e = no_more (λ n. again (begins routine_words) (next_declaration c.args.source.now.dialect c.args.source.now.end c.args.depth (block c.args.source.now.dialect c.args.source.now.end c.args.depth)) n c.loop-turn.all (seen c.args.source.now.bytes.now c.loop-turn.rest.now)) _ c.loop-turn._turn c.loop-turn-test.false c.loop-turn.invariant in
    first_of (search rules, grind (arith, common_steps))

pub any_declarations-loop-turn-init : goal.any_declarations-loop-turn-init
unfolding any_declarations repeat
any_declarations-loop-turn-init t c = ap (λ n. again (begins declaration_words) (next_declaration c.args.source.now.dialect c.args.source.now.end c.args.depth (block c.args.source.now.dialect c.args.source.now.end c.args.depth)) n c.args.first (seen c.args.source.now.bytes.now c.args.tokens.now)) (as_long c.args.source.now.bytes.now c.args.tokens.now)

pub any_declarations-returns-then-not-is_declaration : goal.any_declarations-returns-then-not-is_declaration
unfolding again
any_declarations-returns-then-not-is_declaration t c =
    let e = one_more (λ n. again (begins declaration_words) (next_declaration c.args.source.now.dialect c.args.source.now.end c.args.depth (block c.args.source.now.dialect c.args.source.now.end c.args.depth)) n c.loop-turn.all (seen c.args.source.now.bytes.now c.loop-turn.rest.now)) _ c.loop-turn._turn c.loop-turn-test.true c.loop-turn.invariant in
    first_of (search rules, grind (arith, common_steps))

pub any_declarations-returns-in_err-longer : goal.any_declarations-returns-in_err-longer
unfolding again
any_declarations-returns-in_err-longer t c =
    let e = one_more (λ n. again (begins declaration_words) (next_declaration c.args.source.now.dialect c.args.source.now.end c.args.depth (block c.args.source.now.dialect c.args.source.now.end c.args.depth)) n c.loop-turn.all (seen c.args.source.now.bytes.now c.loop-turn.rest.now)) _ c.loop-turn._turn c.loop-turn-test.true c.loop-turn.invariant in
    first_of (search rules, grind (arith, common_steps))

pub any_declarations-loop-turn-preserved : goal.any_declarations-loop-turn-preserved
unfolding again
any_declarations-loop-turn-preserved t c =
    let e = one_more (λ n. again (begins declaration_words) (next_declaration c.args.source.now.dialect c.args.source.now.end c.args.depth (block c.args.source.now.dialect c.args.source.now.end c.args.depth)) n c.loop-turn.all (seen c.args.source.now.bytes.now c.loop-turn.rest.now)) _ c.loop-turn._turn c.loop-turn-test.true c.loop-turn.invariant in
    first_of (search rules, grind (arith, common_steps))

pub any_declarations-returns : goal.any_declarations-returns
unfolding again
any_declarations-returns t c =
    let e = no_more (λ n. again (begins declaration_words) (next_declaration c.args.source.now.dialect c.args.source.now.end c.args.depth (block c.args.source.now.dialect c.args.source.now.end c.args.depth)) n c.loop-turn.all (seen c.args.source.now.bytes.now c.loop-turn.rest.now)) _ c.loop-turn._turn c.loop-turn-test.false c.loop-turn.invariant in
    first_of (search rules, grind (arith, common_steps))
