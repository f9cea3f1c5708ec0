use Rattle.std.proofs.Common.{◌≡◌, ◌-◌, [], length, arith, rules, ap, sym, ◌∙◌}
use Rattle.std.proofs.lemmas.Grind.{common_steps}
use Rattle.c_grammar.specs.Seen.{tokens_of}
use Rattle.token_parsing.specs.Parser.{again, repeat}
use Rattle.c_parser.specs.Statements as statements
use Rattle.c_parser.specs.Statements.{statement, statements}
use Rattle.c_expr_parser.proofs.Turns.{one_more, no_more, as_long, deeper}
use Rattle.c_parser.proofs.statements.+nesting.Goals as goal

pub statement-returns-then-depth-eq0 : goal.statement-returns-then-depth-eq0
unfolding statement
statement-returns-then-depth-eq0 t c =
    let none : c.args.depth ≡ 0 = omega arith in
    let e = ap (λ n. statement n (tokens_of c.args.tokens.now)) none in
    first_of (search rules, grind (arith, common_steps))

pub statement-returns : goal.statement-returns
unfolding statement
statement-returns t c = rw (deeper (λ n. statement n (tokens_of c.args.tokens.now)) c.args.depth (omega arith)) c.statement_by.ensures

pub statements-loop-turn-init : goal.statements-loop-turn-init
unfolding statements repeat
statements-loop-turn-init t c =
    ap (λ n. again statements.no_brace (statements.next_statement (statements.statement c.args.depth)) n [] (tokens_of c.args.tokens.now)) (as_long c.args.tokens.now)
    ∙ ap (λ z. again statements.no_brace (statements.next_statement (statements.statement c.args.depth)) (length c.args.tokens.now - 0) z (tokens_of c.args.tokens.now)) (sym c.new-all.ensures)

pub statements-returns-then-is : goal.statements-returns-then-is
unfolding again
statements-returns-then-is t c =
    let e = one_more (λ n. again statements.no_brace (statements.next_statement (statements.statement c.args.depth)) n c.loop-turn.all (tokens_of c.loop-turn.rest.now)) _ c.loop-turn._turn c.loop-turn-test.true c.loop-turn.invariant in
    first_of (search rules, grind (arith, common_steps))

pub statements-returns-in_err-longer : goal.statements-returns-in_err-longer
unfolding again
statements-returns-in_err-longer t c =
    let e = one_more (λ n. again statements.no_brace (statements.next_statement (statements.statement c.args.depth)) n c.loop-turn.all (tokens_of c.loop-turn.rest.now)) _ c.loop-turn._turn c.loop-turn-test.true c.loop-turn.invariant in
    first_of (search rules, grind (arith, common_steps))

pub statements-loop-turn-preserved : goal.statements-loop-turn-preserved
unfolding again
statements-loop-turn-preserved t c =
    let e = one_more (λ n. again statements.no_brace (statements.next_statement (statements.statement c.args.depth)) n c.loop-turn.all (tokens_of c.loop-turn.rest.now)) _ c.loop-turn._turn c.loop-turn-test.true c.loop-turn.invariant in
    first_of (search rules, grind (arith, common_steps))

pub statements-returns : goal.statements-returns
unfolding again
statements-returns t c =
    let e = no_more (λ n. again statements.no_brace (statements.next_statement (statements.statement c.args.depth)) n c.loop-turn.all (tokens_of c.loop-turn.rest.now)) _ c.loop-turn._turn c.loop-turn-test.false c.loop-turn.invariant in
    first_of (search rules, grind (arith, common_steps))
