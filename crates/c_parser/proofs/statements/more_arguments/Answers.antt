use Rattle.std.proofs.Common.{arith, rules, ap}
use Rattle.std.proofs.lemmas.Grind.{common_steps}
use Rattle.c_grammar.specs.declared.token.Mark.TheVariants as mark
use Rattle.c_grammar.specs.Seen.{tokens_of}
use Rattle.token_parsing.specs.Parser.{begins, again, repeat}
use Rattle.c_expr_parser.specs.Classes.{marks}
use Rattle.c_expr_parser.specs.Expressions as expressions
use Rattle.c_parser.specs.Statements as statements
use Rattle.c_expr_parser.proofs.Turns.{one_more, no_more, as_long}
use Rattle.c_parser.proofs.statements.more_arguments.Goals as goal

pub loop-turn-init : goal.loop-turn-init
unfolding repeat
loop-turn-init c = ap (λ n. again (begins (marks mark.Comma)) (statements.next_argument (expressions.expr c.args.depth)) n c.args.first (tokens_of c.args.tokens.now)) (as_long c.args.tokens.now)

pub returns-then-not-is : goal.returns-then-not-is
unfolding again
returns-then-not-is c =
    let e = one_more (λ n. again (begins (marks mark.Comma)) (statements.next_argument (expressions.expr c.args.depth)) n c.loop-turn.all (tokens_of c.loop-turn.rest.now)) _ c.loop-turn._turn c.loop-turn-test.true c.loop-turn.invariant in
    first_of (search rules, grind (arith, common_steps))

pub returns-in_err-longer : goal.returns-in_err-longer
unfolding again
returns-in_err-longer c =
    let e = one_more (λ n. again (begins (marks mark.Comma)) (statements.next_argument (expressions.expr c.args.depth)) n c.loop-turn.all (tokens_of c.loop-turn.rest.now)) _ c.loop-turn._turn c.loop-turn-test.true c.loop-turn.invariant in
    first_of (search rules, grind (arith, common_steps))

pub loop-turn-preserved : goal.loop-turn-preserved
unfolding again
loop-turn-preserved c =
    let e = one_more (λ n. again (begins (marks mark.Comma)) (statements.next_argument (expressions.expr c.args.depth)) n c.loop-turn.all (tokens_of c.loop-turn.rest.now)) _ c.loop-turn._turn c.loop-turn-test.true c.loop-turn.invariant in
    first_of (search rules, grind (arith, common_steps))

pub returns : goal.returns
unfolding again
returns c =
    let e = no_more (λ n. again (begins (marks mark.Comma)) (statements.next_argument (expressions.expr c.args.depth)) n c.loop-turn.all (tokens_of c.loop-turn.rest.now)) _ c.loop-turn._turn c.loop-turn-test.false c.loop-turn.invariant in
    first_of (search rules, grind (arith, common_steps))
