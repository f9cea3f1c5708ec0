use Rattle.std.proofs.Common.{◌≡◌, arith, rules, ap}
use Rattle.std.proofs.lemmas.Grind.{common_steps}
use Rattle.token_parsing.specs.Parser.{again, repeat, begins}
use Rattle.expr_parser.specs.Tokens.{seen}
use Rattle.expr_parser.specs.Classes.{identifiers}
use Rattle.type_parser.specs.Levels.{type_node}
use Rattle.unit_parser.specs.Parts.{var_sections, next_var_section}
use Rattle.expr_parser.proofs.Turns.{one_more, no_more, as_long}
use Rattle.unit_parser.proofs.parts.var_sections.Goals as goal

pub loop-turn-init : goal.loop-turn-init
unfolding var_sections repeat
loop-turn-init c = ap (λ n. again (begins identifiers) (next_var_section c.args.source.now.end (type_node c.args.source.now.dialect c.args.source.now.end c.args.depth)) n c.args.first (seen c.args.source.now.bytes.now c.args.tokens.now)) (as_long c.args.source.now.bytes.now c.args.tokens.now)

pub returns-then-not-is_identifier : goal.returns-then-not-is_identifier
unfolding again
returns-then-not-is_identifier c =
    let e = one_more (λ n. again (begins identifiers) (next_var_section c.args.source.now.end (type_node c.args.source.now.dialect c.args.source.now.end c.args.depth)) n c.loop-turn.all (seen c.args.source.now.bytes.now c.loop-turn.rest.now)) _ c.loop-turn._turn c.loop-turn-test.true c.loop-turn.invariant in
    first_of (search rules, grind (arith, common_steps))

pub returns-in_err-longer : goal.returns-in_err-longer
unfolding again
returns-in_err-longer c =
    let e = one_more (λ n. again (begins identifiers) (next_var_section c.args.source.now.end (type_node c.args.source.now.dialect c.args.source.now.end c.args.depth)) n c.loop-turn.all (seen c.args.source.now.bytes.now c.loop-turn.rest.now)) _ c.loop-turn._turn c.loop-turn-test.true c.loop-turn.invariant in
    first_of (search rules, grind (arith, common_steps))

pub loop-turn-preserved : goal.loop-turn-preserved
unfolding again
loop-turn-preserved c =
    let e = one_more (λ n. again (begins identifiers) (next_var_section c.args.source.now.end (type_node c.args.source.now.dialect c.args.source.now.end c.args.depth)) n c.loop-turn.all (seen c.args.source.now.bytes.now c.loop-turn.rest.now)) _ c.loop-turn._turn c.loop-turn-test.true c.loop-turn.invariant in
    first_of (search rules, grind (arith, common_steps))

pub returns : goal.returns
unfolding again
returns c =
    let e = no_more (λ n. again (begins identifiers) (next_var_section c.args.source.now.end (type_node c.args.source.now.dialect c.args.source.now.end c.args.depth)) n c.loop-turn.all (seen c.args.source.now.bytes.now c.loop-turn.rest.now)) _ c.loop-turn._turn c.loop-turn-test.false c.loop-turn.invariant in
    first_of (search rules, grind (arith, common_steps))
