use Rattle.std.proofs.Common.{◌≡◌, arith, rules, ap}
use Rattle.std.proofs.lemmas.Grind.{common_steps}
use Rattle.dialect_lexer.specs.declared.token.Symbol.TheVariants.{Comma}
use Rattle.token_parsing.specs.Parser.{again, begins, repeat}
use Rattle.expr_parser.specs.Tokens.{seen}
use Rattle.expr_parser.specs.Classes.{symbols}
use Rattle.type_parser.specs.Types as types_spec
use Rattle.type_parser.specs.Types.{more_types}
use Rattle.type_parser.specs.Fields as fields_spec
use Rattle.type_parser.specs.Fields.{begins_next_section, begins_next_variant, more_sections, more_variants}
use Rattle.type_parser.specs.Levels as levels
use Rattle.type_parser.specs.Levels.{type_node, fields}
use Rattle.expr_parser.proofs.Turns.{one_more, no_more, as_long, deeper}
use Rattle.type_parser.proofs.types.+types.Goals as goal

pub type_node-returns-then-depth-eq0 : goal.type_node-returns-then-depth-eq0
unfolding type_node
type_node-returns-then-depth-eq0 t c =
    let none : c.args.depth ≡ 0 = omega arith in
    let e = ap (λ n. levels.type_node c.args.source.now.dialect c.args.source.now.end n (seen c.args.source.now.bytes.now c.args.tokens.now)) none in
    first_of (search rules, grind (arith, common_steps))

pub type_node-returns : goal.type_node-returns
unfolding type_node
type_node-returns t c = rw (deeper (λ n. levels.type_node c.args.source.now.dialect c.args.source.now.end n (seen c.args.source.now.bytes.now c.args.tokens.now)) c.args.depth (omega arith)) c.type_by.ensures

pub fields-returns-then-depth-eq0 : goal.fields-returns-then-depth-eq0
unfolding fields
fields-returns-then-depth-eq0 t c =
    let none : c.args.depth ≡ 0 = omega arith in
    let e = ap (λ n. levels.fields c.args.source.now.dialect c.args.source.now.end n (seen c.args.source.now.bytes.now c.args.tokens.now)) none in
    first_of (search rules, grind (arith, common_steps))

pub fields-returns : goal.fields-returns
unfolding fields
fields-returns t c = rw (deeper (λ n. levels.fields c.args.source.now.dialect c.args.source.now.end n (seen c.args.source.now.bytes.now c.args.tokens.now)) c.args.depth (omega arith)) c.fields_by.ensures

pub more_types-loop-turn-init : goal.more_types-loop-turn-init
unfolding more_types repeat
more_types-loop-turn-init t c = ap (λ n. again (begins (symbols Comma)) (types_spec.next_type (levels.type_node c.args.source.now.dialect c.args.source.now.end c.args.depth)) n c.args.first (seen c.args.source.now.bytes.now c.args.tokens.now)) (as_long c.args.source.now.bytes.now c.args.tokens.now)

pub more_types-returns-then-not-is : goal.more_types-returns-then-not-is
unfolding again
more_types-returns-then-not-is t c =
    let e = one_more (λ n. again (begins (symbols Comma)) (types_spec.next_type (levels.type_node c.args.source.now.dialect c.args.source.now.end c.args.depth)) n c.loop-turn.all (seen c.args.source.now.bytes.now c.loop-turn.rest.now)) _ c.loop-turn._turn c.loop-turn-test.true c.loop-turn.invariant in
    first_of (search rules, grind (arith, common_steps))

pub more_types-returns-in_err-longer : goal.more_types-returns-in_err-longer
unfolding again
more_types-returns-in_err-longer t c =
    let e = one_more (λ n. again (begins (symbols Comma)) (types_spec.next_type (levels.type_node c.args.source.now.dialect c.args.source.now.end c.args.depth)) n c.loop-turn.all (seen c.args.source.now.bytes.now c.loop-turn.rest.now)) _ c.loop-turn._turn c.loop-turn-test.true c.loop-turn.invariant in
    first_of (search rules, grind (arith, common_steps))

pub more_types-loop-turn-preserved : goal.more_types-loop-turn-preserved
unfolding again
more_types-loop-turn-preserved t c =
    let e = one_more (λ n. again (begins (symbols Comma)) (types_spec.next_type (levels.type_node c.args.source.now.dialect c.args.source.now.end c.args.depth)) n c.loop-turn.all (seen c.args.source.now.bytes.now c.loop-turn.rest.now)) _ c.loop-turn._turn c.loop-turn-test.true c.loop-turn.invariant in
    first_of (search rules, grind (arith, common_steps))

pub more_types-returns : goal.more_types-returns
unfolding again
more_types-returns t c =
    let e = no_more (λ n. again (begins (symbols Comma)) (types_spec.next_type (levels.type_node c.args.source.now.dialect c.args.source.now.end c.args.depth)) n c.loop-turn.all (seen c.args.source.now.bytes.now c.loop-turn.rest.now)) _ c.loop-turn._turn c.loop-turn-test.false c.loop-turn.invariant in
    first_of (search rules, grind (arith, common_steps))

pub more_sections-loop-turn-init : goal.more_sections-loop-turn-init
unfolding more_sections repeat
more_sections-loop-turn-init t c = ap (λ n. again begins_next_section (fields_spec.next_section c.args.source.now.end (levels.type_node c.args.source.now.dialect c.args.source.now.end c.args.depth)) n c.args.first (seen c.args.source.now.bytes.now c.args.tokens.now)) (as_long c.args.source.now.bytes.now c.args.tokens.now)

pub more_sections-returns-then-not-is_next_section : goal.more_sections-returns-then-not-is_next_section
unfolding again
more_sections-returns-then-not-is_next_section t c =
    let e = one_more (λ n. again begins_next_section (fields_spec.next_section c.args.source.now.end (levels.type_node c.args.source.now.dialect c.args.source.now.end c.args.depth)) n c.loop-turn.all (seen c.args.source.now.bytes.now c.loop-turn.rest.now)) _ c.loop-turn._turn c.loop-turn-test.true c.loop-turn.invariant in
    first_of (search rules, grind (arith, common_steps))

pub more_sections-returns-in_err-longer : goal.more_sections-returns-in_err-longer
unfolding again
more_sections-returns-in_err-longer t c =
    let e = one_more (λ n. again begins_next_section (fields_spec.next_section c.args.source.now.end (levels.type_node c.args.source.now.dialect c.args.source.now.end c.args.depth)) n c.loop-turn.all (seen c.args.source.now.bytes.now c.loop-turn.rest.now)) _ c.loop-turn._turn c.loop-turn-test.true c.loop-turn.invariant in
    first_of (search rules, grind (arith, common_steps))

pub more_sections-loop-turn-preserved : goal.more_sections-loop-turn-preserved
unfolding again
more_sections-loop-turn-preserved t c =
    let e = one_more (λ n. again begins_next_section (fields_spec.next_section c.args.source.now.end (levels.type_node c.args.source.now.dialect c.args.source.now.end c.args.depth)) n c.loop-turn.all (seen c.args.source.now.bytes.now c.loop-turn.rest.now)) _ c.loop-turn._turn c.loop-turn-test.true c.loop-turn.invariant in
    first_of (search rules, grind (arith, common_steps))

pub more_sections-returns : goal.more_sections-returns
unfolding again
more_sections-returns t c =
    let e = no_more (λ n. again begins_next_section (fields_spec.next_section c.args.source.now.end (levels.type_node c.args.source.now.dialect c.args.source.now.end c.args.depth)) n c.loop-turn.all (seen c.args.source.now.bytes.now c.loop-turn.rest.now)) _ c.loop-turn._turn c.loop-turn-test.false c.loop-turn.invariant in
    first_of (search rules, grind (arith, common_steps))

pub more_variants-loop-turn-init : goal.more_variants-loop-turn-init
unfolding more_variants repeat
more_variants-loop-turn-init t c = ap (λ n. again begins_next_variant (fields_spec.next_variant c.args.source.now.dialect c.args.source.now.end (levels.fields c.args.source.now.dialect c.args.source.now.end c.args.depth)) n c.args.first (seen c.args.source.now.bytes.now c.args.tokens.now)) (as_long c.args.source.now.bytes.now c.args.tokens.now)

pub more_variants-returns-then-not-is_next_variant : goal.more_variants-returns-then-not-is_next_variant
unfolding again
more_variants-returns-then-not-is_next_variant t c =
    let e = one_more (λ n. again begins_next_variant (fields_spec.next_variant c.args.source.now.dialect c.args.source.now.end (levels.fields c.args.source.now.dialect c.args.source.now.end c.args.depth)) n c.loop-turn.all (seen c.args.source.now.bytes.now c.loop-turn.rest.now)) _ c.loop-turn._turn c.loop-turn-test.true c.loop-turn.invariant in
    first_of (search rules, grind (arith, common_steps))

pub more_variants-returns-in_err-longer : goal.more_variants-returns-in_err-longer
unfolding again
more_variants-returns-in_err-longer t c =
    let e = one_more (λ n. again begins_next_variant (fields_spec.next_variant c.args.source.now.dialect c.args.source.now.end (levels.fields c.args.source.now.dialect c.args.source.now.end c.args.depth)) n c.loop-turn.all (seen c.args.source.now.bytes.now c.loop-turn.rest.now)) _ c.loop-turn._turn c.loop-turn-test.true c.loop-turn.invariant in
    first_of (search rules, grind (arith, common_steps))

pub more_variants-loop-turn-preserved : goal.more_variants-loop-turn-preserved
unfolding again
more_variants-loop-turn-preserved t c =
    let e = one_more (λ n. again begins_next_variant (fields_spec.next_variant c.args.source.now.dialect c.args.source.now.end (levels.fields c.args.source.now.dialect c.args.source.now.end c.args.depth)) n c.loop-turn.all (seen c.args.source.now.bytes.now c.loop-turn.rest.now)) _ c.loop-turn._turn c.loop-turn-test.true c.loop-turn.invariant in
    first_of (search rules, grind (arith, common_steps))

pub more_variants-returns : goal.more_variants-returns
unfolding again
more_variants-returns t c =
    let e = no_more (λ n. again begins_next_variant (fields_spec.next_variant c.args.source.now.dialect c.args.source.now.end (levels.fields c.args.source.now.dialect c.args.source.now.end c.args.depth)) n c.loop-turn.all (seen c.args.source.now.bytes.now c.loop-turn.rest.now)) _ c.loop-turn._turn c.loop-turn-test.false c.loop-turn.invariant in
    first_of (search rules, grind (arith, common_steps))
