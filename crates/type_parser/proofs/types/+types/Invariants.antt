use Rattle.std.proofs.Common.{◌≡◌, ◌-◌, ◌+◌, ◌*◌}
use Rattle.dialect_lexer.specs.declared.token.Symbol.TheVariants.{Comma}
use Rattle.token_parsing.specs.Parser.{again, begins}
use Rattle.expr_parser.specs.Tokens.{seen}
use Rattle.expr_parser.specs.Classes.{symbols}
use Rattle.type_parser.specs.Types as types_spec
use Rattle.type_parser.specs.Fields as fields_spec
use Rattle.type_parser.specs.Fields.{begins_next_section, begins_next_variant}
use Rattle.type_parser.specs.Levels as levels
use Rattle.type_parser.proofs.types.+types.Given as goal

-- the levels that are left, and at one level the callers above the called
abbrev pub decreases-type_node : goal.decreases-type_node
decreases-type_node l = 16 * l.depth + 0

abbrev pub decreases-fields : goal.decreases-fields
decreases-fields l = 16 * l.depth + 0

abbrev pub decreases-of_type : goal.decreases-of_type
decreases-of_type l = 16 * l.depth + 1

abbrev pub decreases-next_type : goal.decreases-next_type
decreases-next_type l = 16 * l.depth + 1

abbrev pub decreases-more_types : goal.decreases-more_types
decreases-more_types l = 16 * l.depth + 2

abbrev pub decreases-types : goal.decreases-types
decreases-types l = 16 * l.depth + 3

abbrev pub decreases-indexes : goal.decreases-indexes
decreases-indexes l = 16 * l.depth + 4

abbrev pub decreases-array : goal.decreases-array
decreases-array l = 16 * l.depth + 5

abbrev pub decreases-record : goal.decreases-record
decreases-record l = 16 * l.depth + 1

abbrev pub decreases-set : goal.decreases-set
decreases-set l = 16 * l.depth + 2

abbrev pub decreases-file : goal.decreases-file
decreases-file l = 16 * l.depth + 2

abbrev pub decreases-structure : goal.decreases-structure
decreases-structure l = 16 * l.depth + 6

abbrev pub decreases-structured : goal.decreases-structured
decreases-structured l = 16 * l.depth + 7

abbrev pub decreases-type_by : goal.decreases-type_by
decreases-type_by l = 16 * l.depth + 8

abbrev pub decreases-section : goal.decreases-section
decreases-section l = 16 * l.depth + 1

abbrev pub decreases-next_section : goal.decreases-next_section
decreases-next_section l = 16 * l.depth + 2

abbrev pub decreases-more_sections : goal.decreases-more_sections
decreases-more_sections l = 16 * l.depth + 3

abbrev pub decreases-fixed : goal.decreases-fixed
decreases-fixed l = 16 * l.depth + 4

abbrev pub decreases-group : goal.decreases-group
decreases-group l = 16 * l.depth + 1

abbrev pub decreases-variant : goal.decreases-variant
decreases-variant l = 16 * l.depth + 2

abbrev pub decreases-next_variant : goal.decreases-next_variant
decreases-next_variant l = 16 * l.depth + 3

abbrev pub decreases-more_variants : goal.decreases-more_variants
decreases-more_variants l = 16 * l.depth + 4

abbrev pub decreases-variant_list : goal.decreases-variant_list
decreases-variant_list l = 16 * l.depth + 5

abbrev pub decreases-variants : goal.decreases-variants
decreases-variants l = 16 * l.depth + 6

abbrev pub decreases-optional_variants : goal.decreases-optional_variants
decreases-optional_variants l = 16 * l.depth + 7

abbrev pub decreases-with_fixed : goal.decreases-with_fixed
decreases-with_fixed l = 16 * l.depth + 8

abbrev pub decreases-only_variants : goal.decreases-only_variants
decreases-only_variants l = 16 * l.depth + 7

abbrev pub decreases-fields_by : goal.decreases-fields_by
decreases-fields_by l = 16 * l.depth + 9

-- what is still to read gives what the whole gives
abbrev pub invariant-more_types-loop-turn : goal.invariant-more_types-loop-turn
invariant-more_types-loop-turn l = types_spec.more_types (levels.type_node l.source.dialect l.source.end l.depth) l.fn.first (seen l.source.bytes.now l.fn.tokens) ≡ again (begins (symbols Comma)) (types_spec.next_type (levels.type_node l.source.dialect l.source.end l.depth)) (l._turn-end - l._turn) l.all (seen l.source.bytes.now l.rest)

abbrev pub invariant-more_sections-loop-turn : goal.invariant-more_sections-loop-turn
invariant-more_sections-loop-turn l = fields_spec.more_sections l.source.end (levels.type_node l.source.dialect l.source.end l.depth) l.fn.first (seen l.source.bytes.now l.fn.tokens) ≡ again begins_next_section (fields_spec.next_section l.source.end (levels.type_node l.source.dialect l.source.end l.depth)) (l._turn-end - l._turn) l.all (seen l.source.bytes.now l.rest)

abbrev pub invariant-more_variants-loop-turn : goal.invariant-more_variants-loop-turn
invariant-more_variants-loop-turn l = fields_spec.more_variants l.source.dialect l.source.end (levels.fields l.source.dialect l.source.end l.depth) l.fn.first (seen l.source.bytes.now l.fn.tokens) ≡ again begins_next_variant (fields_spec.next_variant l.source.dialect l.source.end (levels.fields l.source.dialect l.source.end l.depth)) (l._turn-end - l._turn) l.all (seen l.source.bytes.now l.rest)
