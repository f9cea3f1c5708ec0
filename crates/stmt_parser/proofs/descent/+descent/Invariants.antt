use Rattle.std.proofs.Common.{◌≡◌, ◌-◌, ◌+◌, ◌*◌}
use Rattle.dialect_lexer.specs.declared.token.Symbol.TheVariants.{Semicolon}
use Rattle.token_parsing.specs.Parser.{again, begins}
use Rattle.expr_parser.specs.Tokens.{seen}
use Rattle.expr_parser.specs.Classes.{symbols}
use Rattle.stmt_parser.specs.Statements.{more_stmts, next_stmt}
use Rattle.stmt_parser.specs.Cases.{begins_next_arm, more_arms, next_arm}
use Rattle.stmt_parser.specs.Levels.{stmt}
use Rattle.stmt_parser.proofs.descent.+descent.Given as goal

-- the levels that are left, and at one level the callers above the called
abbrev pub decreases-stmt : goal.decreases-stmt
decreases-stmt l = 16 * l.depth + 0

abbrev pub decreases-body : goal.decreases-body
decreases-body l = 16 * l.depth + 1

abbrev pub decreases-next_stmt : goal.decreases-next_stmt
decreases-next_stmt l = 16 * l.depth + 1

abbrev pub decreases-more_stmts : goal.decreases-more_stmts
decreases-more_stmts l = 16 * l.depth + 2

abbrev pub decreases-stmts : goal.decreases-stmts
decreases-stmts l = 16 * l.depth + 3

abbrev pub decreases-compound : goal.decreases-compound
decreases-compound l = 16 * l.depth + 4

abbrev pub decreases-optional_else : goal.decreases-optional_else
decreases-optional_else l = 16 * l.depth + 2

abbrev pub decreases-conditional : goal.decreases-conditional
decreases-conditional l = 16 * l.depth + 3

abbrev pub decreases-while_loop : goal.decreases-while_loop
decreases-while_loop l = 16 * l.depth + 2

abbrev pub decreases-repeat_loop : goal.decreases-repeat_loop
decreases-repeat_loop l = 16 * l.depth + 4

abbrev pub decreases-for_loop : goal.decreases-for_loop
decreases-for_loop l = 16 * l.depth + 2

abbrev pub decreases-with_places : goal.decreases-with_places
decreases-with_places l = 16 * l.depth + 2

abbrev pub decreases-try_block : goal.decreases-try_block
decreases-try_block l = 16 * l.depth + 4

abbrev pub decreases-arm : goal.decreases-arm
decreases-arm l = 16 * l.depth + 1

abbrev pub decreases-next_arm : goal.decreases-next_arm
decreases-next_arm l = 16 * l.depth + 2

abbrev pub decreases-more_arms : goal.decreases-more_arms
decreases-more_arms l = 16 * l.depth + 3

abbrev pub decreases-arms : goal.decreases-arms
decreases-arms l = 16 * l.depth + 4

abbrev pub decreases-rest_part : goal.decreases-rest_part
decreases-rest_part l = 16 * l.depth + 4

abbrev pub decreases-optional_rest : goal.decreases-optional_rest
decreases-optional_rest l = 16 * l.depth + 5

abbrev pub decreases-case_of : goal.decreases-case_of
decreases-case_of l = 16 * l.depth + 6

abbrev pub decreases-structured : goal.decreases-structured
decreases-structured l = 16 * l.depth + 7

abbrev pub decreases-plain_by : goal.decreases-plain_by
decreases-plain_by l = 16 * l.depth + 8

abbrev pub decreases-stmt_by : goal.decreases-stmt_by
decreases-stmt_by l = 16 * l.depth + 9

-- what is still to read gives what the whole gives
abbrev pub invariant-more_stmts-loop-turn : goal.invariant-more_stmts-loop-turn
invariant-more_stmts-loop-turn l = more_stmts (stmt l.source.dialect l.source.end l.depth) l.fn.first (seen l.source.bytes.now l.fn.tokens) ≡ again (begins (symbols Semicolon)) (next_stmt (stmt l.source.dialect l.source.end l.depth)) (l._turn-end - l._turn) l.all (seen l.source.bytes.now l.rest)

abbrev pub invariant-more_arms-loop-turn : goal.invariant-more_arms-loop-turn
invariant-more_arms-loop-turn l = more_arms l.source.dialect l.source.end (stmt l.source.dialect l.source.end l.depth) l.fn.first (seen l.source.bytes.now l.fn.tokens) ≡ again begins_next_arm (next_arm l.source.dialect l.source.end (stmt l.source.dialect l.source.end l.depth)) (l._turn-end - l._turn) l.all (seen l.source.bytes.now l.rest)
