use Rattle.std.proofs.Common.{◌≡◌, ◌-◌, ◌+◌, ◌*◌}
use Rattle.c_grammar.specs.Seen.{tokens_of}
use Rattle.token_parsing.specs.Parser.{again}
use Rattle.c_parser.specs.Statements as statements
use Rattle.c_parser.proofs.statements.+nesting.Given as goal

-- the levels that are left, and at one level the callers above the called
abbrev pub decreases-statement : goal.decreases-statement
decreases-statement l = 16 * l.depth + 0

abbrev pub decreases-next_statement : goal.decreases-next_statement
decreases-next_statement l = 16 * l.depth + 1

abbrev pub decreases-statements : goal.decreases-statements
decreases-statements l = 16 * l.depth + 2

abbrev pub decreases-body : goal.decreases-body
decreases-body l = 16 * l.depth + 3

abbrev pub decreases-otherwise : goal.decreases-otherwise
decreases-otherwise l = 16 * l.depth + 4

abbrev pub decreases-conditional : goal.decreases-conditional
decreases-conditional l = 16 * l.depth + 5

abbrev pub decreases-while_loop : goal.decreases-while_loop
decreases-while_loop l = 16 * l.depth + 5

abbrev pub decreases-statement_by : goal.decreases-statement_by
decreases-statement_by l = 16 * l.depth + 6

-- what is still to read gives what the whole gives
abbrev pub invariant-statements-loop-turn : goal.invariant-statements-loop-turn
invariant-statements-loop-turn l = statements.statements (statements.statement l.depth) (tokens_of l.fn.tokens) ≡ again statements.no_brace (statements.next_statement (statements.statement l.depth)) (l._turn-end - l._turn) l.all (tokens_of l.rest)
