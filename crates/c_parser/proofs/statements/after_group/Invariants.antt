use Rattle.std.proofs.Common.{◌≡◌, ◌≤◌, ◌+◌, length}
use Rattle.c_grammar.specs.Seen.{tokens_of}
use Rattle.c_parser.specs.Statements as spec
use Rattle.c_parser.proofs.statements.after_group.Given as goal

-- what is still to skip leads where the whole leads
abbrev pub invariant-loop-opened : goal.invariant-loop-opened
invariant-loop-opened l = (spec.after_group 0 (tokens_of l.fn.tokens) ≡ spec.after_group l.opened (tokens_of l.rest)) × (l.opened + length l.rest ≤ length l.fn.tokens)

abbrev pub decreases-loop-opened : goal.decreases-loop-opened
decreases-loop-opened l = length l.rest
