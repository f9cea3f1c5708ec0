use Rattle.stmt_parser.proofs.ExactClauses.{longest_is_read}
use Rattle.stmt_parser.proofs.laws.longest_is_read.Goals as goal

pub returns : goal.returns
returns c = longest_is_read
