use Rattle.expr_parser.proofs.Clauses.{longest_is_read}
use Rattle.expr_parser.proofs.laws.longest_is_read.Goals as goal

pub returns : goal.returns
returns c = longest_is_read
