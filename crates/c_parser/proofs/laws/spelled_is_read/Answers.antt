use Rattle.c_parser.proofs.Clauses.{spelled_is_read}
use Rattle.c_parser.proofs.laws.spelled_is_read.Goals as goal

pub returns : goal.returns
returns c = spelled_is_read
