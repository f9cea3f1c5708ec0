use Rattle.c_parser.proofs.Clauses.{unexpected_is_first}
use Rattle.c_parser.proofs.laws.unexpected_is_first.Goals as goal

pub returns : goal.returns
returns c = unexpected_is_first
