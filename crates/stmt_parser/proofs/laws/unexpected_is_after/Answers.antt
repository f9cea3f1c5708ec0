use Rattle.stmt_parser.proofs.Clauses.{unexpected_is_after}
use Rattle.stmt_parser.proofs.laws.unexpected_is_after.Goals as goal

pub returns : goal.returns
returns c = unexpected_is_after
