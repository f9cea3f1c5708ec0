use Rattle.stmt_parser.proofs.Clauses.{too_deep_is_deep}
use Rattle.stmt_parser.proofs.laws.too_deep_is_deep.Goals as goal

pub returns : goal.returns
returns c = too_deep_is_deep
