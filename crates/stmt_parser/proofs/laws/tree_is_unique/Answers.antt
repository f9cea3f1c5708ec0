use Rattle.stmt_parser.proofs.ExactClauses.{tree_is_unique}
use Rattle.stmt_parser.proofs.laws.tree_is_unique.Goals as goal

pub returns : goal.returns
returns c = tree_is_unique
