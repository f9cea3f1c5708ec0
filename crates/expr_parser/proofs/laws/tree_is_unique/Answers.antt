use Rattle.expr_parser.proofs.Clauses.{tree_is_unique}
use Rattle.expr_parser.proofs.laws.tree_is_unique.Goals as goal

pub returns : goal.returns
returns c = tree_is_unique
