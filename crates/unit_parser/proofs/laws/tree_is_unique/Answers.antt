use Rattle.unit_parser.proofs.ExactLaws.{tree_is_unique}
use Rattle.unit_parser.proofs.laws.tree_is_unique.Goals as goal

pub returns : goal.returns
returns c = tree_is_unique
