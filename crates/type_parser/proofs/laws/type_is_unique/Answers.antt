use Rattle.type_parser.proofs.ExactLaws.{type_is_unique}
use Rattle.type_parser.proofs.laws.type_is_unique.Goals as goal

pub returns : goal.returns
returns c = type_is_unique
