use Rattle.unit_parser.proofs.ExactLaws.{derived_is_unique}
use Rattle.unit_parser.proofs.laws.derived_is_unique.Goals as goal

pub returns : goal.returns
returns c = derived_is_unique
