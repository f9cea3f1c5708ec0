use Rattle.unit_parser.proofs.ExactLaws.{derived_is_read}
use Rattle.unit_parser.proofs.laws.derived_is_read.Goals as goal

pub returns : goal.returns
returns c = derived_is_read
