use Rattle.type_parser.proofs.ExactLaws.{longest_type_is_read}
use Rattle.type_parser.proofs.laws.longest_type_is_read.Goals as goal

pub returns : goal.returns
returns c = longest_type_is_read
