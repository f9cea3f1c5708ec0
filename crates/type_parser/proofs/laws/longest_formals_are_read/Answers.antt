use Rattle.type_parser.proofs.ExactLaws.{longest_formals_are_read}
use Rattle.type_parser.proofs.laws.longest_formals_are_read.Goals as goal

pub returns : goal.returns
returns c = longest_formals_are_read
