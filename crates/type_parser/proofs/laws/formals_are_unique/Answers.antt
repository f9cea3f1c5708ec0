use Rattle.type_parser.proofs.ExactLaws.{formals_are_unique}
use Rattle.type_parser.proofs.laws.formals_are_unique.Goals as goal

pub returns : goal.returns
returns c = formals_are_unique
