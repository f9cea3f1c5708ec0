use Rattle.c_parser.proofs.Clauses.{read_is_spelled}
use Rattle.c_parser.proofs.laws.read_is_spelled.Goals as goal

pub returns : goal.returns
returns c = read_is_spelled
