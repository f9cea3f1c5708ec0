use Rattle.stmt_parser.proofs.Clauses.{read_is_longest}
use Rattle.stmt_parser.proofs.laws.read_is_longest.Goals as goal

pub returns : goal.returns
returns c = read_is_longest
