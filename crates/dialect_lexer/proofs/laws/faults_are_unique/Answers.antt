use Rattle.dialect_lexer.proofs.Unique.{same_fault}
use Rattle.dialect_lexer.proofs.laws.faults_are_unique.Goals as goal

pub returns : goal.returns
returns c = same_fault
