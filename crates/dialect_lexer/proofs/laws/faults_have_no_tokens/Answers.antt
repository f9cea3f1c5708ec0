use Rattle.dialect_lexer.proofs.Unique.{no_tokens}
use Rattle.dialect_lexer.proofs.laws.faults_have_no_tokens.Goals as goal

pub returns : goal.returns
returns c = no_tokens
