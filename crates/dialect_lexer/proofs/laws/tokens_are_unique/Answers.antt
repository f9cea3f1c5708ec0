use Rattle.dialect_lexer.proofs.Unique.{same_tokens}
use Rattle.dialect_lexer.proofs.laws.tokens_are_unique.Goals as goal

pub returns : goal.returns
returns c = same_tokens
