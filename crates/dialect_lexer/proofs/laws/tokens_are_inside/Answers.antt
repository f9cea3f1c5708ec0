use Rattle.dialect_lexer.proofs.Spans.{inside}
use Rattle.dialect_lexer.proofs.laws.tokens_are_inside.Goals as goal

pub returns : goal.returns
returns c = inside
