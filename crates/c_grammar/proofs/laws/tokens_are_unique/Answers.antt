use Rattle.c_grammar.proofs.Unique.{same_tokens}
use Rattle.c_grammar.proofs.laws.tokens_are_unique.Goals as goal

pub returns : goal.returns
returns c = same_tokens
