use Rattle.c_grammar.proofs.UniqueTree.{same_text}
use Rattle.c_grammar.proofs.laws.texts_are_unique.Goals as goal

pub returns : goal.returns
returns c = same_text
