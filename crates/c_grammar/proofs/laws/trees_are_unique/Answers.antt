use Rattle.c_grammar.proofs.UniqueTree.{same_tree}
use Rattle.c_grammar.proofs.laws.trees_are_unique.Goals as goal

pub returns : goal.returns
returns c = same_tree
