use Rattle.std.proofs.Common.{Err}
use Rattle.c_reader.proofs.Texts.{tree_by}
use Rattle.c_reader.proofs.reading.read.Goals as goal

pub returns-in-Ok-clause-tree : goal.returns-in-Ok-clause-tree
returns-in-Ok-clause-tree c = λ tree text. tree_by c.args.bytes.now c.tree_of.result tree c.tree_of.ensures.ok c.tree_of.ensures.fault text

pub returns-in-Err-clause-tree : goal.returns-in-Err-clause-tree
returns-in-Err-clause-tree c = λ tree text. tree_by c.args.bytes.now (Err c.uncut.result) tree tt c.uncut.ensures text
