use Rattle.writer_trees.proofs.Firsts.{uses_unbuilt}
use Rattle.writer_trees.proofs.nodes.unbuilt_uses.Goals as goal

pub returns-in-Some : goal.returns-in-Some
returns-in-Some c = λ d. uses_unbuilt d c.args.uses.now c.in-Some.uses c.in-Some.is
