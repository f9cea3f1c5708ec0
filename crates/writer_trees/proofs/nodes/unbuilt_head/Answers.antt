use Rattle.writer_trees.proofs.Firsts.{head_first}
use Rattle.writer_trees.proofs.nodes.unbuilt_head.Goals as goal

pub returns : goal.returns
returns c =
    head_first c.args.program.now c.as_slice.result.now c.unbuilt_parameter-parameter.result c.unbuilt_uses-uses.result c.unbuilt_declaration-declaration.result c.first-before.result c.first.result
    c.unbuilt_parameter-parameter.ensures c.unbuilt_uses-uses.ensures c.unbuilt_declaration-declaration.ensures c.as_slice.ensures c.first-before.ensures c.first.ensures
