use Rattle.std.proofs.Common.{◌<◌, length, arith}
use Rattle.writer_trees.proofs.Firsts.{declaration_unbuilt}
use Rattle.writer_trees.proofs.nodes.unbuilt_declaration.Goals as goal

pub returns-in-len1-up : goal.returns-in-len1-up
returns-in-len1-up c =
    let h : 0 < length c.args.declarations.now = omega (arith, c.in-len1-up.len_at_least) in
    declaration_unbuilt c.args.declarations.now c.first-item.result c.span_of.result h c.first-item.is c.span_of.ensures
