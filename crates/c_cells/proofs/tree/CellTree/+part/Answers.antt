use Rattle.std.proofs.Common.{◌≡◌, ◌∙◌, sym, ap, arith, Some, get_or}
use Rattle.std.specs.Option.{option_copied}
use Rattle.c_meaning.specs.Cells.{child}
use Rattle.c_cells.proofs.Trees.{part_first}
use Rattle.c_cells.proofs.tree.CellTree.+part.Goals as goal

pub returns-in_ok-child-in-len1-up : goal.returns-in_ok-child-in-len1-up
returns-in_ok-child-in-len1-up t c =
    let b = c.in_ok-child-in-len1-up.field-0.now in
    let h : child c.args.self.now (get_or c.args.path.now 0 0) ≡ Some b = sym c.child.ensures ∙ ap option_copied c.in_ok-child-in-len1-up.was in
    c.part.ensures ∙ part_first c.args.path.now c.args.self.now b (omega arith) h
