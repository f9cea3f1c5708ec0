use Rattle.std.proofs.Common.{◌<◌, length, subst, sym}
use Rattle.translate_core.proofs.Texts.{as_many}
use Rattle.translate_core.proofs.translation.written_by.Goals as goal

pub written-requires : goal.written-requires
written-requires c =
    subst (λ l. 0 < length l) (sym c.as_slice-2.ensures) (as_many c.args.dialect c.args.texts.now c.as_slice.result.now c.in_ok-trees.trees c.in_ok-trees.ensures.ok c.requires.some)
