use Rattle.translate_core.proofs.Made.{is_tree, printed}
use Rattle.translate_core.proofs.translation.translate.Goals as goal

pub returns-clause-ok : goal.returns-clause-ok
returns-clause-ok c =
    printed c.args.dialect c.args.texts.now c.in_ok-program.program c.in_ok-print.field-0.items c.in_ok-program.ensures.ok
    (c.in_ok-print.ensures.read_back (is_tree c.args.dialect c.args.texts.now c.in_ok-program.program c.in_ok-program.ensures.ok))
