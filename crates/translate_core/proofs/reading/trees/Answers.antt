use Rattle.std.proofs.Common.{◌∷◌, subst, sym}
use Rattle.translate_core.specs.Reading.{ParsedUpTo}
use Rattle.translate_core.proofs.Texts.{parse_next, left_short}
use Rattle.translate_core.proofs.reading.trees.Goals as goal

pub parsed-requires-clause-short : goal.parsed-requires-clause-short
parsed-requires-clause-short c =
    left_short c.args.texts.now c.loop-text.invariant.before c.loop-text.rest.now c.in-Some.text.now c.in-Some.after.now 8388608 c.requires.short c.loop-text.invariant.is c.in-Some.ensures.cases.0

pub loop-text-preserved : goal.loop-text-preserved
loop-text-preserved c =
    subst (λ l. ParsedUpTo c.args.dialect c.args.texts.now c.in-Some.after.now c.args.lists.now c.in-Some-split_first.more.now l) (sym c.in_ok-push.ensures.ok)
    (parse_next c.args.dialect c.args.texts.now c.in-Some.text.now c.in-Some.after.now c.args.lists.now c.in-Some-split_first.list.now c.in-Some-split_first.more.now c.loop-text.all c.in_ok-parsed.field-0
    (subst (λ l. ParsedUpTo c.args.dialect c.args.texts.now (c.in-Some.text.now ∷ c.in-Some.after.now) c.args.lists.now l c.loop-text.all) c.in-Some-split_first.ensures.cases.0
    (subst (λ r. ParsedUpTo c.args.dialect c.args.texts.now r c.args.lists.now c.loop-text.left.now c.loop-text.all) c.in-Some.ensures.cases.0 c.loop-text.invariant))
    c.in_ok-parsed.ensures.ok)
