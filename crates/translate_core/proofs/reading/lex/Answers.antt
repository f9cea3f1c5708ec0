use Rattle.std.proofs.Common.{◌+◌, ◌≤◌, length, ap, subst, sym, ◌∙◌}
use Rattle.p2c_text.specs.Text.{NamedBytes}
use Rattle.translate_core.specs.Reading.{LexedUpTo, IsLexed}
use Rattle.translate_core.proofs.Texts.{lex_next, left_short}
use Rattle.translate_core.proofs.reading.lex.Goals as goal

pub lexed-requires : goal.lexed-requires
lexed-requires c =
    subst (λ b. length b ≤ 8388608) (sym (c.deref.ensures.value ∙ ap (λ (t : NamedBytes). t.bytes) c.text.view_is))
    (left_short c.args.texts.now c.loop-text.invariant.before c.loop-text.rest.now c.in-Some.text.now c.in-Some.after.now 8388608 c.requires.short c.loop-text.invariant.is c.in-Some.ensures.cases.0)

pub loop-text-preserved : goal.loop-text-preserved
loop-text-preserved c =
    subst (λ l. LexedUpTo c.args.dialect c.args.texts.now c.in-Some.after.now (c.loop-text.file + 1) l) (sym c.in_ok-push.ensures.ok)
    (lex_next c.args.dialect c.args.texts.now c.in-Some.text.now c.in-Some.after.now c.loop-text.file c.loop-text.lists c.in_ok-lexed.field-0
    (subst (λ r. LexedUpTo c.args.dialect c.args.texts.now r c.loop-text.file c.loop-text.lists) c.in-Some.ensures.cases.0 c.loop-text.invariant)
    (subst (λ b. IsLexed c.args.dialect c.loop-text.file b c.in_ok-lexed.field-0) (c.deref.ensures.value ∙ ap (λ (t : NamedBytes). t.bytes) c.text.view_is) c.in_ok-lexed.ensures.ok))
