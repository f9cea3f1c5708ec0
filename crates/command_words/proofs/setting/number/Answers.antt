use Rattle.std.proofs.Common.{Some, arith, ap, sym, ◌∙◌}
use Rattle.command_words.proofs.Numbers.{inside, outside}
use Rattle.command_words.proofs.setting.number.Goals as goal

pub returns-in-Ok : goal.returns-in-Ok
returns-in-Ok c =
    let parsed = c.in-Ok.ensures.value.0 in
    let above = c.if-least-number.true in
    let below = c.if-number-most.true in
    ap Some parsed.1 ∙ sym (inside c.args.least c.args.most c.args.text.now (parsed.0.0, parsed.0.1, omega (arith, parsed.1, above), omega (arith, parsed.1, below)))

pub returns-in_default-3 : goal.returns-in_default-3
returns-in_default-3 c = sym (outside c.args.least c.args.most c.args.text.now (λ u. c.in_default.ensures.value.0 (u.0, u.1)))
