use Rattle.std.proofs.lemmas.Result.{err_from_is_err_and}
use Rattle.held_bytes.proofs.ToldLemmas.{GainsPart-first, GainsPart-second, Gains-append}
use Rattle.held_bytes.proofs.writing.offer_parts.Goals as goal

pub returns-in_err-offer-2-clause-part : goal.returns-in_err-offer-2-clause-part
returns-in_err-offer-2-clause-part g c =
    let p = err_from_is_err_and c.from_residual-in_err-offer-2.result c.from_residual-in_err-offer-2.ensures.1 in
    rw p.1 (GainsPart-first _ _ _ c.args.third.now (GainsPart-second _ _ _ _ _ c.in_ok-offer.ensures.whole c.in_err-offer-2.ensures.part))

pub returns-in_err-offer-3-clause-part : goal.returns-in_err-offer-3-clause-part
returns-in_err-offer-3-clause-part g c =
    let p = err_from_is_err_and c.from_residual-in_err-offer-3.result c.from_residual-in_err-offer-3.ensures.1 in
    rw p.1 (GainsPart-second _ _ _ _ _ (Gains-append _ _ _ _ _ c.in_ok-offer.ensures.whole c.in_ok-offer-2.ensures.whole) c.in_err-offer-3.ensures.part)
