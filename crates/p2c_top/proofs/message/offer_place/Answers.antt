use Rattle.std.proofs.Common.{◌≡◌, ◌++◌, [], ◌∷◌, List, subst, decimal}
use Rattle.std.proofs.lemmas.Result.{on_err_weaker}
use Rattle.p2c_outside.specs.Told.{Gains}
use Rattle.held_bytes.specs.Written.{GainsPart}
use Rattle.p2c_top.proofs.PlaceLine.{line_part}
use Rattle.p2c_top.proofs.message.offer_place.Goals as goal

pub returns-clause-part : goal.returns-clause-part
returns-clause-part g c =
    let old = g.S.Sink.written c.args.sink.now in
    let mid = g.S.Sink.written c.offer.new.sink in
    let new = g.S.Sink.written c.offer_parts.new.sink in
    let name : c.as_bytes.result.now ≡ c.args.name.now = cc in
    let digits : c.as_bytes-digits.result.now ≡ decimal c.args.line = cc in
    let first = subst (Gains old mid) name c.in_ok-offer.ensures.whole in
    on_err_weaker c.offer_parts.result
    (λ part. line_part old mid new c.args.name.now (58 ∷ []) (decimal c.args.line) c.args.end.now first
    (subst (λ d. GainsPart mid new ((58 ∷ []) ++ d ++ c.args.end.now)) digits part))
    c.offer_parts.ensures.part
