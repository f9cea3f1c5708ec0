use Rattle.std.proofs.Common.{◌∙◌, ap}
use Rattle.label_ways.proofs.Adding.{added}
use Rattle.label_ways.proofs.ways.Ways.insert.Goals as goal

pub returns : goal.returns
returns c = added c.args.self.now (record { entries = c.insert.new.self }) c.args.label.now c.in_ok-name.name (record { outer = c.in_ok-outer.outer; at = c.args.at }) (c.args.outer.now, c.args.at)
    (c.in_ok-name.ensures ∙ c.as_slice.ensures) (ap (λ o. (o, c.args.at)) c.in_ok-outer.ensures.items) c.requires c.in_ok-insert.ensures.updates.0
