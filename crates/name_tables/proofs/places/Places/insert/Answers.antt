use Rattle.std.proofs.Common.{◌∙◌}
use Rattle.name_tables.proofs.Adding.{added}
use Rattle.name_tables.proofs.places.Places.insert.Goals as goal

pub returns : goal.returns
returns c = added c.args.self.now (record { entries = c.insert.new.self }) c.args.name.now c.in_ok-name.name c.args.place (c.in_ok-name.ensures ∙ c.as_slice.ensures) c.requires c.in_ok-insert.ensures.updates.0
