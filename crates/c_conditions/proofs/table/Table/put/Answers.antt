use Rattle.std.proofs.lemmas.Map.Text.{btree_map_updates_str}
use Rattle.c_conditions.specs.Names.{look}
use Rattle.c_conditions.proofs.table.Table.put.Goals as goal

pub returns : goal.returns
unfolding look
returns c = λ i name. btree_map_updates_str c.args.name.now c.args.self.now.entries c.insert.new.self _ c.in_ok-insert.ensures.updates name i
