use Rattle.std.proofs.lemmas.Result.{on_ok_weaker}
use Rattle.c_conditions.proofs.Lookups.{added}
use Rattle.c_conditions.proofs.table.Table.add.Goals as goal

pub returns : goal.returns
returns c = on_ok_weaker c.put.result (added c.args.self.now c.put.new.self c.args.name.now 0) c.put.ensures
