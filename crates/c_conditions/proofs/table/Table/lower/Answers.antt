use Rattle.std.proofs.Common.{◌-◌, ap, ◌∙◌}
use Rattle.std.proofs.lemmas.Result.{on_ok_weaker}
use Rattle.c_conditions.proofs.Lookups.{less}
use Rattle.c_conditions.proofs.table.Table.lower.Goals as goal

pub returns : goal.returns
returns c =
    on_ok_weaker c.put.result (less c.args.self.now c.put.new.self c.args.name.now c.saturating_sub-lowered.result (c.saturating_sub-lowered.ensures ∙ ap (λ k. k - 1) c.count.ensures)) c.put.ensures
