use Rattle.std.proofs.Common.{◌≡◌, ◌+◌, rules, ap, ◌∙◌}
use Rattle.std.proofs.lemmas.Result.{on_ok_weaker}
use Rattle.c_conditions.proofs.Lookups.{more}
use Rattle.c_conditions.proofs.table.Table.raise.Goals as goal

pub returns : goal.returns
returns c =
    let raised : c.in_ok-raised.raised ≡ c.count.result + 1 = search rules in
    on_ok_weaker c.put.result (more c.args.self.now c.put.new.self c.args.name.now c.in_ok-raised.raised (raised ∙ ap (λ k. k + 1) c.count.ensures)) c.put.ensures
