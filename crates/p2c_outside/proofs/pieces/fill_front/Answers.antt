use Rattle.std.proofs.Common.{◌≡◌, ◌++◌, take, drop, arith}
use Rattle.std.proofs.lemmas.Grind.{common_steps}
use Rattle.p2c_outside.proofs.Fronts.{drop_as_taken}
use Rattle.p2c_outside.proofs.pieces.fill_front.Goals as goal

pub returns-clause-rest : goal.returns-clause-rest
returns-clause-rest c =
    let count = c.min-count.result in
    let filled = c.copy_from_slice.new.self ++ drop count c.args.into.now in
    let there = drop c.args.at c.args.from.now in
    let same : take count filled ≡ take count there = grind (arith, common_steps) in
    drop_as_taken count c.args.at c.args.from.now (take count filled) same
