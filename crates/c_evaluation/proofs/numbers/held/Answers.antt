use Rattle.std.proofs.Common.{◌≡◌, w64, to_z, of_z, arith}
use Rattle.std.proofs.lemmas.Int.{ints}
use Rattle.c_evaluation.proofs.Resolving.{held_variable, held_written}
use Rattle.c_evaluation.proofs.numbers.held.Goals as goal

pub returns-in-Variable : goal.returns-in-Variable
returns-in-Variable c = held_variable c.args.memory.now c.args.base c.args.operand c.in-Variable.variable c.number_held.result c.in-Variable.is c.number_held.ensures

pub returns-in-Written : goal.returns-in-Written
returns-in-Written c =
    let same : c.in-Written.z ≡ to_z w64 (of_z w64 c.in-Written.z) = grind (arith, ints) in
    held_written c.args.memory.now c.args.base c.args.operand c.in-Written.z _ c.in-Written.is same
