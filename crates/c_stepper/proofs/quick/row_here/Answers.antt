use Rattle.std.proofs.Common.{arith}
use Rattle.c_stepper.proofs.quick.row_here.Goals as goal

pub returns-then-spot-row-clause-row : goal.returns-then-spot-row-clause-row
returns-then-spot-row-clause-row c = c.requires (omega (arith, c.if-spot-row.true))
