use Rattle.std.proofs.Common.{ap, arith}
use Rattle.std.specs.Option.{option_map}
use Rattle.unit_linker.proofs.NoWay.{first_is, none_earlier, none_at_all}
use Rattle.unit_linker.proofs.cycle.first_cycle.Goals as goal

pub returns-in-Some : goal.returns-in-Some
returns-in-Some c = first_is _ c.loop-file.file _ _ c.in_ok-cycle.ensures (ap (option_map (λ v. v.items)) c.in-Some.is) c.loop-file.invariant

pub loop-file-preserved : goal.loop-file-preserved
loop-file-preserved c = none_earlier _ c.loop-file.file _ c.in_ok-cycle.ensures (ap (option_map (λ v. v.items)) c.in_default.is) c.loop-file.invariant

pub returns : goal.returns
returns c = none_at_all _ c.loop-file.file (omega arith) c.loop-file.invariant
