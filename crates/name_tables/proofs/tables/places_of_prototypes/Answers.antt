use Rattle.std.proofs.Common.{arith}
use Rattle.name_tables.specs.Places.{prototype_name}
use Rattle.name_tables.proofs.Adding.{noted_none, noted_next, noted_all}
use Rattle.name_tables.proofs.tables.places_of_prototypes.Goals as goal

pub loop-i-init : goal.loop-i-init
loop-i-init c = noted_none prototype_name c.args.prototypes.now c.new-places.result c.new-places.ensures

pub loop-i-preserved : goal.loop-i-preserved
loop-i-preserved c = noted_next prototype_name c.args.prototypes.now c.loop-i.places c.add.new.self c.loop-i.i c.index-prototypes-i.result (omega arith) c.index-prototypes-i.is c.loop-i.invariant c.in_ok-add.ensures

pub returns : goal.returns
returns c = noted_all prototype_name c.args.prototypes.now c.loop-i.places c.loop-i.i (omega arith) c.loop-i.invariant
