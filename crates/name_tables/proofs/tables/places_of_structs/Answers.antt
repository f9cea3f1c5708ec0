use Rattle.std.proofs.Common.{arith}
use Rattle.name_tables.specs.Places.{struct_name}
use Rattle.name_tables.proofs.Adding.{noted_none, noted_next, noted_all}
use Rattle.name_tables.proofs.tables.places_of_structs.Goals as goal

pub loop-i-init : goal.loop-i-init
loop-i-init c = noted_none struct_name c.args.declared.now c.new-places.result c.new-places.ensures

pub loop-i-preserved : goal.loop-i-preserved
loop-i-preserved c = noted_next struct_name c.args.declared.now c.loop-i.places c.add_struct.new.places c.loop-i.i c.index-declared-i.result (omega arith) c.index-declared-i.is c.loop-i.invariant c.in_ok-add_struct.ensures

pub returns : goal.returns
returns c = noted_all struct_name c.args.declared.now c.loop-i.places c.loop-i.i (omega arith) c.loop-i.invariant
