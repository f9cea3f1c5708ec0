use Rattle.std.proofs.Common.{arith}
use Rattle.name_tables.specs.Places.{typedef_name}
use Rattle.name_tables.proofs.Adding.{noted_none, noted_next, noted_all}
use Rattle.name_tables.proofs.tables.places_of_typedefs.Goals as goal

pub loop-i-init : goal.loop-i-init
loop-i-init c = noted_none typedef_name c.args.declared.now c.new-places.result c.new-places.ensures

pub loop-i-preserved : goal.loop-i-preserved
loop-i-preserved c = noted_next typedef_name c.args.declared.now c.loop-i.places c.add_typedef.new.places c.loop-i.i c.index-declared-i.result (omega arith) c.index-declared-i.is c.loop-i.invariant c.in_ok-add_typedef.ensures

pub returns : goal.returns
returns c = noted_all typedef_name c.args.declared.now c.loop-i.places c.loop-i.i (omega arith) c.loop-i.invariant
