use Rattle.std.proofs.Common.{arith}
use Rattle.name_tables.specs.Places.{variable_name}
use Rattle.name_tables.proofs.Adding.{noted_none, noted_next, noted_all}
use Rattle.name_tables.proofs.tables.places_of_variables.Goals as goal

pub loop-i-init : goal.loop-i-init
loop-i-init c = noted_none variable_name c.args.variables.now c.new-places.result c.new-places.ensures

pub loop-i-preserved : goal.loop-i-preserved
loop-i-preserved c = noted_next variable_name c.args.variables.now c.loop-i.places c.add.new.self c.loop-i.i c.index-variables-i.result (omega arith) c.index-variables-i.is c.loop-i.invariant c.in_ok-add.ensures

pub returns : goal.returns
returns c = noted_all variable_name c.args.variables.now c.loop-i.places c.loop-i.i (omega arith) c.loop-i.invariant
