use Rattle.name_tables.specs.Places.{variable_name}
use Rattle.name_tables.proofs.Adding.{Noted}
use Rattle.name_tables.proofs.tables.places_of_variables.Given as goal

abbrev pub invariant-loop-i : goal.invariant-loop-i
invariant-loop-i l = Noted variable_name l.fn.variables l.places l.i
