use Rattle.name_tables.specs.Places.{function_name}
use Rattle.name_tables.proofs.Adding.{Noted}
use Rattle.name_tables.proofs.tables.places_of_functions.Given as goal

abbrev pub invariant-loop-i : goal.invariant-loop-i
invariant-loop-i l = Noted function_name l.fn.functions l.places l.i
