use Rattle.name_tables.specs.Places.{typedef_name}
use Rattle.name_tables.proofs.Adding.{Noted}
use Rattle.name_tables.proofs.tables.places_of_typedefs.Given as goal

abbrev pub invariant-loop-i : goal.invariant-loop-i
invariant-loop-i l = Noted typedef_name l.fn.declared l.places l.i
