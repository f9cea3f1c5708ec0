use Rattle.name_tables.specs.Places.{struct_name}
use Rattle.name_tables.proofs.Adding.{Noted}
use Rattle.name_tables.proofs.tables.places_of_structs.Given as goal

abbrev pub invariant-loop-i : goal.invariant-loop-i
invariant-loop-i l = Noted struct_name l.fn.declared l.places l.i
