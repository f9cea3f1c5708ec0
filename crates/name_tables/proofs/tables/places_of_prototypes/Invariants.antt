use Rattle.name_tables.specs.Places.{prototype_name}
use Rattle.name_tables.proofs.Adding.{Noted}
use Rattle.name_tables.proofs.tables.places_of_prototypes.Given as goal

abbrev pub invariant-loop-i : goal.invariant-loop-i
invariant-loop-i l = Noted prototype_name l.fn.prototypes l.places l.i
