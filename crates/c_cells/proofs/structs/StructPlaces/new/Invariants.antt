use Rattle.std.proofs.Common.{take}
use Rattle.c_cells.specs.Structs.{HoldsStructs}
use Rattle.c_cells.proofs.structs.StructPlaces.new.Given as goal

abbrev pub invariant-loop-declaration : goal.invariant-loop-declaration
invariant-loop-declaration l = HoldsStructs (take l.declaration-index l.declared) l.places
