-- What is known of a program before it runs.
use Rattle.std.specs.Prelude.{◌≡◌, Bool, map}
use Rattle.std.specs.Option.{is_some}
use Rattle.c_tree.specs.declared.program.CFunction.{CFunction}
use Rattle.c_tree.specs.declared.program.CProgram.{CProgram}
use Rattle.c_meaning.specs.Entries.{number_at_end}
use Rattle.name_tables.specs.Tables.{Fits}
use Rattle.c_cells.specs.Structs.{HoldsStructs}
use Rattle.label_ways.specs.Ways.{Guides}
use Rattle.c_stepper.specs.Codes.{IsProgramCode}
use Rattle.c_stepper.specs.declared.guide.Guide.{Guide}

-- whether calls of the function are counted
abbrev pub is_counted : CFunction → Bool
is_counted f = is_some (number_at_end f.name)

-- it has the places of the program's names and structs, the ways to its labels, its code and whether calls are counted
pub record IsGuide (c : CProgram) (g : Guide) : Type 0 where
  pub names : Fits c g.names
  pub structs : HoldsStructs c.declarations g.structs
  pub labels : Guides c g.labels
  pub code : IsProgramCode c g.code
  pub counted : g.counted.items ≡ map is_counted c.functions
