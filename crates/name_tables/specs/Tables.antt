-- The tables of a program.
use Rattle.std.specs.Prelude.{map}
use Rattle.c_tree.specs.declared.program.CProgram.{CProgram}
use Rattle.name_tables.specs.Places.{Holds, variable_name, prototype_name, function_name, struct_name, typedef_name}
use Rattle.name_tables.specs.declared.tables.Tables.{Tables}

-- they have the first places of the names in the program's lists
pub record Fits (c : CProgram) (t : Tables) : Type 0 where
  pub globals : Holds t.globals (map variable_name c.globals)
  pub prototypes : Holds t.prototypes (map prototype_name c.prototypes)
  pub functions : Holds t.functions (map function_name c.functions)
  pub structs : Holds t.structs (map struct_name c.declarations)
  pub typedefs : Holds t.typedefs (map typedef_name c.declarations)
