-- Steps over variables, functions and programs.
use Rattle.std.specs.Prelude.{ℕ, not, List, [], ◌∷◌, Option, Some, None, Ok}
use Rattle.c_grammar.specs.declared.fault.CTextKind.TheVariants.{DoubleName}
use Rattle.c_tree.specs.Tree.{ObjectType, Body, body_of}
use Rattle.c_tree.specs.declared.program.CVariable.{CVariable}
use Rattle.c_tree.specs.declared.program.CPrototype.{CPrototype}
use Rattle.c_tree.specs.declared.program.CFunction.{CFunction}
use Rattle.c_tree.specs.declared.program.CMain.{CMain}
use Rattle.c_tree.specs.declared.program.CProgram.{CProgram}
use Rattle.c_conditions.specs.Names.{with_name}
use Rattle.c_conditions.specs.Steps.{Step, ◌>>◌, each, pass, demand, inner_name, forget}
use Rattle.c_conditions.specs.TypeSteps.{type_of}
use Rattle.c_conditions.specs.StatementSteps.{block}
use Rattle.c_conditions.specs.DeclarationSteps.{forward, declaration}

-- the name of a global or a function
abbrev pub outer_name : List ℕ → Step
outer_name name w = demand (not (w.names name)) DoubleName w

abbrev pub add_name : List ℕ → Step
add_name name w = Ok (record w { names = with_name name w.names })

abbrev pub variable : CVariable → Step
variable v = type_of v.of >> inner_name v.name

-- a comma and a parameter
abbrev pub next_parameter : CVariable → Step
next_parameter v = pass 1 >> variable v

abbrev pub parameters : List CVariable → Step
parameters [] = pass 1
parameters (v ∷ more) = variable v >> each next_parameter more

abbrev pub local : CVariable → Step
local v = variable v >> pass 1

-- the locals and statements between the braces of a function
abbrev pub inner_block : List CVariable → Body → Step
inner_block locals body = each local locals >> block body

abbrev pub global : CVariable → Step
global v = type_of v.of >> outer_name v.name >> add_name v.name >> pass 2

abbrev pub returned_type : Option ObjectType → Step
returned_type None = pass 1
returned_type (Some of) = type_of of

abbrev pub heading : Option ObjectType → List ℕ → List CVariable → Step
heading returned name all = returned_type returned >> outer_name name >> pass 2 >> parameters all >> pass 1

abbrev pub prototype : CPrototype → Step
prototype p = heading p.result p.name p.parameters >> forget >> pass 1

abbrev pub function : CFunction → Step
function f = heading f.result f.name f.parameters >> pass 1 >> inner_block f.locals (body_of f.body) >> add_name f.name >> forget >> pass 1

abbrev pub main : CMain → Step
main m = pass 6 >> inner_block m.locals (body_of m.body) >> pass 1

abbrev pub program : CProgram → Step
program c = each forward c.forwards >> (each declaration c.declarations >> (each global c.globals >> (each prototype c.prototypes >> (each function c.functions >> main c.main))))
