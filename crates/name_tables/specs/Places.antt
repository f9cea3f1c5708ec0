-- First places of names.
use Rattle.std.specs.Prelude.{◌≡◌, ℕ, ◌+◌, if◌then◌else◌, List, [], ◌∷◌, Option, Some, None}
use Rattle.std.specs.Str.{bytes_eq}
use Rattle.std.specs.Map.{lookup}
use Rattle.c_tree.specs.declared.program.CVariable.{CVariable}
use Rattle.c_tree.specs.declared.program.CPrototype.{CPrototype}
use Rattle.c_tree.specs.declared.program.CFunction.{CFunction}
use Rattle.c_tree.specs.declared.program.CDeclaration.{CDeclaration}
use Rattle.c_tree.specs.declared.program.CDeclaration.TheVariants as d
use Rattle.c_meaning.specs.Cells.{Name}
use Rattle.c_meaning.specs.Answer.{or_else}
use Rattle.name_tables.specs.declared.places.Places.{Places}

-- the place that a table has for a name
abbrev pub place_in : Places → Name → Option ℕ
place_in t x = lookup (bytes_eq x) t.entries.entries

-- this place, where the names are the same
abbrev pub place_if : Name → Name → ℕ → Option ℕ
place_if x y place = if bytes_eq x y then Some place else None

-- the same, where there is a name
abbrev pub place_of : Name → Option Name → ℕ → Option ℕ
place_of x None place = None
place_of x (Some y) place = place_if x y place

-- the first place of a name in a row, counted from i
unfoldable pub first_from : ℕ → Name → List (Option Name) → Option ℕ
first_from i x [] = None
first_from i x (y ∷ rest) = or_else (place_of x y i) (first_from (i + 1) x rest)

-- the table has the first place of each name in a row
abbrev pub Holds : Places → List (Option Name) → Type 0
Holds t names = (x : Name) → place_in t x ≡ first_from 0 x names

abbrev pub variable_name : CVariable → Option Name
variable_name v = Some v.name

abbrev pub prototype_name : CPrototype → Option Name
prototype_name q = Some q.name

abbrev pub function_name : CFunction → Option Name
function_name f = Some f.name

abbrev pub struct_name : CDeclaration → Option Name
struct_name (d.Struct s) = Some s.name
struct_name (d.Typedef f) = None

abbrev pub typedef_name : CDeclaration → Option Name
typedef_name (d.Struct s) = None
typedef_name (d.Typedef f) = Some f.name
