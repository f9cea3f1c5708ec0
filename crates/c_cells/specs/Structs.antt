-- The last declarations of structs, by name.
use Rattle.std.specs.Prelude.{◌≡◌, ℕ, zero, suc, Bool, false, if◌then◌else◌, List, length, Option, Some, None, slice_get}
use Rattle.std.specs.Str.{bytes_eq}
use Rattle.std.specs.Map.{lookup}
use Rattle.c_tree.specs.declared.program.CStruct.{CStruct}
use Rattle.c_tree.specs.declared.program.CDeclaration.{CDeclaration}
use Rattle.c_tree.specs.declared.program.CDeclaration.TheVariants as d
use Rattle.c_meaning.specs.Cells.{Name}
use Rattle.c_cells.specs.declared.structs.StructPlaces.{StructPlaces}

-- whether it is there and a struct with this name
abbrev pub is_struct : Name → Option CDeclaration → Bool
is_struct x None = false
is_struct x (Some (d.Typedef f)) = false
is_struct x (Some (d.Struct s)) = bytes_eq x s.name

-- the last place below k of a struct with this name
unfoldable pub last_struct : List CDeclaration → Name → ℕ → Option ℕ
last_struct declared x zero = None
last_struct declared x (suc k) = if is_struct x (slice_get declared k) then Some k else last_struct declared x k

-- the place that a table has for a name
abbrev pub latest_in : StructPlaces → Name → Option ℕ
latest_in t x = lookup (bytes_eq x) t.latest.entries

-- the same for the name of a declaration, where that is of a struct
abbrev pub latest_of : StructPlaces → CDeclaration → Option ℕ
latest_of t (d.Typedef f) = None
latest_of t (d.Struct s) = latest_in t s.name

-- the table has the last place of each name, and for the place of each struct the last one below it with the same name
pub record HoldsStructs (declared : List CDeclaration) (t : StructPlaces) : Type 0 where
  pub latest : (x : Name) → latest_in t x ≡ last_struct declared x (length declared)
  pub earlier : (p : ℕ) (s : CStruct) → slice_get declared p ≡ Some (d.Struct s) → slice_get t.earlier.items p ≡ Some (last_struct declared s.name p)
  pub counted : length t.earlier.items ≡ length declared
