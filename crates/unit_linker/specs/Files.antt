-- Given files: their names and what they use.
use Rattle.std.specs.Prelude.{ℕ, suc, Bool, true, false, List, [], ◌∷◌, ◌++◌, map, filter, slice_get, ◌≡◌, Option, Some, None, is_some, is_none, if◌then◌else◌}
use Rattle.std.specs.List.{find, flat_map, filter_map}
use Rattle.std.specs.Map.{lookup}
use Rattle.std.specs.Str.{bytes_eq}
use Rattle.p2c_text.specs.declared.place.Span.{Span}
use Rattle.pascal_tree.specs.declared.names.Identifier.{Identifier}
use Rattle.pascal_tree.specs.declared.files.Uses.{Uses}
use Rattle.pascal_tree.specs.declared.files.SourceFile.{SourceFile}
use Rattle.pascal_tree.specs.declared.files.SourceFile.TheVariants.{Program, UnitText, Module}
use Rattle.unit_linker.specs.declared.graph.FileUses.{FileUses}

-- ---- a file

abbrev pub is_program : SourceFile → Bool
is_program (Program p) = true
is_program (UnitText u) = false
is_program (Module m) = false

-- a program is no unit
abbrev pub unit_name : SourceFile → Option (List ℕ)
unit_name (Program p) = None
unit_name (UnitText u) = Some u.name.name
unit_name (Module m) = Some m.name.name

abbrev pub span_of : SourceFile → Span
span_of (Program p) = p.span
span_of (UnitText u) = u.span
span_of (Module m) = m.span

abbrev pub uses_in : Option Uses → List Identifier
uses_in None = []
uses_in (Some uses) = uses.names

abbrev pub interface_uses : SourceFile → List Identifier
interface_uses (Program p) = uses_in p.uses
interface_uses (UnitText u) = uses_in u.interface_uses
interface_uses (Module m) = uses_in m.interface_uses

abbrev pub implementation_uses : SourceFile → List Identifier
implementation_uses (Program p) = []
implementation_uses (UnitText u) = uses_in u.implementation_uses
implementation_uses (Module m) = uses_in m.implementation_uses

-- ---- names of units

-- names of units with the places of the units among the files
abbrev pub Names : Type 0
Names = List (List ℕ × ℕ)

abbrev pub with_name : Option (List ℕ) → ℕ → Names → Names
with_name None place names = names
with_name (Some name) place names = (name, place) ∷ names

unfoldable pub named_from : ℕ → List SourceFile → Names
named_from place [] = []
named_from place (file ∷ files) = with_name (unit_name file) place (named_from (suc place) files)

unfoldable pub named : List SourceFile → Names
named files = named_from 0 files

abbrev pub place_of : Names → List ℕ → Option ℕ
place_of names name = lookup (bytes_eq name) names

abbrev pub is_known : Names → Option (List ℕ) → Bool
is_known names None = false
is_known names (Some name) = is_some (place_of names name)

unfoldable pub double_from : Names → ℕ → List SourceFile → Option SourceFile
double_from known place [] = None
double_from known place (file ∷ files) =
    if is_known known (unit_name file) then Some file else double_from (known ++ with_name (unit_name file) place []) (suc place) files

-- the first unit with the name of one before it
unfoldable pub double : List SourceFile → Option SourceFile
double files = double_from [] 0 files

-- ---- uses

-- all uses, by files and text
unfoldable pub all_uses : List SourceFile → List Identifier
all_uses files = flat_map (λ file. interface_uses file ++ implementation_uses file) files

unfoldable pub first_missing : Names → List Identifier → Option Identifier
first_missing names uses = find (λ name. is_none (place_of names name.name)) uses

-- the first use without a unit
unfoldable pub missing : List SourceFile → Option Identifier
missing files = first_missing (named files) (all_uses files)

-- the places of the units that are used
unfoldable pub places : Names → List Identifier → List ℕ
places names uses = filter_map (λ name. place_of names name.name) uses

unfoldable pub uses_of : Names → SourceFile → FileUses
uses_of names file = record { interface = places names (interface_uses file); implementation = places names (implementation_uses file) }

-- what each file uses
unfoldable pub graph_of : List SourceFile → List FileUses
graph_of files = map (uses_of (named files)) files

-- ---- programs

unfoldable pub programs : List SourceFile → List SourceFile
programs files = filter is_program files

-- the place of a program that was found, with one more file
unfoldable pub next_found : (program : Bool) → Option ℕ → (place : ℕ) → Option ℕ
next_found true found place = Some place
next_found false found place = found

-- the one program, at this place
pub record IsOneProgram (files : List SourceFile) (place : ℕ) : Type 0 where
  pub program : SourceFile
  pub there : slice_get files place ≡ Some program
  pub is : is_program program ≡ true
  pub one : programs files ≡ program ∷ []
