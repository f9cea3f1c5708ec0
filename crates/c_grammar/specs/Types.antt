-- The types that are declared above a place, and the number of cells of a type.
use Rattle.std.specs.Prelude.{ℕ, ◌*◌, true, false, List, [], ◌∷◌, ◌++◌, map}
use Rattle.std.specs.List.{fold, sum_by}
use Rattle.std.specs.Option.{unwrap_or}
use Rattle.std.specs.Str.{bytes_eq}
use Rattle.c_tree.specs.Tree.{ObjectType, Struct}
use Rattle.c_tree.specs.declared.program.CMember.{CMember}
use Rattle.c_tree.specs.declared.program.CStruct.{CStruct}
use Rattle.c_tree.specs.declared.program.CDeclaration.{CDeclaration}
use Rattle.c_tree.specs.declared.program.CDeclaration.TheVariants as declared
use Rattle.c_tree.specs.declared.program.CProgram.{CProgram}

-- what was forwarded and declared, the latest declaration first
pub record Seen : Type 0 where
  pub forwards : List (List ℕ)
  pub structs : List CStruct
  pub typedefs : List (List ℕ)

abbrev pub see : Seen → CDeclaration → Seen
see seen (declared.Typedef t) = record seen { typedefs = t.name ∷ seen.typedefs }
see seen (declared.Struct s) = record seen { structs = s ∷ seen.structs }

abbrev pub seen_first : CProgram → Seen
seen_first c = record { forwards = c.forwards; structs = []; typedefs = [] }

-- after the declarations of types
abbrev pub seen_last : CProgram → Seen
seen_last c = fold see (seen_first c) c.declarations

-- The names that a type may have: of structs by value, of structs behind a pointer, and of typedefs.
pub record Known : Type 0 where
  pub whole : List (List ℕ)
  pub pointed : List (List ℕ)
  pub typedefs : List (List ℕ)

-- a struct is declared above, or behind a pointer at least forwarded above
abbrev pub known : Seen → Known
known seen = let whole = map (λ (s : CStruct). s.name) seen.structs in record { whole = whole; pointed = whole ++ seen.forwards; typedefs = seen.typedefs }

-- in a typedef it is enough that a struct was forwarded
abbrev pub known_in_typedef : Seen → Known
known_in_typedef seen = let k = known seen in record k { whole = k.pointed }

-- a struct may hold a pointer to itself
abbrev pub known_in_struct : List ℕ → Seen → Known
known_in_struct name seen = let k = known seen in record k { pointed = name ∷ k.pointed }

-- ---- cells

-- one cell for each whole number and pointer, and for a struct what its name gives
abbrev pub cells_by : (List ℕ → ℕ) → ObjectType → ℕ
cells_by named (Struct n) = named n
cells_by named _ = 1

-- as many times the cells of its type as its length says
abbrev pub member_cells : (List ℕ → ℕ) → CMember → ℕ
member_cells named m = unwrap_or m.length 1 * cells_by named m.of

-- The cells of the struct of this name, the latest of the list that has it. One that is not declared counts as one cell.
abbrev pub named_cells : List CStruct → List ℕ → ℕ
named_cells [] name = 1
named_cells (s ∷ earlier) name = elim (bytes_eq s.name name) [ true ↦ sum_by (member_cells (named_cells earlier)) s.members | false ↦ named_cells earlier name ]

-- the cells of a type, where these structs are declared above
abbrev pub type_cells : List CStruct → ObjectType → ℕ
type_cells structs of = cells_by (named_cells structs) of

-- the cells of a struct that is declared below these
abbrev pub struct_cells : List CStruct → CStruct → ℕ
struct_cells structs s = sum_by (member_cells (named_cells structs)) s.members
