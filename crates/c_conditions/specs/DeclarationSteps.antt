-- Steps over declarations of types.
use Rattle.std.specs.Prelude.{ℕ, nat_le, not, List, [], ◌∷◌, Option, Some, None, Ok}
use Rattle.std.specs.Option.{is_none}
use Rattle.std.specs.Map.{update}
use Rattle.std.specs.Str.{bytes_eq}
use Rattle.c_grammar.specs.declared.fault.CTextKind.TheVariants.{BadType, DoubleName}
use Rattle.c_tree.specs.Tree.{ObjectType, Int, Word, Byte, Struct, Named, VoidPointer, Pointer}
use Rattle.c_tree.specs.declared.program.CMember.{CMember}
use Rattle.c_tree.specs.declared.program.CStruct.{CStruct}
use Rattle.c_tree.specs.declared.program.CTypedef.{CTypedef}
use Rattle.c_tree.specs.declared.program.CDeclaration.{CDeclaration}
use Rattle.c_tree.specs.declared.program.CDeclaration.TheVariants as declared
use Rattle.c_conditions.specs.Names.{with_name}
use Rattle.c_conditions.specs.Cells.{member_cells, struct_cells, is_length}
use Rattle.c_conditions.specs.Steps.{Step, ◌>>◌, each, pass, demand, inner_name, forget}
use Rattle.c_conditions.specs.TypeSteps.{pointed_struct, type_of}

abbrev pub forward : List ℕ → Step
forward name = pass 1 >> (λ w. demand (not (w.pointed name)) DoubleName w) >> (λ w. Ok (record w { pointed = with_name name w.pointed })) >> pass 2

-- ---- typedefs

-- a struct that is named by value may be forwarded only
abbrev pub typedef_type : ObjectType → Step
typedef_type (Struct name) = pointed_struct name
typedef_type Int = type_of Int
typedef_type Word = type_of Word
typedef_type Byte = type_of Byte
typedef_type VoidPointer = type_of VoidPointer
typedef_type (Named name) = type_of (Named name)
typedef_type (Pointer of) = type_of (Pointer of)

abbrev pub typedef_result : Option ObjectType → Step
typedef_result None = pass 1
typedef_result (Some of) = typedef_type of

-- a comma and a type
abbrev pub next_typedef_type : ObjectType → Step
next_typedef_type of = pass 1 >> typedef_type of

abbrev pub typedef_types : List ObjectType → Step
typedef_types [] = pass 1
typedef_types (of ∷ more) = typedef_type of >> each next_typedef_type more

-- up to the name
abbrev pub typedef_head : Option ObjectType → List ℕ → Step
typedef_head returned name = pass 1 >> typedef_result returned >> pass 2 >> (λ w. demand (not (w.typedefs name)) DoubleName w)

abbrev pub typedef : CTypedef → Step
typedef t = typedef_head t.result t.name >> pass 3 >> typedef_types t.parameters >> (λ w. Ok (record w { typedefs = with_name t.name w.typedefs })) >> (λ w. Ok (record w { names = with_name t.name w.names })) >> pass 2

-- ---- structs

-- `[`, the length and `]`
abbrev pub array : CMember → ℕ → Step
array m n = pass 1 >> demand (is_length n) BadType >> (λ w. demand (nat_le (member_cells w.structs m) 16777216) BadType w) >> pass 2

abbrev pub array_of : CMember → Option ℕ → Step
array_of m None w = Ok w
array_of m (Some n) w = array m n w

abbrev pub member_length : CMember → Step
member_length m = array_of m m.length

abbrev pub member : CMember → Step
member m = type_of m.of >> inner_name m.name >> member_length m >> pass 1

-- a struct with so many cells, up to its opening brace
abbrev pub struct_head : List ℕ → ℕ → Step
struct_head name cells = pass 1 >> (λ w. demand (is_none (w.structs name)) DoubleName w) >> demand (nat_le cells 16777216) BadType
    >> (λ w. Ok (record w { pointed = with_name name w.pointed })) >> pass 2

abbrev pub structure_with : ℕ → CStruct → Step
structure_with cells s = struct_head s.name cells >> each member s.members >> (λ w. Ok (record w { structs = update bytes_eq w.structs s.name (Some cells) })) >> forget >> pass 2

abbrev pub structure : CStruct → Step
structure s w = structure_with (struct_cells w.structs s.members) s w

abbrev pub declaration : CDeclaration → Step
declaration (declared.Typedef t) = typedef t
declaration (declared.Struct s) = structure s
