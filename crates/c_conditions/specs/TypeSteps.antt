-- Steps over types.
use Rattle.std.specs.Prelude.{ℕ, List}
use Rattle.std.specs.Option.{is_some}
use Rattle.c_grammar.specs.declared.fault.CTextKind.TheVariants.{BadType}
use Rattle.c_tree.specs.Tree.{ObjectType, Int, Word, Byte, Struct, Named, VoidPointer, Pointer}
use Rattle.c_conditions.specs.Steps.{Step, ◌>>◌, pass, demand}

abbrev pub whole_struct : List ℕ → Step
whole_struct name = pass 1 >> (λ w. demand (is_some (w.structs name)) BadType w) >> pass 1

abbrev pub pointed_struct : List ℕ → Step
pointed_struct name = pass 1 >> (λ w. demand (w.pointed name) BadType w) >> pass 1

abbrev pub typedef_name : List ℕ → Step
typedef_name name = (λ w. demand (w.typedefs name) BadType w) >> pass 1

-- the type behind a pointer
unfoldable pub pointed_type : ObjectType → Step
pointed_type Int = pass 1
pointed_type Word = pass 1
pointed_type Byte = pass 2
pointed_type VoidPointer = pass 2
pointed_type (Struct name) = pointed_struct name
pointed_type (Named name) = typedef_name name
pointed_type (Pointer of) = pointed_type of >> pass 1

unfoldable pub type_of : ObjectType → Step
type_of (Struct name) = whole_struct name
type_of Int = pointed_type Int
type_of Word = pointed_type Word
type_of Byte = pointed_type Byte
type_of VoidPointer = pointed_type VoidPointer
type_of (Named name) = pointed_type (Named name)
type_of (Pointer of) = pointed_type (Pointer of)
