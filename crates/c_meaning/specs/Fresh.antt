-- The trees with which blocks begin: zero for globals, empty for locals and `malloc`.
use Rattle.std.specs.Prelude.{ℕ, zero, suc, Bool, true, false, if◌then◌else◌, List, [], ◌∷◌, reverse, Option, Some, None, pos}
use Rattle.std.specs.Str.{bytes_eq}
use Rattle.c_tree.specs.Tree as t
use Rattle.c_tree.specs.Tree.{ObjectType}
use Rattle.c_tree.specs.declared.program.CMember.{CMember}
use Rattle.c_tree.specs.declared.program.CVariable.{CVariable}
use Rattle.c_tree.specs.declared.program.CDeclaration.{CDeclaration}
use Rattle.c_tree.specs.declared.program.CDeclaration.TheVariants as d
use Rattle.c_meaning.specs.Cells.{Name, Empty, Int, Word, Byte, Null, Tree, Leaf, Fork, End, Block, Blocks}

-- the tree of a type, by the trees of the structs
unfoldable pub object_tree : (zeroed : Bool) → (Name → Tree) → ObjectType → Tree
object_tree zeroed structs t.Int = Leaf (if zeroed then Int (pos 0) else Empty)
object_tree zeroed structs t.Word = Leaf (if zeroed then Word 0 else Empty)
object_tree zeroed structs t.Byte = Leaf (if zeroed then Byte 0 else Empty)
object_tree zeroed structs (t.Struct n) = structs n
object_tree zeroed structs _ = Leaf (if zeroed then Null else Empty)

-- so many equal children
unfoldable pub copies : ℕ → Tree → Tree
copies zero a = End
copies (suc n) a = Fork a (copies n a)

-- a member is of its type, or an array of it
unfoldable pub member_tree : Option ℕ → Tree → Tree
member_tree None a = a
member_tree (Some n) a = copies n a

-- a struct is the list of its members
unfoldable pub members_tree : (zeroed : Bool) → (Name → Tree) → List CMember → Tree
members_tree zeroed structs [] = End
members_tree zeroed structs (q ∷ rest) = Fork (member_tree q.length (object_tree zeroed structs q.of)) (members_tree zeroed structs rest)

-- the tree of a struct, by the declarations from the last one upward: its members are declared above it
unfoldable pub struct_tree : (zeroed : Bool) → List CDeclaration → Name → Tree
struct_tree zeroed [] n = End
struct_tree zeroed (d.Typedef f ∷ above) n = struct_tree zeroed above n
struct_tree zeroed (d.Struct s ∷ above) n = elim (bytes_eq n s.name) [ true ↦ members_tree zeroed (struct_tree zeroed above) s.members | false ↦ struct_tree zeroed above n ]

-- the tree with which a block of a type begins
unfoldable pub fresh : (zeroed : Bool) → List CDeclaration → ObjectType → Tree
fresh zeroed declared of = object_tree zeroed (struct_tree zeroed (reverse declared)) of

-- the block of a variable
unfoldable pub fresh_block : (zeroed : Bool) → List CDeclaration → CVariable → Block
fresh_block zeroed declared x = record { of = x.of; tree = fresh zeroed declared x.of; heap = false }

-- the blocks of some variables, in order
unfoldable pub fresh_blocks : (zeroed : Bool) → List CDeclaration → List CVariable → Blocks
fresh_blocks zeroed declared [] = []
fresh_blocks zeroed declared (x ∷ rest) = Some (fresh_block zeroed declared x) ∷ fresh_blocks zeroed declared rest
