-- What the memory of a C program holds: cells, trees of them, and numbered blocks.
use Rattle.std.specs.Prelude.{ℕ, zero, suc, Bool, List, [], ◌∷◌, Option, Some, None, ℤ, slice_get}
use Rattle.c_tree.specs.Tree.{ObjectType}

-- the bytes of a name
abbrev pub Name : Type 0
Name = List ℕ

-- what a scalar holds
pub data Cell : Type 0 where
  Empty : Cell
  Int : (value : ℤ) → Cell
  Word : (value : ℕ) → Cell
  Byte : (value : ℕ) → Cell
  Null : Cell
  -- a part of a block: which child to take at each step from the whole block
  Pointer : (block : ℕ) (path : List ℕ) → Cell
  Function : (name : Name) → Cell

-- a scalar, or the members of a struct or elements of an array: each child, then those after it
pub data Tree : Type 0 where
  Leaf : (cell : Cell) → Tree
  Fork : (child rest : Tree) → Tree
  End : Tree

-- a variable, or what a `malloc` made: it keeps the type with which it was made
pub record Block : Type 0 where
  pub of : ObjectType
  pub tree : Tree
  -- whether `malloc` made it
  pub heap : Bool

-- the blocks by their numbers; None: the block is gone
abbrev pub Blocks : Type 0
Blocks = List (Option Block)

-- what an option of an option holds
unfoldable pub joined_option : {A : Type 0} → Option (Option A) → Option A
joined_option None = None
joined_option (Some o) = o

-- the block with a number: None where it is gone, or was not made yet
unfoldable pub block_at : Blocks → ℕ → Option Block
block_at blocks n = joined_option (slice_get blocks n)

-- ---- the parts of a tree

-- the child at a place
unfoldable pub child : Tree → ℕ → Option Tree
child (Leaf c) n = None
child End n = None
child (Fork a rest) zero = Some a
child (Fork a rest) (suc n) = child rest n

-- what is done with a part, where there is one
unfoldable pub of_part : Option Tree → (Tree → Option Tree) → Option Tree
of_part None f = None
of_part (Some a) f = f a

-- the part at a path
unfoldable pub part : List ℕ → Tree → Option Tree
part [] a = Some a
part (i ∷ path) a = of_part (child a i) (part path)

-- the same tree with one child changed; nothing changes where there is no such child
unfoldable pub with_child : Tree → ℕ → (Tree → Tree) → Tree
with_child (Leaf c) n f = Leaf c
with_child End n f = End
with_child (Fork a rest) zero f = Fork (f a) rest
with_child (Fork a rest) (suc n) f = Fork a (with_child rest n f)

-- the same tree with another part at a path
unfoldable pub with_part : List ℕ → Tree → Tree → Tree
with_part [] new a = new
with_part (i ∷ path) new a = with_child a i (with_part path new)
