-- What places and expressions give, by what a view shows of the state.
use Rattle.std.specs.Prelude.{ℕ, Bool, false, List, [], ◌∷◌, ◌++◌, Option, Some, None, ℤ, pos, negsuc, nat_lt}
use Rattle.c_tree.specs.Tree as t
use Rattle.c_tree.specs.Tree.{ObjectType, Expr}
use Rattle.c_tree.specs.declared.operators.CCast.{CCast}
use Rattle.c_tree.specs.declared.operators.CCast.TheVariants as to
use Rattle.c_tree.specs.declared.program.CDeclaration.{CDeclaration}
use Rattle.c_meaning.specs.declared.StuckKind.TheVariants as k
use Rattle.c_meaning.specs.Cells.{Name, Cell, Empty, Null, Pointer, Function, Tree, Leaf, Block, Blocks, part}
use Rattle.c_meaning.specs.Answer.{Answer, Got, Bad, ◌>>=◌, or_bad, when}
use Rattle.c_meaning.specs.Types.{PlaceType, Plain, Array, Signature, Of, AnyPointer, Routine, Step, members_of, member_from, part_type, type_eq, points_to_object}
use Rattle.c_meaning.specs.Values.{Value, Typed, int, word, value_of, leaf, as_int, joined, unary, int_of_cell, word_of_cell}

-- where a place begins: at a variable, or in a block that a pointer gave
pub data Root : Type 0 where
  Named : (name : Name) → Root
  At : (block : ℕ) → Root

-- a place: a part of a variable or a block, with its type
pub record Site : Type 0 where
  pub root : Root
  pub path : List ℕ
  pub of : PlaceType

-- what evaluation sees of a state
pub record View : Type 0 where
  pub declared : List CDeclaration
  -- the signature of a function that is declared here
  pub function : Name → Option Signature
  -- the number of a variable's block, and the block
  pub number : Name → Option ℕ
  pub named : Name → Option Block
  -- a block by its number
  pub block : ℕ → Option Block
  -- all blocks after a part of a variable, or of a block, has changed
  pub put_named : Name → List ℕ → Tree → Answer Blocks
  pub put_block : ℕ → List ℕ → Tree → Answer Blocks

-- ---- steps into a place

-- the member with a name
unfoldable pub member : List CDeclaration → Name → PlaceType → Answer Step
member ds n (Plain (t.Struct s)) = or_bad k.UnknownName (members_of s ds) >>= (λ members. or_bad k.UnknownName (member_from 0 n members))
member ds n _ = Bad k.Mismatch

-- the element with a number
unfoldable pub element : ℤ → PlaceType → Answer Step
element (pos i) (Array n of) = when (nat_lt i n) k.BadIndex (Got (record { child = i; of = Plain of }))
element (negsuc i) (Array n of) = Bad k.BadIndex
element i (Plain of) = Bad k.Mismatch

-- one step into a place
unfoldable pub onward : Site → Step → Site
onward at step = record { root = at.root; path = at.path ++ step.child ∷ []; of = step.of }

-- ---- reading

-- the block in which a place is
unfoldable pub root_block : View → Root → Answer Block
root_block v (Named x) = or_bad k.UnknownName (v.named x)
root_block v (At n) = or_bad k.GoneUse (v.block n)

-- the number of that block
unfoldable pub root_number : View → Root → Answer ℕ
root_number v (Named x) = or_bad k.UnknownName (v.number x)
root_number v (At n) = Got n

-- a scalar that is read is not empty, and a pointer's block is there
unfoldable pub read_cell : View → ObjectType → Cell → Answer Value
read_cell v of Empty = Bad k.Indeterminate
read_cell v of (Pointer n path) = or_bad k.GoneUse (v.block n) >>= (λ block. Got (value_of of (Leaf (Pointer n path))))
read_cell v of c = Got (value_of of (Leaf c))

-- a struct is taken as it is, and none of its cells counts as read
unfoldable pub read_tree : View → ObjectType → Tree → Answer Value
read_tree v (t.Struct s) tree = Got (value_of (t.Struct s) tree)
read_tree v of tree = leaf tree >>= read_cell v of

-- a whole array is not read
unfoldable pub read_as : View → PlaceType → Tree → Answer Value
read_as v (Plain of) tree = read_tree v of tree
read_as v (Array n of) tree = Bad k.Mismatch

-- the value at a place
unfoldable pub load : View → Site → Answer Value
load v at = root_block v at.root >>= (λ block. or_bad k.Mismatch (part at.path block.tree) >>= read_as v at.of)

-- ---- pointers

-- the target of a pointer to a type
unfoldable pub follow_cell : View → ObjectType → Cell → Answer Site
follow_cell v of (Pointer n path) = or_bad k.GoneUse (v.block n) >>= (λ block. Got (record { root = At n; path = path; of = Plain of }))
follow_cell v of Null = Bad k.NullUse
follow_cell v of _ = Bad k.Mismatch

-- the target of a value: `void *` and pointers to functions have none
unfoldable pub follow : View → Value → Answer Site
follow v (Typed (Of (t.Pointer of)) tree) = leaf tree >>= follow_cell v of
follow v (Typed AnyPointer tree) = Bad k.NullUse
follow v _ = Bad k.Mismatch

-- a pointer to a part of a block; there are none to a whole array
unfoldable pub pointer_to : PlaceType → List ℕ → ℕ → Answer Value
pointer_to (Plain of) path n = Got (Typed (Of (t.Pointer of)) (Leaf (Pointer n path)))
pointer_to (Array length of) path n = Bad k.Mismatch

-- `&` and a place
unfoldable pub address : View → Site → Answer Value
address v at = root_number v at.root >>= pointer_to at.of at.path

-- ---- casts

-- the same pointer as another type
unfoldable pub retyped : ObjectType → Cell → Answer Value
retyped of (Pointer n path) = Got (Typed (Of of) (Leaf (Pointer n path)))
retyped of Null = Got (Typed (Of of) (Leaf Null))
retyped of _ = Bad k.Mismatch

-- whether a place is there, and of the type
unfoldable pub is_plain : ObjectType → Option PlaceType → Bool
is_plain of (Some (Plain of')) = type_eq of of'
is_plain of _ = false

-- whether the part at a path of a block has the type
unfoldable pub holds_type : List CDeclaration → ObjectType → List ℕ → Block → Bool
holds_type ds of path block = is_plain of (part_type ds path (Some (Plain block.of)))

-- a pointer to a struct: the block says whether there is one
unfoldable pub struct_pointer : View → Name → Cell → Answer Value
struct_pointer v s (Pointer n path) = or_bad k.GoneUse (v.block n) >>= (λ block. when (holds_type v.declared (t.Struct s) path block) k.Mismatch (retyped (t.Pointer (t.Struct s)) (Pointer n path)))
struct_pointer v s c = retyped (t.Pointer (t.Struct s)) c

-- a cast to a number takes a number, and a cast to a pointer a pointer to an object
unfoldable pub cast : View → CCast → Value → Answer Value
cast v to.Int (Typed of tree) = leaf tree >>= int_of_cell
cast v to.Word (Typed of tree) = leaf tree >>= word_of_cell
cast v to.VoidPointer (Typed of tree) = when (points_to_object of) k.Mismatch (leaf tree >>= retyped t.VoidPointer)
cast v (to.StructPointer s) (Typed of tree) = when (points_to_object of) k.Mismatch (leaf tree >>= struct_pointer v s)

-- ---- names

-- the name of a function is a pointer to it
unfoldable pub function_value : Name → Option Signature → Answer Value
function_value x (Some s) = Got (Typed (Routine s) (Leaf (Function x)))
function_value x None = Bad k.UnknownName

-- a name is a variable, or else a function
unfoldable pub name_value : View → Name → Option Block → Answer Value
name_value v x (Some block) = read_tree v block.of block.tree
name_value v x None = function_value x (v.function x)

-- the name of a function is no place
unfoldable pub no_variable : Option Signature → Answer Site
no_variable (Some s) = Bad k.Mismatch
no_variable None = Bad k.UnknownName

-- the place that a name names
unfoldable pub variable : View → Name → Option Block → Answer Site
variable v x (Some block) = Got (record { root = Named x; path = []; of = Plain block.of })
variable v x None = no_variable (v.function x)

-- what is read at a place that was evaluated
unfoldable pub read_place : View → t.Place → Answer Site → Answer Value
read_place v (t.Variable x) site = name_value v x (v.named x)
read_place v _ site = site >>= load v

-- ---- places and expressions

unfoldable mutual
  -- the value of an expression
  pub value : View → Expr → Answer Value
  value v (t.Read at) = read_place v at (place v at)
  value v (t.Number n) = Got (int (pos n))
  value v (t.WordNumber n) = Got (word n)
  value v t.Null = Got (Typed AnyPointer (Leaf Null))
  value v (t.Address at) = place v at >>= address v
  value v (t.Unary op a) = value v a >>= unary op
  value v (t.Binary op a b) = value v a >>= (λ x. joined v.declared op x (value v b))
  value v (t.Cast of a) = value v a >>= cast v of

  -- the place that a place expression names
  pub place : View → t.Place → Answer Site
  place v (t.Variable x) = variable v x (v.named x)
  place v (t.Pointee a) = value v a >>= follow v
  place v (t.Member at n) = place v at >>= (λ site. member v.declared n site.of >>= (λ step. Got (onward site step)))
  place v (t.Index at a) = place v at >>= (λ site. value v a >>= (λ x. as_int x >>= (λ i. element i site.of >>= (λ step. Got (onward site step)))))

-- the values of arguments, from left to right
unfoldable pub values : View → List Expr → Answer (List Value)
values v [] = Got []
values v (a ∷ rest) = value v a >>= (λ x. values v rest >>= (λ xs. Got (x ∷ xs)))
