-- Evaluation gives no pointer to a block that was not made yet.
use Rattle.std.proofs.Common.{◌≡◌, ℕ, zero, suc, ◌<◌, List, [], ◌∷◌, Bool, true, false, Option, Some, None, refl, subst}
use Rattle.std.specs.Prelude.{ℤ, pos, if◌then◌else◌}
use Rattle.c_tree.specs.Tree as t
use Rattle.c_tree.specs.Tree.{ObjectType, Expr}
use Rattle.c_tree.specs.declared.operators.CUnary.{CUnary}
use Rattle.c_tree.specs.declared.operators.CUnary.TheVariants as u
use Rattle.c_tree.specs.declared.operators.CBinary.{CBinary}
use Rattle.c_tree.specs.declared.operators.CBinary.TheVariants as b
use Rattle.c_tree.specs.declared.operators.CCast.{CCast}
use Rattle.c_tree.specs.declared.operators.CCast.TheVariants as to
use Rattle.c_tree.specs.declared.program.CDeclaration.{CDeclaration}
use Rattle.c_meaning.specs.Cells.{Name, Cell, Empty, Int, Word, Byte, Null, Pointer, Function, Tree, Leaf, Fork, End, Block, child, of_part, part}
use Rattle.c_meaning.specs.Answer.{Answer}
use Rattle.c_meaning.specs.Types.{PlaceType, Plain, Array, Signature, Of, AnyPointer, Routine, Step}
use Rattle.c_meaning.specs.Values.{Value, Typed, int, word, truth, value_of, leaf, exact, on_ints, on_words, divided, ordered, shifted, shift, truth_of, binary, joined, unary, int_of_cell, word_of_cell}
use Rattle.c_meaning.specs.Evaluate.{View, Root, Named, At, Site, onward, root_block, root_number, read_cell, read_tree, read_as, load, follow_cell, follow, pointer_to, address, retyped, struct_pointer, cast, function_value, name_value, no_variable, variable, read_place, value, place, values}
use Rattle.c_meaning.specs.StateOf.{CellBelow, TreeBelow}
use Rattle.c_meaning.proofs.Gives.{Gives, Ok, Not, bind, bind_given, if_when, if_there}

-- what a view shows
pub record Sees (n : ℕ) (v : View) : Type 0 where
  pub number : (x : Name) (m : ℕ) → v.number x ≡ Some m → m < n
  pub named : (x : Name) (b : Block) → v.named x ≡ Some b → TreeBelow n b.tree
  pub made : (m : ℕ) (b : Block) → v.block m ≡ Some b → m < n
  pub block : (m : ℕ) (b : Block) → v.block m ≡ Some b → TreeBelow n b.tree

abbrev pub ValueBelow : ℕ → Value → Type 0
ValueBelow n (Typed of tree) = TreeBelow n tree

abbrev pub RootBelow : ℕ → Root → Type 0
RootBelow n (Named x) = Unit {0}
RootBelow n (At m) = m < n

pub record SiteBelow (n : ℕ) (at : Site) : Type 0 where
  pub root : RootBelow n at.root

-- ---- parts

child_below : (n : ℕ) (a : Tree) (i : ℕ) (x : Tree) → TreeBelow n a → child a i ≡ Some x → TreeBelow n x
unfolding child
child_below n (Leaf c) i x h e = cc
child_below n End i x h e = cc
child_below n (Fork a rest) zero x h e = let same : a ≡ x = cc in subst (TreeBelow n) same h.0
child_below n (Fork a rest) (suc i) x h e = child_below n rest i x h.1 e

part_below : (n : ℕ) (path : List ℕ) (a x : Tree) → TreeBelow n a → part path a ≡ Some x → TreeBelow n x
unfolding part of_part
part_below n [] a x h e = let same : a ≡ x = cc in subst (TreeBelow n) same h
part_below n (i ∷ path) a x h e = by (λ y. part_below n path y x) (child a i) refl e where
  by : ((y : Tree) → TreeBelow n y → part path y ≡ Some x → TreeBelow n x) → (o : Option Tree) → child a i ≡ o → of_part o (part path) ≡ Some x → TreeBelow n x
  by r None c e = cc
  by r (Some y) c e = r y (child_below n a i y h c) e

-- ---- operators give numbers

truth_below : (n : ℕ) (q : Bool) → ValueBelow n (truth q)
unfolding truth int
truth_below n true = tt
truth_below n false = tt

exact_below : (n : ℕ) (z : ℤ) → Gives (ValueBelow n) (exact z)
unfolding exact int
exact_below n z = if_when _ _ _ (λ e. Ok _ tt)

on_ints_below : (n : ℕ) (f : ℤ → ℤ → Answer Value) (x y : Value) → ((p q : ℤ) → Gives (ValueBelow n) (f p q)) → Gives (ValueBelow n) (on_ints f x y)
unfolding on_ints
on_ints_below n f x y h = bind _ _ (λ p e. bind _ _ (λ q e. h p q))

ordered_below : (n : ℕ) (f : ℤ → ℤ → Bool) (x y : Value) → Gives (ValueBelow n) (ordered f x y)
unfolding ordered
ordered_below n f x y = on_ints_below n _ x y (λ p q. Ok _ (truth_below n (f p q)))

divided_below : (n : ℕ) (f : ℤ → ℤ → ℤ) (p q : ℤ) → Gives (ValueBelow n) (divided f p q)
unfolding divided
divided_below n f p q = if_when _ _ _ (λ e. exact_below n (f p q))

on_words_below : (n : ℕ) (f : ℕ → ℕ → ℕ) (x y : Value) → Gives (ValueBelow n) (on_words f x y)
unfolding on_words word
on_words_below n f x y = bind _ _ (λ p e. bind _ _ (λ q e. Ok _ tt))

shifted_below : (n : ℕ) (f : ℕ → ℕ → ℕ) (c : Cell) (y : Value) → Gives (ValueBelow n) (shifted f c y)
unfolding shifted word
shifted_below n f (Word a) y = bind _ _ (λ m e. Ok _ tt)
shifted_below n f (Int z) y = Not _
shifted_below n f Empty y = Not _
shifted_below n f (Byte m) y = Not _
shifted_below n f Null y = Not _
shifted_below n f (Pointer m path) y = Not _
shifted_below n f (Function x) y = Not _

shift_below : (n : ℕ) (f : ℕ → ℕ → ℕ) (x y : Value) → Gives (ValueBelow n) (shift f x y)
unfolding shift
shift_below n f (Typed of tree) y = bind _ _ (λ a e. shifted_below n f a y)

truth_of_below : (n : ℕ) (x : Value) → Gives (ValueBelow n) (truth_of x)
unfolding truth_of
truth_of_below n x = bind _ _ (λ z e. Ok _ (truth_below n _))

binary_below : (n : ℕ) (ds : List CDeclaration) (op : CBinary) (x y : Value) → Gives (ValueBelow n) (binary ds op x y)
unfolding binary
binary_below n ds b.Add x y = on_ints_below n _ x y (λ p q. exact_below n _)
binary_below n ds b.Subtract x y = on_ints_below n _ x y (λ p q. exact_below n _)
binary_below n ds b.Multiply x y = on_ints_below n _ x y (λ p q. exact_below n _)
binary_below n ds b.Divide x y = on_ints_below n _ x y (divided_below n _)
binary_below n ds b.Remainder x y = on_ints_below n _ x y (divided_below n _)
binary_below n ds b.Equal x y = bind _ _ (λ r e. Ok _ (truth_below n _))
binary_below n ds b.NotEqual x y = bind _ _ (λ r e. Ok _ (truth_below n _))
binary_below n ds b.Less x y = ordered_below n _ x y
binary_below n ds b.AtMost x y = ordered_below n _ x y
binary_below n ds b.Greater x y = ordered_below n _ x y
binary_below n ds b.AtLeast x y = ordered_below n _ x y
binary_below n ds b.And x y = truth_of_below n y
binary_below n ds b.Or x y = truth_of_below n y
binary_below n ds b.BitAnd x y = on_words_below n _ x y
binary_below n ds b.BitOr x y = on_words_below n _ x y
binary_below n ds b.BitXor x y = on_words_below n _ x y
binary_below n ds b.ShiftLeft x y = shift_below n _ x y
binary_below n ds b.ShiftRight x y = shift_below n _ x y

if_below : (n : ℕ) (q : Bool) (x y : Answer Value) → Gives (ValueBelow n) x → Gives (ValueBelow n) y → Gives (ValueBelow n) (if q then x else y)
if_below n true x y h g = h
if_below n false x y h g = g

joined_below : (n : ℕ) (ds : List CDeclaration) (op : CBinary) (x : Value) (y : Answer Value) → Gives (ValueBelow n) (joined ds op x y)
unfolding joined
joined_below n ds b.And x y = bind _ _ (λ z e. if_below n _ _ _ (Ok _ (truth_below n false)) (bind y _ (λ w e. binary_below n ds b.And x w)))
joined_below n ds b.Or x y = bind _ _ (λ z e. if_below n _ _ _ (bind y _ (λ w e. binary_below n ds b.Or x w)) (Ok _ (truth_below n true)))
joined_below n ds b.Add x y = bind y _ (λ w e. binary_below n ds b.Add x w)
joined_below n ds b.Subtract x y = bind y _ (λ w e. binary_below n ds b.Subtract x w)
joined_below n ds b.Multiply x y = bind y _ (λ w e. binary_below n ds b.Multiply x w)
joined_below n ds b.Divide x y = bind y _ (λ w e. binary_below n ds b.Divide x w)
joined_below n ds b.Remainder x y = bind y _ (λ w e. binary_below n ds b.Remainder x w)
joined_below n ds b.Equal x y = bind y _ (λ w e. binary_below n ds b.Equal x w)
joined_below n ds b.NotEqual x y = bind y _ (λ w e. binary_below n ds b.NotEqual x w)
joined_below n ds b.Less x y = bind y _ (λ w e. binary_below n ds b.Less x w)
joined_below n ds b.AtMost x y = bind y _ (λ w e. binary_below n ds b.AtMost x w)
joined_below n ds b.Greater x y = bind y _ (λ w e. binary_below n ds b.Greater x w)
joined_below n ds b.AtLeast x y = bind y _ (λ w e. binary_below n ds b.AtLeast x w)
joined_below n ds b.BitAnd x y = bind y _ (λ w e. binary_below n ds b.BitAnd x w)
joined_below n ds b.BitOr x y = bind y _ (λ w e. binary_below n ds b.BitOr x w)
joined_below n ds b.BitXor x y = bind y _ (λ w e. binary_below n ds b.BitXor x w)
joined_below n ds b.ShiftLeft x y = bind y _ (λ w e. binary_below n ds b.ShiftLeft x w)
joined_below n ds b.ShiftRight x y = bind y _ (λ w e. binary_below n ds b.ShiftRight x w)

unary_below : (n : ℕ) (op : CUnary) (x : Value) → Gives (ValueBelow n) (unary op x)
unfolding unary word
unary_below n u.Minus x = bind _ _ (λ z e. exact_below n _)
unary_below n u.Not x = bind _ _ (λ z e. Ok _ (truth_below n _))
unary_below n u.Complement x = bind _ _ (λ m e. Ok _ tt)

-- ---- cells of values

leaf_below : (n : ℕ) (a : Tree) → TreeBelow n a → Gives (CellBelow n) (leaf a)
unfolding leaf
leaf_below n (Leaf c) h = Ok c h
leaf_below n (Fork a rest) h = Not _
leaf_below n End h = Not _

retyped_below : (n : ℕ) (of : ObjectType) (c : Cell) → CellBelow n c → Gives (ValueBelow n) (retyped of c)
unfolding retyped
retyped_below n of (Pointer m path) h = Ok _ h
retyped_below n of Null h = Ok _ tt
retyped_below n of Empty h = Not _
retyped_below n of (Int z) h = Not _
retyped_below n of (Word m) h = Not _
retyped_below n of (Byte m) h = Not _
retyped_below n of (Function x) h = Not _

struct_pointer_below : (n : ℕ) (v : View) (s : Name) (c : Cell) → CellBelow n c → Gives (ValueBelow n) (struct_pointer v s c)
unfolding struct_pointer
struct_pointer_below n v s (Pointer m path) h = bind _ _ (λ block e. if_when _ _ _ (λ e. retyped_below n _ (Pointer m path) h))
struct_pointer_below n v s Null h = retyped_below n _ Null tt
struct_pointer_below n v s Empty h = retyped_below n _ Empty tt
struct_pointer_below n v s (Int z) h = retyped_below n _ (Int z) tt
struct_pointer_below n v s (Word m) h = retyped_below n _ (Word m) tt
struct_pointer_below n v s (Byte m) h = retyped_below n _ (Byte m) tt
struct_pointer_below n v s (Function x) h = retyped_below n _ (Function x) tt

int_of_cell_below : (n : ℕ) (c : Cell) → Gives (ValueBelow n) (int_of_cell c)
unfolding int_of_cell int
int_of_cell_below n (Int z) = Ok _ tt
int_of_cell_below n (Word m) = Ok _ tt
int_of_cell_below n Empty = Not _
int_of_cell_below n (Byte m) = Not _
int_of_cell_below n Null = Not _
int_of_cell_below n (Pointer m path) = Not _
int_of_cell_below n (Function x) = Not _

word_of_cell_below : (n : ℕ) (c : Cell) → Gives (ValueBelow n) (word_of_cell c)
unfolding word_of_cell word
word_of_cell_below n (Int z) = Ok _ tt
word_of_cell_below n (Word m) = Ok _ tt
word_of_cell_below n Empty = Not _
word_of_cell_below n (Byte m) = Not _
word_of_cell_below n Null = Not _
word_of_cell_below n (Pointer m path) = Not _
word_of_cell_below n (Function x) = Not _

cast_below : (n : ℕ) (v : View) (of : CCast) (x : Value) → ValueBelow n x → Gives (ValueBelow n) (cast v of x)
unfolding cast
cast_below n v to.Int (Typed of tree) h = bind _ _ (λ c e. int_of_cell_below n c)
cast_below n v to.Word (Typed of tree) h = bind _ _ (λ c e. word_of_cell_below n c)
cast_below n v to.VoidPointer (Typed of tree) h = if_when _ _ _ (λ e. bind_given _ _ (leaf_below n tree h) (λ c g. retyped_below n _ c g))
cast_below n v (to.StructPointer s) (Typed of tree) h = if_when _ _ _ (λ e. bind_given _ _ (leaf_below n tree h) (λ c g. struct_pointer_below n v s c g))

-- ---- reading

pub value_of_below : (n : ℕ) (of : ObjectType) (a : Tree) → TreeBelow n a → ValueBelow n (value_of of a)
unfolding value_of int
value_of_below n t.Byte (Leaf (Byte m)) h = tt
value_of_below n t.Byte (Leaf Empty) h = h
value_of_below n t.Byte (Leaf (Int z)) h = h
value_of_below n t.Byte (Leaf (Word m)) h = h
value_of_below n t.Byte (Leaf Null) h = h
value_of_below n t.Byte (Leaf (Pointer m path)) h = h
value_of_below n t.Byte (Leaf (Function x)) h = h
value_of_below n t.Byte (Fork a rest) h = h
value_of_below n t.Byte End h = h
value_of_below n t.Int a h = h
value_of_below n t.Word a h = h
value_of_below n (t.Struct s) a h = h
value_of_below n (t.Named s) a h = h
value_of_below n t.VoidPointer a h = h
value_of_below n (t.Pointer of) a h = h

read_cell_below : (n : ℕ) (v : View) (of : ObjectType) (c : Cell) → CellBelow n c → Gives (ValueBelow n) (read_cell v of c)
unfolding read_cell
read_cell_below n v of Empty h = Not _
read_cell_below n v of (Pointer m path) h = bind _ _ (λ block e. Ok _ (value_of_below n of (Leaf (Pointer m path)) h))
read_cell_below n v of (Int z) h = Ok _ (value_of_below n of (Leaf (Int z)) tt)
read_cell_below n v of (Word m) h = Ok _ (value_of_below n of (Leaf (Word m)) tt)
read_cell_below n v of (Byte m) h = Ok _ (value_of_below n of (Leaf (Byte m)) tt)
read_cell_below n v of Null h = Ok _ (value_of_below n of (Leaf Null) tt)
read_cell_below n v of (Function x) h = Ok _ (value_of_below n of (Leaf (Function x)) tt)

read_tree_below : (n : ℕ) (v : View) (of : ObjectType) (a : Tree) → TreeBelow n a → Gives (ValueBelow n) (read_tree v of a)
unfolding read_tree
read_tree_below n v (t.Struct s) a h = Ok _ (value_of_below n (t.Struct s) a h)
read_tree_below n v t.Int a h = bind_given _ _ (leaf_below n a h) (λ c g. read_cell_below n v t.Int c g)
read_tree_below n v t.Word a h = bind_given _ _ (leaf_below n a h) (λ c g. read_cell_below n v t.Word c g)
read_tree_below n v t.Byte a h = bind_given _ _ (leaf_below n a h) (λ c g. read_cell_below n v t.Byte c g)
read_tree_below n v (t.Named s) a h = bind_given _ _ (leaf_below n a h) (λ c g. read_cell_below n v (t.Named s) c g)
read_tree_below n v t.VoidPointer a h = bind_given _ _ (leaf_below n a h) (λ c g. read_cell_below n v t.VoidPointer c g)
read_tree_below n v (t.Pointer of) a h = bind_given _ _ (leaf_below n a h) (λ c g. read_cell_below n v (t.Pointer of) c g)

read_as_below : (n : ℕ) (v : View) (of : PlaceType) (a : Tree) → TreeBelow n a → Gives (ValueBelow n) (read_as v of a)
unfolding read_as
read_as_below n v (Plain of) a h = read_tree_below n v of a h
read_as_below n v (Array m of) a h = Not _

module _ (n : ℕ) (v : View) (s : Sees n v) where
  root_block_below : (root : Root) → Gives (λ b. TreeBelow n b.tree) (root_block v root)
  unfolding root_block
  root_block_below (Named x) = if_there _ (v.named x) (λ b e. s.named x b e)
  root_block_below (At m) = if_there _ (v.block m) (λ b e. s.block m b e)

  pub root_number_below : (root : Root) → RootBelow n root → Gives (λ m. m < n) (root_number v root)
  unfolding root_number
  root_number_below (Named x) h = if_there _ (v.number x) (λ m e. s.number x m e)
  root_number_below (At m) h = Ok _ h

  load_below : (at : Site) → Gives (ValueBelow n) (load v at)
  unfolding load
  load_below at = bind_given _ _ (root_block_below at.root) (λ b h. bind_given _ _ (if_there _ (part at.path b.tree) (λ a e. part_below n at.path b.tree a h e)) (λ a h. read_as_below n v at.of a h))

  follow_cell_below : (of : ObjectType) (c : Cell) → Gives (SiteBelow n) (follow_cell v of c)
  unfolding follow_cell
  follow_cell_below of (Pointer m path) = bind_given _ _ (if_there {P = λ b. m < n} _ (v.block m) (λ b e. s.made m b e)) (λ b h. Ok _ (record { root = h }))
  follow_cell_below of Null = Not _
  follow_cell_below of Empty = Not _
  follow_cell_below of (Int z) = Not _
  follow_cell_below of (Word m) = Not _
  follow_cell_below of (Byte m) = Not _
  follow_cell_below of (Function x) = Not _

  follow_below : (x : Value) → Gives (SiteBelow n) (follow v x)
  unfolding follow
  follow_below (Typed (Of (t.Pointer of)) tree) = bind _ _ (λ c e. follow_cell_below of c)
  follow_below (Typed AnyPointer tree) = Not _
  follow_below (Typed (Routine r) tree) = Not _
  follow_below (Typed (Of t.Int) tree) = Not _
  follow_below (Typed (Of t.Word) tree) = Not _
  follow_below (Typed (Of t.Byte) tree) = Not _
  follow_below (Typed (Of (t.Struct x)) tree) = Not _
  follow_below (Typed (Of (t.Named x)) tree) = Not _
  follow_below (Typed (Of t.VoidPointer) tree) = Not _

  pointer_below : (of : PlaceType) (path : List ℕ) (m : ℕ) → m < n → Gives (ValueBelow n) (pointer_to of path m)
  unfolding pointer_to
  pointer_below (Plain of) path m h = Ok _ h
  pointer_below (Array l of) path m h = Not _

  address_below : (at : Site) → SiteBelow n at → Gives (ValueBelow n) (address v at)
  unfolding address
  address_below at h = bind_given _ _ (root_number_below at.root h.root) (λ m g. pointer_below at.of at.path m g)

  name_below : (x : Name) (o : Option Block) → v.named x ≡ o → Gives (ValueBelow n) (name_value v x o)
  unfolding name_value function_value
  name_below x (Some b) e = read_tree_below n v b.of b.tree (s.named x b e)
  name_below x None e = function_below (v.function x) where
    function_below : (o : Option Signature) → Gives (ValueBelow n) (function_value x o)
    function_below (Some r) = Ok _ tt
    function_below None = Not _

  variable_below : (x : Name) (o : Option Block) → Gives (SiteBelow n) (variable v x o)
  unfolding variable no_variable
  variable_below x (Some b) = Ok _ (record { root = tt })
  variable_below x None = no_below (v.function x) where
    no_below : (o : Option Signature) → Gives (SiteBelow n) (no_variable o)
    no_below (Some r) = Not _
    no_below None = Not _

  onward_below : (at : Site) (step : Step) → SiteBelow n at → SiteBelow n (onward at step)
  unfolding onward
  onward_below at step h = record { root = h.root }

  read_place_below : (at : t.Place) (site : Answer Site) → Gives (ValueBelow n) (read_place v at site)
  unfolding read_place
  read_place_below (t.Variable x) site = name_below x (v.named x) refl
  read_place_below (t.Pointee a) site = bind site _ (λ q e. load_below q)
  read_place_below (t.Member at x) site = bind site _ (λ q e. load_below q)
  read_place_below (t.Index at a) site = bind site _ (λ q e. load_below q)

  number_below : (m : ℕ) → ValueBelow n (int (pos m))
  unfolding int
  number_below m = tt

  word_below : (m : ℕ) → ValueBelow n (word m)
  unfolding word
  word_below m = tt

  mutual
    unfolding value

    pub value_below : (a : Expr) → Gives (ValueBelow n) (value v a)
    value_below (t.Read at) = read_place_below at _
    value_below (t.Number m) = Ok _ (number_below m)
    value_below (t.WordNumber m) = Ok _ (word_below m)
    value_below t.Null = Ok _ tt
    value_below (t.Address at) = bind_given _ _ (place_below at) (λ q h. address_below q h)
    value_below (t.Unary op a) = bind _ _ (λ x e. unary_below n op x)
    value_below (t.Binary op a c) = bind _ _ (λ x e. joined_below n v.declared op x (value v c))
    value_below (t.Cast of a) = bind_given _ _ (value_below a) (λ x h. cast_below n v of x h)

    pub place_below : (at : t.Place) → Gives (SiteBelow n) (place v at)
    place_below (t.Variable x) = variable_below x (v.named x)
    place_below (t.Pointee a) = bind _ _ (λ x e. follow_below x)
    place_below (t.Member at x) = bind_given _ _ (place_below at) (λ q h. bind _ _ (λ step e. Ok _ (onward_below q step h)))
    place_below (t.Index at a) = bind_given _ _ (place_below at) (λ q h. bind _ _ (λ x e. bind _ _ (λ i e. bind _ _ (λ step e. Ok _ (onward_below q step h)))))

  abbrev pub ValuesBelow : List Value → Type 0
  ValuesBelow [] = Unit {0}
  ValuesBelow (x ∷ xs) = ValueBelow n x × ValuesBelow xs

  pub values_below : (as' : List Expr) → Gives ValuesBelow (values v as')
  unfolding values
  values_below [] = Ok _ tt
  values_below (a ∷ rest) = bind_given _ _ (value_below a) (λ x h. bind_given _ _ (values_below rest) (λ xs g. Ok _ (h, g)))
