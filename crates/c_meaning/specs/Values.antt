-- Values and operators.
use Rattle.std.specs.Prelude.{ℕ, zero, ◌-◌, ◌*◌, ◌/◌, ◌%◌, ◌^◌, Bool, true, false, not, ◌&&◌, if◌then◌else◌, List, ℤ, pos, negsuc, ◌+ℤ◌, ◌-ℤ◌, ◌*ℤ◌, neg_ℤ, int_lt, int_le, int_div, int_rem, nat_eq, nat_lt, bit_and, bit_or, bit_xor}
use Rattle.std.specs.Str.{bytes_eq}
use Rattle.c_tree.specs.Tree as t
use Rattle.c_tree.specs.Tree.{ObjectType}
use Rattle.c_tree.specs.declared.operators.CUnary.{CUnary}
use Rattle.c_tree.specs.declared.operators.CUnary.TheVariants as u
use Rattle.c_tree.specs.declared.operators.CBinary.{CBinary}
use Rattle.c_tree.specs.declared.operators.CBinary.TheVariants as b
use Rattle.c_tree.specs.declared.program.CDeclaration.{CDeclaration}
use Rattle.c_meaning.specs.declared.StuckKind.TheVariants as k
use Rattle.c_meaning.specs.Cells.{Cell, Int, Word, Byte, Null, Pointer, Function, Tree, Leaf}
use Rattle.c_meaning.specs.Answer.{Answer, Got, Bad, ◌>>=◌, when}
use Rattle.c_meaning.specs.Types.{ValueType, Of, alike}

-- a scalar, or a whole struct
pub data Value : Type 0 where
  Typed : (of : ValueType) (tree : Tree) → Value

-- a number of type `int64_t`
unfoldable pub int : ℤ → Value
int z = Typed (Of t.Int) (Leaf (Int z))

-- a number of type `uint64_t`
unfoldable pub word : ℕ → Value
word n = Typed (Of t.Word) (Leaf (Word n))

-- 1 or 0
unfoldable pub truth : Bool → Value
truth true = int (pos 1)
truth false = int (pos 0)

-- the value of a tree of a type: an `unsigned char` is read as an `int64_t`
unfoldable pub value_of : ObjectType → Tree → Value
value_of t.Byte (Leaf (Byte n)) = int (pos n)
value_of of tree = Typed (Of of) tree

-- ---- what a value is

-- the number in a cell of an `int64_t`
unfoldable pub int_cell : Cell → Answer ℤ
int_cell (Int z) = Got z
int_cell _ = Bad k.Mismatch

-- the number in a cell of a `uint64_t`
unfoldable pub word_cell : Cell → Answer ℕ
word_cell (Word n) = Got n
word_cell _ = Bad k.Mismatch

-- the cell of a scalar
unfoldable pub leaf : Tree → Answer Cell
leaf (Leaf c) = Got c
leaf _ = Bad k.Mismatch

-- the number of an `int64_t`
unfoldable pub as_int : Value → Answer ℤ
as_int (Typed of tree) = leaf tree >>= int_cell

-- the number of a `uint64_t`
unfoldable pub as_word : Value → Answer ℕ
as_word (Typed of tree) = leaf tree >>= word_cell

-- whether a number is 0
unfoldable pub is_zero : ℤ → Bool
is_zero (pos zero) = true
is_zero _ = false

-- whether an `int64_t` holds the number
unfoldable pub fits_int : ℤ → Bool
fits_int (pos n) = nat_lt n (2 ^ 63)
fits_int (negsuc n) = nat_lt n (2 ^ 63)

-- the number, if it is in range
unfoldable pub exact : ℤ → Answer Value
exact z = when (fits_int z) k.Overflow (Got (int z))

-- ---- operators on two values

-- an operator on two `int64_t`
unfoldable pub on_ints : (ℤ → ℤ → Answer Value) → Value → Value → Answer Value
on_ints f x y = as_int x >>= (λ a. as_int y >>= (λ c. f a c))

-- an operator on two `uint64_t`
unfoldable pub on_words : (ℕ → ℕ → ℕ) → Value → Value → Answer Value
on_words f x y = as_word x >>= (λ a. as_word y >>= (λ c. Got (word (f a c))))

-- a quotient toward zero, or a remainder with the sign of the dividend
unfoldable pub divided : (ℤ → ℤ → ℤ) → ℤ → ℤ → Answer Value
divided f x y = when (not (is_zero y)) k.ZeroDivide (exact (f x y))

-- a comparison of two `int64_t`
unfoldable pub ordered : (ℤ → ℤ → Bool) → Value → Value → Answer Value
ordered f = on_ints (λ x y. Got (truth (f x y)))

-- whether two cells of alike types hold the same: pointers to one part of one block, or one function
unfoldable pub cell_eq : Cell → Cell → Answer Bool
cell_eq (Int (pos m)) (Int (pos n)) = Got (nat_eq m n)
cell_eq (Int (negsuc m)) (Int (negsuc n)) = Got (nat_eq m n)
cell_eq (Int x) (Int y) = Got false
cell_eq (Word m) (Word n) = Got (nat_eq m n)
cell_eq Null Null = Got true
cell_eq Null (Pointer n p) = Got false
cell_eq (Pointer n p) Null = Got false
cell_eq Null (Function f) = Got false
cell_eq (Function f) Null = Got false
cell_eq (Pointer m p) (Pointer n q) = Got (nat_eq m n && bytes_eq p q)
cell_eq (Function f) (Function g) = Got (bytes_eq f g)
cell_eq _ _ = Bad k.Mismatch

-- whether two scalars of alike types are equal; structs are not compared
unfoldable pub equal : List CDeclaration → Value → Value → Answer Bool
equal ds (Typed of x) (Typed of' y) = when (alike ds of of') k.Mismatch (leaf x >>= (λ a. leaf y >>= (λ c. cell_eq a c)))

-- how far a shift goes
unfoldable pub shift_count : ℤ → Answer ℕ
shift_count (pos n) = when (nat_lt n 64) k.BadShift (Got n)
shift_count (negsuc n) = Bad k.BadShift

-- a shift of a cell, the count being an `int64_t`
unfoldable pub shifted : (ℕ → ℕ → ℕ) → Cell → Value → Answer Value
shifted f (Word a) y = as_int y >>= shift_count >>= (λ n. Got (word (f a n)))
shifted f (Int z) y = Bad k.BadShift
shifted f _ y = Bad k.Mismatch

-- a shift of a value
unfoldable pub shift : (ℕ → ℕ → ℕ) → Value → Value → Answer Value
shift f (Typed of tree) y = leaf tree >>= (λ a. shifted f a y)

-- bits that leave the 64 are lost
unfoldable pub shifted_left : ℕ → ℕ → ℕ
shifted_left a n = (a * 2 ^ n) % (2 ^ 64)

-- zeros come in
unfoldable pub shifted_right : ℕ → ℕ → ℕ
shifted_right a n = a / (2 ^ n)

-- whether an `int64_t` is other than 0, as 1 or 0
unfoldable pub truth_of : Value → Answer Value
truth_of x = as_int x >>= (λ z. Got (truth (not (is_zero z))))

-- an operator on two values; of `&&` and `||` this is what is left where the first operand does not decide
unfoldable pub binary : List CDeclaration → CBinary → Value → Value → Answer Value
binary ds b.Add x y = on_ints (λ p q. exact (p +ℤ q)) x y
binary ds b.Subtract x y = on_ints (λ p q. exact (p -ℤ q)) x y
binary ds b.Multiply x y = on_ints (λ p q. exact (p *ℤ q)) x y
binary ds b.Divide x y = on_ints (divided int_div) x y
binary ds b.Remainder x y = on_ints (divided int_rem) x y
binary ds b.Equal x y = equal ds x y >>= (λ r. Got (truth r))
binary ds b.NotEqual x y = equal ds x y >>= (λ r. Got (truth (not r)))
binary ds b.Less x y = ordered int_lt x y
binary ds b.AtMost x y = ordered int_le x y
binary ds b.Greater x y = ordered (λ p q. int_lt q p) x y
binary ds b.AtLeast x y = ordered (λ p q. int_le q p) x y
binary ds b.And x y = truth_of y
binary ds b.Or x y = truth_of y
binary ds b.BitAnd x y = on_words bit_and x y
binary ds b.BitOr x y = on_words bit_or x y
binary ds b.BitXor x y = on_words bit_xor x y
binary ds b.ShiftLeft x y = shift shifted_left x y
binary ds b.ShiftRight x y = shift shifted_right x y

-- an operator on a value and what the second operand gives: `&&` and `||` look at it only where the first does not decide
unfoldable pub joined : List CDeclaration → CBinary → Value → Answer Value → Answer Value
joined ds b.And x y = as_int x >>= (λ z. if is_zero z then Got (truth false) else (y >>= binary ds b.And x))
joined ds b.Or x y = as_int x >>= (λ z. if is_zero z then (y >>= binary ds b.Or x) else Got (truth true))
joined ds op x y = y >>= binary ds op x

-- ---- operators on one value

-- the other bits of 64
unfoldable pub complement : ℕ → ℕ
complement n = 2 ^ 64 - 1 - n

-- an operator on a value
unfoldable pub unary : CUnary → Value → Answer Value
unary u.Minus x = as_int x >>= (λ z. exact (neg_ℤ z))
unary u.Not x = as_int x >>= (λ z. Got (truth (is_zero z)))
unary u.Complement x = as_word x >>= (λ n. Got (word (complement n)))

-- ---- casts to numbers

-- the number modulo 2 ^ 64
unfoldable pub to_word : ℤ → ℕ
to_word (pos n) = n % (2 ^ 64)
to_word (negsuc n) = complement (n % (2 ^ 64))

-- the number of an `int64_t` that is the same modulo 2 ^ 64
unfoldable pub to_int : ℕ → ℤ
to_int n = if nat_lt n (2 ^ 63) then pos n else negsuc (complement n)

-- a number as an `int64_t`
unfoldable pub int_of_cell : Cell → Answer Value
int_of_cell (Int z) = Got (int z)
int_of_cell (Word n) = Got (int (to_int n))
int_of_cell _ = Bad k.Mismatch

-- a number as a `uint64_t`
unfoldable pub word_of_cell : Cell → Answer Value
word_of_cell (Int z) = Got (word (to_word z))
word_of_cell (Word n) = Got (word n)
word_of_cell _ = Bad k.Mismatch

-- ---- values for places

-- what an `unsigned char` takes of a number
unfoldable pub byte_of : ℤ → Answer Tree
byte_of (pos n) = when (nat_lt n 256) k.BadByteValue (Got (Leaf (Byte n)))
byte_of (negsuc n) = Bad k.BadByteValue

-- what a place of a type takes of a value
unfoldable pub converted : List CDeclaration → ObjectType → Value → Answer Tree
converted ds t.Byte x = as_int x >>= byte_of
converted ds of (Typed from tree) = when (alike ds (Of of) from) k.Mismatch (Got tree)
