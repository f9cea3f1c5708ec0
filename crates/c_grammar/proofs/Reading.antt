-- The way back from tokens to types and expressions. It skips what it need not look at: that the tokens are spelled is known where it is used.
use Rattle.std.proofs.Common.{ℕ, zero, suc, Bool, true, false, not, List, [], ◌∷◌, Option, Some, None}
use Rattle.c_tree.specs.Tree.{ObjectType, Int, Word, Byte, Struct, Named, VoidPointer, Pointer, Expr, Read, Number, WordNumber, Null, Address, Unary, Binary, Cast, Place, Variable, Pointee, Member, Index}
use Rattle.c_tree.specs.declared.operators.CUnary.{CUnary}
use Rattle.c_tree.specs.declared.operators.CUnary.TheVariants.{Minus, Not, Complement}
use Rattle.c_tree.specs.declared.operators.CBinary.{CBinary}
use Rattle.c_tree.specs.declared.operators.CBinary.TheVariants.{Add, Subtract, Multiply, Divide, Remainder, Equal, NotEqual, Less, AtMost, Greater, AtLeast, And, Or, BitAnd, BitOr, BitXor, ShiftLeft, ShiftRight}
use Rattle.c_tree.specs.declared.operators.CCast.{CCast}
use Rattle.c_tree.specs.declared.operators.CCast.TheVariants as cast
use Rattle.c_grammar.specs.declared.token.Word.{Word as QuotedWord}
use Rattle.c_grammar.specs.declared.token.Word.TheVariants as word
use Rattle.c_grammar.specs.declared.token.Mark.{Mark}
use Rattle.c_grammar.specs.declared.token.Mark.TheVariants as mark
use Rattle.c_grammar.specs.Token.{Token, Identifier, Numeral, Quoted, Sign}

-- a tree and the tokens after it
abbrev pub Reader : Type 0 → Type 0
Reader A = List Token → A × List Token

abbrev pub tail : List Token → List Token
tail [] = []
tail (t ∷ rest) = rest

abbrev pub tail2 : List Token → List Token
tail2 ts = tail (tail ts)

abbrev pub name_of : Token → List ℕ
name_of (Identifier n) = n
name_of _ = []

abbrev pub name_at : List Token → List ℕ
name_at [] = []
name_at (t ∷ rest) = name_of t

abbrev pub value_of : Token → ℕ
value_of (Numeral n) = n
value_of _ = 0

abbrev pub value_at : List Token → ℕ
value_at [] = 0
value_at (t ∷ rest) = value_of t

-- what a test says of the mark or the word that is next
abbrev pub at_mark : (Mark → Bool) → List Token → Bool
at_mark test [] = false
at_mark test (Sign m ∷ rest) = test m
at_mark test (Identifier n ∷ rest) = false
at_mark test (Numeral n ∷ rest) = false
at_mark test (Quoted w ∷ rest) = false

abbrev pub at_word : (QuotedWord → Bool) → List Token → Bool
at_word test [] = false
at_word test (Sign m ∷ rest) = false
at_word test (Identifier n ∷ rest) = false
at_word test (Numeral n ∷ rest) = false
at_word test (Quoted w ∷ rest) = test w

abbrev pub is_star : Mark → Bool
is_star mark.Star = true
is_star _ = false

abbrev pub is_comma : Mark → Bool
is_comma mark.Comma = true
is_comma _ = false

abbrev pub is_void : QuotedWord → Bool
is_void word.Void = true
is_void _ = false

-- ---- lists

abbrev pub cons_with : {A : Type 0} → Reader (List A) → A × List Token → List A × List Token
cons_with more a = let o = more a.1 in (a.0 ∷ o.0, o.1)

abbrev pub many_by : {A : Type 0} → Reader (List A) → Reader A → Bool → Reader (List A)
many_by more r true ts = ([], ts)
many_by more r false ts = cons_with more (r ts)

-- items until a test passes, at most so many
unfoldable pub many : {A : Type 0} → (List Token → Bool) → Reader A → ℕ → Reader (List A)
many stop r zero ts = ([], ts)
many stop r (suc g) ts = many_by (many stop r g) r (stop ts) ts

abbrev pub no_comma : List Token → Bool
no_comma ts = not (at_mark is_comma ts)

-- items with commas between them
abbrev pub listed : {A : Type 0} → Reader A → ℕ → Reader (List A)
listed r g ts = cons_with (many no_comma (λ ts. r (tail ts)) g) (r ts)

-- ---- types

unfoldable pub stars : ObjectType → Reader ObjectType
stars of [] = (of, [])
stars of (t ∷ rest) = elim (at_mark is_star (t ∷ rest)) [ true ↦ stars (Pointer of) rest | false ↦ (of, t ∷ rest) ]

abbrev pub type_by_word : QuotedWord → Reader ObjectType
type_by_word word.Int64Type ts = stars Int ts
type_by_word word.Uint64Type ts = stars Word ts
type_by_word word.Unsigned ts = stars Byte (tail ts)
type_by_word word.Struct ts = stars (Struct (name_at ts)) (tail ts)
type_by_word word.Void ts = stars VoidPointer (tail ts)
type_by_word _ ts = (Int, ts)

abbrev pub type_by : Token → Reader ObjectType
type_by (Quoted w) ts = type_by_word w ts
type_by (Identifier n) ts = stars (Named n) ts
type_by _ ts = (Int, ts)

abbrev pub read_type : Reader ObjectType
read_type [] = (Int, [])
read_type (t ∷ rest) = type_by t rest

-- `void` that is not the beginning of `void *`
abbrev pub void_alone : List Token → Bool
void_alone ts = elim (at_word is_void ts) [ true ↦ not (at_mark is_star (tail ts)) | false ↦ false ]

abbrev pub some_with : {A : Type 0} → A × List Token → Option A × List Token
some_with a = (Some a.0, a.1)

abbrev pub result_by : Bool → Reader (Option ObjectType)
result_by true ts = (None, tail ts)
result_by false ts = some_with (read_type ts)

abbrev pub read_result : Reader (Option ObjectType)
read_result ts = result_by (void_alone ts) ts

abbrev pub cast_by_word : QuotedWord → Reader CCast
cast_by_word word.Int64Type ts = (cast.Int, ts)
cast_by_word word.Uint64Type ts = (cast.Word, ts)
cast_by_word word.Void ts = (cast.VoidPointer, tail ts)
cast_by_word word.Struct ts = (cast.StructPointer (name_at ts), tail2 ts)
cast_by_word _ ts = (cast.Int, ts)

abbrev pub cast_by : Token → Reader CCast
cast_by (Quoted w) ts = cast_by_word w ts
cast_by _ ts = (cast.Int, ts)

abbrev pub read_cast : Reader CCast
read_cast [] = (cast.Int, [])
read_cast (t ∷ rest) = cast_by t rest

-- ---- expressions

-- the alternative of an expression
pub data Shape : Type 0 where
  of_number : Shape
  of_word : Shape
  of_null : Shape
  of_place : Shape
  of_address : Shape
  of_unary : CUnary → Shape
  of_cast : Shape
  of_binary : Shape

abbrev pub is_type_word : QuotedWord → Bool
is_type_word word.Int64Type = true
is_type_word word.Uint64Type = true
is_type_word word.Void = true
is_type_word word.Struct = true
is_type_word _ = false

-- after two opening parentheses
abbrev pub second_shape : List Token → Shape
second_shape ts = elim (at_word is_type_word ts) [ true ↦ of_cast | false ↦ of_binary ]

abbrev pub mark_shape : Mark → List Token → Shape
mark_shape mark.Ampersand ts = of_address
mark_shape mark.Star ts = of_place
mark_shape mark.Minus ts = of_unary Minus
mark_shape mark.Exclamation ts = of_unary Not
mark_shape mark.Tilde ts = of_unary Complement
mark_shape mark.Open ts = second_shape ts
mark_shape _ ts = of_binary

-- after an opening parenthesis
abbrev pub first_shape : List Token → Shape
first_shape [] = of_binary
first_shape (Sign m ∷ rest) = mark_shape m rest
first_shape (Identifier n ∷ rest) = of_binary
first_shape (Numeral n ∷ rest) = of_binary
first_shape (Quoted w ∷ rest) = of_binary

abbrev pub word_shape : QuotedWord → Shape
word_shape word.Int64 = of_number
word_shape word.Uint64 = of_word
word_shape _ = of_null

abbrev pub shape : List Token → Shape
shape [] = of_null
shape (Sign m ∷ rest) = first_shape rest
shape (Identifier n ∷ rest) = of_place
shape (Numeral n ∷ rest) = of_null
shape (Quoted w ∷ rest) = word_shape w

abbrev pub operator_of : Mark → CBinary
operator_of mark.Plus = Add
operator_of mark.Minus = Subtract
operator_of mark.Star = Multiply
operator_of mark.Slash = Divide
operator_of mark.Percent = Remainder
operator_of mark.Equal = Equal
operator_of mark.NotEqual = NotEqual
operator_of mark.Less = Less
operator_of mark.AtMost = AtMost
operator_of mark.Greater = Greater
operator_of mark.AtLeast = AtLeast
operator_of mark.AndAnd = And
operator_of mark.OrOr = Or
operator_of mark.Ampersand = BitAnd
operator_of mark.Bar = BitOr
operator_of mark.Caret = BitXor
operator_of mark.ShiftLeft = ShiftLeft
operator_of mark.ShiftRight = ShiftRight
operator_of _ = Add

abbrev pub operator_at : List Token → CBinary
operator_at [] = Add
operator_at (Sign m ∷ rest) = operator_of m
operator_at (Identifier n ∷ rest) = Add
operator_at (Numeral n ∷ rest) = Add
operator_at (Quoted w ∷ rest) = Add

pub data Selector : Type 0 where
  dot : Selector
  bracket : Selector
  none : Selector

abbrev pub selector_of : Mark → Selector
selector_of mark.Dot = dot
selector_of mark.OpenBracket = bracket
selector_of _ = none

abbrev pub selector : List Token → Selector
selector [] = none
selector (Sign m ∷ rest) = selector_of m
selector (Identifier n ∷ rest) = none
selector (Numeral n ∷ rest) = none
selector (Quoted w ∷ rest) = none

-- the selectors of a place, at most so many
unfoldable pub selectors : Reader Expr → ℕ → Place → Reader Place
selectors x zero p ts = (p, ts)
selectors x (suc g) p ts = elim (selector ts) [
  | dot ↦ selectors x g (Member p (name_at (tail ts))) (tail2 ts)
  | bracket ↦ (let a = x (tail ts) in selectors x g (Index p a.0) (tail a.1))
  | none ↦ (p, ts)
]

abbrev pub pointee_with : Reader Expr → ℕ → Expr × List Token → Place × List Token
pointee_with x g a = selectors x g (Pointee a.0) (tail a.1)

abbrev pub read_place : Reader Expr → ℕ → Reader Place
read_place x g [] = (Variable [], [])
read_place x g (Identifier n ∷ rest) = selectors x g (Variable n) rest
read_place x g (Sign m ∷ rest) = pointee_with x g (x (tail rest))
read_place x g (Numeral n ∷ rest) = (Variable [], [])
read_place x g (Quoted w ∷ rest) = (Variable [], [])

abbrev pub read_with : Place × List Token → Expr × List Token
read_with p = (Read p.0, p.1)

abbrev pub address_with : Place × List Token → Expr × List Token
address_with p = (Address p.0, tail p.1)

abbrev pub unary_with : CUnary → Expr × List Token → Expr × List Token
unary_with op a = (Unary op a.0, tail a.1)

abbrev pub cast_to : CCast → Expr × List Token → Expr × List Token
cast_to to a = (Cast to a.0, tail a.1)

abbrev pub cast_with : Reader Expr → CCast × List Token → Expr × List Token
cast_with x k = cast_to k.0 (x (tail k.1))

abbrev pub binary_of : CBinary → Expr → Expr × List Token → Expr × List Token
binary_of op a b = (Binary op a b.0, tail b.1)

abbrev pub binary_with : Reader Expr → Expr × List Token → Expr × List Token
binary_with x a = binary_of (operator_at a.1) a.0 (x (tail a.1))

abbrev pub expr_by : Reader Expr → ℕ → Shape → Reader Expr
expr_by x g of_number ts = (Number (value_at (tail2 ts)), tail2 (tail2 ts))
expr_by x g of_word ts = (WordNumber (value_at (tail2 ts)), tail2 (tail2 ts))
expr_by x g of_null ts = (Null, tail ts)
expr_by x g of_place ts = read_with (read_place x g ts)
expr_by x g of_address ts = address_with (read_place x g (tail2 ts))
expr_by x g (of_unary op) ts = unary_with op (x (tail2 ts))
expr_by x g of_cast ts = cast_with x (read_cast (tail2 ts))
expr_by x g of_binary ts = binary_with x (x (tail ts))

-- of at most g selectors a place, and a nesting below n
unfoldable pub read_expr : (g n : ℕ) → Reader Expr
read_expr g zero ts = (Null, ts)
read_expr g (suc n) ts = expr_by (read_expr g n) g (shape ts) ts
