-- An expression is read back from the tokens that it spells.
use Rattle.std.proofs.Common.{◌≡◌, ℕ, zero, suc, ◌+◌, ◌-◌, ◌≤◌, false, List, ◌∷◌, refl, ◌∙◌, ap, arith}
use Rattle.c_tree.specs.Tree.{ObjectType, Int, Word, Byte, Struct, Named, VoidPointer, Pointer, Expr, Read, Number, WordNumber, Null, Address, Unary, Binary, Cast, Place, Variable, Pointee, Member, Index}
use Rattle.c_tree.specs.declared.operators.CUnary.{CUnary}
use Rattle.c_tree.specs.declared.operators.CUnary.TheVariants.{Minus, Not, Complement}
use Rattle.c_tree.specs.declared.operators.CBinary.{CBinary}
use Rattle.c_tree.specs.declared.operators.CBinary.TheVariants.{Add, Subtract, Multiply, Divide, Remainder, Equal, NotEqual, Less, AtMost, Greater, AtLeast, And, Or, BitAnd, BitOr, BitXor, ShiftLeft, ShiftRight}
use Rattle.c_tree.specs.declared.operators.CCast.{CCast}
use Rattle.c_tree.specs.declared.operators.CCast.TheVariants as cast
use Rattle.c_grammar.specs.declared.token.Mark.TheVariants as mark
use Rattle.c_grammar.specs.Token.{Token, Identifier, Sign}
use Rattle.c_grammar.specs.Spelling.{spell_type, spell_cast, spell_expr, spell_place, unary_mark, binary_mark}
use Rattle.c_grammar.proofs.Reading.{Reader, tail, stars, read_type, void_alone, read_cast, of_place, of_unary, of_cast, of_binary, shape, first_shape, second_shape, operator_of, selector, none, selectors, pointee_with, read_place, read_with, address_with, unary_with, cast_to, cast_with, binary_of, binary_with, expr_by, read_expr}

-- ---- types

pub type_read : (of : ObjectType) (rest : List Token) → read_type (spell_type of rest) ≡ stars of rest
unfolding stars
type_read Int rest = refl
type_read Word rest = refl
type_read Byte rest = refl
type_read (Struct n) rest = refl
type_read (Named n) rest = refl
type_read VoidPointer rest = refl
type_read (Pointer of) rest = type_read of (Sign mark.Star ∷ rest)

pub no_void : (of : ObjectType) (rest : List Token) → void_alone (spell_type of rest) ≡ false
no_void Int rest = refl
no_void Word rest = refl
no_void Byte rest = refl
no_void (Struct n) rest = refl
no_void (Named n) rest = refl
no_void VoidPointer rest = refl
no_void (Pointer of) rest = no_void of (Sign mark.Star ∷ rest)

pub cast_read : (to : CCast) (rest : List Token) → read_cast (spell_cast to rest) ≡ (to, rest)
cast_read cast.Int rest = refl
cast_read cast.Word rest = refl
cast_read cast.VoidPointer rest = refl
cast_read (cast.StructPointer n) rest = refl

-- ---- what comes first

pub place_shape : (p : Place) (rest : List Token) → shape (spell_place p rest) ≡ of_place
place_shape (Variable n) rest = refl
place_shape (Pointee a) rest = refl
place_shape (Member p n) rest = place_shape p _
place_shape (Index p a) rest = place_shape p _

place_first : (p : Place) (rest : List Token) → first_shape (spell_place p rest) ≡ of_binary
place_first (Variable n) rest = refl
place_first (Pointee a) rest = refl
place_first (Member p n) rest = place_first p _
place_first (Index p a) rest = place_first p _

place_second : (p : Place) (rest : List Token) → second_shape (spell_place p rest) ≡ of_binary
place_second (Variable n) rest = refl
place_second (Pointee a) rest = refl
place_second (Member p n) rest = place_second p _
place_second (Index p a) rest = place_second p _

expr_second : (e : Expr) (rest : List Token) → second_shape (spell_expr e rest) ≡ of_binary
expr_second (Read p) rest = place_second p rest
expr_second (Number n) rest = refl
expr_second (WordNumber n) rest = refl
expr_second Null rest = refl
expr_second (Address p) rest = refl
expr_second (Unary op a) rest = refl
expr_second (Binary op a b) rest = refl
expr_second (Cast to a) rest = refl

-- no left operand looks like another alternative
expr_first : (e : Expr) (rest : List Token) → first_shape (spell_expr e rest) ≡ of_binary
expr_first (Read p) rest = place_first p rest
expr_first (Number n) rest = refl
expr_first (WordNumber n) rest = refl
expr_first Null rest = refl
expr_first (Address p) rest = refl
expr_first (Unary op a) rest = refl
expr_first (Binary op a b) rest = expr_second a _
expr_first (Cast to a) rest = refl

unary_shape : (op : CUnary) (rest : List Token) → first_shape (Sign (unary_mark op) ∷ rest) ≡ of_unary op
unary_shape Minus rest = refl
unary_shape Not rest = refl
unary_shape Complement rest = refl

cast_shape : (to : CCast) (rest : List Token) → second_shape (spell_cast to rest) ≡ of_cast
cast_shape cast.Int rest = refl
cast_shape cast.Word rest = refl
cast_shape cast.VoidPointer rest = refl
cast_shape (cast.StructPointer n) rest = refl

operator_is : (op : CBinary) → operator_of (binary_mark op) ≡ op
operator_is Add = refl
operator_is Subtract = refl
operator_is Multiply = refl
operator_is Divide = refl
operator_is Remainder = refl
operator_is Equal = refl
operator_is NotEqual = refl
operator_is Less = refl
operator_is AtMost = refl
operator_is Greater = refl
operator_is AtLeast = refl
operator_is And = refl
operator_is Or = refl
operator_is BitAnd = refl
operator_is BitOr = refl
operator_is BitXor = refl
operator_is ShiftLeft = refl
operator_is ShiftRight = refl

-- ---- what follows

-- no selector follows, so a place ends here
abbrev pub Stops : List Token → Type 0
Stops rest = selector rest ≡ none

operator_stops : (op : CBinary) (rest : List Token) → Stops (Sign (binary_mark op) ∷ rest)
operator_stops Add rest = refl
operator_stops Subtract rest = refl
operator_stops Multiply rest = refl
operator_stops Divide rest = refl
operator_stops Remainder rest = refl
operator_stops Equal rest = refl
operator_stops NotEqual rest = refl
operator_stops Less rest = refl
operator_stops AtMost rest = refl
operator_stops Greater rest = refl
operator_stops AtLeast rest = refl
operator_stops And rest = refl
operator_stops Or rest = refl
operator_stops BitAnd rest = refl
operator_stops BitOr rest = refl
operator_stops BitXor rest = refl
operator_stops ShiftLeft rest = refl
operator_stops ShiftRight rest = refl

no_selectors : (x : Reader Expr) (g : ℕ) (p : Place) (rest : List Token) → Stops rest → selectors x g p rest ≡ (p, rest)
unfolding selectors
no_selectors x zero p rest s = refl
no_selectors x (suc g) p rest s = rw (s, selectors) refl

-- ---- how much is needed

abbrev mutual
  pub expr_need : Expr → ℕ
  expr_need (Read p) = suc (place_need p)
  expr_need (Number n) = 1
  expr_need (WordNumber n) = 1
  expr_need Null = 1
  expr_need (Address p) = suc (place_need p)
  expr_need (Unary op a) = suc (expr_need a)
  expr_need (Binary op a b) = suc (expr_need a + expr_need b)
  expr_need (Cast to a) = suc (expr_need a)

  pub place_need : Place → ℕ
  place_need (Variable n) = 0
  place_need (Pointee a) = expr_need a
  place_need (Member p n) = suc (place_need p)
  place_need (Index p a) = suc (place_need p + expr_need a)

-- the number of selectors
abbrev pub selector_count : Place → ℕ
selector_count (Variable n) = 0
selector_count (Pointee a) = 0
selector_count (Member p n) = suc (selector_count p)
selector_count (Index p a) = suc (selector_count p)

some_needed : (e : Expr) → expr_need e ≤ 0 → ⊥
some_needed (Read p) h = grind arith
some_needed (Number n) h = grind arith
some_needed (WordNumber n) h = grind arith
some_needed Null h = grind arith
some_needed (Address p) h = grind arith
some_needed (Unary op a) h = grind arith
some_needed (Binary op a b) h = grind arith
some_needed (Cast to a) h = grind arith

selectors_needed : (p : Place) → selector_count p ≤ place_need p
selectors_needed (Variable n) = omega arith
selectors_needed (Pointee a) = omega arith
selectors_needed (Member p n) = omega (arith, selectors_needed p)
selectors_needed (Index p a) = omega (arith, selectors_needed p)

-- ---- reading back

mutual
  unfolding read_expr selectors

  pub expr_read : (e : Expr) (g n : ℕ) (rest : List Token) → expr_need e ≤ g → expr_need e ≤ n → Stops rest → read_expr g n (spell_expr e rest) ≡ (e, rest)
  expr_read e g zero rest a b s = absurd (some_needed e b)
  expr_read (Read p) g (suc n) rest a b s =
      ap (λ k. expr_by (read_expr g n) g k (spell_place p rest)) (place_shape p rest)
      ∙ ap read_with (place_read p g n g (g - selector_count p) rest (omega (arith, selectors_needed p)) (omega arith) (omega arith) ∙ no_selectors (read_expr g n) (g - selector_count p) p rest s)
  expr_read (Number v) g (suc n) rest a b s = refl
  expr_read (WordNumber v) g (suc n) rest a b s = refl
  expr_read Null g (suc n) rest a b s = refl
  expr_read (Address p) g (suc n) rest a b s = ap address_with (place_read p g n g (g - selector_count p) (Sign mark.Close ∷ rest) (omega (arith, selectors_needed p)) (omega arith) (omega arith) ∙ no_selectors (read_expr g n) (g - selector_count p) p (Sign mark.Close ∷ rest) refl)
  expr_read (Unary op x) g (suc n) rest a b s =
      ap (λ k. expr_by (read_expr g n) g k (spell_expr (Unary op x) rest)) (unary_shape op _)
      ∙ ap (unary_with op) (expr_read x g n _ (omega arith) (omega arith) refl)
  expr_read (Binary op x y) g (suc n) rest a b s =
      ap (λ k. expr_by (read_expr g n) g k (spell_expr (Binary op x y) rest)) (expr_first x _)
      ∙ ap (binary_with (read_expr g n)) (expr_read x g n (Sign (binary_mark op) ∷ spell_expr y (Sign mark.Close ∷ rest)) (omega arith) (omega arith) (operator_stops op (spell_expr y (Sign mark.Close ∷ rest))))
      ∙ ap (binary_of (operator_of (binary_mark op)) x) (expr_read y g n (Sign mark.Close ∷ rest) (omega arith) (omega arith) refl)
      ∙ ap (λ o. (Binary o x y, rest)) (operator_is op)
  expr_read (Cast to x) g (suc n) rest a b s =
      ap (λ k. expr_by (read_expr g n) g k (spell_expr (Cast to x) rest)) (cast_shape to _)
      ∙ ap (cast_with (read_expr g n)) (cast_read to (Sign mark.Close ∷ spell_expr x (Sign mark.Close ∷ rest)))
      ∙ ap (cast_to to) (expr_read x g n (Sign mark.Close ∷ rest) (omega arith) (omega arith) refl)

  -- with h more selectors to come at most
  place_read : (p : Place) (g n f h : ℕ) (rest : List Token) → f ≡ selector_count p + h → place_need p ≤ g → place_need p ≤ n
      → read_place (read_expr g n) f (spell_place p rest) ≡ selectors (read_expr g n) h p rest
  place_read (Variable v) g n f h rest e a b = ap (λ k. selectors (read_expr g n) k (Variable v) rest) (omega arith)
  place_read (Pointee x) g n f h rest e a b =
      ap (pointee_with (read_expr g n) f) (expr_read x g n (Sign mark.Close ∷ rest) a b refl)
      ∙ ap (λ k. selectors (read_expr g n) k (Pointee x) rest) (omega arith)
  place_read (Member p v) g n f h rest e a b = place_read p g n f (suc h) (Sign mark.Dot ∷ Identifier v ∷ rest) (omega arith) (omega arith) (omega arith)
  place_read (Index p x) g n f h rest e a b =
      place_read p g n f (suc h) (Sign mark.OpenBracket ∷ spell_expr x (Sign mark.CloseBracket ∷ rest)) (omega arith) (omega arith) (omega arith)
      ∙ ap (λ (r : Expr × List Token). selectors (read_expr g n) h (Index p r.0) (tail r.1)) (expr_read x g n (Sign mark.CloseBracket ∷ rest) (omega arith) (omega arith) refl)

pub place_whole : (p : Place) (g n : ℕ) (rest : List Token) → place_need p ≤ g → place_need p ≤ n → Stops rest → read_place (read_expr g n) g (spell_place p rest) ≡ (p, rest)
place_whole p g n rest a b s =
    place_read p g n g (g - selector_count p) rest (omega (arith, selectors_needed p)) a b ∙ no_selectors (read_expr g n) (g - selector_count p) p rest s
