-- The codes of expressions and places.
use Rattle.std.specs.Prelude.{◌≡◌, ℕ, [], ◌∷◌, refl}
use Rattle.std.specs.Coded.{Coded}
use Rattle.std.proofs.Common.{ap}
use base.Stored.{Gv, gnil, gnum, gcons, num}
use Rattle.c_tree.specs.Codes.{Stored, coded, node, pick, names}
use Rattle.c_tree.specs.declared.operators.CUnary.{CUnary}
use Rattle.c_tree.specs.declared.operators.CUnary.TheVariants.{Minus, Not, Complement}
use Rattle.c_tree.specs.declared.operators.CBinary.{CBinary}
use Rattle.c_tree.specs.declared.operators.CBinary.TheVariants.{Add, Subtract, Multiply, Divide, Remainder, Equal, NotEqual, Less, AtMost, Greater, AtLeast, And, Or, BitAnd, BitOr, BitXor, ShiftLeft, ShiftRight}
use Rattle.c_tree.specs.declared.operators.CCast.{CCast}
use Rattle.c_tree.specs.declared.operators.CCast.TheVariants.{Int, Word, VoidPointer, StructPointer}
use Rattle.c_tree.specs.expressions.Tree.{Expr, Read, Number, WordNumber, Null, Address, Unary, Binary, Cast, Place, Variable, Pointee, Member, Index}

abbrev unary_number : CUnary → ℕ
unary_number Minus = 0
unary_number Not = 1
unary_number Complement = 2

abbrev unary_at : ℕ → CUnary
unary_at n = pick (Minus ∷ Not ∷ []) n Complement

pub unary_undoes : (x : CUnary) → unary_at (unary_number x) ≡ x
unary_undoes Minus = refl
unary_undoes Not = refl
unary_undoes Complement = refl

abbrev binary_number : CBinary → ℕ
binary_number Add = 0
binary_number Subtract = 1
binary_number Multiply = 2
binary_number Divide = 3
binary_number Remainder = 4
binary_number Equal = 5
binary_number NotEqual = 6
binary_number Less = 7
binary_number AtMost = 8
binary_number Greater = 9
binary_number AtLeast = 10
binary_number And = 11
binary_number Or = 12
binary_number BitAnd = 13
binary_number BitOr = 14
binary_number BitXor = 15
binary_number ShiftLeft = 16
binary_number ShiftRight = 17

abbrev binary_at : ℕ → CBinary
binary_at n = pick (Add ∷ Subtract ∷ Multiply ∷ Divide ∷ Remainder ∷ Equal ∷ NotEqual ∷ Less ∷ AtMost ∷ Greater ∷ AtLeast ∷ And ∷ Or ∷ BitAnd ∷ BitOr ∷ BitXor ∷ ShiftLeft ∷ []) n ShiftRight

pub binary_undoes : (x : CBinary) → binary_at (binary_number x) ≡ x
binary_undoes Add = refl
binary_undoes Subtract = refl
binary_undoes Multiply = refl
binary_undoes Divide = refl
binary_undoes Remainder = refl
binary_undoes Equal = refl
binary_undoes NotEqual = refl
binary_undoes Less = refl
binary_undoes AtMost = refl
binary_undoes Greater = refl
binary_undoes AtLeast = refl
binary_undoes And = refl
binary_undoes Or = refl
binary_undoes BitAnd = refl
binary_undoes BitOr = refl
binary_undoes BitXor = refl
binary_undoes ShiftLeft = refl
binary_undoes ShiftRight = refl

abbrev cast_code : CCast → Gv
cast_code Int = gcons (gnum 0) gnil
cast_code Word = gcons (gnum 1) gnil
cast_code VoidPointer = gcons (gnum 2) gnil
cast_code (StructPointer name) = gcons (gnum 3) (names.code name)

abbrev cast_back : Gv → CCast
cast_back (gcons t x) = pick (Int ∷ Word ∷ VoidPointer ∷ []) (num t) (StructPointer (names.back x))
cast_back _ = Int

pub cast_undoes : (x : CCast) → cast_back (cast_code x) ≡ x
cast_undoes Int = refl
cast_undoes Word = refl
cast_undoes VoidPointer = refl
cast_undoes (StructPointer name) = ap StructPointer (names.undoes name)

abbrev mutual
  expr_code : Expr → Gv
  expr_code (Read p) = node 0 gnil (place_code p) gnil
  expr_code (Number n) = node 1 (gnum n) gnil gnil
  expr_code (WordNumber n) = node 2 (gnum n) gnil gnil
  expr_code Null = node 3 gnil gnil gnil
  expr_code (Address p) = node 4 gnil (place_code p) gnil
  expr_code (Unary op a) = node 5 (gnum (unary_number op)) (expr_code a) gnil
  expr_code (Binary op a b) = node 6 (gnum (binary_number op)) (expr_code a) (expr_code b)
  expr_code (Cast to a) = node 7 (cast_code to) (expr_code a) gnil

  place_code : Place → Gv
  place_code (Variable n) = node 0 (names.code n) gnil gnil
  place_code (Pointee a) = node 1 gnil (expr_code a) gnil
  place_code (Member p n) = node 2 (names.code n) (place_code p) gnil
  place_code (Index p a) = node 3 gnil (place_code p) (expr_code a)

abbrev expr_at : ℕ → Gv → Place → Expr → Expr → Expr
expr_at n x p a b = pick (Read p ∷ Number (num x) ∷ WordNumber (num x) ∷ Null ∷ Address p ∷ Unary (unary_at (num x)) a ∷ Binary (binary_at (num x)) a b ∷ []) n (Cast (cast_back x) a)

abbrev place_at : ℕ → Gv → Place → Expr → Expr → Place
place_at n x p a b = pick (Variable (names.back x) ∷ Pointee a ∷ Member p (names.back x) ∷ []) n (Index p b)

abbrev mutual
  expr_back : Gv → Expr
  expr_back (gcons t (gcons x (gcons y z))) = expr_at (num t) x (place_back y) (expr_back y) (expr_back z)
  expr_back _ = Null

  place_back : Gv → Place
  place_back (gcons t (gcons x (gcons y z))) = place_at (num t) x (place_back y) (expr_back y) (expr_back z)
  place_back _ = Variable []

mutual
  pub expr_undoes : (x : Expr) → expr_back (expr_code x) ≡ x
  expr_undoes (Read p) = ap Read (place_undoes p)
  expr_undoes (Number n) = refl
  expr_undoes (WordNumber n) = refl
  expr_undoes Null = refl
  expr_undoes (Address p) = ap Address (place_undoes p)
  expr_undoes (Unary op a) = λ i. Unary (unary_undoes op i) (expr_undoes a i)
  expr_undoes (Binary op a b) = λ i. Binary (binary_undoes op i) (expr_undoes a i) (expr_undoes b i)
  expr_undoes (Cast to a) = λ i. Cast (cast_undoes to i) (expr_undoes a i)

  pub place_undoes : (x : Place) → place_back (place_code x) ≡ x
  place_undoes (Variable n) = ap Variable (names.undoes n)
  place_undoes (Pointee a) = ap Pointee (expr_undoes a)
  place_undoes (Member p n) = λ i. Member (place_undoes p i) (names.undoes n i)
  place_undoes (Index p a) = λ i. Index (place_undoes p i) (expr_undoes a i)

abbrev pub exprs : Stored Expr
exprs = record { code = expr_code; back = expr_back; undoes = expr_undoes }

abbrev pub places : Stored Place
places = record { code = place_code; back = place_back; undoes = place_undoes }

abbrev pub coded_expr : Coded Expr
coded_expr = coded exprs

abbrev pub coded_place : Coded Place
coded_place = coded places
