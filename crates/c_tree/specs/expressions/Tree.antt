-- Expressions and places, as contracts see them.
use Rattle.std.specs.Prelude.{ℕ, ◌+◌, max, List}
use Rattle.c_tree.specs.declared.operators.CUnary.{CUnary}
use Rattle.c_tree.specs.declared.operators.CBinary.{CBinary}
use Rattle.c_tree.specs.declared.operators.CCast.{CCast}

mutual
  -- a place that is read, `INT64_C(n)`, `UINT64_C(n)`, `NULL`, `(& place)` and the three forms with operators
  pub data Expr : Type 0 where
    Read : (place : Place) → Expr
    Number : (value : ℕ) → Expr
    WordNumber : (value : ℕ) → Expr
    Null : Expr
    Address : (place : Place) → Expr
    Unary : (operator : CUnary) (operand : Expr) → Expr
    Binary : (operator : CBinary) (left right : Expr) → Expr
    Cast : (to : CCast) (operand : Expr) → Expr

  -- a name, `(* pointer)`, `place.member` and `place[index]`
  pub data Place : Type 0 where
    Variable : (name : List ℕ) → Place
    Pointee : (pointer : Expr) → Place
    Member : (place : Place) (name : List ℕ) → Place
    Index : (place : Place) (index : Expr) → Place

-- how deep it is
abbrev mutual
  pub expr_size : Expr → ℕ
  expr_size (Read p) = place_size p + 1
  expr_size (Number n) = 0
  expr_size (WordNumber n) = 0
  expr_size Null = 0
  expr_size (Address p) = place_size p + 1
  expr_size (Unary op a) = expr_size a + 1
  expr_size (Binary op a b) = max (expr_size a + 1) (expr_size b + 1)
  expr_size (Cast to a) = expr_size a + 1

  pub place_size : Place → ℕ
  place_size (Variable n) = 0
  place_size (Pointee a) = expr_size a + 1
  place_size (Member p n) = place_size p + 1
  place_size (Index p a) = max (place_size p + 1) (expr_size a + 1)
