-- Statements, as contracts see them.
use Rattle.std.specs.Prelude.{◌≡◌, ℕ, ◌+◌, List, [], ◌∷◌, Option, refl}
use Rattle.std.proofs.Common.{ap}
use Rattle.c_tree.specs.types.Tree.{ObjectType}
use Rattle.c_tree.specs.expressions.Tree.{Expr, Place}
use Rattle.c_tree.specs.declared.statement.CCallee.{CCallee}

mutual
  pub data Statement : Type 0 where
    Assign : (place : Place) (value : Expr) → Statement
    Call : (into : Option Place) (callee : CCallee) (arguments : List Expr) → Statement
    Malloc : (into : Place) (of : ObjectType) → Statement
    Free : (pointer : Expr) → Statement
    GetChar : (into : Place) → Statement
    PutChar : (value : Expr) → Statement
    If : (test : Expr) (body : Body) → Statement
    IfElse : (test : Expr) (body otherwise : Body) → Statement
    While : (test : Expr) (body : Body) → Statement
    Goto : (label : List ℕ) → Statement
    Label : (name : List ℕ) → Statement
    Return : (value : Option Expr) → Statement

  -- the list of statements between the braces of a statement
  pub data Body : Type 0 where
    Empty : Body
    Then : (first : Statement) (rest : Body) → Body

abbrev pub body_of : List Statement → Body
body_of [] = Empty
body_of (s ∷ rest) = Then s (body_of rest)

abbrev pub list_of : Body → List Statement
list_of Empty = []
list_of (Then s rest) = s ∷ list_of rest

pub list_of-body_of : (all : List Statement) → list_of (body_of all) ≡ all
list_of-body_of [] = refl
list_of-body_of (s ∷ rest) = ap (λ l. s ∷ l) (list_of-body_of rest)

pub body_of-list_of : (body : Body) → body_of (list_of body) ≡ body
body_of-list_of Empty = refl
body_of-list_of (Then s rest) = ap (λ l. Then s l) (body_of-list_of rest)

-- how many statements are in it, and the braces around them: more than in each part
abbrev mutual
  pub statement_size : Statement → ℕ
  statement_size (If test a) = body_size a + 1
  statement_size (IfElse test a b) = body_size a + body_size b + 1
  statement_size (While test a) = body_size a + 1
  statement_size _ = 0

  pub body_size : Body → ℕ
  body_size Empty = 0
  body_size (Then s rest) = statement_size s + 1 + body_size rest
