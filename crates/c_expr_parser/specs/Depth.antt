-- How many statements and expressions are nested in a tree.
use Rattle.std.specs.Prelude.{ℕ, suc, ◌≤◌, max, List, [], ◌∷◌, Option, Some, None}
use Rattle.c_tree.specs.Tree.{Expr, Read, Number, WordNumber, Null, Address, Unary, Binary, Cast, Place, Variable, Pointee, Member, Index, Statement, Assign, Call, Malloc, Free, GetChar, PutChar, If, IfElse, While, Goto, Label, Return, Body, Empty, Then, body_of}
use Rattle.std.specs.List.{AllByRecursion}
use Rattle.c_tree.specs.declared.statement.CCallee.{CCallee}
use Rattle.c_tree.specs.declared.program.CFunction.{CFunction}
use Rattle.c_tree.specs.declared.program.CProgram.{CProgram}
use Rattle.c_tree.specs.declared.statement.CCallee.TheVariants.{Direct, Indirect}

abbrev mutual
  pub expr_depth : Expr → ℕ
  expr_depth (Read p) = suc (place_depth p)
  expr_depth (Number n) = 1
  expr_depth (WordNumber n) = 1
  expr_depth Null = 1
  expr_depth (Address p) = suc (place_depth p)
  expr_depth (Unary op a) = suc (expr_depth a)
  expr_depth (Binary op a b) = suc (max (expr_depth a) (expr_depth b))
  expr_depth (Cast to a) = suc (expr_depth a)

  pub place_depth : Place → ℕ
  place_depth (Variable n) = 0
  place_depth (Pointee a) = expr_depth a
  place_depth (Member p n) = place_depth p
  place_depth (Index p a) = max (place_depth p) (expr_depth a)

abbrev pub into_depth : Option Place → ℕ
into_depth None = 0
into_depth (Some p) = place_depth p

abbrev pub callee_depth : CCallee → ℕ
callee_depth (Direct n) = 0
callee_depth (Indirect a) = expr_depth a

abbrev pub value_depth : Option Expr → ℕ
value_depth None = 0
value_depth (Some a) = expr_depth a

abbrev pub arguments_depth : List Expr → ℕ
arguments_depth [] = 0
arguments_depth (a ∷ more) = max (expr_depth a) (arguments_depth more)

abbrev mutual
  pub statement_depth : Statement → ℕ
  statement_depth (Assign p a) = suc (max (place_depth p) (expr_depth a))
  statement_depth (Call into callee all) = suc (max (into_depth into) (max (callee_depth callee) (arguments_depth all)))
  statement_depth (Malloc p of) = suc (place_depth p)
  statement_depth (Free a) = suc (expr_depth a)
  statement_depth (GetChar p) = suc (place_depth p)
  statement_depth (PutChar a) = suc (expr_depth a)
  statement_depth (If test a) = suc (max (expr_depth test) (body_depth a))
  statement_depth (IfElse test a b) = suc (max (expr_depth test) (max (body_depth a) (body_depth b)))
  statement_depth (While test a) = suc (max (expr_depth test) (body_depth a))
  statement_depth (Goto l) = 1
  statement_depth (Label l) = 1
  statement_depth (Return a) = suc (value_depth a)

  pub body_depth : Body → ℕ
  body_depth Empty = 0
  body_depth (Then s more) = max (statement_depth s) (body_depth more)

-- no statement of a function is nested deeper
abbrev pub Fits : ℕ → CProgram → Type 0
Fits d c = AllByRecursion (λ (f : CFunction). body_depth (body_of f.body) ≤ d) c.functions × (body_depth (body_of c.main.body) ≤ d)
