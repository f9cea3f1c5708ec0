-- The code of a statement.
use Rattle.std.specs.Prelude.{◌≡◌, ℕ, List, [], ◌∷◌, Option, None, refl}
use Rattle.std.specs.Coded.{Coded}
use Rattle.std.proofs.Common.{ap}
use base.Stored.{Gv, gnil, gnum, gcons, num}
use Rattle.c_tree.specs.Codes.{Stored, coded, node, pick, names, lists, options}
use Rattle.c_tree.specs.types.Code.{types}
use Rattle.c_tree.specs.expressions.Tree.{Expr, Place}
use Rattle.c_tree.specs.expressions.Code.{exprs, places}
use Rattle.c_tree.specs.statements.Tree.{Statement, Assign, Call, Malloc, Free, GetChar, PutChar, If, IfElse, While, Goto, Label, Return, Body, Empty, Then}
use Rattle.c_tree.specs.declared.statement.CCallee.{CCallee}
use Rattle.c_tree.specs.declared.statement.CCallee.TheVariants.{Direct, Indirect}

abbrev targets : Stored (Option Place)
targets = options places

abbrev values : Stored (Option Expr)
values = options exprs

abbrev arguments : Stored (List Expr)
arguments = lists exprs

abbrev callee_code : CCallee → Gv
callee_code (Direct name) = gcons (gnum 0) (names.code name)
callee_code (Indirect pointer) = gcons (gnum 1) (exprs.code pointer)

abbrev callee_back : Gv → CCallee
callee_back (gcons t x) = pick (Direct (names.back x) ∷ []) (num t) (Indirect (exprs.back x))
callee_back _ = Direct []

pub callee_undoes : (x : CCallee) → callee_back (callee_code x) ≡ x
callee_undoes (Direct name) = ap Direct (names.undoes name)
callee_undoes (Indirect pointer) = ap Indirect (exprs.undoes pointer)

abbrev mutual
  statement_code : Statement → Gv
  statement_code (Assign p a) = node 0 (places.code p) (exprs.code a) gnil
  statement_code (Call into callee args) = node 1 (targets.code into) (callee_code callee) (arguments.code args)
  statement_code (Malloc p of) = node 2 (places.code p) (types.code of) gnil
  statement_code (Free a) = node 3 (exprs.code a) gnil gnil
  statement_code (GetChar p) = node 4 (places.code p) gnil gnil
  statement_code (PutChar a) = node 5 (exprs.code a) gnil gnil
  statement_code (If t a) = node 6 (exprs.code t) (body_code a) gnil
  statement_code (IfElse t a b) = node 7 (exprs.code t) (body_code a) (body_code b)
  statement_code (While t a) = node 8 (exprs.code t) (body_code a) gnil
  statement_code (Goto l) = node 9 (names.code l) gnil gnil
  statement_code (Label l) = node 10 (names.code l) gnil gnil
  statement_code (Return a) = node 11 (values.code a) gnil gnil

  body_code : Body → Gv
  body_code Empty = gnil
  body_code (Then s rest) = gcons (statement_code s) (body_code rest)

abbrev statement_at : ℕ → (x y z : Gv) → Body → Body → Statement
statement_at n x y z a b = pick (Assign (places.back x) (exprs.back y) ∷ Call (targets.back x) (callee_back y) (arguments.back z) ∷ Malloc (places.back x) (types.back y)
    ∷ Free (exprs.back x) ∷ GetChar (places.back x) ∷ PutChar (exprs.back x) ∷ If (exprs.back x) a ∷ IfElse (exprs.back x) a b ∷ While (exprs.back x) a
    ∷ Goto (names.back x) ∷ Label (names.back x) ∷ []) n (Return (values.back x))

abbrev mutual
  statement_back : Gv → Statement
  statement_back (gcons t (gcons x (gcons y z))) = statement_at (num t) x y z (body_back y) (body_back z)
  statement_back _ = Return None

  body_back : Gv → Body
  body_back (gcons s rest) = Then (statement_back s) (body_back rest)
  body_back _ = Empty

mutual
  pub statement_undoes : (x : Statement) → statement_back (statement_code x) ≡ x
  statement_undoes (Assign p a) = λ i. Assign (places.undoes p i) (exprs.undoes a i)
  statement_undoes (Call into callee args) = λ i. Call (targets.undoes into i) (callee_undoes callee i) (arguments.undoes args i)
  statement_undoes (Malloc p of) = λ i. Malloc (places.undoes p i) (types.undoes of i)
  statement_undoes (Free a) = ap Free (exprs.undoes a)
  statement_undoes (GetChar p) = ap GetChar (places.undoes p)
  statement_undoes (PutChar a) = ap PutChar (exprs.undoes a)
  statement_undoes (If t a) = λ i. If (exprs.undoes t i) (body_undoes a i)
  statement_undoes (IfElse t a b) = λ i. IfElse (exprs.undoes t i) (body_undoes a i) (body_undoes b i)
  statement_undoes (While t a) = λ i. While (exprs.undoes t i) (body_undoes a i)
  statement_undoes (Goto l) = ap Goto (names.undoes l)
  statement_undoes (Label l) = ap Label (names.undoes l)
  statement_undoes (Return a) = ap Return (values.undoes a)

  pub body_undoes : (x : Body) → body_back (body_code x) ≡ x
  body_undoes Empty = refl
  body_undoes (Then s rest) = λ i. Then (statement_undoes s i) (body_undoes rest i)

abbrev pub coded_statement : Coded Statement
coded_statement = coded (record { code = statement_code; back = statement_back; undoes = statement_undoes })
