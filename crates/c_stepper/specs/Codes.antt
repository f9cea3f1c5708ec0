-- The code of a program.
use Rattle.std.specs.Prelude.{◌≡◌, ℕ, ◌+◌, Bool, true, false, List, [], ◌∷◌, ◌++◌, map, length, Option, Some, None, slice_get}
use Rattle.c_tree.specs.Tree as t
use Rattle.c_tree.specs.Tree.{Expr, Place, Statement, Body, list_of}
use Rattle.c_tree.specs.declared.program.CVariable.{CVariable}
use Rattle.c_tree.specs.declared.program.CFunction.{CFunction}
use Rattle.c_tree.specs.declared.program.CProgram.{CProgram}
use Rattle.c_tree.specs.declared.statement.CCallee.{CCallee}
use Rattle.c_tree.specs.declared.statement.CCallee.TheVariants as callee
use Rattle.c_meaning.specs.Cells.{Name}
use Rattle.name_tables.specs.Places.{first_from, function_name}
use Rattle.c_evaluation.specs.declared.numbers.Variable.{Variable}
use Rattle.c_evaluation.specs.declared.numbers.Number.{Number}
use Rattle.c_evaluation.specs.Numbers.{NamesNone, IsVariable, Resolves}
use Rattle.c_stepper.specs.declared.resolved.code.ResolvedCall.{ResolvedCall}
use Rattle.c_stepper.specs.declared.resolved.code.Resolved.{Resolved}
use Rattle.c_stepper.specs.declared.resolved.code.Resolved.TheVariants as r
use Rattle.c_stepper.specs.declared.resolved.code.Row.{Row}
use Rattle.c_stepper.specs.declared.resolved.code.Node.{Node}
use Rattle.c_stepper.specs.declared.resolved.code.Code.{Code}
use Rattle.c_stepper.specs.declared.resolved.note.ProgramCode.{ProgramCode}

-- the test of a `while`, or of an `if` without `else`
abbrev pub test_of : Statement → Option Expr
test_of (t.If e a) = Some e
test_of (t.While e a) = Some e
test_of _ = None

-- the test of an `if` with `else`
abbrev pub choice_of : Statement → Option Expr
choice_of (t.IfElse e a b) = Some e
choice_of _ = None

abbrev pub is_loop : Statement → Bool
is_loop (t.While e a) = true
is_loop _ = false

-- the variables are of `int64_t`
abbrev pub AreInts : List CVariable → Type 0
AreInts [] = Unit {0}
AreInts (q ∷ rest) = (q.of ≡ t.Int) × AreInts rest

-- the function has so many parameters, and they are of `int64_t`
abbrev pub TakesInts : CProgram → (function count : ℕ) → Type 0
TakesInts c function count = (f : CFunction) × (slice_get c.functions function ≡ Some f) × AreInts f.parameters × (length f.parameters ≡ count)

-- ---- one statement, in a text with these variables

module _ (c : CProgram) (vars : List CVariable) where
  -- the name is that of the function, and of no variable
  abbrev pub IsFunction : ℕ → Name → Type 0
  IsFunction function x = NamesNone c vars x × (first_from 0 x (map function_name c.functions) ≡ Some function)

  abbrev pub IsCallee : ℕ → CCallee → Type 0
  IsCallee function who = (x : Name) × (who ≡ callee.Direct x) × IsFunction function x

  -- the place for an answer is the variable, or there is none
  abbrev pub IsTarget : Option Variable → Option Place → Type 0
  IsTarget None into = into ≡ None
  IsTarget (Some variable) into = (at : Place) × (into ≡ Some at) × IsVariable c vars variable at

  -- the numbers are the expressions, one after another
  abbrev pub ResolveAll : List Number → List Expr → Type 0
  ResolveAll [] [] = Unit {0}
  ResolveAll (n ∷ numbers) (e ∷ es) = Resolves c vars n e × ResolveAll numbers es
  ResolveAll _ _ = ⊥

  -- the call, with variables and the function in place of names
  pub record IsCall (call : ResolvedCall) (s : Statement) : Type 0 where
    pub into : Option Place
    pub who : CCallee
    pub arguments : List Expr
    pub is : s ≡ t.Call into who arguments
    pub callee : IsCallee call.function who
    pub target : IsTarget call.target into
    pub numbers : ResolveAll call.arguments.items arguments
    pub ints : TakesInts c call.function (length call.arguments.items)

  -- the resolved form is the statement, with variables in place of names
  abbrev pub IsResolved : Resolved → Statement → Type 0
  IsResolved (r.Store variable number) s = (at : Place) × (e : Expr) × (s ≡ t.Assign at e) × IsVariable c vars variable at × Resolves c vars number e
  IsResolved (r.Test number) s = (e : Expr) × (test_of s ≡ Some e) × Resolves c vars number e
  IsResolved (r.Choose number) s = (e : Expr) × (choice_of s ≡ Some e) × Resolves c vars number e
  IsResolved (r.Call call) s = IsCall call s
  IsResolved (r.Give number) s = (e : Expr) × (s ≡ t.Return (Some e)) × Resolves c vars number e
  IsResolved r.Other s = Unit {0}

  -- the resolved forms of tests
  abbrev pub IsTest : Resolved → Expr → Type 0
  IsTest (r.Test number) e = Resolves c vars number e
  IsTest r.Other e = Unit {0}
  IsTest _ e = ⊥

  abbrev pub IsChoice : Resolved → Expr → Type 0
  IsChoice (r.Choose number) e = Resolves c vars number e
  IsChoice r.Other e = Unit {0}
  IsChoice _ e = ⊥

  -- ---- lists

  abbrev mutual
    -- the nodes of the branches stand in these rows
    pub Inner : List Node → (first second : Row) → Statement → Type 0
    Inner nodes first second (t.If e a) = Noted nodes first.start a × (length (list_of a) ≡ first.count) × (second.count ≡ 0)
    Inner nodes first second (t.IfElse e a b) = Noted nodes first.start a × (length (list_of a) ≡ first.count) × Noted nodes second.start b × (length (list_of b) ≡ second.count)
    Inner nodes first second (t.While e a) = Noted nodes first.start a × (length (list_of a) ≡ first.count) × (second.count ≡ 0)
    Inner nodes first second _ = (first.count ≡ 0) × (second.count ≡ 0)

    -- those of the statements between braces stand side by side, and begin here
    pub Noted : List Node → ℕ → Body → Type 0
    Noted nodes at t.Empty = Unit {0}
    Noted nodes at (t.Then s rest) = ((node : Node) × (slice_get nodes at ≡ Some node) × IsResolved node.resolved s × Inner nodes node.first node.second s × (node.again ≡ is_loop s)) × Noted nodes (at + 1) rest

  -- the node of a statement
  pub record IsNode (nodes : List Node) (node : Node) (s : Statement) : Type 0 where
    pub resolved : IsResolved node.resolved s
    pub inner : Inner nodes node.first node.second s
    pub again : node.again ≡ is_loop s

  -- the nodes of a list of statements begin here
  abbrev pub NotedList : List Node → ℕ → List Statement → Type 0
  NotedList nodes at list = (i : ℕ) (s : Statement) → slice_get list i ≡ Some s → (node : Node) × (slice_get nodes (at + i) ≡ Some node) × IsNode nodes node s

  -- and the row has one for each
  abbrev pub IsRow : List Node → Row → List Statement → Type 0
  IsRow nodes row list = NotedList nodes row.start list × (length list ≡ row.count)

  abbrev pub IsCode : Code → List Statement → Type 0
  IsCode code body = IsRow code.nodes.items code.row body

-- there are further nodes behind the old ones
abbrev pub Extends : (old new : List Node) → Type 0
Extends old new = (more : List Node) × (new ≡ old ++ more)

-- the code of each function
abbrev pub AreCodes : CProgram → List Code → List CFunction → Type 0
AreCodes c [] [] = Unit {0}
AreCodes c (code ∷ codes) (f ∷ functions) = IsCode c (f.parameters ++ f.locals) code f.body × AreCodes c codes functions
AreCodes c _ _ = ⊥

pub record IsProgramCode (c : CProgram) (p : ProgramCode) : Type 0 where
  pub main : IsCode c c.main.locals p.main c.main.body
  pub functions : AreCodes c p.functions.items c.functions
