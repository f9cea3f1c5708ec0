-- What the form of a C program is read from: its loops, jumps, calls and names.
use Rattle.std.specs.Prelude.{◌≡◌, ℕ, ◌+◌, List, [], ◌∷◌, ◌++◌, map, Option, Some, None}
use Rattle.std.specs.List.{Contains}
use Rattle.c_tree.specs.Tree.{Statement, Call, If, IfElse, While, Goto, Label, Body, Empty, Then, Expr}
use Rattle.c_tree.specs.declared.statement.CCallee.{CCallee}
use Rattle.c_tree.specs.declared.statement.CCallee.TheVariants as callee
use Rattle.c_tree.specs.declared.program.CVariable.{CVariable}
use Rattle.c_tree.specs.declared.program.CFunction.{CFunction}
use Rattle.c_tree.specs.declared.program.CProgram.{CProgram}
use Rattle.c_meaning.specs.Entries.{number_at_end}

-- ---- loops

unfoldable mutual
  pub statement_whiles : Statement → ℕ
  statement_whiles (While test a) = 1 + body_whiles a
  statement_whiles (If test a) = body_whiles a
  statement_whiles (IfElse test a b) = body_whiles a + body_whiles b
  statement_whiles _ = 0

  pub body_whiles : Body → ℕ
  body_whiles Empty = 0
  body_whiles (Then s rest) = statement_whiles s + body_whiles rest

-- how many `while` stand in statements
unfoldable pub whiles : List Statement → ℕ
whiles [] = 0
whiles (s ∷ rest) = statement_whiles s + whiles rest

-- ---- jumps

-- a label, or a `goto` to one
pub data Jump : Type 0 where
  Lands : (label : List ℕ) → Jump
  Leaps : (label : List ℕ) → Jump

unfoldable mutual
  pub statement_jumps : Statement → List Jump
  statement_jumps (While test a) = body_jumps a
  statement_jumps (If test a) = body_jumps a
  statement_jumps (IfElse test a b) = body_jumps a ++ body_jumps b
  statement_jumps (Goto label) = Leaps label ∷ []
  statement_jumps (Label name) = Lands name ∷ []
  statement_jumps _ = []

  pub body_jumps : Body → List Jump
  body_jumps Empty = []
  body_jumps (Then s rest) = statement_jumps s ++ body_jumps rest

-- in the order of the text
unfoldable pub jumps : List Statement → List Jump
jumps [] = []
jumps (s ∷ rest) = statement_jumps s ++ jumps rest

-- a `goto` stands after its label in the text
pub record GoesBack (statements : List Statement) : Type 0 where
  pub label : List ℕ
  pub before : List Jump
  pub between : List Jump
  pub after : List Jump
  pub is : jumps statements ≡ before ++ (Lands label ∷ (between ++ (Leaps label ∷ after)))

-- ---- calls

-- a call, and the statement after it in its list
pub record Site : Type 0 where
  pub callee : CCallee
  pub next : Option Statement

unfoldable mutual
  -- the calls in a statement, where the next statement of its list is known
  pub statement_sites : Option Statement → Statement → List Site
  statement_sites next (Call into c arguments) = record { callee = c; next = next } ∷ []
  statement_sites next (While test a) = body_sites a
  statement_sites next (If test a) = body_sites a
  statement_sites next (IfElse test a b) = body_sites a ++ body_sites b
  statement_sites next _ = []

  pub body_sites : Body → List Site
  body_sites Empty = []
  body_sites (Then s Empty) = statement_sites None s
  body_sites (Then s (Then t rest)) = statement_sites (Some t) s ++ body_sites (Then t rest)

unfoldable pub first_of : List Statement → Option Statement
first_of [] = None
first_of (s ∷ rest) = Some s

-- the calls in statements
unfoldable pub sites : List Statement → List Site
sites [] = []
sites (s ∷ rest) = statement_sites (first_of rest) s ++ sites rest

-- ---- names

-- what is called
pub data Target : Type 0 where
  Runtime : (name : List ℕ) → Target
  Routine : (number : ℕ) → Target
  Pointer : Target

unfoldable pub function_target : List ℕ → Option ℕ → Target
function_target name None = Runtime name
function_target name (Some k) = Routine k

-- a name among variables is called through its value
pub data Calls (variables : List (List ℕ)) : CCallee → Target → Type 0 where
  ByName : (name : List ℕ) → (Contains variables name → ⊥) → Calls variables (callee.Direct name) (function_target name (number_at_end name))
  ByVariable : (name : List ℕ) → Contains variables name → Calls variables (callee.Direct name) Pointer
  ByValue : (e : Expr) → Calls variables (callee.Indirect e) Pointer

unfoldable pub variable_names : List CVariable → List (List ℕ)
variable_names vs = map (λ (v : CVariable). v.name) vs

unfoldable pub function_names : CProgram → List (List ℕ)
function_names c = map (λ (f : CFunction). f.name) c.functions

-- those whose names end in no number
unfoldable pub runtime_functions : List CFunction → List CFunction
runtime_functions [] = []
runtime_functions (f ∷ fs) = elim (number_at_end f.name) [ None ↦ f ∷ runtime_functions fs | Some k ↦ runtime_functions fs ]

-- a function or `main`: its statements, its parameters and locals, and the globals
pub record Text : Type 0 where
  pub statements : List Statement
  pub own : List (List ℕ)
  pub globals : List (List ℕ)

unfoldable pub variables_of : Text → List (List ℕ)
variables_of t = t.own ++ t.globals

unfoldable pub function_text : CProgram → CFunction → Text
function_text c f = record { statements = f.body; own = variable_names f.parameters ++ variable_names f.locals; globals = variable_names c.globals }

unfoldable pub main_text : CProgram → Text
main_text c = record { statements = c.main.body; own = variable_names c.main.locals; globals = variable_names c.globals }

-- the texts of all functions, with that of `main`
unfoldable pub texts : CProgram → List Text
texts c = main_text c ∷ map (function_text c) c.functions
