-- The outline of a typed program.
use Rattle.std.specs.Prelude.{ℕ, ◌+◌, Bool, true, false, not, ◌||◌, nat_eq, IsTrue, List, [], ◌∷◌, ◌++◌, map, Option, Some, None}
use Rattle.std.specs.List.{Contains}
use Rattle.typed_tree.specs.declared.types.Types.{Types}
use Rattle.typed_tree.specs.declared.declarations.Callee.{Callee}
use Rattle.typed_tree.specs.declared.declarations.Callee.TheVariants as callee
use Rattle.typed_tree.specs.declared.declarations.FormalSection.{FormalSection}
use Rattle.typed_tree.specs.declared.declarations.VarDecl.{VarDecl}
use Rattle.typed_tree.specs.declared.declarations.Routine.{Routine}
use Rattle.typed_tree.specs.declared.declarations.Body.{Body}
use Rattle.typed_tree.specs.declared.declarations.Typed.{Typed}
use Rattle.typed_tree.specs.declared.operations.PredefCall.TheVariants as call
use Rattle.typed_tree.specs.declared.expressions.Root.{Root}
use Rattle.typed_tree.specs.declared.expressions.Root.TheVariants as root
use Rattle.typed_tree.specs.declared.expressions.TypedArg.{TypedArg}
use Rattle.typed_tree.specs.declared.expressions.TypedArg.TheVariants as arg
use Rattle.typed_tree.specs.declared.statements.TypedStmt as S
use Rattle.typed_tree.specs.declared.statements.TypedStmt.{TypedStmt}
use Rattle.pascal_meaning.specs.declared.operations.Primitive.{Primitive}
use Rattle.program_shape.specs.Nodes.{Node, Statement, Called, Named, Rooted, nodes}
use Rattle.program_shape.specs.Uses.{uses}
use Rattle.program_shape.specs.Raises.{raises}
use Rattle.program_shape.specs.Outlines.{BodyOutline, RoutineOutline, Outline}

unfoldable pub has_number : List ℕ → ℕ → Bool
has_number [] n = false
has_number (m ∷ ms) n = nat_eq m n || has_number ms n

-- ---- loops and labels

unfoldable pub loops_in : List Node → ℕ
loops_in [] = 0
loops_in (Statement (S.While' e p row) ∷ ns) = 1 + loops_in ns
loops_in (Statement (S.Repeat' shape row e) ∷ ns) = 1 + loops_in ns
loops_in (Statement (S.For' v first down last p row) ∷ ns) = 1 + loops_in ns
loops_in (n ∷ ns) = loops_in ns

unfoldable pub has_label : List Node → Bool
has_label [] = false
has_label (Statement (S.Labelled' l p row) ∷ ns) = true
has_label (n ∷ ns) = has_label ns

unfoldable pub body_outline : List Node → BodyOutline
body_outline ns = record { loops = loops_in ns; labelled = has_label ns }

-- ---- names that inner routines use

unfoldable pub section_names : List FormalSection → List ℕ
section_names [] = []
section_names (s ∷ ss) = s.decls ++ section_names ss

unfoldable pub result_names : Option VarDecl → List ℕ
result_names None = []
result_names (Some v) = v.decl ∷ []

unfoldable pub own_names : Routine → List ℕ
own_names r = section_names r.formals ++ result_names r.result ++ map (λ (v : VarDecl). v.decl) r.locals

unfoldable pub callee_names : Callee → List ℕ
callee_names (callee.Routine k) = []
callee_names (callee.Formal d) = d ∷ []

unfoldable pub root_names : Root → List ℕ
root_names (root.Variable d t) = d ∷ []
root_names (root.Outcome d t) = d ∷ []
root_names _ = []

-- the variables, parameters and results that an operation names
unfoldable pub names : Node → List ℕ
names (Called c) = callee_names c
names (Named c) = callee_names c
names (Rooted r) = root_names r
names _ = []

unfoldable pub all_names : List Node → List ℕ
all_names [] = []
all_names (n ∷ ns) = names n ++ all_names ns

unfoldable pub routine_nodes : Types → Routine → List Node
routine_nodes types r = nodes types r.body

-- what routines other than that with the number name; of its own names only inner routines can
unfoldable pub named_elsewhere : Types → ℕ → List Routine → List ℕ
named_elsewhere types k [] = []
named_elsewhere types k (r ∷ rs) = elim (nat_eq r.number k) [
  | true ↦ named_elsewhere types k rs
  | false ↦ all_names (routine_nodes types r) ++ named_elsewhere types k rs
]

unfoldable pub among_numbers : List ℕ → List ℕ → List ℕ
among_numbers used [] = []
among_numbers used (d ∷ ds) = elim (has_number used d) [ true ↦ d ∷ among_numbers used ds | false ↦ among_numbers used ds ]

unfoldable pub captured : Typed → Routine → List ℕ
captured p r = among_numbers (named_elsewhere p.types r.number p.routines) (own_names r)

-- ---- routines that may be left

unfoldable pub names_other : ℕ → List TypedArg → Bool
names_other k (arg.RoutineValue (callee.Routine j) ∷ xs) = not (nat_eq k j)
names_other k _ = true

-- a goto out of the routine, an exit from another one, and what ends the program or escapes
unfoldable pub statement_leaves : Routine → TypedStmt → Bool
statement_leaves r (S.Goto l) = not (has_number r.labels l)
statement_leaves r (S.Predefined call.ExitRoutine xs) = names_other r.number xs
statement_leaves r (S.Predefined call.ExitProgram xs) = true
statement_leaves r (S.Predefined call.Halt xs) = true
statement_leaves r (S.Predefined call.Escape xs) = true
statement_leaves r _ = false

-- an operation with which the routine may be left
unfoldable pub leaves : Types → Routine → Node → Bool
leaves types r (Statement s) = statement_leaves r s || raises types (Statement s)
leaves types r (Called (callee.Formal d)) = true
leaves types r n = raises types n

-- a routine may be left by its own operation, or by that of a routine which it calls
pub data MayEscape (p : Typed) : ℕ → Type 0 where
  Itself : (r : Routine) (n : Node) → Contains p.routines r → Contains (routine_nodes p.types r) n → IsTrue (leaves p.types r n) → MayEscape p r.number
  ByCall : (r : Routine) (k : ℕ) → Contains p.routines r → Contains (routine_nodes p.types r) (Called (callee.Routine k)) → MayEscape p k → MayEscape p r.number

-- ---- programs

unfoldable pub routine_outline : Typed → Routine → RoutineOutline
routine_outline p r = record { name = r.name; number = r.number; captured = captured p r; body = body_outline (routine_nodes p.types r) }

unfoldable pub bodies_nodes : Types → List Body → List Node
bodies_nodes types [] = []
bodies_nodes types (b ∷ bs) = nodes types b.body ++ bodies_nodes types bs

unfoldable pub routines_nodes : Types → List Routine → List Node
routines_nodes types [] = []
routines_nodes types (r ∷ rs) = routine_nodes types r ++ routines_nodes types rs

-- the operations of the program's body and of the initial parts of the units
unfoldable pub main_nodes : Typed → List Node
main_nodes p = bodies_nodes p.types p.units ++ nodes p.types p.main.body

unfoldable pub all_uses : Types → List Node → List Primitive
all_uses types [] = []
all_uses types (n ∷ ns) = uses types n ++ all_uses types ns

-- a typed program has its variables by number, and their C names are given
unfoldable pub outline_of : (variable_name : ℕ → List ℕ) → Typed → Outline
outline_of variable_name p = record {
  types = p.types;
  routines = map (routine_outline p) p.routines;
  main = body_outline (main_nodes p);
  primitives = all_uses p.types (routines_nodes p.types p.routines ++ main_nodes p);
  MayEscape = MayEscape p;
  variable_name = variable_name;
}
