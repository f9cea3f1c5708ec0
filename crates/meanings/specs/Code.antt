-- A program in some language, and what it answers.
use Rattle.std.specs.Prelude.{ℕ, zero, suc, pos, Bool, true, false, ◌&&◌, nat_eq, List, [], ◌∷◌, ◌++◌, length, Option, Some, None}
use Rattle.typed_tree.specs.declared.types.Types.{Types}
use Rattle.typed_tree.specs.declared.types.PasType.{PasType}
use Rattle.typed_tree.specs.declared.types.PasType.TheVariants.{DynString}
use Rattle.typed_tree.specs.declared.declarations.Owner.TheVariants.{Program, UnitPart, Routine}
use Rattle.typed_tree.specs.declared.declarations.VarDecl.{VarDecl}
use Rattle.typed_tree.specs.declared.declarations.FormalKind.{FormalKind, Value as ValueKind, Variable as VariableKind}
use Rattle.typed_tree.specs.declared.declarations.FormalSection.{FormalSection}
use Rattle.typed_tree.specs.Ranges.{type_at}
use Rattle.meanings.specs.Errors.{error_number}
use Rattle.meanings.specs.Values.{Tree, Undefined, ArrayOf, tree, RoutineValue, Variable}
use Rattle.meanings.specs.Worlds.{Slot, Holds, Refers, Calls, Activation, World, View}
use Rattle.meanings.specs.Outcomes.{Cause, Error, Escape, Exit, Goto, Leave, Raise, Halt, ReadUndefined, Malformed, Cut, Outcome, Normal, Exits, Checked, Passes, Lacks, Misfits, ◌&>◌, expect}
use Rattle.meanings.specs.Programs.{Passed, ByValue, ByReference, ByRoutine, Run, Level, Outline, Setting, Prog, ◌>>=◌, ◌>>◌, pure, ask, check, enter, record_entry, handle, at_activation}
use Rattle.meanings.specs.Memory.{base_tree, tree_at, kept, solid, solid_at}
use Rattle.meanings.specs.Fresh.{new_variables, have_types}

pub record RoutineCode : Type 0 where
  pub number : ℕ
  pub formals : List FormalSection
  pub result : Option VarDecl
  pub locals : List VarDecl
  pub run : Prog (Unit {0})

-- the program's body, or a unit's initial part
pub record BlockCode : Type 0 where
  pub locals : List VarDecl
  pub run : Prog (Unit {0})

pub record Code : Type 0 where
  pub outline : Outline
  pub routines : List RoutineCode
  -- in the order in which they begin
  pub units : List BlockCode
  pub main : BlockCode

unfoldable pub routine_at : List RoutineCode → ℕ → Option RoutineCode
routine_at [] k = None
routine_at (r ∷ rs) k = elim (nat_eq r.number k) [ true ↦ Some r | false ↦ routine_at rs k ]

-- ---- activations

unfoldable pub slot_of : Passed → Slot
slot_of (ByValue t) = Holds t
slot_of (ByReference r) = Refers r
slot_of (ByRoutine c) = Calls c

unfoldable pub formal_names : List FormalSection → List ℕ
formal_names [] = []
formal_names (f ∷ fs) = f.decls ++ formal_names fs

unfoldable pub bound_names : List ℕ → List Passed → List (ℕ × Slot)
bound_names (d ∷ ds) (a ∷ as') = (d, slot_of a) ∷ bound_names ds as'
bound_names _ _ = []

unfoldable pub result_variable : Option VarDecl → List VarDecl
result_variable None = []
result_variable (Some v) = v ∷ []

-- the variables that are made with an activation
unfoldable pub own_variables : RoutineCode → List VarDecl
own_variables r = result_variable r.result ++ r.locals

-- whether an argument is of the kind of a parameter
unfoldable pub is_of_kind : FormalKind → Passed → Bool
is_of_kind (ValueKind type) (ByValue t) = true
is_of_kind (VariableKind type) (ByReference r) = true
is_of_kind (ValueKind type) _ = false
is_of_kind (VariableKind type) _ = false
is_of_kind procedural (ByRoutine c) = true
is_of_kind procedural _ = false

-- the arguments after those of a section
unfoldable pub after_section : FormalKind → List ℕ → List Passed → Checked (List Passed)
after_section kind [] args = Passes args
after_section kind (d ∷ ds) [] = Misfits
after_section kind (d ∷ ds) (a ∷ as') = expect (is_of_kind kind a) &> λ u. after_section kind ds as'

-- an argument of its kind stands for each parameter
unfoldable pub fit_formals : List FormalSection → List Passed → Checked (Unit {0})
fit_formals [] [] = Passes tt
fit_formals [] (a ∷ as') = Misfits
fit_formals (f ∷ fs) args = after_section f.kind f.decls args &> λ rest. fit_formals fs rest

-- the arguments fit, and the types are there
unfoldable pub begins_well : Types → RoutineCode → List Passed → Checked (Unit {0})
begins_well types r args = fit_formals r.formals args &> λ u. expect (have_types types (own_variables r))

unfoldable pub new_activation : Types → RoutineCode → RoutineValue → List Passed → ℕ → Activation
new_activation types r c args n = record {
  number = n;
  owner = Routine r.number;
  parent = c.parent;
  names = bound_names (formal_names r.formals) args ++ new_variables types (own_variables r);
}

-- an argument is not there where it is a pointer to a heap variable that is gone, or a reference into one
unfoldable pub stands : View → Passed → Checked (Unit {0})
stands v (ByValue t) = kept (solid v t) tt
stands v (ByReference r) = kept (base_tree v r.base) tt
stands v (ByRoutine c) = Passes tt

unfoldable pub all_stand : List Passed → View → Checked (Unit {0})
all_stand [] v = Passes tt
all_stand (a ∷ as') v = stands v a &> λ u. all_stand as' v

unfoldable pub own_leave : Setting → Exit → Option (Unit {0})
own_leave s (Leave a) = elim (nat_eq a s.here) [ true ↦ Some tt | false ↦ None ]
own_leave s _ = None

-- a dynamic string's cell 0 is read, and the rest copied
unfoldable pub result_read : View → Option PasType → Checked Tree → Checked Tree
result_read v (Some (DynString limit)) (Passes (ArrayOf (tree Undefined ts))) = Lacks
result_read v _ t = solid_at v t

unfoldable pub result_in : VarDecl → Setting → View → Checked Tree
result_in r s v = result_read v (type_at s.program.types r.of) (tree_at v (record { base = Variable s.here r.decl; path = [] }))

-- a function's result; a procedure has none
unfoldable pub result_of : Option VarDecl → Prog Tree
result_of None = pure Undefined
result_of (Some r) = ask (result_in r)

-- the arguments are read again before the routine is entered
unfoldable pub activation : RoutineCode → RoutineValue → List Passed → Prog Tree
activation r c args = check (λ types. begins_well types r args) >> ask (λ s v. all_stand args v)
    >> (ask (λ s v. Passes s.program.types) >>= λ types. enter (new_activation types r c args))
    >> record_entry r.number >> handle own_leave r.run >> result_of r.result

unfoldable pub activate : Outline → Level → Option RoutineCode → Run
activate p l None c args w = Exits Malformed w
activate p l (Some r) c args w = activation r c args (record { program = p; here = w.next }) l w

unfoldable pub extend : Code → Level → Level
extend p l = (λ c args w. activate p.outline l (routine_at p.routines c.routine) c args w) ∷ l

-- the bound n
unfoldable pub level : Code → ℕ → Level
level p zero = []
level p (suc n) = extend p (level p n)

-- ---- programs

-- the activations of the units, numbered from a on
unfoldable pub unit_activations : Types → (i a : ℕ) → List BlockCode → List Activation
unit_activations types i a [] = []
unit_activations types i a (u ∷ us) = record { number = a; owner = UnitPart i; parent = a; names = new_variables types u.locals } ∷ unit_activations types (suc i) (suc a) us

unfoldable pub ends_line : List ℕ → Bool
ends_line [] = true
ends_line (b ∷ []) = nat_eq b 10
ends_line (b ∷ c ∷ bs) = ends_line (c ∷ bs)

-- the input, with a line end understood after an input that is not empty and ends with none
unfoldable pub closed_input : List ℕ → List ℕ
closed_input bytes = elim (ends_line bytes) [ true ↦ bytes | false ↦ bytes ++ (10 ∷ []) ]

-- the program's activation has the number 0
unfoldable pub start : Code → List ℕ → World
start p input = record {
  activations = record { number = 0; owner = Program; parent = 0; names = new_variables p.outline.types p.main.locals } ∷ unit_activations p.outline.types 0 1 p.units;
  next = suc (length p.units);
  heap = [];
  input = closed_input input;
  output = [];
  entries = [];
  escape_code = pos 0;
  temporaries = λ a d. Holds Undefined;
}

unfoldable pub initial_parts : ℕ → List BlockCode → Prog (Unit {0})
initial_parts a [] = pure tt
initial_parts a (u ∷ us) = at_activation a (handle own_leave u.run) >> initial_parts (suc a) us

unfoldable pub each_has_types : Types → List BlockCode → Bool
each_has_types types [] = true
each_has_types types (b ∷ bs) = have_types types b.locals && each_has_types types bs

unfoldable pub whole_program : Code → Prog (Unit {0})
whole_program p = check (λ types. expect (each_has_types types (p.main ∷ p.units))) >> initial_parts 1 p.units >> p.main.run

-- ---- answers

pub data Answer : Type 0 where
  -- the program ended with this status
  End : (output : List ℕ) (status : ℕ) (entries : List ℕ) → Answer
  -- something undefined or disposed was read
  UndefinedAfter : (output entries : List ℕ) → Answer
  -- something was come to that stands in no tree that an elaboration makes
  MalformedAfter : (output entries : List ℕ) → Answer
  -- the bound does not reach the end
  CutAfter : (output entries : List ℕ) → Answer

unfoldable pub cause_status : Cause → ℕ
cause_status (Error e) = error_number e
cause_status (Escape n) = 209

unfoldable pub exit_answer : Exit → World → Answer
exit_answer (Goto a l) w = End w.output 0 w.entries
exit_answer (Leave a) w = End w.output 0 w.entries
exit_answer (Raise c) w = End w.output (cause_status c) w.entries
exit_answer (Halt n) w = End w.output n w.entries
exit_answer ReadUndefined w = UndefinedAfter w.output w.entries
exit_answer Malformed w = MalformedAfter w.output w.entries
exit_answer Cut w = CutAfter w.output w.entries

unfoldable pub answer_of : Outcome (Unit {0}) → Answer
answer_of (Normal x w) = End w.output 0 w.entries
answer_of (Exits e w) = exit_answer e w

-- a program's answer at a bound
unfoldable pub answer : Code → (input : List ℕ) → (n : ℕ) → Answer
answer p input n = answer_of (whole_program p (record { program = p.outline; here = 0 }) (level p n) (start p input))
