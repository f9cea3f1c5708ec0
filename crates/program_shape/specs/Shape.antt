-- The form of a translation: one C function for each routine, and no interpreter.
use Rattle.std.specs.Prelude.{◌≡◌, ◌↔◌, ℕ, ◌≤◌, Bool, true, not, ◌&&◌, ◌||◌, nat_eq, IsTrue, List, [], ◌∷◌, ◌++◌, map, decimal, codes, Option, Some}
use Rattle.std.specs.List.{Contains, AllPairs, count_by, list_any, list_all}
use Rattle.std.specs.Str.{bytes_eq}
use Rattle.typed_tree.specs.declared.types.PasType.{PasType}
use Rattle.typed_tree.specs.declared.types.Types.{Types}
use Rattle.pascal_meaning.specs.declared.operations.Primitive.{Primitive}
use Rattle.c_tree.specs.Tree.{Statement, If, IfElse, Expr, Read, Number, WordNumber, Null, Address, Unary, Binary, Cast, Place, Variable, Pointee, Member, Index}
use Rattle.c_tree.specs.declared.program.CMember.{CMember}
use Rattle.c_tree.specs.declared.program.CFunction.{CFunction}
use Rattle.c_tree.specs.declared.program.CDeclaration.{CDeclaration}
use Rattle.c_tree.specs.declared.program.CDeclaration.TheVariants.{Struct, Typedef}
use Rattle.c_tree.specs.declared.program.CProgram.{CProgram}
use Rattle.c_meaning.specs.Entries.{number_at_end}
use Rattle.program_shape.specs.Outlines.{BodyOutline, RoutineOutline, Outline}
use Rattle.program_shape.specs.Functions.{whiles, GoesBack, Site, sites, Target, Runtime, Routine, Pointer, Calls, Text, texts, variables_of, function_names, runtime_functions}

-- the C name of a routine: its name, `_` and its number
abbrev pub c_name : RoutineOutline → List ℕ
c_name r = r.name ++ (95 ∷ decimal r.number)

-- ---- one function for each routine

-- x stands once in the list
pub record Once {X : Type 0} (xs : List X) (x : X) : Type 0 where
  pub before : List X
  pub after : List X
  pub is : xs ≡ before ++ (x ∷ after)
  pub not_before : Contains before x → ⊥
  pub not_after : Contains after x → ⊥

-- each routine has exactly one function with its C name, and no other function has a name that ends in `_` and a number
pub record OneFunctionEach (o : Outline) (c : CProgram) : Type 0 where
  pub one : (r : RoutineOutline) → Contains o.routines r → Once (function_names c) (c_name r)
  pub no_other : (name : List ℕ) (k : ℕ) → Contains (function_names c) name → number_at_end name ≡ Some k
      → (r : RoutineOutline) × Contains o.routines r × (name ≡ c_name r)

-- ---- the runtime's functions

-- when a C function performs a primitive, in a program with these types
abbrev pub Performing : Type 1
Performing = Types → CProgram → CFunction → Primitive → Type 0

-- the types begin with those of the outline
pub record BeginsWith (types first : Types) : Type 0 where
  pub dialect : types.dialect ≡ first.dialect
  pub more : List PasType
  pub is : types.list ≡ first.list ++ more

-- a function and the primitive that is given to it
pub record Given : Type 0 where
  pub function : CFunction
  pub primitive : Primitive

-- the primitive is used, the function performs it, and calls no function
pub record IsGiven (Performs : Performing) (o : Outline) (c : CProgram) (g : Given) : Type 0 where
  pub used : Contains o.primitives g.primitive
  pub types : Types
  pub begins : BeginsWith types o.types
  pub performs : Performs types c g.function g.primitive
  pub calls_none : sites g.function.body ≡ []

-- to each function that is no routine's one primitive is given, in their order, to no two the same
pub record PrimitivesOnly (Performs : Performing) (o : Outline) (c : CProgram) : Type 0 where
  pub given : List Given
  pub each : map (λ (g : Given). g.function) given ≡ runtime_functions c.functions
  pub all : (g : Given) → Contains given g → IsGiven Performs o c g
  pub unlike : AllPairs (λ (g h : Given). g.primitive ≡ h.primitive → ⊥) given

-- ---- captured variables

-- a link to the activation around, and what tells an activation that has nothing else from another
abbrev pub own_members : List (List ℕ)
own_members = codes "p2c_up" ∷ codes "p2c_identity" ∷ []

abbrev pub stands_in : List (List ℕ) → List ℕ → Bool
stands_in names n = list_any (bytes_eq n) names

abbrev pub are_distinct : List (List ℕ) → Bool
are_distinct names = list_all (λ n. nat_eq (count_by (bytes_eq n) names) 1) names

-- each captured variable is one member, by its name, and each other member is a link or an identity
abbrev pub are_members : (captured members : List (List ℕ)) → Bool
are_members captured members =
    are_distinct captured && are_distinct members
    && list_all (stands_in members) captured
    && list_all (stands_in (own_members ++ captured)) members

-- a struct with the C name of the routine has the members of its captured variables
abbrev pub has_members : (variable_name : ℕ → List ℕ) → RoutineOutline → CDeclaration → Bool
has_members variable_name r (Struct s) = not (bytes_eq s.name (c_name r)) || are_members (map variable_name r.captured) (map (λ (m : CMember). m.name) s.members)
has_members variable_name r (Typedef t) = true

abbrev pub captured_only : (variable_name : ℕ → List ℕ) → List RoutineOutline → List CDeclaration → Bool
captured_only variable_name routines declarations = list_all (λ r. list_all (has_members variable_name r) declarations) routines

-- each struct with the C name of a routine has one member for each captured variable, by its C name, and no other but a link and an identity
abbrev pub CapturedOnly : Outline → CProgram → Type 0
CapturedOnly o c = IsTrue (captured_only o.variable_name o.routines c.declarations)

-- ---- checks

abbrev pub escape_name : List ℕ
escape_name = codes "p2c_escape"

unfoldable mutual
  -- the names that an expression reads
  pub names_read : Expr → List (List ℕ)
  names_read (Read p) = place_names p
  names_read (Number n) = []
  names_read (WordNumber n) = []
  names_read Null = []
  names_read (Address p) = place_names p
  names_read (Unary op a) = names_read a
  names_read (Binary op a b) = names_read a ++ names_read b
  names_read (Cast to a) = names_read a

  pub place_names : Place → List (List ℕ)
  place_names (Variable n) = n ∷ []
  place_names (Pointee a) = names_read a
  place_names (Member p n) = place_names p
  place_names (Index p a) = place_names p ++ names_read a

-- the global `p2c_escape` is read, and nothing else
pub record ReadsEscape (t : Text) (test : Expr) : Type 0 where
  pub escape : Contains (names_read test) escape_name
  pub only : (name : List ℕ) → Contains (names_read test) name → name ≡ escape_name
  pub is_global : Contains t.own escape_name → ⊥

-- an `if` that tests the flag of escapes
abbrev pub IsCheck : Text → Option Statement → Type 0
IsCheck t (Some (If test body)) = ReadsEscape t test
IsCheck t (Some (IfElse test body otherwise)) = ReadsEscape t test
IsCheck t _ = ⊥

-- a call of the runtime is neither
abbrev pub IsCheckedAfter : Outline → Text → Option Statement → Target → Type 0
IsCheckedAfter o t next (Runtime name) = Unit {0}
IsCheckedAfter o t next (Routine k) = IsCheck t next ↔ o.MayEscape k
IsCheckedAfter o t next Pointer = IsCheck t next

-- a call of a routine, or through a pointer, is followed by a check exactly where the callee may escape
abbrev pub CheckedOnly : Outline → CProgram → Type 0
CheckedOnly o c = (t : Text) (s : Site) (target : Target) → Contains (texts c) t → Contains (sites t.statements) s → Calls (variables_of t) s.callee target
    → IsCheckedAfter o t s.next target

-- ---- loops

pub record AsManyLoops (b : BodyOutline) (statements : List Statement) : Type 0 where
  pub loops : whiles statements ≤ b.loops
  pub back : GoesBack statements → IsTrue b.labelled

-- a routine's function has at most as many loops as its body, and jumps back only where that has a label; so has `main`
pub record NoMoreLoops (o : Outline) (c : CProgram) : Type 0 where
  pub routines : (r : RoutineOutline) (f : CFunction) → Contains o.routines r → Contains c.functions f → f.name ≡ c_name r → AsManyLoops r.body f.body
  pub main : AsManyLoops o.main c.main.body

-- ---- all of it

pub record Shape (Performs : Performing) (o : Outline) (c : CProgram) : Type 0 where
  pub one_function_each : OneFunctionEach o c
  pub primitives_only : PrimitivesOnly Performs o c
  pub captured_only : CapturedOnly o c
  pub checked_only : CheckedOnly o c
  pub no_more_loops : NoMoreLoops o c
