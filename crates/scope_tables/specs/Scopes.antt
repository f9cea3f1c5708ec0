-- Open scopes, the innermost last. A scope is the list of its pairs of a name and the number of a definition, in order of declaration.
use Rattle.std.specs.Prelude.{◌≡◌, ℕ, suc, List, [], ◌∷◌, ◌++◌, Option, Some, None, IsSome}
use Rattle.std.specs.Str.{bytes_eq}
use Rattle.std.specs.Map.{lookup}
use Rattle.scope_tables.specs.declared.fault.DeclareFault.{DeclareFault}
use Rattle.scope_tables.specs.declared.fault.DeclareFault.TheVariants.{Double, Memory}

abbrev pub Scope : Type 0
Scope = List (List ℕ × ℕ)

-- what the scope declares the name as
abbrev pub declared_in : Scope → List ℕ → Option ℕ
declared_in scope name = lookup (bytes_eq name) scope

abbrev pub or_else : Option ℕ → Option ℕ → Option ℕ
or_else None other = other
or_else (Some decl) other = Some decl

-- what the innermost scope that has the name declares it as
abbrev pub found : List Scope → List ℕ → Option ℕ
found [] name = None
found (scope ∷ inner) name = or_else (found inner name) (declared_in scope name)

abbrev pub deeper : Option ℕ → Option ℕ → Option ℕ
deeper (Some n) other = Some (suc n)
deeper None None = None
deeper None (Some decl) = Some 0

-- the place among the open scopes of the innermost one that has the name
abbrev pub depth_of : List Scope → List ℕ → Option ℕ
depth_of [] name = None
depth_of (scope ∷ inner) name = deeper (depth_of inner name) (declared_in scope name)

abbrev pub innermost : List Scope → Scope
innermost [] = []
innermost (scope ∷ []) = scope
innermost (scope ∷ next ∷ inner) = innermost (next ∷ inner)

-- the innermost scope declares the name as well
abbrev pub with_declared : List Scope → List ℕ → ℕ → List Scope
with_declared [] name decl = []
with_declared (scope ∷ []) name decl = (scope ++ (name, decl) ∷ []) ∷ []
with_declared (scope ∷ next ∷ inner) name decl = scope ∷ with_declared (next ∷ inner) name decl

-- the name comes back, as Double exactly where the scope has it
abbrev pub IsRefused : Scope → List ℕ → DeclareFault → Type 0
IsRefused scope name (Double back) = (back ≡ name) × IsSome (declared_in scope name)
IsRefused scope name (Memory back) = (back ≡ name) × (declared_in scope name ≡ None)
