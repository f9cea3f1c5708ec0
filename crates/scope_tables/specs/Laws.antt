-- Laws of the scope rule.
use Rattle.std.specs.Prelude.{◌≡◌, ℕ, ◌<◌, false, List, [], ◌∷◌, ◌++◌, Some, None, length}
use Rattle.std.specs.Str.{bytes_eq}
use Rattle.scope_tables.specs.Scopes.{Scope, declared_in, found, innermost, with_declared}

-- what the innermost scope declares hides what is outside
abbrev pub InnermostIsFound : Type 0
InnermostIsFound = (scopes : List Scope) (scope : Scope) (name : List ℕ) (decl : ℕ) → declared_in scope name ≡ Some decl → found (scopes ++ scope ∷ []) name ≡ Some decl

-- a name that the innermost scope has not is found further out
abbrev pub OutsideIsFound : Type 0
OutsideIsFound = (scopes : List Scope) (scope : Scope) (name : List ℕ) → declared_in scope name ≡ None → found (scopes ++ scope ∷ []) name ≡ found scopes name

-- a name is found as it was declared last
abbrev pub DeclaredIsFound : Type 0
DeclaredIsFound = (scopes : List Scope) (name : List ℕ) (decl : ℕ) → 0 < length scopes → declared_in (innermost scopes) name ≡ None → found (with_declared scopes name decl) name ≡ Some decl

-- and other names as before
abbrev pub OthersAreFound : Type 0
OthersAreFound = (scopes : List Scope) (name other : List ℕ) (decl : ℕ) → bytes_eq other name ≡ false → found (with_declared scopes name decl) other ≡ found scopes other
