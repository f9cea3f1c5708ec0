-- A scope stays open when a name is declared in it.
use Rattle.std.proofs.Common.{ℕ, ◌<◌, List, [], ◌∷◌, length, arith}
use Rattle.scope_tables.specs.Scopes.{Scope, with_declared}

pub still_open : (scopes : List Scope) (name : List ℕ) (decl : ℕ) → 0 < length scopes → 0 < length (with_declared scopes name decl)
still_open [] name decl h = h
still_open (scope ∷ []) name decl h = omega arith
still_open (scope ∷ next ∷ inner) name decl h = omega arith
