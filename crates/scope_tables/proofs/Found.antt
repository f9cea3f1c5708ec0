-- The laws.
use Rattle.std.proofs.Common.{◌≡◌, ℕ, Bool, true, false, List, [], ◌∷◌, ◌++◌, ◌==◌, Some, None, refl, ap, ◌∙◌, arith, ◌⊎◌, inl, inr}
use Rattle.std.specs.Str.{bytes_eq}
use Rattle.scope_tables.specs.Scopes.{Scope, declared_in, or_else, found}
use Rattle.scope_tables.specs.Laws.{InnermostIsFound, OutsideIsFound, DeclaredIsFound, OthersAreFound}
use Rattle.scope_tables.proofs.Innermost.{found_inside}

pub innermost_is_found : InnermostIsFound
innermost_is_found scopes scope name decl h = found_inside scopes scope name ∙ ap (λ o. or_else o (found scopes name)) h

pub outside_is_found : OutsideIsFound
outside_is_found scopes scope name h = found_inside scopes scope name ∙ ap (λ o. or_else o (found scopes name)) h

same_bytes : (s : List ℕ) → bytes_eq s s ≡ true
same_bytes [] = refl
same_bytes (b ∷ s) = rw (same b) (same_bytes s)
  where
    same : (n : ℕ) → (n == n) ≡ true
    same n = grind arith

decide : (b : Bool) → (b ≡ true) ⊎ (b ≡ false)
decide true = inl refl
decide false = inr refl

-- a new name is found behind the others
declared_new : (scope : Scope) (name : List ℕ) (decl : ℕ) → declared_in scope name ≡ None → declared_in (scope ++ (name, decl) ∷ []) name ≡ Some decl
declared_new [] name decl h = rw (same_bytes name) refl
declared_new (e ∷ scope) name decl h =
    elim (decide (bytes_eq name e.0)) [ inl q ↦ absurd (let k = rw q at h in cc) | inr q ↦ rw q (declared_new scope name decl (rw q at h)) ]

declared_other : (scope : Scope) (name other : List ℕ) (decl : ℕ) → bytes_eq other name ≡ false → declared_in (scope ++ (name, decl) ∷ []) other ≡ declared_in scope other
declared_other [] name other decl h = rw h refl
declared_other (e ∷ scope) name other decl h =
    elim (decide (bytes_eq other e.0)) [ inl q ↦ rw q refl | inr q ↦ rw q (declared_other scope name other decl h) ]

pub declared_is_found : DeclaredIsFound
declared_is_found [] name decl h n = absurd (omega arith)
declared_is_found (scope ∷ []) name decl h n = declared_new scope name decl n
declared_is_found (scope ∷ next ∷ inner) name decl h n = ap (λ o. or_else o (declared_in scope name)) (declared_is_found (next ∷ inner) name decl (omega arith) n)

pub others_are_found : OthersAreFound
others_are_found [] name other decl h = refl
others_are_found (scope ∷ []) name other decl h = declared_other scope name other decl h
others_are_found (scope ∷ next ∷ inner) name other decl h = ap (λ o. or_else o (declared_in scope other)) (others_are_found (next ∷ inner) name other decl h)
