-- What stands at the first place of a name.
use Rattle.std.proofs.Common.{◌≡◌, ℕ, zero, suc, ◌+◌, ◌-◌, ◌<◌, ◌≤◌, arith, List, [], ◌∷◌, length, map, take, Bool, true, false, Option, Some, None, refl, sym, ap, ◌∙◌}
use Rattle.std.specs.Prelude.{slice_get, if◌then◌else◌}
use Rattle.std.specs.Str.{bytes_eq}
use Rattle.c_meaning.specs.Cells.{Name}
use Rattle.c_meaning.specs.Answer.{or_else}
use Rattle.name_tables.specs.Places.{place_of, first_from}

-- whether it is this name
abbrev pub is_name : Name → Option Name → Bool
is_name x None = false
is_name x (Some y) = bytes_eq x y

module _ {A : Type 0} (key : A → Option Name) (x : Name) where
  -- the first item with the name
  abbrev pub first_item : List A → Option A
  first_item [] = None
  first_item (a ∷ rest) = if is_name x (key a) then Some a else first_item rest

  place_is : (o : Option Name) (i : ℕ) → place_of x o i ≡ (if is_name x o then Some i else None)
  place_is None i = refl
  place_is (Some y) i = refl

  -- the first place in a row that is not empty
  pub first_next : (a : A) (rest : List A) (i : ℕ) → first_from i x (map key (a ∷ rest)) ≡ or_else (if is_name x (key a) then Some i else None) (first_from (i + 1) x (map key rest))
  unfolding first_from
  first_next a rest i = ap (λ o. or_else o (first_from (i + 1) x (map key rest))) (place_is (key a) i)

  pub at_least : (list : List A) (i p : ℕ) → first_from i x (map key list) ≡ Some p → i ≤ p
  unfolding first_from or_else
  at_least [] i p h = absurd cc
  at_least (a ∷ rest) i p h =
      elim (is_name x (key a)) as (λ b. or_else (if b then Some i else None) (first_from (i + 1) x (map key rest)) ≡ Some p → i ≤ p)
      [ true ↦ (λ e. let same : i ≡ p = cc in omega (arith, same)) | false ↦ (λ e. let low = at_least rest (i + 1) p e in omega (arith, low)) ]
      (sym (first_next a rest i) ∙ h)

  pub below : (list : List A) (i p : ℕ) → first_from i x (map key list) ≡ Some p → p < i + length list
  unfolding first_from or_else
  below [] i p h = absurd cc
  below (a ∷ rest) i p h =
      elim (is_name x (key a)) as (λ b. or_else (if b then Some i else None) (first_from (i + 1) x (map key rest)) ≡ Some p → p < i + suc (length rest))
      [ true ↦ (λ e. let same : i ≡ p = cc in omega (arith, same)) | false ↦ (λ e. let low = below rest (i + 1) p e in omega (arith, low)) ]
      (sym (first_next a rest i) ∙ h)

  pub absent : (list : List A) (i : ℕ) → first_from i x (map key list) ≡ None → first_item list ≡ None
  unfolding or_else
  absent [] i h = refl
  absent (a ∷ rest) i h =
      elim (is_name x (key a)) as (λ b. or_else (if b then Some i else None) (first_from (i + 1) x (map key rest)) ≡ None → (if b then Some a else first_item rest) ≡ None)
      [ true ↦ (λ e. absurd cc) | false ↦ (λ e. absent rest (i + 1) e) ]
      (sym (first_next a rest i) ∙ h)

  item_from : (list : List A) (i p : ℕ) → first_from i x (map key list) ≡ Some p → slice_get list (p - i) ≡ first_item list
  unfolding first_from or_else
  item_from [] i p h = absurd cc
  item_from (a ∷ rest) i p h =
      elim (is_name x (key a)) as (λ b. or_else (if b then Some i else None) (first_from (i + 1) x (map key rest)) ≡ Some p → slice_get (a ∷ rest) (p - i) ≡ (if b then Some a else first_item rest)) [
        | true ↦ (λ e. let same : i ≡ p = cc in let none : p - i ≡ 0 = omega (arith, same) in ap (slice_get (a ∷ rest)) none)
        | false ↦ (λ e. let low = at_least rest (i + 1) p e in let one : p - i ≡ suc (p - (i + 1)) = omega (arith, low) in ap (slice_get (a ∷ rest)) one ∙ item_from rest (i + 1) p e)
      ]
      (sym (first_next a rest i) ∙ h)

  pub item_at : (list : List A) (p : ℕ) → first_from 0 x (map key list) ≡ Some p → slice_get list p ≡ first_item list
  item_at list p h = let same : p ≡ p - 0 = omega arith in ap (slice_get list) same ∙ item_from list 0 p h

  -- ---- the first ones alone

  within_from : (list : List A) (i p n : ℕ) → first_from i x (map key list) ≡ Some p → p < i + n → first_item (take n list) ≡ first_item list
  unfolding first_from or_else
  within_from [] i p n h l = absurd cc
  within_from (a ∷ rest) i p zero h l = let low = at_least (a ∷ rest) i p h in absurd (omega (arith, low, l))
  within_from (a ∷ rest) i p (suc n) h l =
      elim (is_name x (key a)) as (λ b. or_else (if b then Some i else None) (first_from (i + 1) x (map key rest)) ≡ Some p → (if b then Some a else first_item (take n rest)) ≡ (if b then Some a else first_item rest))
      [ true ↦ (λ e. refl) | false ↦ (λ e. within_from rest (i + 1) p n e (omega (arith, l))) ]
      (sym (first_next a rest i) ∙ h)

  pub within : (list : List A) (p n : ℕ) → first_from 0 x (map key list) ≡ Some p → p < n → first_item (take n list) ≡ first_item list
  within list p n h l = within_from list 0 p n h (omega (arith, l))

  beyond_from : (list : List A) (i p n : ℕ) → first_from i x (map key list) ≡ Some p → i + n ≤ p → first_item (take n list) ≡ None
  unfolding first_from or_else
  beyond_from list i p zero h l = refl
  beyond_from [] i p (suc n) h l = refl
  beyond_from (a ∷ rest) i p (suc n) h l =
      elim (is_name x (key a)) as (λ b. or_else (if b then Some i else None) (first_from (i + 1) x (map key rest)) ≡ Some p → (if b then Some a else first_item (take n rest)) ≡ None)
      [ true ↦ (λ e. let same : i ≡ p = cc in absurd (omega (arith, same, l))) | false ↦ (λ e. beyond_from rest (i + 1) p n e (omega (arith, l))) ]
      (sym (first_next a rest i) ∙ h)

  pub beyond : (list : List A) (p n : ℕ) → first_from 0 x (map key list) ≡ Some p → n ≤ p → first_item (take n list) ≡ None
  beyond list p n h l = beyond_from list 0 p n h (omega (arith, l))

  pub absent_of : (list : List A) (i n : ℕ) → first_from i x (map key list) ≡ None → first_item (take n list) ≡ None
  unfolding or_else
  absent_of list i zero h = refl
  absent_of [] i (suc n) h = refl
  absent_of (a ∷ rest) i (suc n) h =
      elim (is_name x (key a)) as (λ b. or_else (if b then Some i else None) (first_from (i + 1) x (map key rest)) ≡ None → (if b then Some a else first_item (take n rest)) ≡ None)
      [ true ↦ (λ e. absurd cc) | false ↦ (λ e. absent_of rest (i + 1) n e) ]
      (sym (first_next a rest i) ∙ h)
