-- The order of declarations in Iso.
use Rattle.std.proofs.Common.{◌≡◌, ℕ, zero, suc, ◌<◌, ◌≤◌, ◌⊎◌, inl, inr, Bool, true, false, ◌&&◌, ◌||◌, not, List, [], ◌∷◌, ◌++◌, map, refl, sym, ap, subst, arith}
use Rattle.std.specs.Prelude.{IsTrue, ◌==◌, nat_lt}
use Rattle.std.proofs.lemmas.Bool.{ltb-true, lt-ltb, eqb-true, eq-eqb}
use Rattle.std.proofs.lemmas.Simd.{map-map}
use Rattle.p2c_text.specs.declared.dialect.Dialect.{Dialect}
use Rattle.dialect_lexer.specs.Dialects.{is_iso}
use Rattle.pascal_tree.specs.declared.declarations.Declaration.{Declaration}
use Rattle.expr_parser.specs.Grammar.{all}
use Rattle.expr_parser.proofs.FollowedParts.{and_in, and_out}
use Rattle.unit_parser.specs.Grammar.{Judged, place_of_routines, may_follow, are_in_order, judged_declaration, formed_declarations}
use Rattle.unit_parser.proofs.Beginnings.{opens_within, declaration_start}

or_out : (a b : Bool) → IsTrue (a || b) → (a ≡ true) ⊎ (b ≡ true)
or_out true b h = inl refl
or_out false b h = inr h

-- two numbers in order are one, or one is less
pub same_or_less : (i p : ℕ) → i ≤ p → (p ≡ i) ⊎ (suc i ≤ p)
same_or_less zero zero h = inl refl
same_or_less zero (suc p) h = inr (omega arith)
same_or_less (suc i) zero h = absurd (omega (arith, h))
same_or_less (suc i) (suc p) h = elim (same_or_less i p (omega (arith, h))) [ inl e ↦ inl (ap suc e) | inr l ↦ inr (omega (arith, l)) ]

pub follows_place : (a b : Judged) → IsTrue (may_follow a b) → (a.place < b.place) ⊎ (b.place ≡ 4)
follows_place a b h = elim (or_out (nat_lt a.place b.place) (b.place == place_of_routines) h) [ inl l ↦ inl (ltb-true a.place b.place l) | inr e ↦ inr (eqb-true b.place 4 e) ]

pub place_follows : (a b : Judged) → (a.place < b.place) ⊎ (b.place ≡ 4) → IsTrue (may_follow a b)
place_follows a b h = elim h [ inl l ↦ first (nat_lt a.place b.place) (b.place == place_of_routines) (lt-ltb a.place b.place l) | inr e ↦ second (nat_lt a.place b.place) (b.place == place_of_routines) (eq-eqb b.place 4 e) ]
  where
    first : (x y : Bool) → x ≡ true → IsTrue (x || y)
    first true y e = refl
    first false y e = absurd cc

    second : (x y : Bool) → y ≡ true → IsTrue (x || y)
    second true y e = refl
    second false y e = e

module _ (d : Dialect) where
  abbrev pub place : Declaration → ℕ
  place x = (judged_declaration d x).place

  abbrev pub formed_one : Declaration → Bool
  formed_one x = (judged_declaration d x).formed

  abbrev pub formed_routine_one : Declaration → Bool
  formed_routine_one x = formed_one x && (place x == 4)

  abbrev pub InOrder : List Declaration → Type 0
  InOrder xs = IsTrue (are_in_order (map (judged_declaration d) xs))

  -- the first, if there is one, has this place or a later one
  abbrev pub From : ℕ → List Declaration → Type 0
  From i [] = Unit {0}
  From i (x ∷ xs) = i ≤ place x

  pub place_small : (x : Declaration) → place x ≤ 4
  place_small x = opens_within (declaration_start d x []).opens

  pub from_first : (xs : List Declaration) → From 0 xs
  from_first [] = tt
  from_first (x ∷ xs) = omega arith

  pub order_tail : (x : Declaration) (xs : List Declaration) → InOrder (x ∷ xs) → InOrder xs
  order_tail x [] h = refl
  order_tail x (y ∷ ys) h = (and_out (may_follow (judged_declaration d x) (judged_declaration d y)) _ h).1

  pub from_next : (i : ℕ) (x : Declaration) (xs : List Declaration) → InOrder (x ∷ xs) → place x ≡ i → i < 4 → From (suc i) xs
  from_next i x [] h e l = tt
  from_next i x (y ∷ ys) h e l =
      elim (follows_place (judged_declaration d x) (judged_declaration d y) (and_out (may_follow (judged_declaration d x) (judged_declaration d y)) _ h).0) [ inl m ↦ omega (arith, m, e) | inr f ↦ omega (arith, f, l) ]

  from_routine : (x : Declaration) (xs : List Declaration) → InOrder (x ∷ xs) → 4 ≤ place x → From 4 xs
  from_routine x [] h l = tt
  from_routine x (y ∷ ys) h l =
      elim (follows_place (judged_declaration d x) (judged_declaration d y) (and_out (may_follow (judged_declaration d x) (judged_declaration d y)) _ h).0)
      [ inl m ↦ let small = place_small y in absurd (omega (arith, m, l, small)) | inr f ↦ omega (arith, f) ]

  pub is_routine : (x : Declaration) → 4 ≤ place x → place x ≡ 4
  is_routine x l = let small = place_small x in omega (arith, l, small)

  -- behind the other kinds there are routines alone
  pub all_routines : (xs : List Declaration) → InOrder xs → From 4 xs → IsTrue (all (map formed_one xs)) → IsTrue (all (map formed_routine_one xs))
  all_routines [] order from h = refl
  all_routines (x ∷ xs) order from h =
      let both = and_out (formed_one x) (all (map formed_one xs)) h in
      and_in (formed_routine_one x) _ (and_in (formed_one x) (place x == 4) both.0 (eq-eqb (place x) 4 (is_routine x from))) (all_routines xs (order_tail x xs order) (from_routine x xs order from) both.1)

  pub routine_place : (x : Declaration) → IsTrue (formed_routine_one x) → place x ≡ 4
  routine_place x h = eqb-true (place x) 4 (and_out (formed_one x) (place x == 4) h).1

  -- ---- one declaration more

  -- the last, if there is one, has an earlier place
  abbrev pub LastBelow : ℕ → List Declaration → Type 0
  LastBelow i [] = Unit {0}
  LastBelow i (x ∷ []) = place x < i
  LastBelow i (x ∷ y ∷ ys) = LastBelow i (y ∷ ys)

  pub below_more : (i : ℕ) (xs : List Declaration) → LastBelow i xs → LastBelow (suc i) xs
  below_more i [] h = tt
  below_more i (x ∷ []) h = omega (arith, h)
  below_more i (x ∷ y ∷ ys) h = below_more i (y ∷ ys) h

  pub below_push : (i : ℕ) (xs : List Declaration) (x : Declaration) → place x < i → LastBelow i (xs ++ x ∷ [])
  below_push i [] x h = h
  below_push i (y ∷ []) x h = h
  below_push i (y ∷ z ∷ zs) x h = below_push i (z ∷ zs) x h

  pub order_push : (xs : List Declaration) (x : Declaration) → InOrder xs → LastBelow (place x) xs ⊎ (place x ≡ 4) → InOrder (xs ++ x ∷ [])
  order_push [] x h k = refl
  order_push (y ∷ []) x h k = and_in (may_follow (judged_declaration d y) (judged_declaration d x)) true (place_follows (judged_declaration d y) (judged_declaration d x) k) refl
  order_push (y ∷ z ∷ zs) x h k =
      let both = and_out (may_follow (judged_declaration d y) (judged_declaration d z)) (are_in_order (map (judged_declaration d) (z ∷ zs))) h in
      and_in (may_follow (judged_declaration d y) (judged_declaration d z)) _ both.0 (order_push (z ∷ zs) x both.1 k)

  -- ---- what is asked of declarations

  pub declarations_all : (xs : List Declaration) → IsTrue (formed_declarations d (map (judged_declaration d) xs)) → IsTrue (all (map formed_one xs))
  declarations_all xs h = subst (λ l. IsTrue (all l)) (map-map (λ (j : Judged). j.formed) (judged_declaration d) xs) (and_out (all (map (λ (j : Judged). j.formed) (map (judged_declaration d) xs))) _ h).0

  pub declarations_in_order : (xs : List Declaration) → is_iso d ≡ true → IsTrue (formed_declarations d (map (judged_declaration d) xs)) → InOrder xs
  declarations_in_order xs iso h = by (is_iso d) iso (and_out (all (map (λ (j : Judged). j.formed) (map (judged_declaration d) xs))) _ h).1
    where
      by : (b : Bool) → b ≡ true → IsTrue (not b || are_in_order (map (judged_declaration d) xs)) → InOrder xs
      by true e h = h
      by false e h = absurd cc

  pub declarations_formed : (xs : List Declaration) → IsTrue (all (map formed_one xs)) → (is_iso d ≡ true → InOrder xs) → IsTrue (formed_declarations d (map (judged_declaration d) xs))
  declarations_formed xs h order =
      and_in (all (map (λ (j : Judged). j.formed) (map (judged_declaration d) xs))) _ (subst (λ l. IsTrue (all l)) (sym (map-map (λ (j : Judged). j.formed) (judged_declaration d) xs)) h) (by (is_iso d) order)
    where
      by : (b : Bool) → (b ≡ true → InOrder xs) → IsTrue (not b || are_in_order (map (judged_declaration d) xs))
      by true k = k refl
      by false k = refl
