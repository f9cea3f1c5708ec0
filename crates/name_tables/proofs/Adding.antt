-- A name that is added to a table.
use Rattle.std.proofs.Common.{◌≡◌, ℕ, zero, suc, ◌+◌, ◌<◌, ◌≤◌, arith, length, map, drop, drop-cons, get_or, List, [], ◌∷◌, Bool, true, false, Option, Some, None, refl, sym, ap, ◌∙◌}
use Rattle.std.specs.Prelude.{if◌then◌else◌, cond}
use Rattle.std.specs.Str.{bytes_eq}
use Rattle.std.proofs.lemmas.Slice.Eq.{bytes_eq-Decides}
use Rattle.c_meaning.specs.Cells.{Name}
use Rattle.c_meaning.specs.Answer.{or_else}
use Rattle.name_tables.specs.Places.{place_in, place_if, place_of, first_from, Holds}
use Rattle.name_tables.specs.declared.places.Places.{Places}

or_none : (o : Option ℕ) → or_else o None ≡ o
unfolding or_else
or_none (Some p) = refl
or_none None = refl

turned : (x y : Name) → bytes_eq x y ≡ bytes_eq y x
turned x y = by (bytes_eq x y) (bytes_eq y x) refl refl where
  by : (a b : Bool) → bytes_eq x y ≡ a → bytes_eq y x ≡ b → a ≡ b
  by true true h l = refl
  by false false h l = refl
  by true false h l = sym ((bytes_eq-Decides y x).1 (sym ((bytes_eq-Decides x y).0 h))) ∙ l
  by false true h l = sym h ∙ (bytes_eq-Decides x y).1 (sym ((bytes_eq-Decides y x).0 l))

-- the name is there
pub kept : (t : Places) (y : Name) (n p : ℕ) → Some p ≡ place_in t y → (x : Name) → place_in t x ≡ or_else (place_in t x) (place_if x y n)
unfolding or_else
kept t y n p h x = by (bytes_eq x y) refl where
  by : (b : Bool) → bytes_eq x y ≡ b → place_in t x ≡ or_else (place_in t x) (if b then Some n else None)
  by false l = sym (or_none (place_in t x))
  by true l = let e : place_in t x ≡ Some p = ap (place_in t) ((bytes_eq-Decides x y).0 l) ∙ sym h in e ∙ ap (λ o. or_else o (Some n)) (sym e)

-- the name is new
pub added : (t u : Places) (y z : Name) (n : ℕ) → z ≡ y → place_in t y ≡ None → ((x : Name) → place_in u x ≡ cond (bytes_eq z x) (Some n) (place_in t x)) → (x : Name) → place_in u x ≡ or_else (place_in t x) (place_if x y n)
unfolding or_else
added t u y z n same h w x = w x ∙ ap (λ y. cond (bytes_eq y x) (Some n) (place_in t x)) same ∙ ap (λ b. cond b (Some n) (place_in t x)) (turned y x) ∙ by (bytes_eq x y) refl where
  by : (b : Bool) → bytes_eq x y ≡ b → cond b (Some n) (place_in t x) ≡ or_else (place_in t x) (if b then Some n else None)
  by false l = sym (or_none (place_in t x))
  by true l = ap (λ o. or_else o (Some n)) (sym (ap (place_in t) ((bytes_eq-Decides x y).0 l) ∙ h))

pub none_added : (t : Places) (x : Name) → place_in t x ≡ or_else (place_in t x) None
none_added t x = sym (or_none (place_in t x))

-- ---- rows

drop_all : {A : Type 0} (list : List A) (i : ℕ) → length list ≤ i → drop i list ≡ []
drop_all [] zero h = refl
drop_all [] (suc i) h = refl
drop_all (a ∷ list) zero h = absurd (omega (arith, h))
drop_all (a ∷ list) (suc i) h = drop_all list i (omega (arith, h))

or_or : (a b c : Option ℕ) → or_else (or_else a b) c ≡ or_else a (or_else b c)
unfolding or_else
or_or (Some p) b c = refl
or_or None b c = refl

module _ {A : Type 0} (key : A → Option Name) (all : List A) where
  -- the table has the places below i
  abbrev pub Noted : Places → ℕ → Type 0
  Noted t i = (x : Name) → or_else (place_in t x) (first_from i x (map key (drop i all))) ≡ first_from 0 x (map key all)

  pub noted_none : (t : Places) → ((x : Name) → place_in t x ≡ None) → Noted t 0
  unfolding or_else
  noted_none t h x = ap (λ o. or_else o (first_from 0 x (map key all))) (h x)

  here : (i : ℕ) (a : A) → i < length all → a ≡ get_or all i a → drop i all ≡ a ∷ drop (i + 1) all
  here i a h e =
      let next : suc i ≡ i + 1 = omega arith in
      drop-cons all i a h ∙ ap (λ b. b ∷ drop (suc i) all) (sym e) ∙ ap (λ n. a ∷ drop n all) next

  pub noted_next : (t u : Places) (i : ℕ) (a : A) → i < length all → a ≡ get_or all i a → Noted t i
      → ((x : Name) → place_in u x ≡ or_else (place_in t x) (place_of x (key a) i)) → Noted u (i + 1)
  unfolding first_from
  noted_next t u i a h e b w x =
      let rest = first_from (i + 1) x (map key (drop (i + 1) all)) in
      ap (λ o. or_else o rest) (w x) ∙ or_or (place_in t x) (place_of x (key a) i) rest
      ∙ ap (λ l. or_else (place_in t x) (first_from i x (map key l))) (sym (here i a h e)) ∙ b x

  pub noted_all : (t : Places) (i : ℕ) → length all ≤ i → Noted t i → Holds t (map key all)
  unfolding first_from
  noted_all t i h b x =
      sym (or_none (place_in t x)) ∙ ap (λ l. or_else (place_in t x) (first_from i x (map key l))) (sym (drop_all all i h)) ∙ b x
