-- What is found at the front of bytes is found at the front of a part of them that is long enough.
use Rattle.std.proofs.Common.{◌≡◌, ℕ, zero, suc, ◌+◌, ◌≤◌, ◌<◌, Bool, true, false, List, [], ◌∷◌, length, take, Option, Some, None, refl, sym, ap, subst, arith, ◌==◌, ◌⊎◌, inl, inr}
use Rattle.std.specs.List.{list_all}
use Rattle.dialect_lexer.specs.declared.ends.Closer.{Closer}
use Rattle.dialect_lexer.specs.declared.ends.Closer.TheVariants.{Either, Brace, Star, Dollar}
use Rattle.dialect_lexer.specs.Bytes.{is_line_end}
use Rattle.dialect_lexer.specs.Ends.{run, further, star_length, closing_length, closing_end, quote_end}
use Rattle.dialect_lexer.specs.Forms.{is_end}

pub decide : (b : Bool) → (b ≡ true) ⊎ (b ≡ false)
decide true = inl refl
decide false = inr refl

pub length_take : (n : ℕ) (s : List ℕ) → n ≤ length s → length (take n s) ≡ n
length_take zero s h = refl
length_take (suc n) [] h = absurd (omega arith)
length_take (suc n) (b ∷ s) h = ap suc (length_take n s (omega arith))

-- ---- runs

pub run_within : (test : ℕ → Bool) (s : List ℕ) → run test s ≤ length s
unfolding run
run_within test [] = omega arith
run_within test (b ∷ s) = let h = run_within test s in
    elim (decide (test b)) [ inl e ↦ rw e (omega arith) | inr e ↦ rw e (omega arith) ]

pub run_all : (test : ℕ → Bool) (s : List ℕ) → list_all test (take (run test s) s) ≡ true
unfolding run
run_all test [] = refl
run_all test (b ∷ s) = elim (decide (test b)) [ inl e ↦ rw e (rw e (run_all test s)) | inr e ↦ rw e refl ]

pub run_stops : (test : ℕ → Bool) (s : List ℕ) (m : ℕ) → run test s < m → m ≤ length s → list_all test (take m s) ≡ false
unfolding run
run_stops test s zero h le = absurd (omega arith)
run_stops test [] (suc m) h le = absurd (omega arith)
run_stops test (b ∷ s) (suc m) h le =
    elim (decide (test b)) [
      | inl e ↦ let k : run test s < m = omega (arith, rw e at h) in rw e (run_stops test s m k (omega arith))
      | inr e ↦ rw e refl
    ]

-- ---- ends

pub further_some : (k : ℕ) (o : Option ℕ) (n : ℕ) → further k o ≡ Some n → (j : ℕ) × (o ≡ Some j) × (n ≡ k + j)
further_some k None n e = absurd cc
further_some k (Some j) n e = (j, refl, cc)

-- an end that each longer part has is the longest
pub record IsEndOf (find : List ℕ → Option ℕ) (s : List ℕ) (n : ℕ) : Type 0 where
  pub within : n ≤ length s
  pub found : (m : ℕ) → n ≤ m → find (take m s) ≡ Some n

pub end_is : (find : List ℕ → Option ℕ) (s : List ℕ) (n : ℕ) → IsEndOf find s n → is_end (take n s) (find (take n s)) ≡ true
end_is find s n h = rw (h.found n (omega arith)) (rw (length_take n s h.within) (same n))
  where
    same : (n : ℕ) → (n == n) ≡ true
    same n = grind arith

pub end_stops : (find : List ℕ → Option ℕ) (s : List ℕ) (n m : ℕ) → IsEndOf find s n → n < m → m ≤ length s → is_end (take m s) (find (take m s)) ≡ false
end_stops find s n m h lt le = rw (h.found m (omega arith)) (rw (length_take m s le) (other n m lt))
  where
    other : (n m : ℕ) → n < m → (n == m) ≡ false
    other n m lt = grind arith

star_front : (b : ℕ) (s : List ℕ) (k m : ℕ) → star_length b s ≡ suc k → suc k ≤ suc m → star_length b (take m s) ≡ suc k
star_front b [] k m e h = elim (decide (b == 42)) [ inl q ↦ absurd (let e' = rw q at e in cc) | inr q ↦ absurd (let e' = rw q at e in cc) ]
star_front b (c ∷ s) k zero e h = elim (decide (b == 42)) [
  | inl q ↦ elim (decide (c == 41)) [ inl r ↦ let e' = rw (q, r) at e in absurd (omega arith) | inr r ↦ absurd (let e' = rw (q, r) at e in cc) ]
  | inr q ↦ absurd (let e' = rw q at e in cc)
]
star_front b (c ∷ s) k (suc m) e h = e

closing_front : (c : Closer) (b : ℕ) (s : List ℕ) (k m : ℕ) → closing_length c b s ≡ suc k → suc k ≤ suc m → closing_length c b (take m s) ≡ suc k
unfolding closing_length
closing_front Either b s k m e h = elim (decide (b == 125)) [ inl q ↦ rw q (rw q at e) | inr q ↦ rw q (star_front b s k m (rw q at e) h) ]
closing_front Brace b s k m e h = e
closing_front Star b s k m e h = star_front b s k m e h
closing_front Dollar b s k m e h = e

star_none : (b : ℕ) (s : List ℕ) (m : ℕ) → star_length b s ≡ 0 → star_length b (take m s) ≡ 0
star_none b [] zero e = e
star_none b [] (suc m) e = e
star_none b (c ∷ s) zero e = elim (decide (b == 42)) [ inl q ↦ rw q refl | inr q ↦ rw q refl ]
star_none b (c ∷ s) (suc m) e = e

closing_none : (c : Closer) (b : ℕ) (s : List ℕ) (m : ℕ) → closing_length c b s ≡ 0 → closing_length c b (take m s) ≡ 0
unfolding closing_length
closing_none Either b s m e = elim (decide (b == 125)) [ inl q ↦ absurd (let e' = rw q at e in cc) | inr q ↦ rw q (star_none b s m (rw q at e)) ]
closing_none Brace b s m e = e
closing_none Star b s m e = star_none b s m e
closing_none Dollar b s m e = e

star_within : (b : ℕ) (s : List ℕ) → star_length b s ≤ suc (length s)
star_within b [] = elim (decide (b == 42)) [ inl q ↦ rw q (omega arith) | inr q ↦ rw q (omega arith) ]
star_within b (c ∷ s) = elim (decide (b == 42)) [
  | inl q ↦ elim (decide (c == 41)) [ inl r ↦ rw (q, r) (omega arith) | inr r ↦ rw (q, r) (omega arith) ]
  | inr q ↦ rw q (omega arith)
]

closing_within : (c : Closer) (b : ℕ) (s : List ℕ) → closing_length c b s ≤ suc (length s)
unfolding closing_length
closing_within Either b s = elim (decide (b == 125)) [ inl q ↦ rw q (omega arith) | inr q ↦ rw q (star_within b s) ]
closing_within Brace b s = elim (decide (b == 125)) [ inl q ↦ rw q (omega arith) | inr q ↦ rw q (omega arith) ]
closing_within Star b s = star_within b s
closing_within Dollar b s = elim (decide (b == 36)) [ inl q ↦ rw q (omega arith) | inr q ↦ rw q (omega arith) ]

not_zero : (k : ℕ) → (suc k == 0) ≡ false
not_zero k = grind arith

zero_or_suc : (n : ℕ) → (n ≡ 0) ⊎ ((k : ℕ) × (n ≡ suc k))
zero_or_suc zero = inl refl
zero_or_suc (suc k) = inr (k, refl)

pub closing_is : (c : Closer) (s : List ℕ) (n : ℕ) → closing_end c s ≡ Some n → IsEndOf (closing_end c) s n
unfolding closing_end
closing_is c [] n e = absurd cc
closing_is c (b ∷ s) n e = elim (zero_or_suc (closing_length c b s)) [
  | inl q ↦
      let w = further_some 1 (closing_end c s) n (rw q at e) in
      let h = closing_is c s w.0 w.1 in
      record { within = omega (arith, h.within, w.2); found = later w.0 w.2 q h }
  | inr (k, q) ↦
      let same : suc k ≡ n = let e' = rw (q, not_zero k) at e in cc in
      subst (λ z. IsEndOf (closing_end c) (b ∷ s) z) same (record { within = omega (arith, closing_within c b s); found = here k q })
]
  where
    later : (j : ℕ) → n ≡ 1 + j → closing_length c b s ≡ 0 → IsEndOf (closing_end c) s j → (m : ℕ) → n ≤ m → closing_end c (take m (b ∷ s)) ≡ Some n
    later j e q h zero le = absurd (omega arith)
    later j e q h (suc m) le = rw (closing_none c b s m q, h.found m (omega arith)) (ap Some (sym e))

    here : (k : ℕ) → closing_length c b s ≡ suc k → (m : ℕ) → suc k ≤ m → closing_end c (take m (b ∷ s)) ≡ Some (suc k)
    here k q zero le = absurd (omega arith)
    here k q (suc m) le = rw (closing_front c b s k m q le, not_zero k) refl

-- ---- quoted texts

quote_one : (b : ℕ) (s : List ℕ) (m : ℕ) → b == 39 ≡ true → ((c : ℕ) (w : List ℕ) → s ≡ c ∷ w → c == 39 ≡ false) → 1 ≤ m → quote_end (take m (b ∷ s)) ≡ Some 1
unfolding quote_end
quote_one b s zero q h le = absurd (omega arith)
quote_one b s (suc zero) q h le = rw q refl
quote_one b [] (suc (suc m)) q h le = rw q refl
quote_one b (c ∷ s) (suc (suc m)) q h le = rw (q, h c s refl) refl

quote_two : (b c : ℕ) (s : List ℕ) (j m : ℕ) → b == 39 ≡ true → c == 39 ≡ true → IsEndOf quote_end s j → suc (suc j) ≤ m → quote_end (take m (b ∷ c ∷ s)) ≡ Some (suc (suc j))
unfolding quote_end
quote_two b c s j zero q r h le = absurd (omega arith)
quote_two b c s j (suc zero) q r h le = absurd (omega arith)
quote_two b c s j (suc (suc m)) q r h le = rw (q, r, h.found m (omega arith)) (ap Some (omega arith))

quote_later : (b c : ℕ) (s : List ℕ) (j m : ℕ) → b == 39 ≡ false → is_line_end b ≡ false → 0 < j → IsEndOf quote_end (c ∷ s) j → suc j ≤ m → quote_end (take m (b ∷ c ∷ s)) ≡ Some (suc j)
unfolding quote_end
quote_later b c s j zero q r p h le = absurd (omega arith)
quote_later b c s j (suc zero) q r p h le = absurd (omega arith)
quote_later b c s j (suc (suc m)) q r p h le = rw (q, r, h.found (suc m) (omega arith)) (ap Some (omega arith))

some_end : (s : List ℕ) (n : ℕ) → quote_end s ≡ Some n → 0 < n
unfolding quote_end
some_end [] n e = absurd cc
some_end (b ∷ []) n e = elim (decide (b == 39)) [ inl q ↦ let k : 1 ≡ n = let e' = rw q at e in cc in omega arith | inr q ↦ absurd (let e' = rw q at e in cc) ]
some_end (b ∷ c ∷ s) n e = elim (decide (b == 39)) [
  | inl q ↦ elim (decide (c == 39)) [
    | inl r ↦ let w = further_some 2 (quote_end s) n (rw (q, r) at e) in omega (arith, w.2)
    | inr r ↦ let k : 1 ≡ n = let e' = rw (q, r) at e in cc in omega arith
  ]
  | inr q ↦ elim (decide (is_line_end b)) [
    | inl r ↦ absurd (let e' = rw (q, r) at e in cc)
    | inr r ↦ let w = further_some 1 (quote_end (c ∷ s)) n (rw (q, r) at e) in omega (arith, w.2)
  ]
]

pub quote_is : (s : List ℕ) (n : ℕ) → quote_end s ≡ Some n → IsEndOf quote_end s n
unfolding quote_end
quote_is [] n e = absurd cc
quote_is (b ∷ []) n e = elim (decide (b == 39)) [
  | inl q ↦ let k : 1 ≡ n = let e' = rw q at e in cc in
      subst (λ z. IsEndOf quote_end (b ∷ []) z) k (record { within = omega arith; found = λ m le. quote_one b [] m q (λ c w h. absurd cc) le })
  | inr q ↦ absurd (let e' = rw q at e in cc)
]
quote_is (b ∷ c ∷ s) n e = elim (decide (b == 39)) [
  | inl q ↦ elim (decide (c == 39)) [
    | inl r ↦
        let w = further_some 2 (quote_end s) n (rw (q, r) at e) in
        let h = quote_is s w.0 w.1 in
        let k : suc (suc w.0) ≡ n = omega (arith, w.2) in
        subst (λ z. IsEndOf quote_end (b ∷ c ∷ s) z) k (record { within = omega (arith, h.within); found = λ m le. quote_two b c s w.0 m q r h le })
    | inr r ↦ let k : 1 ≡ n = let e' = rw (q, r) at e in cc in
        subst (λ z. IsEndOf quote_end (b ∷ c ∷ s) z) k
        (record { within = omega arith; found = λ m le. quote_one b (c ∷ s) m q (λ x w h. let same : c ≡ x = cc in subst (λ z. z == 39 ≡ false) same r) le })
  ]
  | inr q ↦ elim (decide (is_line_end b)) [
    | inl r ↦ absurd (let e' = rw (q, r) at e in cc)
    | inr r ↦
        let w = further_some 1 (quote_end (c ∷ s)) n (rw (q, r) at e) in
        let h = quote_is (c ∷ s) w.0 w.1 in
        let k : suc w.0 ≡ n = omega (arith, w.2) in
        subst (λ z. IsEndOf quote_end (b ∷ c ∷ s) z) k
        (record { within = omega (arith, h.within); found = λ m le. quote_later b c s w.0 m q r (some_end (c ∷ s) w.0 w.1) h le })
  ]
]
