-- What the code finds at the front is what stands there.
use Rattle.std.proofs.Common.{◌≡◌, ℕ, suc, ◌≤◌, Bool, true, false, ◌==◌, ◌⊎◌, inl, inr, List, [], ◌∷◌, ◌++◌, length, take, drop, Option, Some, None, refl, sym, ap, subst, ◌∙◌, arith}
use Rattle.std.specs.List.{list_all}
use Rattle.std.specs.Str.Parse.{digits_value}
use Rattle.c_grammar.specs.declared.token.Mark.{Mark}
use Rattle.c_grammar.specs.Token.{Numeral, form, form_by, named, signed, quoted_mark, is_letter, is_digit, is_name_byte, is_white, IsLongest}
use Rattle.c_grammar.proofs.Longest.{Stops, NoPair, word_longest, zero_longest, number_longest, long_mark, pair_longest, mark_longest}
use Rattle.c_scanner.specs.declared.bytes.Start.{Start}
use Rattle.c_scanner.specs.declared.bytes.Start.TheVariants as start
use Rattle.c_scanner.specs.Marks.{mark_of, pair_of}
use Rattle.c_scanner.specs.Cut.{Piece, start_of, run, cut_name, cut_number, single, double_or, cut_mark, cut_by, cut}
use Rattle.c_scanner.specs.Fronts.{IsFront}
use Rattle.c_scanner.proofs.ByLetter.{word_is}
use Rattle.c_scanner.proofs.ByByte.{mark_is, pair_is}

pub decide : (b : Bool) → (b ≡ true) ⊎ (b ≡ false)
decide true = inl refl
decide false = inr refl

-- ---- runs

record IsRun (test : ℕ → Bool) (s : List ℕ) (n : ℕ) : Type 0 where
  within : n ≤ length s
  pass : list_all test (take n s) ≡ true
  stops : Stops test (drop n s)

run_is : (test : ℕ → Bool) (s : List ℕ) → IsRun test s (run test s)
unfolding run
run_is test [] = record { within = omega arith; pass = refl; stops = tt }
run_is test (b ∷ s) = let r = run_is test s in
    elim (decide (test b)) [
      | inl e ↦ rw e (record { within = omega (arith, r.within); pass = rw e r.pass; stops = r.stops })
      | inr e ↦ rw e (record { within = omega arith; pass = refl; stops = e })
    ]

-- a run that begins with a byte that passes
run_first : (test : ℕ → Bool) (b : ℕ) (s : List ℕ) → test b ≡ true → run test (b ∷ s) ≡ suc (run test s)
unfolding run
run_first test b s e = rw e refl

-- ---- what is known of the first byte

abbrev Fits : ℕ → Start → Type 0
Fits b start.White = is_white b ≡ true
Fits b start.Letter = is_letter b ≡ true
Fits b start.Zero = b ≡ 48
Fits b start.Digit = (is_letter b ≡ false) × ((b == 48) ≡ false) × (is_digit b ≡ true)
Fits b start.Other = (is_white b ≡ false) × (is_letter b ≡ false) × ((b == 48) ≡ false) × (is_digit b ≡ false)

start_fits : (b : ℕ) → Fits b (start_of b)
unfolding start_of
start_fits b =
    elim (decide (is_white b)) [
      | inl w ↦ rw w w
      | inr w ↦ elim (decide (is_letter b)) [
        | inl l ↦ rw (w, l) l
        | inr l ↦ elim (decide (b == 48)) [
          | inl z ↦ rw (w, l, z) (grind arith)
          | inr z ↦ elim (decide (is_digit b)) [
            | inl d ↦ rw (w, l, z, d) (l, z, d)
            | inr d ↦ rw (w, l, z, d) (w, l, z, d)
          ]
        ]
      ]
    ]

-- ---- names and numbers

letter_passes : (b : ℕ) → is_letter b ≡ true → is_name_byte b ≡ true
letter_passes b e = rw e refl

name_front : (b : ℕ) (s : List ℕ) → is_letter b ≡ true → IsFront (b ∷ s) (cut_name (b ∷ s))
unfolding cut_name
name_front b s l = let r = run_is is_name_byte s in
    rw (run_first is_name_byte b s (letter_passes b l)) (record {
      some = omega arith;
      within = omega (arith, r.within);
      longest = subst (λ w. IsLongest (b ∷ take (run is_name_byte s) s) (drop (run is_name_byte s) s) (named w (b ∷ take (run is_name_byte s) s))) (word_is (b ∷ take (run is_name_byte s) s)) (word_longest b (take (run is_name_byte s) s) (drop (run is_name_byte s) s) l r.pass r.stops);
    })

number_front : (b : ℕ) (s : List ℕ) → is_letter b ≡ false → (b == 48) ≡ false → is_digit b ≡ true → IsFront (b ∷ s) (cut_number (b ∷ s))
unfolding cut_number
number_front b s l z d = let r = run_is is_digit s in
    rw (run_first is_digit b s d) (record {
      some = omega arith;
      within = omega (arith, r.within);
      longest = number_longest b (take (run is_digit s) s) (drop (run is_digit s) s) l z d r.pass r.stops;
    })

zero_front : (b : ℕ) (s : List ℕ) → b ≡ 48 → IsFront (b ∷ s) (Piece (Numeral (digits_value 10 (b ∷ []))) 1)
zero_front b s e = rw e (record { some = omega arith; within = omega arith; longest = zero_longest s })

-- ---- marks

other_form : (b : ℕ) (more : List ℕ) → is_letter b ≡ false → (b == 48) ≡ false → is_digit b ≡ false → form (b ∷ more) ≡ signed (quoted_mark (b ∷ more))
unfolding form_by
other_form b more l z d = rw (l, z, d) refl

no_form : (b : ℕ) (s : List ℕ) → is_letter b ≡ false → (b == 48) ≡ false → is_digit b ≡ false → quoted_mark (b ∷ []) ≡ None → NoPair b s
    → (front after : List ℕ) → b ∷ s ≡ front ++ after → form front ≡ None
no_form b s l z d one two [] after e = refl
no_form b s l z d one two (x ∷ []) after e = let same : b ≡ x = cc in ap (λ k. form (k ∷ [])) (sym same) ∙ other_form b [] l z d ∙ ap signed one
no_form b [] l z d one two (x ∷ y ∷ front) after e = absurd (cc)
no_form b (c ∷ s) l z d one two (x ∷ y ∷ []) after e =
    let same : b ≡ x = cc in let next : c ≡ y = cc in
    ap (λ k. form (k ∷ y ∷ [])) (sym same) ∙ ap (λ k. form (b ∷ k ∷ [])) (sym next) ∙ other_form b (c ∷ []) l z d ∙ ap signed two
no_form b (c ∷ s) l z d one two (x ∷ y ∷ w ∷ front) after e =
    let same : b ≡ x = cc in ap (λ k. form (k ∷ y ∷ w ∷ front)) (sym same) ∙ other_form b (y ∷ w ∷ front) l z d ∙ ap signed (long_mark b y w front)

single_front : (b : ℕ) (s : List ℕ) → is_white b ≡ false → is_letter b ≡ false → (b == 48) ≡ false → is_digit b ≡ false → NoPair b s
    → (found : Option Mark) → quoted_mark (b ∷ []) ≡ found → IsFront (b ∷ s) (single found)
single_front b s w l z d two None e = record { not_white = w; no_form = no_form b s l z d e two }
single_front b s w l z d two (Some m) e = record { some = omega arith; within = omega arith; longest = mark_longest b s m l d z e two }

double_front : (b c : ℕ) (s : List ℕ) → is_white b ≡ false → is_letter b ≡ false → (b == 48) ≡ false → is_digit b ≡ false
    → (both : Option Mark) → quoted_mark (b ∷ c ∷ []) ≡ both → IsFront (b ∷ c ∷ s) (double_or both (single (mark_of b)))
double_front b c s w l z d None e = single_front b (c ∷ s) w l z d e (mark_of b) (mark_is b)
double_front b c s w l z d (Some m) e = record { some = omega arith; within = omega arith; longest = pair_longest b c s m l d z e }

mark_front : (b : ℕ) (s : List ℕ) → is_white b ≡ false → is_letter b ≡ false → (b == 48) ≡ false → is_digit b ≡ false → IsFront (b ∷ s) (cut_mark b s)
unfolding cut_mark
mark_front b [] w l z d = single_front b [] w l z d tt (mark_of b) (mark_is b)
mark_front b (c ∷ s) w l z d = double_front b c s w l z d (pair_of b c) (pair_is b c)

-- ---- all

front_by : (b : ℕ) (s : List ℕ) (x : Start) → Fits b x → IsFront (b ∷ s) (cut_by x b s)
unfolding cut_by
front_by b s start.White h = h
front_by b s start.Letter h = name_front b s h
front_by b s start.Zero h = zero_front b s h
front_by b s start.Digit h = number_front b s h.0 h.1 h.2
front_by b s start.Other h = mark_front b s h.0 h.1 h.2 h.3

pub cut_front : (bytes : List ℕ) → IsFront bytes (cut bytes)
cut_front [] = tt
cut_front (b ∷ s) = front_by b s (start_of b) (start_fits b)
