-- Which front of the bytes is the longest token, by the byte after it.
use Rattle.std.proofs.Common.{◌≡◌, ◌≢◌, ℕ, Bool, true, false, ◌&&◌, List, [], ◌∷◌, ◌++◌, length, Some, None, refl, sym, ◌∙◌, ap, arith}
use Rattle.std.specs.Prelude.{◌==◌, nat_le}
use Rattle.std.specs.List.{list_all, find}
use Rattle.std.specs.Str.{bytes_eq}
use Rattle.std.specs.Str.Parse.{digits_value}
use Rattle.c_grammar.specs.declared.token.Mark.{Mark}
use Rattle.c_grammar.specs.Token.{Numeral, Sign, form, form_by, named, signed, quoted_word, quoted_mark, mark_bytes, marks, is_letter, is_digit, is_name_byte, IsLongest}

-- no byte that passes stands first
abbrev pub Stops : (ℕ → Bool) → List ℕ → Type 0
Stops test [] = Unit {0}
Stops test (b ∷ more) = test b ≡ false

fails_later : (test : ℕ → Bool) (front : List ℕ) (b : ℕ) (more : List ℕ) → test b ≡ false → list_all test (front ++ b ∷ more) ≡ false
fails_later test [] b more h = rw h refl
fails_later test (c ∷ front) b more h = and_false (test c) (fails_later test front b more h)
  where
    and_false : (x : Bool) {y : Bool} → y ≡ false → (x && y) ≡ false
    and_false true e = e
    and_false false e = refl

-- a part of what follows that is not empty begins with a byte that fails
stopped : (test : ℕ → Bool) (front after more rest : List ℕ) → Stops test after → after ≡ more ++ rest → more ≢ [] → list_all test (front ++ more) ≡ false
stopped test front after [] rest s e n = absurd (n refl)
stopped test front [] (b ∷ more) rest s e n = absurd (cc)
stopped test front (c ∷ after) (b ∷ more) rest s e n =
    let same : c ≡ b = cc in fails_later test front b more (ap test (sym same) ∙ s)

pub word_longest : (b : ℕ) (front after : List ℕ) → is_letter b ≡ true → list_all is_name_byte front ≡ true → Stops is_name_byte after
    → IsLongest (b ∷ front) after (named (quoted_word (b ∷ front)) (b ∷ front))
unfolding form_by
word_longest b front after l a s = record {
  is = rw l (rw a refl);
  no_longer = λ more rest e n. rw l (rw (stopped is_name_byte front after more rest s e n) refl);
}

pub zero_longest : (after : List ℕ) → IsLongest (48 ∷ []) after (Numeral 0)
unfolding form_by
zero_longest after = record { is = refl; no_longer = longer }
  where
    longer : (more rest : List ℕ) → after ≡ more ++ rest → more ≢ [] → form (48 ∷ more) ≡ None
    longer [] rest e n = absurd (n refl)
    longer (c ∷ more) rest e n = refl

pub number_longest : (b : ℕ) (front after : List ℕ) → is_letter b ≡ false → (b == 48) ≡ false → is_digit b ≡ true → list_all is_digit front ≡ true → Stops is_digit after
    → IsLongest (b ∷ front) after (Numeral (digits_value 10 (b ∷ front)))
unfolding form_by
number_longest b front after l z d a s = record {
  is = rw l (rw z (rw d (rw a refl)));
  no_longer = λ more rest e n. rw l (rw z (rw d (rw (stopped is_digit front after more rest s e n) refl)));
}

-- ---- marks

unequal_lengths : (xs ys : List ℕ) (b c d : ℕ) → nat_le (length xs) 2 ≡ true → bytes_eq xs (b ∷ c ∷ d ∷ ys) ≡ false
unequal_lengths [] ys b c d h = refl
unequal_lengths (x ∷ []) ys b c d h = and_false (x == b)
  where
    and_false : (t : Bool) → (t && false) ≡ false
    and_false true = refl
    and_false false = refl
unequal_lengths (x ∷ y ∷ []) ys b c d h = and_false (x == b) (y == c)
  where
    and_false : (t u : Bool) → (t && (u && false)) ≡ false
    and_false true true = refl
    and_false true false = refl
    and_false false u = refl
unequal_lengths (x ∷ y ∷ z ∷ xs) ys b c d h = absurd (grind arith)

none_so_long : (all : List Mark) (ys : List ℕ) (b c d : ℕ) → list_all (λ m. nat_le (length (mark_bytes m)) 2) all ≡ true
    → find (λ m. bytes_eq (mark_bytes m) (b ∷ c ∷ d ∷ ys)) all ≡ None
none_so_long [] ys b c d h = refl
none_so_long (m ∷ all) ys b c d h = by (nat_le (length (mark_bytes m)) 2) refl (none_so_long all ys b c d) h
  where
    by : (short : Bool) → nat_le (length (mark_bytes m)) 2 ≡ short → (list_all (λ m. nat_le (length (mark_bytes m)) 2) all ≡ true → find (λ m. bytes_eq (mark_bytes m) (b ∷ c ∷ d ∷ ys)) all ≡ None)
        → (short && list_all (λ m. nat_le (length (mark_bytes m)) 2) all) ≡ true → find (λ m. bytes_eq (mark_bytes m) (b ∷ c ∷ d ∷ ys)) (m ∷ all) ≡ None
    by true e others g = rw (unequal_lengths (mark_bytes m) ys b c d e) (others g)
    by false e others g = absurd (cc)

-- no mark has three bytes
pub long_mark : (b c d : ℕ) (more : List ℕ) → quoted_mark (b ∷ c ∷ d ∷ more) ≡ None
long_mark b c d more = none_so_long marks more b c d refl

other_byte : (b : ℕ) (more : List ℕ) → is_letter b ≡ false → is_digit b ≡ false → (b == 48) ≡ false → form (b ∷ more) ≡ signed (quoted_mark (b ∷ more))
unfolding form_by
other_byte b more l d z = rw l (rw z (rw d refl))

pub pair_longest : (b c : ℕ) (after : List ℕ) (m : Mark) → is_letter b ≡ false → is_digit b ≡ false → (b == 48) ≡ false → quoted_mark (b ∷ c ∷ []) ≡ Some m → IsLongest (b ∷ c ∷ []) after (Sign m)
pair_longest b c after m l d z q = record { is = other_byte b (c ∷ []) l d z ∙ ap signed q; no_longer = longer }
  where
    longer : (more rest : List ℕ) → after ≡ more ++ rest → more ≢ [] → form (b ∷ c ∷ more) ≡ None
    longer [] rest e n = absurd (n refl)
    longer (x ∷ more) rest e n = other_byte b (c ∷ x ∷ more) l d z ∙ ap signed (long_mark b c x more)

-- no mark of two bytes begins here
abbrev pub NoPair : ℕ → List ℕ → Type 0
NoPair b [] = Unit {0}
NoPair b (c ∷ more) = quoted_mark (b ∷ c ∷ []) ≡ None

pub mark_longest : (b : ℕ) (after : List ℕ) (m : Mark) → is_letter b ≡ false → is_digit b ≡ false → (b == 48) ≡ false → quoted_mark (b ∷ []) ≡ Some m → NoPair b after → IsLongest (b ∷ []) after (Sign m)
mark_longest b after m l d z q p = record { is = other_byte b [] l d z ∙ ap signed q; no_longer = longer after p }
  where
    longer : (after : List ℕ) → NoPair b after → (more rest : List ℕ) → after ≡ more ++ rest → more ≢ [] → form (b ∷ more) ≡ None
    longer after p [] rest e n = absurd (n refl)
    longer [] p (x ∷ more) rest e n = absurd (cc)
    longer (c ∷ after) p (x ∷ []) rest e n =
        let same : c ≡ x = cc in other_byte b (x ∷ []) l d z ∙ ap signed (ap (λ k. quoted_mark (b ∷ k ∷ [])) (sym same) ∙ p)
    longer after p (x ∷ y ∷ more) rest e n = other_byte b (x ∷ y ∷ more) l d z ∙ ap signed (long_mark b x y more)
