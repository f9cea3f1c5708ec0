-- A word begins with its first letter.
use Rattle.std.proofs.Common.{◌≡◌, ℕ, Bool, true, false, List, [], ◌∷◌, refl, arith}
use Rattle.std.specs.Prelude.{◌==◌}
use Rattle.std.specs.List.{find}
use Rattle.std.specs.Str.{bytes_eq}
use Rattle.c_grammar.specs.Token.{word_bytes, quoted_word}
use Rattle.c_scanner.specs.Words.{words_with, word_of}

-- a byte is this one, or the test for it fails, in both orders
pub data Told (b n : ℕ) : Type 0 where
  is : b ≡ n → Told b n
  differs : (b == n) ≡ false → (n == b) ≡ false → Told b n

pub tell : (b n : ℕ) → Told b n
tell b n = by (b == n) refl
  where
    by : (x : Bool) → (b == n) ≡ x → Told b n
    by true e = is (grind arith)
    by false e = differs e (grind arith)

Same : ℕ → List ℕ → Type 0
Same b more = quoted_word (b ∷ more) ≡ find (λ w. bytes_eq (word_bytes w) (b ∷ more)) (words_with b)

at : (b n : ℕ) (more : List ℕ) → b ≡ n → Same n more → Same b more
unfolding Same
at b n more e h = rw e h

pub word_is : (bytes : List ℕ) → quoted_word bytes ≡ word_of bytes
unfolding word_of words_with Same
word_is [] = refl
word_is (b ∷ more) =
    elim (tell b 115) [ is e ↦ at b 115 more e (refl) | differs p0 q0 ↦ elim (tell b 116) [ is e ↦ at b 116 more e (refl) | differs p1 q1 ↦ elim (tell b 118) [ is e ↦ at b 118 more e (refl) | differs p2 q2 ↦ elim (tell b 105) [ is e ↦ at b 105 more e (refl) | differs p3 q3 ↦ elim (tell b 117) [ is e ↦ at b 117 more e (refl) | differs p4 q4 ↦ elim (tell b 99) [ is e ↦ at b 99 more e (refl) | differs p5 q5 ↦ elim (tell b 109) [ is e ↦ at b 109 more e (refl) | differs p6 q6 ↦ elim (tell b 102) [ is e ↦ at b 102 more e (refl) | differs p7 q7 ↦ elim (tell b 103) [ is e ↦ at b 103 more e (refl) | differs p8 q8 ↦ elim (tell b 112) [ is e ↦ at b 112 more e (refl) | differs p9 q9 ↦ elim (tell b 101) [ is e ↦ at b 101 more e (refl) | differs p10 q10 ↦ elim (tell b 119) [ is e ↦ at b 119 more e (refl) | differs p11 q11 ↦ elim (tell b 114) [ is e ↦ at b 114 more e (refl) | differs p12 q12 ↦ elim (tell b 73) [ is e ↦ at b 73 more e (refl) | differs p13 q13 ↦ elim (tell b 85) [ is e ↦ at b 85 more e (refl) | differs p14 q14 ↦ elim (tell b 78) [ is e ↦ at b 78 more e (refl) | differs p15 q15 ↦ rw (p0, q0, p1, q1, p2, q2, p3, q3, p4, q4, p5, q5, p6, q6, p7, q7, p8, q8, p9, q9, p10, q10, p11, q11, p12, q12, p13, q13, p14, q14, p15, q15) refl ] ] ] ] ] ] ] ] ] ] ] ] ] ] ] ]
