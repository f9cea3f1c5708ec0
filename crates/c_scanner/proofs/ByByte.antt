-- The marks of one byte and of two.
use Rattle.std.proofs.Common.{◌≡◌, ℕ, Bool, true, false, ◌&&◌, [], ◌∷◌, refl}
use Rattle.c_grammar.specs.Token.{quoted_mark}
use Rattle.c_scanner.specs.Marks.{mark_of, pair_of}
use Rattle.c_scanner.proofs.ByLetter.{is, differs, tell}

Same : ℕ → Type 0
Same b = quoted_mark (b ∷ []) ≡ mark_of b

at : (b n : ℕ) → b ≡ n → Same n → Same b
unfolding Same
at b n e h = rw e h

pub mark_is : (b : ℕ) → quoted_mark (b ∷ []) ≡ mark_of b
unfolding Same
mark_is b =
    elim (tell b 123) [ is e ↦ at b 123 e refl | differs p0 q0 ↦ elim (tell b 125) [ is e ↦ at b 125 e refl | differs p1 q1 ↦ elim (tell b 40) [ is e ↦ at b 40 e refl | differs p2 q2 ↦ elim (tell b 41) [ is e ↦ at b 41 e refl | differs p3 q3 ↦ elim (tell b 91) [ is e ↦ at b 91 e refl | differs p4 q4 ↦ elim (tell b 93) [ is e ↦ at b 93 e refl | differs p5 q5 ↦ elim (tell b 59) [ is e ↦ at b 59 e refl | differs p6 q6 ↦ elim (tell b 44) [ is e ↦ at b 44 e refl | differs p7 q7 ↦ elim (tell b 46) [ is e ↦ at b 46 e refl | differs p8 q8 ↦ elim (tell b 58) [ is e ↦ at b 58 e refl | differs p9 q9 ↦ elim (tell b 61) [ is e ↦ at b 61 e refl | differs p10 q10 ↦ elim (tell b 43) [ is e ↦ at b 43 e refl | differs p11 q11 ↦ elim (tell b 45) [ is e ↦ at b 45 e refl | differs p12 q12 ↦ elim (tell b 42) [ is e ↦ at b 42 e refl | differs p13 q13 ↦ elim (tell b 47) [ is e ↦ at b 47 e refl | differs p14 q14 ↦ elim (tell b 37) [ is e ↦ at b 37 e refl | differs p15 q15 ↦ elim (tell b 60) [ is e ↦ at b 60 e refl | differs p16 q16 ↦ elim (tell b 62) [ is e ↦ at b 62 e refl | differs p17 q17 ↦ elim (tell b 38) [ is e ↦ at b 38 e refl | differs p18 q18 ↦ elim (tell b 124) [ is e ↦ at b 124 e refl | differs p19 q19 ↦ elim (tell b 94) [ is e ↦ at b 94 e refl | differs p20 q20 ↦ elim (tell b 126) [ is e ↦ at b 126 e refl | differs p21 q21 ↦ elim (tell b 33) [ is e ↦ at b 33 e refl | differs p22 q22 ↦ rw (p0, q0, p1, q1, p2, q2, p3, q3, p4, q4, p5, q5, p6, q6, p7, q7, p8, q8, p9, q9, p10, q10, p11, q11, p12, q12, p13, q13, p14, q14, p15, q15, p16, q16, p17, q17, p18, q18, p19, q19, p20, q20, p21, q21, p22, q22) refl ] ] ] ] ] ] ] ] ] ] ] ] ] ] ] ] ] ] ] ] ] ] ]

SamePair : ℕ → ℕ → Type 0
SamePair b c = quoted_mark (b ∷ c ∷ []) ≡ pair_of b c

first_at : (b c n : ℕ) → b ≡ n → SamePair n c → SamePair b c
unfolding SamePair
first_at b c n e h = rw e h

second_at : (b c n : ℕ) → c ≡ n → SamePair b n → SamePair b c
unfolding SamePair
second_at b c n e h = rw e h

and_false : (x : Bool) → (x && false) ≡ false
and_false true = refl
and_false false = refl

pair_61 : (c : ℕ) → SamePair 61 c
unfolding SamePair
pair_61 c = elim (tell c 61) [ is e ↦ second_at 61 c 61 e refl | differs r0 t0 ↦ rw (r0, t0) refl ]

pair_33 : (c : ℕ) → SamePair 33 c
unfolding SamePair
pair_33 c = elim (tell c 61) [ is e ↦ second_at 33 c 61 e refl | differs r0 t0 ↦ rw (r0, t0) refl ]

pair_60 : (c : ℕ) → SamePair 60 c
unfolding SamePair
pair_60 c = elim (tell c 61) [ is e ↦ second_at 60 c 61 e refl | differs r0 t0 ↦ elim (tell c 60) [ is e ↦ second_at 60 c 60 e refl | differs r1 t1 ↦ rw (r0, t0, r1, t1) refl ] ]

pair_62 : (c : ℕ) → SamePair 62 c
unfolding SamePair
pair_62 c = elim (tell c 61) [ is e ↦ second_at 62 c 61 e refl | differs r0 t0 ↦ elim (tell c 62) [ is e ↦ second_at 62 c 62 e refl | differs r1 t1 ↦ rw (r0, t0, r1, t1) refl ] ]

pair_38 : (c : ℕ) → SamePair 38 c
unfolding SamePair
pair_38 c = elim (tell c 38) [ is e ↦ second_at 38 c 38 e refl | differs r0 t0 ↦ rw (r0, t0) refl ]

pair_124 : (c : ℕ) → SamePair 124 c
unfolding SamePair
pair_124 c = elim (tell c 124) [ is e ↦ second_at 124 c 124 e refl | differs r0 t0 ↦ rw (r0, t0) refl ]

pub pair_is : (b c : ℕ) → quoted_mark (b ∷ c ∷ []) ≡ pair_of b c
unfolding SamePair
pair_is b c =
    elim (tell b 61) [ is e ↦ first_at b c 61 e (pair_61 c) | differs p0 q0 ↦ elim (tell b 33) [ is e ↦ first_at b c 33 e (pair_33 c) | differs p1 q1 ↦ elim (tell b 60) [ is e ↦ first_at b c 60 e (pair_60 c) | differs p2 q2 ↦ elim (tell b 62) [ is e ↦ first_at b c 62 e (pair_62 c) | differs p3 q3 ↦ elim (tell b 38) [ is e ↦ first_at b c 38 e (pair_38 c) | differs p4 q4 ↦ elim (tell b 124) [ is e ↦ first_at b c 124 e (pair_124 c) | differs p5 q5 ↦ rw (p0, q0, p1, q1, p2, q2, p3, q3, p4, q4, p5, q5) (simp and_false) ] ] ] ] ] ]
