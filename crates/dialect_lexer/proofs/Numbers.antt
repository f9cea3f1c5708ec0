-- What is cut off at a digit, at `$` or at `#` is a number, a part of a text or a fault.
use Rattle.std.proofs.Common.{◌≡◌, ℕ, zero, suc, ◌+◌, ◌^◌, ◌≤◌, ◌<◌, min, Bool, true, false, ◌&&◌, ◌||◌, ◌==◌, if◌then◌else◌, List, [], ◌∷◌, length, take, drop, Option, Some, None, refl, sym, ap, subst, ◌∙◌, arith, inl, inr, pos}
use Rattle.std.specs.Prelude.{nat_lt, nat_le}
use Rattle.p2c_text.specs.declared.dialect.Dialect.{Dialect}
use Rattle.dialect_lexer.specs.declared.bytes.Base.{Base}
use Rattle.dialect_lexer.specs.declared.bytes.Base.TheVariants as base
use Rattle.dialect_lexer.specs.declared.bytes.Start.TheVariants as start
use Rattle.dialect_lexer.specs.declared.ends.Digits.{Digits}
use Rattle.dialect_lexer.specs.declared.fault.LexKind.{LexKind}
use Rattle.dialect_lexer.specs.declared.fault.LexKind.TheVariants as fault
use Rattle.dialect_lexer.specs.declared.piece.PieceKind.TheVariants.{Token}
use Rattle.dialect_lexer.specs.declared.token.TokenKind.TheVariants as token
use Rattle.dialect_lexer.specs.Bytes.{is_digit, is_hexadecimal_digit, is_digit_in, digit_value}
use Rattle.dialect_lexer.specs.Ends.{run, when, begins_digit, exponent_end, real_end}
use Rattle.dialect_lexer.specs.Values.{value_from, number_of}
use Rattle.dialect_lexer.specs.Forms.{are_hexadecimal, is_code, form_by}
use Rattle.dialect_lexer.specs.Patterns.{is_too_big, big_decimal, big_hexadecimal, big_code, real, pattern_by, kind_number}
use Rattle.dialect_lexer.specs.Cut.{read_digits, number_or_real, decimal_from, cut_decimal, hexadecimal_from, cut_hexadecimal, code_from, hexadecimal_code, cut_code}
use Rattle.dialect_lexer.proofs.Fronts.{decide, run_within, run_all, run_stops}
use Rattle.dialect_lexer.proofs.Digits.{digits_len, digits_value, too_big_min, above_255_min, small_min}
use Rattle.dialect_lexer.proofs.Meets.{MeetsBy, bad_by, nil_longer}

abbrev digits_of : ℕ → ℕ → Digits
digits_of n v = record { len = n; value = v }

-- what was read, by the number that it stands for
digits_are : (base : Base) (v : ℕ) (s : List ℕ) → min v (2 ^ 63) ≡ v → read_digits base v s ≡ digits_of (run (is_digit_in base) s) (min (value_from base v (take (run (is_digit_in base) s) s)) (2 ^ 63))
digits_are base v s h =
    let l = digits_len base v s in
    let e : (read_digits base v s).value ≡ min (value_from base v (take (run (is_digit_in base) s) s)) (2 ^ 63) = ap (λ x. (read_digits base x s).value) (sym h) ∙ digits_value base v s in
    both (read_digits base v s) (run (is_digit_in base) s) (min (value_from base v (take (run (is_digit_in base) s) s)) (2 ^ 63)) l e
  where
    both : (g : Digits) (n w : ℕ) → g.len ≡ n → g.value ≡ w → g ≡ digits_of n w
    both g n w l e = ap (λ x. digits_of x g.value) l ∙ ap (λ x. digits_of n x) e

-- ---- decimal numbers

pub not_dollar : (b : ℕ) → is_digit b ≡ true → (b == 36) ≡ false
not_dollar b h = grind arith

digit_small : (b : ℕ) → is_digit b ≡ true → min (digit_value b) (2 ^ 63) ≡ digit_value b
digit_small b h = let small : b ≤ 57 = grind arith in let e : nat_le b 57 ≡ true = grind arith in rw e (omega arith)

digit_first : (w : List ℕ) → begins_digit w ≡ true → 1 ≤ length w
digit_first [] h = absurd cc
digit_first (b ∷ w) h = omega arith

when_some : (b : Bool) (n k : ℕ) → when b n ≡ Some k → (b ≡ true) × (n ≡ k)
when_some true n k h = (refl, cc)
when_some false n k h = absurd cc

exponent_within : (w : List ℕ) (k : ℕ) → exponent_end w ≡ Some k → k ≤ suc (length w)
exponent_within [] k h = absurd cc
exponent_within (b ∷ w) k h = elim (decide (b == 43 || b == 45)) [
  | inl q ↦ let r = when_some (begins_digit w) 3 k (rw q at h) in let f = digit_first w r.0 in omega (arith, r.1)
  | inr q ↦ let r = when_some (is_digit b) 2 k (rw q at h) in omega (arith, r.1)
]

real_within : (w : List ℕ) (k : ℕ) → real_end w ≡ Some k → k ≤ length w
real_within [] k h = absurd cc
real_within (b ∷ w) k h = elim (decide (b == 46)) [
  | inl q ↦ let r = when_some (begins_digit w) 2 k (rw q at h) in let f = digit_first w r.0 in omega (arith, r.1)
  | inr q ↦ elim (decide (b == 101 || b == 69)) [
    | inl r ↦ exponent_within w k (rw (q, r) at h)
    | inr r ↦ absurd (let h' = rw (q, r) at h in cc)
  ]
]

length_drop : (n : ℕ) (s : List ℕ) → n ≤ length s → n + length (drop n s) ≡ length s
length_drop zero s h = omega arith
length_drop (suc n) [] h = absurd (omega arith)
length_drop (suc n) (b ∷ s) h = let e = length_drop n s (omega arith) in omega arith

decimal_free : (d : Dialect) (b : ℕ) (s : List ℕ) → big_decimal b s ≡ None → real s ≡ None → (kind : LexKind) → pattern_by d kind start.Decimal b s ≡ None
unfolding pattern_by
decimal_free d b s h k fault.BadByte = refl
decimal_free d b s h k fault.OpenComment = refl
decimal_free d b s h k fault.OpenString = refl
decimal_free d b s h k fault.NumberTooBig = h
decimal_free d b s h k fault.RealLiteral = k
decimal_free d b s h k fault.IncludeFile = refl

real_least : (d : Dialect) (b : ℕ) (s : List ℕ) → big_decimal b s ≡ None → (other : LexKind) → kind_number other < 5 → pattern_by d other start.Decimal b s ≡ None
unfolding pattern_by
real_least d b s h fault.BadByte lt = refl
real_least d b s h fault.OpenComment lt = refl
real_least d b s h fault.OpenString lt = refl
real_least d b s h fault.NumberTooBig lt = h
real_least d b s h fault.RealLiteral lt = absurd (omega arith)
real_least d b s h fault.IncludeFile lt = absurd (omega arith)

decimal_least : (d : Dialect) (b : ℕ) (s : List ℕ) (other : LexKind) → kind_number other < 4 → pattern_by d other start.Decimal b s ≡ None
unfolding pattern_by
decimal_least d b s fault.BadByte lt = refl
decimal_least d b s fault.OpenComment lt = refl
decimal_least d b s fault.OpenString lt = refl
decimal_least d b s fault.NumberTooBig lt = absurd (omega arith)
decimal_least d b s fault.RealLiteral lt = absurd (omega arith)
decimal_least d b s fault.IncludeFile lt = absurd (omega arith)

-- a value that is read, for one that may be too big
record Stands (v whole : ℕ) : Type 0 where
  big : is_too_big v ≡ is_too_big whole
  small : is_too_big v ≡ false → v ≡ whole

stands_min : (x : ℕ) → Stands (min x (2 ^ 63)) x
stands_min x = record { big = too_big_min x; small = small_min x }

number_meets : (d : Dialect) (b : ℕ) (s : List ℕ) (v : ℕ) (end : Option ℕ) → is_too_big v ≡ false → Stands v (number_of (b ∷ take (run is_digit s) s)) → real_end (drop (run is_digit s) s) ≡ end
    → MeetsBy d start.Decimal b s (number_or_real end (digits_of (run is_digit s) v))
unfolding form_by pattern_by big_decimal real
number_meets d b s v None e h r = (
  run is_digit s,
  refl,
  record {
    within = run_within is_digit s;
    is = rw (run_all is_digit s) (ap (λ x. Some (Token (token.Number (pos x)))) (sym (h.small e)));
    no_longer = λ m lt le. rw (run_stops is_digit s m lt le) refl;
    no_pattern = decimal_free d b s (rw (sym h.big ∙ e) refl) (rw r refl);
  },
)
number_meets d b s v (Some k) e h r = (
  run is_digit s + k,
  omega arith,
  record {
    begins = rw r (ap Some (omega arith));
    within = let i = length_drop (run is_digit s) s (run_within is_digit s) in let j = real_within (drop (run is_digit s) s) k r in omega arith;
    least = real_least d b s (rw (sym h.big ∙ e) refl);
  },
)

decimal_by : (d : Dialect) (b : ℕ) (s : List ℕ) (v : ℕ) → Stands v (number_of (b ∷ take (run is_digit s) s)) → MeetsBy d start.Decimal b s (decimal_from (digits_of (run is_digit s) v) s)
unfolding decimal_from pattern_by big_decimal
decimal_by d b s v h = elim (decide (is_too_big v)) [
  | inl e ↦ rw e (
    run is_digit s,
    refl,
    record {
      begins = rw (sym h.big ∙ e) refl;
      within = run_within is_digit s;
      least = decimal_least d b s;
    },
  )
  | inr e ↦ rw e (number_meets d b s v (real_end (drop (run is_digit s) s)) e h refl)
]

pub decimal_meets : (d : Dialect) (b : ℕ) (s : List ℕ) → is_digit b ≡ true → MeetsBy d start.Decimal b s (cut_decimal b s)
unfolding cut_decimal
decimal_meets d b s h =
    let V : ℕ = value_from base.Decimal (digit_value b) (take (run is_digit s) s) in
    let e : number_of (b ∷ take (run is_digit s) s) ≡ V = rw (not_dollar b h) refl in
    let stands : Stands (min V (2 ^ 63)) (number_of (b ∷ take (run is_digit s) s)) = subst (λ x. Stands (min V (2 ^ 63)) x) (sym e) (stands_min V) in
    subst (λ g. MeetsBy d start.Decimal b s (decimal_from g s)) (sym (digits_are base.Decimal (digit_value b) s (digit_small b h))) (decimal_by d b s (min V (2 ^ 63)) stands)

-- ---- hexadecimal numbers

zero_big : is_too_big 0 ≡ false
zero_big = refl

no_hexadecimal : (s : List ℕ) → run is_hexadecimal_digit s ≡ 0 → (m : ℕ) → are_hexadecimal (take m s) ≡ false
unfolding run
no_hexadecimal s h zero = refl
no_hexadecimal [] h (suc m) = refl
no_hexadecimal (b ∷ s) h (suc m) = elim (decide (is_hexadecimal_digit b)) [
  | inl e ↦ absurd (let h' = rw e at h in omega arith)
  | inr e ↦ rw e refl
]

hexadecimal_all : (s : List ℕ) → (run is_hexadecimal_digit s == 0) ≡ false → are_hexadecimal (take (run is_hexadecimal_digit s) s) ≡ true
hexadecimal_all s h =
    let k : 0 < run is_hexadecimal_digit s = grind arith in
    rw (nil_longer s (run is_hexadecimal_digit s) k (run_within is_hexadecimal_digit s), run_all is_hexadecimal_digit s) refl

hexadecimal_stops : (s : List ℕ) (m : ℕ) → run is_hexadecimal_digit s < m → m ≤ length s → are_hexadecimal (take m s) ≡ false
hexadecimal_stops s m lt le = let k : 0 < m = omega arith in rw (nil_longer s m k le, run_stops is_hexadecimal_digit s m lt le) refl

is_zero : (n : ℕ) → (n == 0) ≡ true → n ≡ 0
is_zero n h = grind arith

hexadecimal_free : (d : Dialect) (b : ℕ) (s : List ℕ) → big_hexadecimal b s ≡ None → (kind : LexKind) → pattern_by d kind start.Hexadecimal b s ≡ None
unfolding pattern_by
hexadecimal_free d b s h fault.BadByte = refl
hexadecimal_free d b s h fault.OpenComment = refl
hexadecimal_free d b s h fault.OpenString = refl
hexadecimal_free d b s h fault.NumberTooBig = h
hexadecimal_free d b s h fault.RealLiteral = refl
hexadecimal_free d b s h fault.IncludeFile = refl

hexadecimal_least : (d : Dialect) (b : ℕ) (s : List ℕ) (other : LexKind) → kind_number other < 4 → pattern_by d other start.Hexadecimal b s ≡ None
unfolding pattern_by
hexadecimal_least d b s fault.BadByte lt = refl
hexadecimal_least d b s fault.OpenComment lt = refl
hexadecimal_least d b s fault.OpenString lt = refl
hexadecimal_least d b s fault.NumberTooBig lt = absurd (omega arith)
hexadecimal_least d b s fault.RealLiteral lt = absurd (omega arith)
hexadecimal_least d b s fault.IncludeFile lt = absurd (omega arith)

empty_hexadecimal : (b : ℕ) (s : List ℕ) → (b == 36) ≡ true → run is_hexadecimal_digit s ≡ 0 → big_hexadecimal b s ≡ None
unfolding big_hexadecimal
empty_hexadecimal b s q h = rw (q, h) refl

hexadecimal_by : (d : Dialect) (b : ℕ) (s : List ℕ) (v : ℕ) → (b == 36) ≡ true → Stands v (number_of (b ∷ take (run is_hexadecimal_digit s) s))
    → MeetsBy d start.Hexadecimal b s (hexadecimal_from (digits_of (run is_hexadecimal_digit s) v))
unfolding form_by pattern_by big_hexadecimal
hexadecimal_by d b s v q h = elim (decide (run is_hexadecimal_digit s == 0)) [
  | inl z ↦ rw z (bad_by d start.Hexadecimal b s (record {
    no_form = λ m. rw (no_hexadecimal s (is_zero (run is_hexadecimal_digit s) z) m) refl;
    no_pattern = hexadecimal_free d b s (empty_hexadecimal b s q (is_zero (run is_hexadecimal_digit s) z));
  }))
  | inr z ↦ elim (decide (is_too_big v)) [
    | inl e ↦ rw (z, e) (
      run is_hexadecimal_digit s,
      refl,
      record {
        begins = rw (sym h.big ∙ e) refl;
        within = run_within is_hexadecimal_digit s;
        least = hexadecimal_least d b s;
      },
    )
    | inr e ↦ rw (z, e) (
      run is_hexadecimal_digit s,
      refl,
      record {
        within = run_within is_hexadecimal_digit s;
        is = rw (hexadecimal_all s z) (ap (λ x. Some (Token (token.Number (pos x)))) (sym (h.small e)));
        no_longer = λ m lt le. rw (hexadecimal_stops s m lt le) refl;
        no_pattern = hexadecimal_free d b s (rw (sym h.big ∙ e) refl);
      },
    )
  ]
]

pub hexadecimal_meets : (d : Dialect) (b : ℕ) (s : List ℕ) → (b == 36) ≡ true → MeetsBy d start.Hexadecimal b s (cut_hexadecimal s)
unfolding cut_hexadecimal
hexadecimal_meets d b s q =
    let V : ℕ = value_from base.Hexadecimal 0 (take (run is_hexadecimal_digit s) s) in
    let e : number_of (b ∷ take (run is_hexadecimal_digit s) s) ≡ V = rw q refl in
    let stands : Stands (min V (2 ^ 63)) (number_of (b ∷ take (run is_hexadecimal_digit s) s)) = subst (λ x. Stands (min V (2 ^ 63)) x) (sym e) (stands_min V) in
    subst (λ g. MeetsBy d start.Hexadecimal b s (hexadecimal_from g)) (sym (digits_are base.Hexadecimal 0 s refl)) (hexadecimal_by d b s (min V (2 ^ 63)) q stands)

-- ---- characters by their numbers

code_free : (d : Dialect) (b : ℕ) (s : List ℕ) → big_code s ≡ None → (kind : LexKind) → pattern_by d kind start.Code b s ≡ None
unfolding pattern_by
code_free d b s h fault.BadByte = refl
code_free d b s h fault.OpenComment = refl
code_free d b s h fault.OpenString = refl
code_free d b s h fault.NumberTooBig = h
code_free d b s h fault.RealLiteral = refl
code_free d b s h fault.IncludeFile = refl

code_least : (d : Dialect) (b : ℕ) (s : List ℕ) (other : LexKind) → kind_number other < 4 → pattern_by d other start.Code b s ≡ None
unfolding pattern_by
code_least d b s fault.BadByte lt = refl
code_least d b s fault.OpenComment lt = refl
code_least d b s fault.OpenString lt = refl
code_least d b s fault.NumberTooBig lt = absurd (omega arith)
code_least d b s fault.RealLiteral lt = absurd (omega arith)
code_least d b s fault.IncludeFile lt = absurd (omega arith)

code_none : (d : Dialect) (b : ℕ) (m : ℕ) → is_code (take m []) ≡ false
code_none d b zero = refl
code_none d b (suc m) = refl

-- after `#$`

dollar_none : (c : ℕ) (t : List ℕ) (m : ℕ) → c == 36 ≡ true → run is_hexadecimal_digit t ≡ 0 → is_code (take m (c ∷ t)) ≡ false
dollar_none c t zero q z = refl
dollar_none c t (suc m) q z = rw (q, no_hexadecimal t z m) refl

dollar_longer : (c : ℕ) (t : List ℕ) (m : ℕ) → c == 36 ≡ true → suc (run is_hexadecimal_digit t) < m → m ≤ suc (length t) → is_code (take m (c ∷ t)) ≡ false
dollar_longer c t zero q lt le = absurd (omega arith)
dollar_longer c t (suc m) q lt le = rw (q, hexadecimal_stops t m (omega arith) (omega arith)) refl

-- a value that is read, for one that may be above 255
record IsCode (v whole : ℕ) : Type 0 where
  above : nat_lt 255 v ≡ nat_lt 255 whole

empty_code : (c : ℕ) (t : List ℕ) → c == 36 ≡ true → run is_hexadecimal_digit t ≡ 0 → big_code (c ∷ t) ≡ None
unfolding big_code
empty_code c t q z = rw (q, z) refl

choose_dollar : (x : Bool) (a f : Option ℕ) → x ≡ true → (if x then a else f) ≡ a
choose_dollar true a f q = refl
choose_dollar false a f q = absurd cc

big_dollar : (c : ℕ) (t : List ℕ) → c == 36 ≡ true → big_code (c ∷ t) ≡ when (nat_lt 255 (number_of (c ∷ take (run is_hexadecimal_digit t) t))) (2 + run is_hexadecimal_digit t)
unfolding big_code
big_dollar c t q = choose_dollar (c == 36) _ _ q

dollar_by : (d : Dialect) (b c : ℕ) (t : List ℕ) (v : ℕ) → c == 36 ≡ true → IsCode v (number_of (c ∷ take (run is_hexadecimal_digit t) t))
    → MeetsBy d start.Code b (c ∷ t) (hexadecimal_code (digits_of (run is_hexadecimal_digit t) v))
unfolding form_by pattern_by
dollar_by d b c t v q h = elim (decide (run is_hexadecimal_digit t == 0)) [
  | inl z ↦ rw z (bad_by d start.Code b (c ∷ t) (record {
    no_form = λ m. rw (dollar_none c t m q (is_zero (run is_hexadecimal_digit t) z)) refl;
    no_pattern = code_free d b (c ∷ t) (empty_code c t q (is_zero (run is_hexadecimal_digit t) z));
  }))
  | inr z ↦ elim (decide (nat_lt 255 v)) [
    | inl e ↦ rw (z, e) (
      suc (run is_hexadecimal_digit t),
      omega arith,
      record {
        begins = big_dollar c t q ∙ rw (sym h.above ∙ e) (ap Some (omega arith));
        within = let i = run_within is_hexadecimal_digit t in omega arith;
        least = code_least d b (c ∷ t);
      },
    )
    | inr e ↦ rw (z, e) (
      suc (run is_hexadecimal_digit t),
      omega arith,
      record {
        within = let i = run_within is_hexadecimal_digit t in omega arith;
        is = rw (q, hexadecimal_all t z) refl;
        no_longer = λ m lt le. rw (dollar_longer c t m q lt le) refl;
        no_pattern = code_free d b (c ∷ t) (big_dollar c t q ∙ rw (sym h.above ∙ e) refl);
      },
    )
  ]
]

dollar_meets : (d : Dialect) (b c : ℕ) (t : List ℕ) → c == 36 ≡ true → MeetsBy d start.Code b (c ∷ t) (hexadecimal_code (read_digits base.Hexadecimal 0 t))
dollar_meets d b c t q =
    let V : ℕ = value_from base.Hexadecimal 0 (take (run is_hexadecimal_digit t) t) in
    let e : number_of (c ∷ take (run is_hexadecimal_digit t) t) ≡ V = rw q refl in
    let code : IsCode (min V (2 ^ 63)) (number_of (c ∷ take (run is_hexadecimal_digit t) t)) = record { above = above_255_min V ∙ ap (λ x. nat_lt 255 x) (sym e) } in
    subst (λ g. MeetsBy d start.Code b (c ∷ t) (hexadecimal_code g)) (sym (digits_are base.Hexadecimal 0 t refl)) (dollar_by d b c t (min V (2 ^ 63)) q code)

-- after `#` and a digit

digit_longer : (c : ℕ) (t : List ℕ) (m : ℕ) → c == 36 ≡ false → is_digit c ≡ true → suc (run is_digit t) < m → m ≤ suc (length t) → is_code (take m (c ∷ t)) ≡ false
digit_longer c t zero q r lt le = absurd (omega arith)
digit_longer c t (suc m) q r lt le = rw (q, r, run_stops is_digit t m (omega arith) (omega arith)) refl

choose_digits : (x y : Bool) (a : Option ℕ) (z : Bool) (n : ℕ) → x ≡ false → y ≡ true → (if x then a else when (y && z) n) ≡ when z n
choose_digits true y a z n q r = absurd cc
choose_digits false true a z n q r = refl
choose_digits false false a z n q r = absurd cc

big_digits : (c : ℕ) (t : List ℕ) → c == 36 ≡ false → is_digit c ≡ true → big_code (c ∷ t) ≡ when (nat_lt 255 (number_of (c ∷ take (run is_digit t) t))) (2 + run is_digit t)
unfolding big_code
big_digits c t q r = choose_digits (c == 36) (is_digit c) _ _ _ q r

digit_code_by : (d : Dialect) (b c : ℕ) (t : List ℕ) (v : ℕ) → is_digit c ≡ true → IsCode v (number_of (c ∷ take (run is_digit t) t))
    → MeetsBy d start.Code b (c ∷ t) (code_from (digits_of (run is_digit t) v))
unfolding form_by pattern_by
digit_code_by d b c t v r h = let q = not_dollar c r in elim (decide (nat_lt 255 v)) [
  | inl e ↦ rw e (
    suc (run is_digit t),
    omega arith,
    record {
      begins = big_digits c t q r ∙ rw (sym h.above ∙ e) (ap Some (omega arith));
      within = let i = run_within is_digit t in omega arith;
      least = code_least d b (c ∷ t);
    },
  )
  | inr e ↦ rw e (
    suc (run is_digit t),
    omega arith,
    record {
      within = let i = run_within is_digit t in omega arith;
      is = rw (q, r, run_all is_digit t) refl;
      no_longer = λ m lt le. rw (digit_longer c t m q r lt le) refl;
      no_pattern = code_free d b (c ∷ t) (big_digits c t q r ∙ rw (sym h.above ∙ e) refl);
    },
  )
]

digit_code_meets : (d : Dialect) (b c : ℕ) (t : List ℕ) → is_digit c ≡ true → MeetsBy d start.Code b (c ∷ t) (code_from (read_digits base.Decimal (digit_value c) t))
digit_code_meets d b c t r =
    let V : ℕ = value_from base.Decimal (digit_value c) (take (run is_digit t) t) in
    let e : number_of (c ∷ take (run is_digit t) t) ≡ V = rw (not_dollar c r) refl in
    let code : IsCode (min V (2 ^ 63)) (number_of (c ∷ take (run is_digit t) t)) = record { above = above_255_min V ∙ ap (λ x. nat_lt 255 x) (sym e) } in
    subst (λ g. MeetsBy d start.Code b (c ∷ t) (code_from g)) (sym (digits_are base.Decimal (digit_value c) t (digit_small c r))) (digit_code_by d b c t (min V (2 ^ 63)) r code)

-- after `#` alone

other_none : (c : ℕ) (t : List ℕ) (m : ℕ) → c == 36 ≡ false → is_digit c ≡ false → is_code (take m (c ∷ t)) ≡ false
other_none c t zero q r = refl
other_none c t (suc m) q r = rw (q, r) refl

choose_none : (x y : Bool) (a : Option ℕ) (z : Bool) (n : ℕ) → x ≡ false → y ≡ false → (if x then a else when (y && z) n) ≡ None
choose_none true y a z n q r = absurd cc
choose_none false true a z n q r = absurd cc
choose_none false false a z n q r = refl

other_free : (c : ℕ) (t : List ℕ) → c == 36 ≡ false → is_digit c ≡ false → big_code (c ∷ t) ≡ None
unfolding big_code
other_free c t q r = choose_none (c == 36) (is_digit c) _ _ _ q r

nothing_free : big_code [] ≡ None
unfolding big_code
nothing_free = refl

pub code_meets : (d : Dialect) (b : ℕ) (s : List ℕ) → MeetsBy d start.Code b s (cut_code s)
unfolding cut_code form_by
code_meets d b [] = bad_by d start.Code b [] (record { no_form = λ m. rw (code_none d b m) refl; no_pattern = code_free d b [] nothing_free })
code_meets d b (c ∷ t) = elim (decide (c == 36)) [
  | inl q ↦ rw q (dollar_meets d b c t q)
  | inr q ↦ elim (decide (is_digit c)) [
    | inl r ↦ rw (q, r) (digit_code_meets d b c t r)
    | inr r ↦ rw (q, r) (bad_by d start.Code b (c ∷ t) (record {
      no_form = λ m. rw (other_none c t m q r) refl;
      no_pattern = code_free d b (c ∷ t) (other_free c t q r);
    }))
  ]
]
