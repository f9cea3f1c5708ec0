-- The digits of a number are the token of that number.
use Rattle.std.proofs.Common.{◌≡◌, ℕ, zero, suc, ◌+◌, ◌/◌, ◌%◌, ◌^◌, ◌<◌, ◌≤◌, true, false, List, [], ◌∷◌, ◌++◌, refl, sym, ap, subst, arith}
use Rattle.std.specs.Prelude.{◌==◌, decimal}
use Rattle.std.specs.List.{list_all}
use Rattle.std.specs.Str.Parse.{digits_value}
use Rattle.std.proofs.lemmas.Bool.Decides.{nat_tests}
use Rattle.std.proofs.lemmas.Fmt.{decimal_by_steps, decimal_digit, decimal_is_IsNumeral}
use Rattle.c_grammar.specs.Token.{Token, Numeral, is_letter, is_digit, IsLongest}
use Rattle.c_grammar.proofs.Longest.{Stops, zero_longest, number_longest}
use Rattle.c_printer.proofs.ReadsToken.{Reads, reads_token}

-- digits from another than 0 on
record Digits (bytes : List ℕ) : Type 0 where
  first : ℕ
  more : List ℕ
  whole : bytes ≡ first ∷ more
  letter : is_letter first ≡ false
  zero' : (first == 48) ≡ false
  digit : is_digit first ≡ true
  digits : list_all is_digit more ≡ true

digit_no_letter : (n : ℕ) → n < 10 → is_letter (48 + n) ≡ false
digit_no_letter n h = grind (arith, nat_tests)

digit_no_zero : (n : ℕ) → 0 < n → ((48 + n) == 48) ≡ false
digit_no_zero n h = grind (arith, nat_tests)

digit_passes : (n : ℕ) → n < 10 → is_digit (48 + n) ≡ true
digit_passes n h = grind (arith, nat_tests)

one_more : (front : List ℕ) (b : ℕ) → list_all is_digit front ≡ true → is_digit b ≡ true → list_all is_digit (front ++ b ∷ []) ≡ true
one_more [] b f d = rw d refl
one_more (a ∷ front) b f d = grind (arith, one_more front b)

decimal_digits : (n : ℕ) → n < 2 ^ 64 → 0 < n → Digits (decimal n)
decimal_digits n = decimal_by_steps (λ n bytes. 0 < n → Digits bytes) one more n
  where
    one : (n : ℕ) → n < 10 → 0 < n → Digits ((48 + n) ∷ [])
    one n s p = record { first = 48 + n; more = []; whole = refl; letter = digit_no_letter n s; zero' = digit_no_zero n p; digit = digit_passes n s; digits = refl }

    more : (n : ℕ) (bytes : List ℕ) → 10 ≤ n → (0 < n / 10 → Digits bytes) → 0 < n → Digits (bytes ++ (48 + n % 10) ∷ [])
    more n bytes l earlier p =
        let d = earlier (omega arith) in
        record {
          first = d.first;
          more = d.more ++ (48 + n % 10) ∷ [];
          whole = ap (λ l. l ++ (48 + n % 10) ∷ []) d.whole;
          letter = d.letter;
          zero' = d.zero';
          digit = d.digit;
          digits = one_more d.more (48 + n % 10) d.digits (digit_passes (n % 10) (omega arith));
        }

digits_longest : (bytes after : List ℕ) → Digits bytes → Stops is_digit after → IsLongest bytes after (Numeral (digits_value 10 bytes))
digits_longest bytes after d s =
    subst (λ l. IsLongest l after (Numeral (digits_value 10 l))) (sym d.whole) (number_longest d.first d.more after d.letter d.zero' d.digit d.digits s)

pub decimal_longest : (n : ℕ) (after : List ℕ) → n < 2 ^ 64 → Stops is_digit after → IsLongest (decimal n) after (Numeral n)
decimal_longest zero after h s = subst (λ l. IsLongest l after (Numeral 0)) (sym (decimal_digit 0 (omega arith))) (zero_longest after)
decimal_longest (suc n) after h s =
    subst (λ v. IsLongest (decimal (suc n)) after (Numeral v)) (decimal_is_IsNumeral (suc n) h).1 (digits_longest (decimal (suc n)) after (decimal_digits (suc n) h (omega arith)) s)

pub number : (n : ℕ) {after : List ℕ} {tokens : List Token} → n < 2 ^ 64 → Stops is_digit after → Reads after tokens → Reads (decimal n ++ after) (Numeral n ∷ tokens)
number n {after} h s r = reads_token (decimal_longest n after h s) r
