-- The digits that are read are those that stand there, and their value is right below 2^63.
use Rattle.std.proofs.Common.{◌≡◌, ℕ, ◌+◌, ◌*◌, ◌^◌, min, false, List, [], ◌∷◌, take, refl, ap, ◌∙◌, arith, inl, inr}
use Rattle.std.specs.Prelude.{nat_lt}
use Rattle.dialect_lexer.specs.declared.bytes.Base.{Base}
use Rattle.dialect_lexer.specs.declared.bytes.Base.TheVariants.{Decimal, Hexadecimal}
use Rattle.dialect_lexer.specs.Bytes.{is_digit_in, base_number, digit_value}
use Rattle.dialect_lexer.specs.Values.{value_from}
use Rattle.dialect_lexer.specs.Ends.{run}
use Rattle.dialect_lexer.specs.Cut.{read_digits, grown}
use Rattle.dialect_lexer.specs.Patterns.{is_too_big}
use Rattle.dialect_lexer.proofs.Fronts.{decide}

pub digits_len : (base : Base) (v : ℕ) (s : List ℕ) → (read_digits base v s).len ≡ run (is_digit_in base) s
unfolding read_digits run
digits_len base v [] = refl
digits_len base v (b ∷ s) = elim (decide (is_digit_in base b)) [
  | inl e ↦ rw e (let h = digits_len base (grown base v b) s in omega arith)
  | inr e ↦ rw e refl
]

grown_min : (base : Base) (v b : ℕ) → grown base (min v (2 ^ 63)) b ≡ min (v * base_number base + digit_value b) (2 ^ 63)
grown_min Decimal v b = capped (digit_value b)
  where
    capped : (x : ℕ) → min (min v (2 ^ 63) * 10 + x) (2 ^ 63) ≡ min (v * 10 + x) (2 ^ 63)
    capped x = omega arith
grown_min Hexadecimal v b = capped (digit_value b)
  where
    capped : (x : ℕ) → min (min v (2 ^ 63) * 16 + x) (2 ^ 63) ≡ min (v * 16 + x) (2 ^ 63)
    capped x = omega arith

pub digits_value : (base : Base) (v : ℕ) (s : List ℕ) → (read_digits base (min v (2 ^ 63)) s).value ≡ min (value_from base v (take (run (is_digit_in base) s) s)) (2 ^ 63)
unfolding read_digits run
digits_value base v [] = refl
digits_value base v (b ∷ s) = elim (decide (is_digit_in base b)) [
  | inl e ↦ rw e (ap (λ x. (read_digits base x s).value) (grown_min base v b) ∙ digits_value base (v * base_number base + digit_value b) s)
  | inr e ↦ rw e refl
]

pub too_big_min : (x : ℕ) → is_too_big (min x (2 ^ 63)) ≡ is_too_big x
too_big_min x = grind arith

pub above_255_min : (x : ℕ) → nat_lt 255 (min x (2 ^ 63)) ≡ nat_lt 255 x
above_255_min x = grind arith

pub small_min : (x : ℕ) → is_too_big (min x (2 ^ 63)) ≡ false → min x (2 ^ 63) ≡ x
small_min x h = grind arith
