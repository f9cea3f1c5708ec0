-- What fits 64 bits.
use Rattle.std.proofs.Common.{◌≡◌, ◌≢◌, ℕ, zero, suc, ◌^◌, ◌<◌, true, false, refl, ap, ◌∙◌, eqb, arith, w64}
use Rattle.std.specs.Prelude.{ℤ, pos, negsuc, int_div, int_rem, not, FitsSigned}
use Rattle.std.proofs.lemmas.Int.{ints, rem_below}
use Rattle.std.proofs.lemmas.Bool.Decides.{nat_tests}
use Rattle.std.specs.Int.{cast_unsigned, cast_signed}
use Rattle.c_tree.specs.Tree as t
use Rattle.c_meaning.specs.declared.StuckKind.TheVariants as k
use Rattle.c_meaning.specs.Cells.{Leaf, Int}
use Rattle.c_meaning.specs.Answer.{Got, Bad, when}
use Rattle.c_meaning.specs.Types.{Of}
use Rattle.c_meaning.specs.Values.{Typed, int, fits_int, exact, is_zero, divided, to_int, to_word, complement}

fits_true : (z : ℤ) → FitsSigned w64 z → fits_int z ≡ true
unfolding fits_int
fits_true (pos n) h = grind (arith, ints)
fits_true (negsuc n) h = grind (arith, ints)

fits_false : (z : ℤ) → (FitsSigned w64 z → ⊥) → fits_int z ≡ false
unfolding fits_int
fits_false (pos n) h = grind (arith, ints)
fits_false (negsuc n) h = grind (arith, ints)

pub fits : (z : ℤ) → FitsSigned w64 z → exact z ≡ Got (Typed (Of t.Int) (Leaf (Int z)))
unfolding exact when int
fits z h = ap (λ q. when q k.Overflow (Got (int z))) (fits_true z h)

pub over : (z : ℤ) → (FitsSigned w64 z → ⊥) → exact z ≡ Bad k.Overflow
unfolding exact when int
over z h = ap (λ q. when q k.Overflow (Got (int z))) (fits_false z h)

not_zero : (y : ℤ) → y ≢ pos 0 → not (is_zero y) ≡ true
unfolding is_zero
not_zero (pos zero) h = absurd (h refl)
not_zero (pos (suc n)) h = refl
not_zero (negsuc n) h = refl

pub divides : (f : ℤ → ℤ → ℤ) (x y : ℤ) → y ≢ pos 0 → divided f x y ≡ exact (f x y)
unfolding divided when
divides f x y h = ap (λ q. when q k.ZeroDivide (exact (f x y))) (not_zero y h)

pub by_zero : (f : ℤ → ℤ → ℤ) (x y : ℤ) → y ≡ pos 0 → divided f x y ≡ Bad k.ZeroDivide
unfolding divided when is_zero
by_zero f x y h = ap (λ z. divided f x z) h

pub quotient_fits : (x y : ℤ) → y ≢ pos 0 → FitsSigned w64 (int_div x y) → divided int_div x y ≡ Got (Typed (Of t.Int) (Leaf (Int (int_div x y))))
quotient_fits x y h f = divides int_div x y h ∙ fits (int_div x y) f

pub quotient_over : (x y : ℤ) → y ≢ pos 0 → (FitsSigned w64 (int_div x y) → ⊥) → divided int_div x y ≡ Bad k.Overflow
quotient_over x y h f = divides int_div x y h ∙ over (int_div x y) f

rest_none : (x : ℤ) → int_rem x (negsuc 0) ≡ pos 0
rest_none (pos n) = grind (arith, rem_below (pos n) (negsuc 0))
rest_none (negsuc n) = grind (arith, rem_below (negsuc n) (negsuc 0))

pub rest_by_one : (x y : ℤ) → y ≡ negsuc 0 → divided int_rem x y ≡ Got (Typed (Of t.Int) (Leaf (Int (pos 0))))
rest_by_one x y h = ap (divided int_rem x) h ∙ divides int_rem x (negsuc 0) (λ e. cc) ∙ ap exact (rest_none x) ∙ fits (pos 0) (grind (arith, ints))

pub rest_fits : (x y : ℤ) → y ≢ pos 0 → FitsSigned w64 (int_rem x y) → divided int_rem x y ≡ Got (Typed (Of t.Int) (Leaf (Int (int_rem x y))))
rest_fits x y h f = divides int_rem x y h ∙ fits (int_rem x y) f

-- whether a number is 0, by its bits
pub zero_bits : (z : ℤ) → FitsSigned w64 z → eqb (cast_unsigned w64 z) 0 ≡ is_zero z
unfolding is_zero
zero_bits (pos zero) h = refl
zero_bits (pos (suc n)) h = grind (arith, nat_tests)
zero_bits (negsuc n) h = grind (arith, ints, nat_tests)

-- casts keep the bits
pub signed_bits : (n : ℕ) → n < 2 ^ 64 → cast_signed w64 n ≡ to_int n
unfolding to_int complement
signed_bits n h = grind (arith, ints, nat_tests)

pub unsigned_bits : (z : ℤ) → FitsSigned w64 z → cast_unsigned w64 z ≡ to_word z
unfolding to_word complement
unsigned_bits (pos n) h = grind (arith, ints)
unsigned_bits (negsuc n) h = grind (arith, ints)
