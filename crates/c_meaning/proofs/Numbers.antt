-- Whole numbers of 64 bits.
use Rattle.std.proofs.Common.{◌≡◌, Bool, true, false, refl, arith}
use Rattle.std.specs.Prelude.{ℤ, pos, negsuc, ◌≤ℤ◌, ◌<ℤ◌, int_lt}
use Rattle.std.proofs.lemmas.Int.{ints}
use Rattle.c_meaning.specs.Values.{fits_int}

abbrev pub top : ℤ
top = pos 9223372036854775807

abbrev pub bottom : ℤ
bottom = negsuc 9223372036854775807

pub record Fits (z : ℤ) : Type 0 where
  pub low : bottom ≤ℤ z
  pub high : z ≤ℤ top

pub fits_true : (z : ℤ) → Fits z → fits_int z ≡ true
unfolding fits_int
fits_true z h = grind (arith, ints)

pub fits_false_high : (z : ℤ) → top <ℤ z → fits_int z ≡ false
unfolding fits_int
fits_false_high z h = grind (arith, ints)

pub fits_false_low : (z : ℤ) → z <ℤ bottom → fits_int z ≡ false
unfolding fits_int
fits_false_low z h = grind (arith, ints)

pub true_lt : (x y : ℤ) → int_lt x y ≡ true → x <ℤ y
true_lt x y h = grind (arith, ints)

pub false_le : (x y : ℤ) → int_lt x y ≡ false → y ≤ℤ x
false_le x y h = grind (arith, ints)

-- a case split that keeps its equation
pub by_test : (q : Bool) (G : Type 0) → (q ≡ true → G) → (q ≡ false → G) → G
by_test q G t f = elim q as (λ p. q ≡ p → G) [ true ↦ t | false ↦ f ] refl
