-- Whole numbers: their range of 64 bits, operators, bits and decimal digits.
use Rattle.std.specs.Prelude.{ℕ, zero, suc, ◌+◌, ◌-◌, ◌/◌, ◌%◌, ◌^◌, ℤ, pos, negsuc, ◌+ℤ◌, ◌-ℤ◌, ◌*ℤ◌, Bool, true, false, not, ◌&&◌, nat_lt, int_lt, int_le, int_div, int_rem, unsigned_abs, bit_and, bit_or, List, [], ◌∷◌, Option, Some, None}
use Rattle.std.specs.Int.Bits.{bit_xor}
use Rattle.p2c_text.specs.declared.dialect.Dialect.{Dialect}
use Rattle.p2c_text.specs.declared.dialect.Dialect.TheVariants.{Iso, Hp}
use Rattle.typed_tree.specs.declared.operations.BinaryOp.{BinaryOp}
use Rattle.typed_tree.specs.declared.operations.BinaryOp.TheVariants.{Add, Sub, Mul, Div, Mod, BitAnd, BitOr, BitXor, Shl, Shr, Equal, Unequal, Less, Greater, LessEq, GreaterEq}
use Rattle.meanings.specs.declared.errors.RuntimeError.{RuntimeError}
use Rattle.meanings.specs.declared.errors.RuntimeError.TheVariants.{BadDivisor, OutOfRange, Overflow}
use Rattle.meanings.specs.Values.{Tree, Undefined, Whole}
use Rattle.meanings.specs.Outcomes.{Checked, Passes, Fails, Lacks, Misfits, ◌&>◌}

-- ---- ranges

-- the value where the test holds, or else this error
unfoldable pub when : {X : Type 0} → Bool → RuntimeError → X → Checked X
when true e x = Passes x
when false e x = Fails e

unfoldable pub between : ℤ × ℤ → ℤ → Bool
between r z = int_le r.0 z && int_le z r.1

unfoldable pub equal : ℤ → ℤ → Bool
equal x y = int_le x y && int_le y x

-- what 64 bits hold
abbrev pub host_range : ℤ × ℤ
host_range = (negsuc 9223372036854775807, pos 9223372036854775807)

-- a result in 64 bits, else `Overflow`
unfoldable pub exact : ℤ → Checked ℤ
exact z = when (between host_range z) Overflow z

-- a value in a range, else `OutOfRange`; a type that is not ordinal has none
unfoldable pub in_range : Option (ℤ × ℤ) → ℤ → Checked ℤ
in_range None z = Passes z
in_range (Some r) z = when (between r z) OutOfRange z

-- ---- operators

unfoldable pub quotient : ℤ → ℤ → Checked ℤ
quotient x y = when (not (equal y (pos 0))) BadDivisor y &> λ y. exact (int_div x y)

-- in 0..y-1
unfoldable pub residue : ℤ → ℤ → ℤ
residue x y = elim (int_lt (int_rem x y) (pos 0)) [ true ↦ int_rem x y +ℤ y | false ↦ int_rem x y ]

unfoldable pub modulo : Dialect → ℤ → ℤ → Checked ℤ
modulo Iso x y = when (int_lt (pos 0) y) BadDivisor (residue x y)
modulo Hp x y = when (int_lt (pos 0) y) BadDivisor (residue x y)
modulo _ x y = when (not (equal y (pos 0))) BadDivisor (int_rem x y)

-- two's complement of 64 bits
unfoldable pub word : ℤ → ℕ
word (pos n) = n
word (negsuc n) = 18446744073709551615 - n

unfoldable pub of_word : ℕ → ℤ
of_word n = elim (nat_lt n 9223372036854775808) [ true ↦ pos n | false ↦ negsuc (18446744073709551615 - n) ]

unfoldable pub power_of_two : ℤ → ℤ
power_of_two k = pos (2 ^ unsigned_abs k)

unfoldable pub shifted_left : ℤ → ℤ → Checked ℤ
shifted_left x k = when (between (pos 0, pos 63) k) Overflow k &> λ k. exact (x *ℤ power_of_two k)

unfoldable pub shifted_right : ℤ → ℤ → Checked ℤ
shifted_right x k = when (between (pos 0, pos 63) k && int_le (pos 0) x) Overflow k &> λ k. Passes (int_div x (power_of_two k))

unfoldable pub of_bool : Bool → ℤ
of_bool true = pos 1
of_bool false = pos 0

-- an operator on two ordinals; a truth value is 0 or 1
unfoldable pub on_numbers : Dialect → BinaryOp → ℤ → ℤ → Checked ℤ
on_numbers d Add x y = exact (x +ℤ y)
on_numbers d Sub x y = exact (x -ℤ y)
on_numbers d Mul x y = exact (x *ℤ y)
on_numbers d Div x y = quotient x y
on_numbers d Mod x y = modulo d x y
on_numbers d BitAnd x y = Passes (of_word (bit_and (word x) (word y)))
on_numbers d BitOr x y = Passes (of_word (bit_or (word x) (word y)))
on_numbers d BitXor x y = Passes (of_word (bit_xor (word x) (word y)))
on_numbers d Shl x y = shifted_left x y
on_numbers d Shr x y = shifted_right x y
on_numbers d Equal x y = Passes (of_bool (equal x y))
on_numbers d Unequal x y = Passes (of_bool (not (equal x y)))
on_numbers d Less x y = Passes (of_bool (int_lt x y))
on_numbers d Greater x y = Passes (of_bool (int_lt y x))
on_numbers d LessEq x y = Passes (of_bool (int_le x y))
on_numbers d GreaterEq x y = Passes (of_bool (int_le y x))
on_numbers d _ x y = Misfits

-- ---- decimal

-- the digits of a number of at most k digits, before these
unfoldable pub digits : ℕ → ℕ → List ℕ → List ℕ
digits zero n ds = ds
digits (suc k) n ds = elim (nat_lt n 10) [ true ↦ (48 + n) ∷ ds | false ↦ digits k (n / 10) ((48 + n % 10) ∷ ds) ]

unfoldable pub decimal : ℤ → List ℕ
decimal (pos n) = digits 20 n []
decimal (negsuc n) = 45 ∷ digits 20 (n + 1) []

-- ---- values

unfoldable pub number_of : Tree → Checked ℤ
number_of (Whole z) = Passes z
number_of Undefined = Lacks
number_of _ = Misfits

unfoldable pub numbers_of : Tree → Tree → Checked (ℤ × ℤ)
numbers_of t u = number_of t &> λ x. number_of u &> λ y. Passes (x, y)

-- whether a truth value is true
unfoldable pub holds : Tree → Checked Bool
holds t = number_of t &> λ z. Passes (not (equal z (pos 0)))

unfoldable pub whole : Checked ℤ → Checked Tree
whole c = c &> λ z. Passes (Whole z)
