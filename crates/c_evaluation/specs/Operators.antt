-- The operators on two numbers.
use Rattle.std.specs.Prelude.{ℕ, ◌+ℤ◌, ◌-ℤ◌, ◌*ℤ◌, ℤ, int_lt, int_le, int_div, int_rem, bit_and, bit_or, bit_xor}
use Rattle.c_tree.specs.declared.operators.CBinary.{CBinary}
use Rattle.c_tree.specs.declared.operators.CBinary.TheVariants as b
use Rattle.c_meaning.specs.declared.StuckKind.TheVariants as k
use Rattle.c_meaning.specs.Answer.{Answer, Got, Bad, ◌>>=◌}
use Rattle.c_meaning.specs.Values.{Value, exact, truth, divided, word, shift_count, shifted_left, shifted_right}

-- two `int64_t`
abbrev pub of_ints : CBinary → ℤ → ℤ → Answer Value
of_ints b.Add x y = exact (x +ℤ y)
of_ints b.Subtract x y = exact (x -ℤ y)
of_ints b.Multiply x y = exact (x *ℤ y)
of_ints b.Divide x y = divided int_div x y
of_ints b.Remainder x y = divided int_rem x y
of_ints b.Less x y = Got (truth (int_lt x y))
of_ints b.AtMost x y = Got (truth (int_le x y))
of_ints b.Greater x y = Got (truth (int_lt y x))
of_ints b.AtLeast x y = Got (truth (int_le y x))
of_ints _ x y = Bad k.Mismatch

-- the bits of two `uint64_t`
abbrev pub of_words : CBinary → ℕ → ℕ → ℕ
of_words b.BitAnd x y = bit_and x y
of_words b.BitOr x y = bit_or x y
of_words _ x y = bit_xor x y

-- a `uint64_t` and a count
abbrev pub of_shift : CBinary → ℕ → ℕ → ℕ
of_shift b.ShiftLeft x n = shifted_left x n
of_shift _ x n = shifted_right x n

-- a word that is shifted by a number
abbrev pub shift_of : (ℕ → ℕ → ℕ) → ℕ → ℤ → Answer Value
shift_of f a z = shift_count z >>= (λ n. Got (word (f a n)))
