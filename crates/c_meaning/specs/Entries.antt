-- The number at the end of a routine's name.
use Rattle.std.specs.Prelude.{ℕ, ◌+◌, ◌-◌, ◌*◌, ◌&&◌, if◌then◌else◌, List, [], ◌∷◌, ◌++◌, Option, Some, None, nat_eq, nat_lt, nat_le}
use Rattle.c_meaning.specs.Cells.{Name}

-- what stands after the last `_` so far: something else or no `_`, nothing yet, or digits of a number
pub data Tail : Type 0 where
  Outside : Tail
  Begun : Tail
  Counted : (number : ℕ) → Tail

-- one more digit
unfoldable pub with_digit : ℕ → Tail → Tail
with_digit d Outside = Outside
with_digit d Begun = Counted d
with_digit d (Counted n) = Counted (10 * n + d)

-- one more byte: `_` is 95, the digits are 48 to 57
unfoldable pub with_byte : ℕ → Tail → Tail
with_byte x tail = if nat_eq x 95 then Begun else (if nat_le 48 x && nat_lt x 58 then with_digit (x - 48) tail else Outside)

-- the number, where digits stand after the last `_`
unfoldable pub tail_number : Tail → Option ℕ
tail_number (Counted n) = Some n
tail_number _ = None

-- the number at the end of a name, from some byte of it on
unfoldable pub number_after : Tail → List ℕ → Option ℕ
number_after tail [] = tail_number tail
number_after tail (x ∷ rest) = number_after (with_byte x tail) rest

-- the number that the name's last `_` and the digits after it give, in decimal; None: the name does not end so
unfoldable pub number_at_end : Name → Option ℕ
number_at_end n = number_after Outside n

-- the calls after one of a function whose name ends so
unfoldable pub with_entry : Option ℕ → List ℕ → List ℕ
with_entry None calls = calls
with_entry (Some k) calls = calls ++ k ∷ []
