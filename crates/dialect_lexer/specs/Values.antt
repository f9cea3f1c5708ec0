-- What numbers and texts stand for, by their bytes.
use Rattle.std.specs.Prelude.{ℕ, ◌+◌, ◌*◌, ◌==◌, ◌||◌, if◌then◌else◌, List, [], ◌∷◌, ◌++◌}
use Rattle.dialect_lexer.specs.declared.bytes.Base.{Base}
use Rattle.dialect_lexer.specs.declared.bytes.Base.TheVariants.{Decimal, Hexadecimal}
use Rattle.dialect_lexer.specs.Bytes.{base_number, digit_value}

-- the number v with these digits after it
abbrev pub value_from : Base → ℕ → List ℕ → ℕ
value_from base v [] = v
value_from base v (b ∷ more) = value_from base (v * base_number base + digit_value b) more

-- The value of a number: its digits, or `$` and its hexadecimal digits.
abbrev pub number_of : List ℕ → ℕ
number_of [] = 0
number_of (b ∷ more) = if b == 36 then value_from Hexadecimal 0 more else value_from Decimal (digit_value b) more

-- How far a text has been read: before its first byte, between quotes, after a quote that closes or is the first of two,
-- or in the number after `#`.
pub data Reading : Type 0 where
  Before : Reading
  Inside : Reading
  Quoted : Reading
  Coded : (base : Base) → (value : ℕ) → Reading

abbrev pub after_part : ℕ → Reading → Reading
after_part b other = if b == 39 then Inside else if b == 35 then Coded Decimal 0 else other

abbrev pub next_reading : Reading → ℕ → Reading
next_reading Before b = after_part b Before
next_reading Inside b = if b == 39 then Quoted else Inside
next_reading Quoted b = after_part b Quoted
next_reading (Coded base v) b = after_part b (if b == 36 then Coded Hexadecimal 0 else Coded base (v * base_number base + digit_value b))

-- the bytes that are complete once b is read
abbrev pub completed : Reading → ℕ → List ℕ
completed Before b = []
completed Inside b = if b == 39 then [] else b ∷ []
completed Quoted b = if b == 39 then 39 ∷ [] else []
completed (Coded base v) b = if b == 39 || b == 35 then v ∷ [] else []

abbrev pub completed_at_end : Reading → List ℕ
completed_at_end Before = []
completed_at_end Inside = []
completed_at_end Quoted = []
completed_at_end (Coded base v) = v ∷ []

unfoldable pub bytes_from : Reading → List ℕ → List ℕ
bytes_from r [] = completed_at_end r
bytes_from r (b ∷ more) = completed r b ++ bytes_from (next_reading r b) more

-- The bytes that a text stands for: those between its quotes, where two quotes are one, and the numbers after `#`, in order.
abbrev pub text_bytes : List ℕ → List ℕ
text_bytes bytes = bytes_from Before bytes
