-- What is known of the number at a name's end, byte by byte.
use Rattle.std.specs.Prelude.{ℕ, Bool, true, false, ◌&&◌, if◌then◌else◌, List, [], ◌∷◌, nat_eq, nat_lt, nat_le}
use Rattle.c_stepper.specs.declared.names.Mark.{Mark}
use Rattle.c_stepper.specs.declared.names.Mark.TheVariants as k

-- after a digit
abbrev pub after_digit : Mark → Mark
after_digit k.Outside = k.Outside
after_digit k.Begun = k.Counted
after_digit k.Counted = k.Counted

-- after a byte: `_` is 95, the digits are 48 to 57
abbrev pub next_mark : Mark → ℕ → Mark
next_mark mark x = if nat_eq x 95 then k.Begun else (if nat_le 48 x && nat_lt x 58 then after_digit mark else k.Outside)

abbrev pub has_number : Mark → Bool
has_number k.Counted = true
has_number _ = false

-- whether the number is there after these bytes
abbrev pub numbered_after : Mark → List ℕ → Bool
numbered_after mark [] = has_number mark
numbered_after mark (x ∷ rest) = numbered_after (next_mark mark x) rest
