-- Single bytes, and what begins with one.
use Rattle.std.specs.Prelude.{ℕ, ◌-◌, Bool, not, ◌&&◌, ◌||◌, ◌==◌, nat_le, if◌then◌else◌}
use Rattle.p2c_text.specs.declared.dialect.Dialect.{Dialect}
use Rattle.dialect_lexer.specs.Dialects.{is_iso, is_turbo, is_hp}
use Rattle.dialect_lexer.specs.declared.bytes.Base.{Base}
use Rattle.dialect_lexer.specs.declared.bytes.Base.TheVariants.{Decimal, Hexadecimal}
use Rattle.dialect_lexer.specs.declared.bytes.Start.{Start}
use Rattle.dialect_lexer.specs.declared.bytes.Start.TheVariants as start

abbrev pub is_letter : ℕ → Bool
is_letter b = (nat_le 65 b && nat_le b 90) || (nat_le 97 b && nat_le b 122)

abbrev pub is_digit : ℕ → Bool
is_digit b = nat_le 48 b && nat_le b 57

-- a letter, a digit or, outside Iso, `_`
abbrev pub is_name_byte : Dialect → ℕ → Bool
is_name_byte d b = is_letter b || is_digit b || (b == 95 && not (is_iso d))

abbrev pub is_space : ℕ → Bool
is_space b = b == 9 || b == 10 || b == 12 || b == 13 || b == 26 || b == 32

abbrev pub is_line_end : ℕ → Bool
is_line_end b = b == 10 || b == 13

abbrev pub is_in_line : ℕ → Bool
is_in_line b = not (is_line_end b)

-- ---- digits

abbrev pub base_number : Base → ℕ
base_number Decimal = 10
base_number Hexadecimal = 16

abbrev pub is_hexadecimal_digit : ℕ → Bool
is_hexadecimal_digit b = is_digit b || (nat_le 65 b && nat_le b 70) || (nat_le 97 b && nat_le b 102)

abbrev pub is_digit_in : Base → ℕ → Bool
is_digit_in Decimal b = is_digit b
is_digit_in Hexadecimal b = is_hexadecimal_digit b

abbrev pub digit_value : ℕ → ℕ
digit_value b = if nat_le b 57 then b - 48 else if nat_le b 70 then b - 55 else b - 87

-- ---- the first byte

abbrev pub start_dollar : Dialect → Start
start_dollar d = if is_turbo d then start.Hexadecimal else if is_hp d then start.Directive else start.Other

-- what begins with this byte
unfoldable pub start_of : Dialect → ℕ → Start
start_of d b =
    if is_letter b then start.Name
    else if is_digit b then start.Decimal
    else if is_space b then start.Space
    else if b == 39 then start.Quote
    else if b == 123 then start.Brace
    else if b == 40 then start.Parenthesis
    else if b == 36 then start_dollar d
    else if b == 35 && is_turbo d then start.Code
    else start.Other
