-- Marks of one byte and of two.
use Rattle.std.specs.Prelude.{ℕ, ◌==◌, ◌&&◌, if◌then◌else◌, Option, Some, None}
use Rattle.c_grammar.specs.declared.token.Mark.{Mark}
use Rattle.c_grammar.specs.declared.token.Mark.TheVariants as mark

abbrev pub mark_of : ℕ → Option Mark
mark_of b =
    if b == 123 then Some mark.OpenBrace else if b == 125 then Some mark.CloseBrace else if b == 40 then Some mark.Open else if b == 41 then Some mark.Close
    else if b == 91 then Some mark.OpenBracket else if b == 93 then Some mark.CloseBracket else if b == 59 then Some mark.Semicolon else if b == 44 then Some mark.Comma
    else if b == 46 then Some mark.Dot else if b == 58 then Some mark.Colon else if b == 61 then Some mark.Assign else if b == 43 then Some mark.Plus
    else if b == 45 then Some mark.Minus else if b == 42 then Some mark.Star else if b == 47 then Some mark.Slash else if b == 37 then Some mark.Percent
    else if b == 60 then Some mark.Less else if b == 62 then Some mark.Greater else if b == 38 then Some mark.Ampersand else if b == 124 then Some mark.Bar
    else if b == 94 then Some mark.Caret else if b == 126 then Some mark.Tilde else if b == 33 then Some mark.Exclamation else None

abbrev pub pair_of : ℕ → ℕ → Option Mark
pair_of b c =
    if b == 61 && c == 61 then Some mark.Equal else if b == 33 && c == 61 then Some mark.NotEqual else if b == 60 && c == 61 then Some mark.AtMost
    else if b == 62 && c == 61 then Some mark.AtLeast else if b == 38 && c == 38 then Some mark.AndAnd else if b == 124 && c == 124 then Some mark.OrOr
    else if b == 60 && c == 60 then Some mark.ShiftLeft else if b == 62 && c == 62 then Some mark.ShiftRight else None
