-- Worked values of numbers and texts.
use Rattle.std.proofs.Common.{◌≡◌, [], ◌∷◌, ◌++◌, refl}
use Rattle.std.specs.Prelude.{codes}
use Rattle.dialect_lexer.specs.Values.{number_of, text_bytes, bytes_from}

decimal_value : number_of (codes "0120") ≡ 120
decimal_value = refl

hexadecimal_value : number_of (codes "$1aF") ≡ 431
hexadecimal_value = refl

empty_text : text_bytes (codes "''") ≡ []
unfolding bytes_from
empty_text = refl

quote_in_text : text_bytes (codes "'it''s'") ≡ codes "it's"
unfolding bytes_from
quote_in_text = refl

quote_alone : text_bytes (codes "''''") ≡ codes "'"
unfolding bytes_from
quote_alone = refl

parts_that_touch : text_bytes (codes "'a'#66#$43'd''e'#0") ≡ codes "aBCd'e" ++ 0 ∷ []
unfolding bytes_from
parts_that_touch = refl

code_before_quotes : text_bytes (codes "#65''#66") ≡ codes "AB"
unfolding bytes_from
code_before_quotes = refl
