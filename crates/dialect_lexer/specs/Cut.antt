-- The piece or the fault at the front, by its first bytes.
use Rattle.std.specs.Prelude.{ℕ, ◌+◌, ◌*◌, ◌^◌, min, Bool, ◌==◌, nat_lt, if◌then◌else◌, List, [], ◌∷◌, length, take, drop, Option, Some, None, Result, Ok, Err, pos}
use Rattle.p2c_text.specs.declared.dialect.Dialect.{Dialect}
use Rattle.dialect_lexer.specs.Bytes.{is_digit, is_name_byte, is_in_line, is_digit_in, base_number, digit_value, start_of}
use Rattle.dialect_lexer.specs.Ends.{run, closing_end, quote_end, real_end, closer_of_brace, closer_of_star}
use Rattle.dialect_lexer.specs.Forms.{named, symbol_1, symbol_2}
use Rattle.dialect_lexer.specs.Patterns.{includes, is_include, is_too_big}
use Rattle.dialect_lexer.specs.Words.{word_of}
use Rattle.dialect_lexer.specs.declared.bytes.Base.{Base}
use Rattle.dialect_lexer.specs.declared.bytes.Base.TheVariants as base
use Rattle.dialect_lexer.specs.declared.bytes.Start.{Start}
use Rattle.dialect_lexer.specs.declared.bytes.Start.TheVariants as start
use Rattle.dialect_lexer.specs.declared.ends.Closer.{Closer}
use Rattle.dialect_lexer.specs.declared.ends.Closer.TheVariants.{Dollar}
use Rattle.dialect_lexer.specs.declared.fault.LexKind.{LexKind}
use Rattle.dialect_lexer.specs.declared.fault.LexKind.TheVariants as fault
use Rattle.dialect_lexer.specs.declared.ends.Digits.{Digits}
use Rattle.dialect_lexer.specs.declared.piece.Piece.{Piece}
use Rattle.dialect_lexer.specs.declared.piece.Flaw.{Flaw}
use Rattle.dialect_lexer.specs.declared.piece.PieceKind.{PieceKind}
use Rattle.dialect_lexer.specs.declared.piece.PieceKind.TheVariants.{Separator, Part, Token}
use Rattle.dialect_lexer.specs.declared.token.Symbol.{Symbol}
use Rattle.dialect_lexer.specs.declared.token.Symbol.TheVariants as mark
use Rattle.dialect_lexer.specs.declared.token.TokenKind.TheVariants as token

abbrev pub Found : Type 0
Found = Result Piece Flaw

abbrev pub taken : PieceKind → ℕ → Found
taken k n = Ok (record { kind = k; len = n })

abbrev pub refused : LexKind → ℕ → Found
refused k n = Err (record { kind = k; len = n })

-- ---- numbers

-- a value with one more digit, where 2^63 stands for itself and all above
abbrev pub grown : Base → ℕ → ℕ → ℕ
grown base v b = min (v * base_number base + digit_value b) (2 ^ 63)

abbrev pub all_more : ℕ → Digits → Digits
all_more n g = record { len = n + g.len; value = g.value }

unfoldable pub read_digits : Base → ℕ → List ℕ → Digits
read_digits base v [] = record { len = 0; value = v }
read_digits base v (b ∷ more) = if is_digit_in base b then all_more 1 (read_digits base (grown base v b) more) else record { len = 0; value = v }

abbrev pub number_or_real : Option ℕ → Digits → Found
number_or_real None g = taken (Token (token.Number (pos g.value))) (1 + g.len)
number_or_real (Some k) g = refused fault.RealLiteral (1 + g.len + k)

unfoldable pub decimal_from : Digits → List ℕ → Found
decimal_from g more = if is_too_big g.value then refused fault.NumberTooBig (1 + g.len) else number_or_real (real_end (drop g.len more)) g

unfoldable pub cut_decimal : ℕ → List ℕ → Found
cut_decimal b more = decimal_from (read_digits base.Decimal (digit_value b) more) more

abbrev pub hexadecimal_from : Digits → Found
hexadecimal_from g =
    if g.len == 0 then refused fault.BadByte 1 else if is_too_big g.value then refused fault.NumberTooBig (1 + g.len) else taken (Token (token.Number (pos g.value))) (1 + g.len)

unfoldable pub cut_hexadecimal : List ℕ → Found
cut_hexadecimal more = hexadecimal_from (read_digits base.Hexadecimal 0 more)

abbrev pub code_from : Digits → Found
code_from g = if nat_lt 255 g.value then refused fault.NumberTooBig (2 + g.len) else taken Part (2 + g.len)

abbrev pub hexadecimal_code : Digits → Found
hexadecimal_code g = if g.len == 0 then refused fault.BadByte 1 else code_from g

unfoldable pub cut_code : List ℕ → Found
cut_code [] = refused fault.BadByte 1
cut_code (b ∷ more) =
    if b == 36 then hexadecimal_code (read_digits base.Hexadecimal 0 more)
    else if is_digit b then code_from (read_digits base.Decimal (digit_value b) more)
    else refused fault.BadByte 1

-- ---- names, texts and comments

unfoldable pub cut_name : Dialect → ℕ → List ℕ → Found
cut_name d b more = let n = run (is_name_byte d) more in taken (Token (named (word_of d b (take n more)))) (1 + n)

abbrev pub quoted : Option ℕ → List ℕ → Found
quoted None more = refused fault.OpenString (1 + run is_in_line more)
quoted (Some n) more = taken Part (1 + n)

unfoldable pub cut_quoted : List ℕ → Found
cut_quoted more = quoted (quote_end more) more

-- after k bytes that open it
abbrev pub closed : ℕ → Bool → Option ℕ → List ℕ → Found
closed k names None more = refused fault.OpenComment (k + length more)
closed k names (Some n) more = if names then refused fault.IncludeFile (k + n) else taken Separator (k + n)

unfoldable pub cut_comment : Dialect → ℕ → Closer → List ℕ → Found
cut_comment d k c more = closed k (includes d more) (closing_end c more) more

unfoldable pub cut_directive : List ℕ → Found
cut_directive more = closed 1 (is_include more) (closing_end Dollar more) more

-- ---- symbols

abbrev pub symbol_piece : Symbol → ℕ → Found
symbol_piece s n = taken (Token (token.Symbol s)) n

abbrev pub single : Option Symbol → Found
single None = refused fault.BadByte 1
single (Some s) = symbol_piece s 1

abbrev pub double_or : Option Symbol → Found → Found
double_or None other = other
double_or (Some s) other = symbol_piece s 2

unfoldable pub cut_symbol : Dialect → ℕ → List ℕ → Found
cut_symbol d b [] = single (symbol_1 d b)
cut_symbol d b (c ∷ more) = double_or (symbol_2 b c) (single (symbol_1 d b))

unfoldable pub cut_parenthesis : Dialect → List ℕ → Found
cut_parenthesis d [] = symbol_piece mark.Open 1
cut_parenthesis d (c ∷ more) =
    if c == 42 then cut_comment d 2 (closer_of_star d) more else if c == 46 then symbol_piece mark.OpenBracket 2 else symbol_piece mark.Open 1

-- ---- all

unfoldable pub cut_by : Dialect → Start → ℕ → List ℕ → Found
cut_by d start.Name b more = cut_name d b more
cut_by d start.Decimal b more = cut_decimal b more
cut_by d start.Space b more = taken Separator 1
cut_by d start.Quote b more = cut_quoted more
cut_by d start.Brace b more = cut_comment d 1 (closer_of_brace d) more
cut_by d start.Parenthesis b more = cut_parenthesis d more
cut_by d start.Hexadecimal b more = cut_hexadecimal more
cut_by d start.Directive b more = cut_directive more
cut_by d start.Code b more = cut_code more
cut_by d start.Other b more = cut_symbol d b more

-- the piece or the fault at the front of b ∷ more
abbrev pub cut : Dialect → ℕ → List ℕ → Found
cut d b more = cut_by d (start_of d b) b more
