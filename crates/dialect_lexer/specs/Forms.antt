-- The forms: which bytes, all of them together, are a piece of a text, and of which kind.
use Rattle.std.specs.Prelude.{◌≡◌, ℕ, ◌≤◌, ◌<◌, Bool, true, false, not, ◌&&◌, ◌==◌, if◌then◌else◌, List, [], ◌∷◌, length, take, Option, Some, None, pos}
use Rattle.std.specs.List.{list_all}
use Rattle.p2c_text.specs.declared.dialect.Dialect.{Dialect}
use Rattle.dialect_lexer.specs.Dialects.{is_turbo}
use Rattle.dialect_lexer.specs.Bytes.{is_digit, is_name_byte, is_hexadecimal_digit, start_of}
use Rattle.dialect_lexer.specs.Ends.{closing_end, quote_end, closer_of_brace, closer_of_star}
use Rattle.dialect_lexer.specs.Values.{number_of}
use Rattle.dialect_lexer.specs.Words.{word_of}
use Rattle.dialect_lexer.specs.declared.bytes.Start.{Start}
use Rattle.dialect_lexer.specs.declared.bytes.Start.TheVariants as start
use Rattle.dialect_lexer.specs.declared.ends.Closer.TheVariants.{Dollar}
use Rattle.dialect_lexer.specs.declared.piece.PieceKind.{PieceKind}
use Rattle.dialect_lexer.specs.declared.piece.PieceKind.TheVariants.{Separator, Part, Token}
use Rattle.dialect_lexer.specs.declared.token.Word.{Word}
use Rattle.dialect_lexer.specs.declared.token.Symbol.{Symbol}
use Rattle.dialect_lexer.specs.declared.token.Symbol.TheVariants as mark
use Rattle.dialect_lexer.specs.declared.token.TokenKind.{TokenKind}
use Rattle.dialect_lexer.specs.declared.token.TokenKind.TheVariants as token

abbrev pub piece_where : Bool → PieceKind → Option PieceKind
piece_where holds kind = if holds then Some kind else None

abbrev pub is_nil : List ℕ → Bool
is_nil [] = true
is_nil (b ∷ more) = false

-- the end that was found is that of the bytes
abbrev pub is_end : List ℕ → Option ℕ → Bool
is_end bytes None = false
is_end bytes (Some n) = n == length bytes

abbrev pub named : Option Word → TokenKind
named None = token.Name
named (Some w) = token.Word w

abbrev pub are_hexadecimal : List ℕ → Bool
are_hexadecimal bytes = not (is_nil bytes) && list_all is_hexadecimal_digit bytes

-- after `#`: digits, or `$` and hexadecimal digits
abbrev pub is_code : List ℕ → Bool
is_code [] = false
is_code (b ∷ more) = if b == 36 then are_hexadecimal more else is_digit b && list_all is_digit more

-- ---- symbols

abbrev pub symbol_1 : Dialect → ℕ → Option Symbol
symbol_1 d b =
    if b == 43 then Some mark.Plus else if b == 45 then Some mark.Minus else if b == 42 then Some mark.Star else if b == 47 then Some mark.Slash
    else if b == 61 then Some mark.Equal else if b == 60 then Some mark.Less else if b == 62 then Some mark.Greater else if b == 41 then Some mark.Close
    else if b == 91 then Some mark.OpenBracket else if b == 93 then Some mark.CloseBracket else if b == 44 then Some mark.Comma
    else if b == 59 then Some mark.Semicolon else if b == 58 then Some mark.Colon else if b == 46 then Some mark.Dot else if b == 94 then Some mark.Caret
    else if b == 64 then (if is_turbo d then None else Some mark.Caret) else None

abbrev pub symbol_2 : ℕ → ℕ → Option Symbol
symbol_2 b c =
    if b == 60 && c == 61 then Some mark.AtMost else if b == 62 && c == 61 then Some mark.AtLeast else if b == 60 && c == 62 then Some mark.NotEqual
    else if b == 58 && c == 61 then Some mark.Assign else if b == 46 && c == 46 then Some mark.DotDot else if b == 46 && c == 41 then Some mark.CloseBracket
    else None

abbrev pub as_piece : Option Symbol → Option PieceKind
as_piece None = None
as_piece (Some s) = Some (Token (token.Symbol s))

unfoldable pub symbol : Dialect → ℕ → List ℕ → Option PieceKind
symbol d b [] = as_piece (symbol_1 d b)
symbol d b (c ∷ []) = as_piece (symbol_2 b c)
symbol d b (c ∷ e ∷ more) = None

-- after `(`: nothing, `.`, or a comment
unfoldable pub parenthesis : Dialect → List ℕ → Option PieceKind
parenthesis d [] = Some (Token (token.Symbol mark.Open))
parenthesis d (c ∷ more) =
    if c == 42 then piece_where (is_end more (closing_end (closer_of_star d) more)) Separator
    else piece_where (c == 46 && is_nil more) (Token (token.Symbol mark.OpenBracket))

-- ---- pieces

-- by what begins with the first byte
unfoldable pub form_by : Dialect → Start → ℕ → List ℕ → Option PieceKind
form_by d start.Name b more = piece_where (list_all (is_name_byte d) more) (Token (named (word_of d b more)))
form_by d start.Decimal b more = piece_where (list_all is_digit more) (Token (token.Number (pos (number_of (b ∷ more)))))
form_by d start.Space b more = piece_where (is_nil more) Separator
form_by d start.Quote b more = piece_where (is_end more (quote_end more)) Part
form_by d start.Brace b more = piece_where (is_end more (closing_end (closer_of_brace d) more)) Separator
form_by d start.Parenthesis b more = parenthesis d more
form_by d start.Hexadecimal b more = piece_where (are_hexadecimal more) (Token (token.Number (pos (number_of (b ∷ more)))))
form_by d start.Directive b more = piece_where (is_end more (closing_end Dollar more)) Separator
form_by d start.Code b more = piece_where (is_code more) Part
form_by d start.Other b more = symbol d b more

-- Which piece these bytes are, all of them together: a separator, a token, or a part of a text, which is a quoted text or a
-- character by its number.
abbrev pub form : Dialect → List ℕ → Option PieceKind
form d [] = None
form d (b ∷ more) = form_by d (start_of d b) b more

-- The first n bytes are a piece, and no longer front is one.
pub record IsLongest (d : Dialect) (bytes : List ℕ) (n : ℕ) (kind : PieceKind) : Type 0 where
  pub some : 0 < n
  pub within : n ≤ length bytes
  pub is : form d (take n bytes) ≡ Some kind
  pub no_longer : (m : ℕ) → n < m → m ≤ length bytes → form d (take m bytes) ≡ None
