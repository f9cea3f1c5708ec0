-- The patterns: at which bytes there is a fault, of which kind, and how long.
use Rattle.std.specs.Prelude.{◌≡◌, ℕ, ◌+◌, ◌<◌, ◌≤◌, Bool, false, not, ◌&&◌, ◌||◌, ◌==◌, nat_le, nat_lt, if◌then◌else◌, List, [], ◌∷◌, length, take, drop, Option, Some, None, Result, Ok, Err, codes}
use Rattle.std.specs.Str.{bytes_eq, str_to_ascii_lowercase}
use Rattle.p2c_text.specs.declared.dialect.Dialect.{Dialect}
use Rattle.dialect_lexer.specs.Dialects.{is_turbo, is_ucsd}
use Rattle.dialect_lexer.specs.Bytes.{is_digit, is_hexadecimal_digit, is_in_line, start_of}
use Rattle.dialect_lexer.specs.Ends.{run, further, when, closing_end, quote_end, real_end, closer_of_brace, closer_of_star}
use Rattle.dialect_lexer.specs.Values.{number_of}
use Rattle.dialect_lexer.specs.Forms.{form, IsLongest}
use Rattle.dialect_lexer.specs.declared.bytes.Start.{Start}
use Rattle.dialect_lexer.specs.declared.bytes.Start.TheVariants as start
use Rattle.dialect_lexer.specs.declared.ends.Closer.TheVariants.{Dollar}
use Rattle.dialect_lexer.specs.declared.fault.LexKind.{LexKind}
use Rattle.dialect_lexer.specs.declared.fault.LexKind.TheVariants as fault
use Rattle.dialect_lexer.specs.declared.piece.Flaw.{Flaw}
use Rattle.dialect_lexer.specs.declared.piece.Piece.{Piece}
use Rattle.dialect_lexer.specs.declared.piece.PieceKind.{PieceKind}

-- ---- each pattern, as the number of its bytes where it begins

-- the whole where no end was found
abbrev pub unclosed : Option ℕ → ℕ → Option ℕ
unclosed None whole = Some whole
unclosed (Some n) whole = None

abbrev pub is_too_big : ℕ → Bool
is_too_big value = nat_lt 9223372036854775807 value

-- digits, all that stand here
unfoldable pub big_decimal : ℕ → List ℕ → Option ℕ
big_decimal b more = when (is_too_big (number_of (b ∷ take (run is_digit more) more))) (1 + run is_digit more)

unfoldable pub big_hexadecimal : ℕ → List ℕ → Option ℕ
big_hexadecimal b more = when (is_too_big (number_of (b ∷ take (run is_hexadecimal_digit more) more))) (1 + run is_hexadecimal_digit more)

-- after `#`
unfoldable pub big_code : List ℕ → Option ℕ
big_code [] = None
big_code (b ∷ more) =
    if b == 36 then when (nat_lt 255 (number_of (b ∷ take (run is_hexadecimal_digit more) more))) (2 + run is_hexadecimal_digit more)
    else when (is_digit b && nat_lt 255 (number_of (b ∷ take (run is_digit more) more))) (2 + run is_digit more)

unfoldable pub real : List ℕ → Option ℕ
real more = further (1 + run is_digit more) (real_end (drop (run is_digit more) more))

-- `$I` in either case, not followed by `+` or `-`
abbrev pub is_switch_i : List ℕ → Bool
is_switch_i [] = false
is_switch_i (a ∷ []) = false
is_switch_i (a ∷ b ∷ []) = false
is_switch_i (a ∷ b ∷ c ∷ more) = a == 36 && (b == 73 || b == 105) && not (c == 43 || c == 45)

-- the text of a comment names a file to include
abbrev pub includes : Dialect → List ℕ → Bool
includes d text = (is_turbo d || is_ucsd d) && is_switch_i text

-- the text of a directive begins with `include`
abbrev pub is_include : List ℕ → Bool
is_include text = nat_le 7 (length text) && bytes_eq (codes "include") (str_to_ascii_lowercase (take 7 text))

abbrev pub included : Bool → ℕ → Option ℕ → Option ℕ
included names k end = if names then further k end else None

unfoldable pub open_parenthesis : Dialect → List ℕ → Option ℕ
open_parenthesis d [] = None
open_parenthesis d (c ∷ more) = if c == 42 then unclosed (closing_end (closer_of_star d) more) (2 + length more) else None

unfoldable pub include_parenthesis : Dialect → List ℕ → Option ℕ
include_parenthesis d [] = None
include_parenthesis d (c ∷ more) = if c == 42 then included (includes d more) 2 (closing_end (closer_of_star d) more) else None

-- The number of bytes of the pattern of this kind that begins here, by what begins with the first byte. BadByte is not among them.
unfoldable pub pattern_by : Dialect → LexKind → Start → ℕ → List ℕ → Option ℕ
pattern_by d fault.OpenComment start.Brace b more = unclosed (closing_end (closer_of_brace d) more) (1 + length more)
pattern_by d fault.OpenComment start.Parenthesis b more = open_parenthesis d more
pattern_by d fault.OpenComment start.Directive b more = unclosed (closing_end Dollar more) (1 + length more)
pattern_by d fault.OpenString start.Quote b more = unclosed (quote_end more) (1 + run is_in_line more)
pattern_by d fault.NumberTooBig start.Decimal b more = big_decimal b more
pattern_by d fault.NumberTooBig start.Hexadecimal b more = big_hexadecimal b more
pattern_by d fault.NumberTooBig start.Code b more = big_code more
pattern_by d fault.RealLiteral start.Decimal b more = real more
pattern_by d fault.IncludeFile start.Brace b more = included (includes d more) 1 (closing_end (closer_of_brace d) more)
pattern_by d fault.IncludeFile start.Parenthesis b more = include_parenthesis d more
pattern_by d fault.IncludeFile start.Directive b more = included (is_include more) 1 (closing_end Dollar more)
pattern_by d kind s b more = None

abbrev pub pattern : Dialect → LexKind → List ℕ → Option ℕ
pattern d kind [] = None
pattern d kind (b ∷ more) = pattern_by d kind (start_of d b) b more

-- ---- faults

-- no pattern but perhaps that of BadByte begins here
abbrev pub NoPattern : Dialect → List ℕ → Type 0
NoPattern d bytes = (kind : LexKind) → pattern d kind bytes ≡ None

-- a byte with which neither a form nor another pattern begins
pub record IsBadByte (d : Dialect) (bytes : List ℕ) : Type 0 where
  pub some : 0 < length bytes
  pub no_form : (m : ℕ) → form d (take m bytes) ≡ None
  pub no_pattern : NoPattern d bytes

-- the pattern of this kind begins here, and has n bytes
abbrev pub Pattern : Dialect → LexKind → List ℕ → ℕ → Type 0
Pattern d fault.BadByte bytes n = IsBadByte d bytes × (n ≡ 1)
Pattern d fault.OpenComment bytes n = pattern d fault.OpenComment bytes ≡ Some n
Pattern d fault.OpenString bytes n = pattern d fault.OpenString bytes ≡ Some n
Pattern d fault.NumberTooBig bytes n = pattern d fault.NumberTooBig bytes ≡ Some n
Pattern d fault.RealLiteral bytes n = pattern d fault.RealLiteral bytes ≡ Some n
Pattern d fault.IncludeFile bytes n = pattern d fault.IncludeFile bytes ≡ Some n

abbrev pub kind_number : LexKind → ℕ
kind_number fault.BadByte = 1
kind_number fault.OpenComment = 2
kind_number fault.OpenString = 3
kind_number fault.NumberTooBig = 4
kind_number fault.RealLiteral = 5
kind_number fault.IncludeFile = 6

-- The fault of this kind begins here, and has n bytes: of two patterns the one of the lesser number is meant.
pub record IsFault (d : Dialect) (bytes : List ℕ) (n : ℕ) (kind : LexKind) : Type 0 where
  pub begins : Pattern d kind bytes n
  pub within : n ≤ length bytes
  pub least : (other : LexKind) → kind_number other < kind_number kind → pattern d other bytes ≡ None

-- The first n bytes are a piece: the longest form here, and no pattern begins.
pub record IsPiece (d : Dialect) (bytes : List ℕ) (n : ℕ) (kind : PieceKind) : Type 0 where
  pub longest : IsLongest d bytes n kind
  pub no_pattern : NoPattern d bytes

-- what stands at the front of the bytes: a piece or a fault
abbrev pub IsFront : Dialect → List ℕ → Result Piece Flaw → Type 0
IsFront d bytes (Ok p) = IsPiece d bytes p.len p.kind
IsFront d bytes (Err f) = IsFault d bytes f.len f.kind
