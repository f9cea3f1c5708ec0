-- How a text is cut into pieces, and which tokens these are.
use Rattle.std.specs.Prelude.{◌≡◌, ℕ, ◌+◌, ◌-◌, ◌<◌, Bool, true, false, ◌&&◌, ◌==◌, if◌then◌else◌, List, [], ◌∷◌, ◌++◌, length, take, drop, Option, Some, None, count_by, fold, slice_get, slice_set}
use Rattle.p2c_text.specs.declared.dialect.Dialect.{Dialect}
use Rattle.p2c_text.specs.declared.place.Span.{Span}
use Rattle.dialect_lexer.specs.FileTokens.{FileTokens}
use Rattle.dialect_lexer.specs.Patterns.{IsPiece, IsFault}
use Rattle.dialect_lexer.specs.declared.fault.LexKind.{LexKind}
use Rattle.dialect_lexer.specs.declared.fault.LexFault.{LexFault}
use Rattle.dialect_lexer.specs.declared.fault.LexFault.TheVariants as answer
use Rattle.dialect_lexer.specs.declared.piece.PieceKind.{PieceKind}
use Rattle.dialect_lexer.specs.declared.piece.PieceKind.TheVariants as piece_kind
use Rattle.dialect_lexer.specs.declared.token.Token.{Token}
use Rattle.dialect_lexer.specs.declared.token.TokenKind.{TokenKind}
use Rattle.dialect_lexer.specs.declared.token.TokenKind.TheVariants as token

-- ---- pieces

-- a piece, with the number of bytes before it and up to its end
pub record Placed : Type 0 where
  pub kind : PieceKind
  pub start : ℕ
  pub end : ℕ

abbrev pub placed : PieceKind → ℕ → ℕ → Placed
placed kind start end = record { kind = kind; start = start; end = end }

-- The bytes, of which the first has this many before it, begin with these pieces, without gap or overlap; the rest follows.
pub data Cut (d : Dialect) : ℕ → List ℕ → List Placed → List ℕ → Type 0 where
  nothing : (at : ℕ) (rest : List ℕ) → Cut d at rest [] rest
  piece : (at : ℕ) (bytes : List ℕ) (n : ℕ) (kind : PieceKind) (more : List Placed) (rest : List ℕ)
      → IsPiece d bytes n kind → Cut d (at + n) (drop n bytes) more rest → Cut d at bytes (placed kind at (at + n) ∷ more) rest

-- ---- tokens

abbrev pub line_ends : List ℕ → ℕ
line_ends bytes = count_by (λ b. b == 10) bytes

-- the line of the byte with this number
abbrev pub line_at : List ℕ → ℕ → ℕ
line_at bytes at = 1 + line_ends (take at bytes)

abbrev pub is_separator : PieceKind → Bool
is_separator piece_kind.Separator = true
is_separator piece_kind.Part = false
is_separator (piece_kind.Token kind) = false

-- only separators are looked at
abbrev pub line_ends_of : PieceKind → List ℕ → ℕ
line_ends_of kind bytes = if is_separator kind then line_ends bytes else 0

abbrev pub is_text : TokenKind → Bool
is_text (token.Word w) = false
is_text token.Name = false
is_text (token.Number n) = false
is_text token.Text = true
is_text (token.Symbol s) = false

-- a text that ends where the place begins
abbrev pub is_touched : Token → Span → Bool
is_touched t place = is_text t.kind && t.span.end == place.start

abbrev pub with_token : List Token → TokenKind → Span → List Token
with_token before kind place = before ++ record { kind = kind; span = place } ∷ []

abbrev pub with_part_after : List Token → Option Token → Span → List Token
with_part_after before None place = with_token before token.Text place
with_part_after before (Some last) place =
    if is_touched last place then slice_set before (length before - 1) (record { kind = token.Text; span = record last.span { end = place.end } })
    else with_token before token.Text place

-- parts of texts that touch are one text
abbrev pub with_part : List Token → Span → List Token
with_part before place = with_part_after before (slice_get before (length before - 1)) place

abbrev pub with_piece : List Token → PieceKind → Span → List Token
with_piece before piece_kind.Separator place = before
with_piece before piece_kind.Part place = with_part before place
with_piece before (piece_kind.Token kind) place = with_token before kind place

abbrev pub span_of : ℕ → List ℕ → ℕ → ℕ → Span
span_of file bytes start end = record { file = file; start = start; end = end; line = line_at bytes start }

abbrev pub with_placed : ℕ → List ℕ → List Token → Placed → List Token
with_placed file bytes before p = with_piece before p.kind (span_of file bytes p.start p.end)

-- the tokens among these pieces, in order
abbrev pub tokens_of : ℕ → List ℕ → List Placed → List Token
tokens_of file bytes pieces = fold (with_placed file bytes) [] pieces

-- ---- answers

-- These are the tokens of the bytes.
abbrev pub Lexes : Dialect → List ℕ → FileTokens → Type 0
Lexes d bytes list = (pieces : List Placed) × Cut d 0 bytes pieces [] × (list.tokens ≡ tokens_of list.file bytes pieces)

-- Pieces cover the bytes before this place, and a fault begins there, which has n bytes.
pub record FailsWith (d : Dialect) (bytes : List ℕ) (kind : LexKind) (at n : ℕ) : Type 0 where
  pub inside : at < length bytes
  pub pieces : List Placed
  pub cut : Cut d 0 bytes pieces (drop at bytes)
  pub fault : IsFault d (drop at bytes) n kind

-- The bytes have no tokens, by a fault of this kind at this place.
abbrev pub LexFails : Dialect → List ℕ → LexKind → ℕ → Type 0
LexFails d bytes kind at = (n : ℕ) × FailsWith d bytes kind at n

-- A fault is named with the number of the file, and its span goes from its first byte to its end.
abbrev pub IsRefused : Dialect → ℕ → List ℕ → LexFault → Type 0
IsRefused d file bytes (answer.At kind place) = (n : ℕ) × FailsWith d bytes kind place.start n × (place ≡ span_of file bytes place.start (place.start + n))
IsRefused d file bytes (answer.Memory error) = Unit {0}
