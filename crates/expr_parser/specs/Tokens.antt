-- Tokens as the grammar sees them.
use Rattle.std.specs.Prelude.{ℕ, min, ℤ, List, map, slice_range}
use Rattle.std.specs.Str.{str_to_ascii_lowercase}
use Rattle.p2c_text.specs.declared.place.Span.{Span}
use Rattle.dialect_lexer.specs.declared.token.Word.{Word as WordSymbol}
use Rattle.dialect_lexer.specs.declared.token.Symbol.{Symbol as SpecialSymbol}
use Rattle.dialect_lexer.specs.declared.token.TokenKind.{TokenKind}
use Rattle.dialect_lexer.specs.declared.token.TokenKind.TheVariants as kind
use Rattle.dialect_lexer.specs.declared.token.Token.{Token as LexedToken}
use Rattle.dialect_lexer.specs.Values.{text_bytes}

-- a name with its letters in lower case, a number by its value, a text by the bytes that it stands for
pub data Token : Type 0 where
  Name : (name : List ℕ) → Token
  Number : (value : ℤ) → Token
  Text : (bytes : List ℕ) → Token
  Word : (word : WordSymbol) → Token
  Symbol : (symbol : SpecialSymbol) → Token

-- a token, and where it stands
pub record Placed : Type 0 where
  pub token : Token
  pub span : Span

-- the bytes that a text stands for; a number above 255 after `#`, which no text has, counts as 255
abbrev pub stood_for : List ℕ → List ℕ
stood_for spelling = map (λ b. min b 255) (text_bytes spelling)

-- a token of this kind that is spelled so
abbrev pub token_of : TokenKind → List ℕ → Token
token_of (kind.Word w) spelling = Word w
token_of kind.Name spelling = Name (str_to_ascii_lowercase spelling)
token_of (kind.Number n) spelling = Number n
token_of kind.Text spelling = Text (stood_for spelling)
token_of (kind.Symbol s) spelling = Symbol s

abbrev pub spelling_of : List ℕ → Span → List ℕ
spelling_of bytes place = slice_range bytes place.start place.end

abbrev pub see : List ℕ → LexedToken → Placed
see bytes t = record { token = token_of t.kind (spelling_of bytes t.span); span = t.span }

-- the tokens of these bytes
abbrev pub seen : List ℕ → List LexedToken → List Placed
seen bytes tokens = map (see bytes) tokens

abbrev pub plain : List Placed → List Token
plain tokens = map (λ (t : Placed). t.token) tokens
