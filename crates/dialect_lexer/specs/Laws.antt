-- Laws of the definitions.
use Rattle.std.specs.Prelude.{◌≡◌, ◌≤◌, ℕ, List, length, All}
use Rattle.p2c_text.specs.declared.dialect.Dialect.{Dialect}
use Rattle.dialect_lexer.specs.FileTokens.{FileTokens}
use Rattle.dialect_lexer.specs.Tokens.{Lexes, LexFails}
use Rattle.dialect_lexer.specs.declared.fault.LexKind.{LexKind}
use Rattle.dialect_lexer.specs.declared.token.Token.{Token}

-- bytes have at most one list of tokens
abbrev pub TokensAreUnique : Type 0
TokensAreUnique = (d : Dialect) (bytes : List ℕ) (a b : FileTokens) → Lexes d bytes a → Lexes d bytes b → a.file ≡ b.file → a.tokens ≡ b.tokens

-- bytes with a fault have no tokens
abbrev pub FaultsHaveNoTokens : Type 0
FaultsHaveNoTokens = (d : Dialect) (bytes : List ℕ) (list : FileTokens) (kind : LexKind) (at : ℕ) → Lexes d bytes list → ¬ LexFails d bytes kind at

-- bytes fail at one place, with one kind
abbrev pub FaultsAreUnique : Type 0
FaultsAreUnique = (d : Dialect) (bytes : List ℕ) (kind other : LexKind) (at there : ℕ) → LexFails d bytes kind at → LexFails d bytes other there → (kind ≡ other) × (at ≡ there)

-- the place of a token lies in this file, which has so many bytes
pub record IsInside (file size : ℕ) (t : Token) : Type 0 where
  pub in_file : t.span.file ≡ file
  pub ordered : t.span.start ≤ t.span.end
  pub within : t.span.end ≤ size

-- tokens lie in their bytes
abbrev pub TokensAreInside : Type 0
TokensAreInside = (d : Dialect) (bytes : List ℕ) (list : FileTokens) → Lexes d bytes list → All (IsInside list.file (length bytes)) list.tokens
