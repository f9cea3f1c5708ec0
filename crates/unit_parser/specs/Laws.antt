-- Laws of the parser of whole texts.
use Rattle.std.specs.Prelude.{◌≡◌, ◌⊎◌, ℕ, List, [], Ok, Err}
use Rattle.p2c_text.specs.declared.dialect.Dialect.{Dialect}
use Rattle.p2c_text.specs.declared.place.Span.{Span}
use Rattle.pascal_tree.specs.declared.files.SourceFile.{SourceFile}
use Rattle.pascal_tree.specs.Height.{height}
use Rattle.token_parsing.specs.declared.refusal.Refusal.TheVariants.{Unexpected, TooDeep}
use Rattle.expr_parser.specs.Tokens.{Placed, plain}
use Rattle.expr_parser.specs.Layout.{height_of}
use Rattle.expr_parser.specs.Grammar.{AreTokens}
use Rattle.expr_parser.specs.Parsed.{place_left}
use Rattle.expr_parser.specs.Text.{AreUnique}
use Rattle.unit_parser.specs.Writing.{write_file}
use Rattle.unit_parser.specs.Grammar.{formed_file}
use Rattle.unit_parser.specs.Text.{Derives, UnexpectedToken, UnexpectedEnd, IsTooDeep}
use Rattle.unit_parser.specs.Files.{file}

-- what is read is a tree of the tokens
abbrev pub ReadIsDerived : Type 0
ReadIsDerived = (d : Dialect) (end : Span) (tokens : List Placed) (f : SourceFile) → AreTokens d (plain tokens) → file d end 400 tokens ≡ Ok (f, []) → Derives d end f tokens

-- a tree of the tokens is the one that is read
abbrev pub DerivedIsRead : Type 0
DerivedIsRead = (d : Dialect) (end : Span) (f : SourceFile) (tokens : List Placed) → Derives d end f tokens → file d end 400 tokens ≡ Ok (f, [])

-- no two trees of texts, whatever their heights, are written by the same tokens
abbrev pub TreeIsUnique : Type 0
TreeIsUnique = AreUnique write_file formed_file

-- tokens have one tree within the levels
abbrev pub DerivedIsUnique : Type 0
DerivedIsUnique = (d : Dialect) (end : Span) (f g : SourceFile) (tokens : List Placed) → Derives d end f tokens → Derives d end g tokens → f ≡ g

-- an unexpected token is the first with which no text begins, or the text is unfinished at its end
abbrev pub UnexpectedIsFirst : Type 0
UnexpectedIsFirst = (d : Dialect) (end : Span) (tokens : List Placed) (left : ℕ) → AreTokens d (plain tokens) → file d end 400 tokens ≡ Err (Unexpected left)
    → UnexpectedToken d tokens (place_left end tokens left) ⊎ UnexpectedEnd d end tokens (place_left end tokens left)

-- where something is too deep, a node of the next level may begin there, and the tokens have no tree within the levels
abbrev pub TooDeepIsDeep : Type 0
TooDeepIsDeep = (d : Dialect) (end : Span) (tokens : List Placed) (left : ℕ) → AreTokens d (plain tokens) → file d end 400 tokens ≡ Err (TooDeep left)
    → IsTooDeep d end tokens (place_left end tokens left)

-- The levels of a text, which `Derives` bounds by 400, are its height.
abbrev pub LevelsAreHeight : Type 0
LevelsAreHeight = (d : Dialect) (f : SourceFile) → height_of (write_file d f) ≡ height f
