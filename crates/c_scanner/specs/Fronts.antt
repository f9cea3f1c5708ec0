-- What stands at the front of bytes, by the forms of tokens.
use Rattle.std.specs.Prelude.{◌≡◌, ℕ, ◌<◌, ◌≤◌, false, IsTrue, List, [], ◌∷◌, ◌++◌, length, take, drop, None}
use Rattle.c_grammar.specs.Token.{Token, form, is_white, IsLongest}
use Rattle.c_scanner.specs.Cut.{Found, White, Piece, Nothing}

-- the first n bytes are the longest token here
pub record IsPiece (bytes : List ℕ) (t : Token) (n : ℕ) : Type 0 where
  pub some : 0 < n
  pub within : n ≤ length bytes
  pub longest : IsLongest (take n bytes) (drop n bytes) t

-- neither white space nor a token
pub record IsStray (b : ℕ) (more : List ℕ) : Type 0 where
  pub not_white : is_white b ≡ false
  pub no_form : (front after : List ℕ) → b ∷ more ≡ front ++ after → form front ≡ None

abbrev pub IsFront : List ℕ → Found → Type 0
IsFront bytes (Piece t n) = IsPiece bytes t n
IsFront [] White = ⊥
IsFront (b ∷ more) White = IsTrue (is_white b)
IsFront [] Nothing = Unit {0}
IsFront (b ∷ more) Nothing = IsStray b more
