-- What the code's values are seen as.
use Rattle.std.specs.Prelude.{ℕ, List, [], ◌∷◌}
use Rattle.c_grammar.specs.declared.token.CToken.{CToken}
use Rattle.c_grammar.specs.Token.{Placed, placed}
use Rattle.c_grammar.specs.Seen.{token_of}
use Rattle.c_scanner.specs.declared.front.Front.{Front}
use Rattle.c_scanner.specs.declared.front.Front.TheVariants as front
use Rattle.c_scanner.specs.declared.text.PlacedTokens.{PlacedTokens}
use Rattle.c_scanner.specs.Cut.{Found, White, Piece, Nothing}

abbrev pub found_of : Front → Found
found_of front.White = White
found_of (front.Piece t n) = Piece (token_of t) n
found_of front.Nothing = Nothing

-- each token with its place
abbrev pub at_places : List CToken → List ℕ → List Placed
at_places [] places = []
at_places (t ∷ tokens) [] = []
at_places (t ∷ tokens) (place ∷ places) = placed (token_of t) place ∷ at_places tokens places

abbrev pub seen : PlacedTokens → List Placed
seen text = at_places text.tokens.items text.places.items
