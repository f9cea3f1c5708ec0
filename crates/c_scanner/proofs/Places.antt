-- Tokens beside their places.
use Rattle.std.proofs.Common.{◌≡◌, ℕ, List, [], ◌∷◌, ◌++◌, length, refl, ap, arith}
use Rattle.c_grammar.specs.declared.token.CToken.{CToken}
use Rattle.c_grammar.specs.Token.{placed}
use Rattle.c_grammar.specs.Seen.{token_of, tokens_of}
use Rattle.c_grammar.specs.Text.{plain}
use Rattle.c_scanner.specs.Seen.{at_places}

pub one_more : (tokens : List CToken) (places : List ℕ) (t : CToken) (place : ℕ) → length places ≡ length tokens
    → at_places (tokens ++ t ∷ []) (places ++ place ∷ []) ≡ at_places tokens places ++ placed (token_of t) place ∷ []
one_more [] [] t place h = refl
one_more [] (p ∷ places) t place h = absurd (omega arith)
one_more (u ∷ tokens) [] t place h = absurd (omega arith)
one_more (u ∷ tokens) (p ∷ places) t place h = ap (λ l. placed (token_of u) p ∷ l) (one_more tokens places t place (omega arith))

pub plain_places : (tokens : List CToken) (places : List ℕ) → length places ≡ length tokens → plain (at_places tokens places) ≡ tokens_of tokens
plain_places [] places h = refl
plain_places (t ∷ tokens) [] h = absurd (omega arith)
plain_places (t ∷ tokens) (p ∷ places) h = ap (λ l. token_of t ∷ l) (plain_places tokens places (omega arith))
