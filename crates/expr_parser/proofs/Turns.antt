-- A loop that counts up, beside a repetition that counts down.
use Rattle.std.proofs.Common.{◌≡◌, ℕ, zero, suc, ◌+◌, ◌-◌, ◌<◌, ◌≤◌, List, [], ◌∷◌, length, take, drop, refl, sym, ap, ◌∙◌, arith, length-drop}
use Rattle.dialect_lexer.specs.declared.token.Token.{Token}
use Rattle.expr_parser.specs.Tokens.{seen}

pub one_more : {X : Type 0} {x : X} (f : ℕ → X) (n at : ℕ) → at < n → x ≡ f (n - at) → x ≡ f (suc (n - (at + 1)))
one_more f n at below e = let turn : n - at ≡ suc (n - (at + 1)) = omega arith in e ∙ ap f turn

pub no_more : {X : Type 0} {x : X} (f : ℕ → X) (n at : ℕ) → n ≤ at → x ≡ f (n - at) → x ≡ f 0
no_more f n at done e = let none : n - at ≡ 0 = omega arith in e ∙ ap f none

pub deeper : {X : Type 0} (f : ℕ → X) (n : ℕ) → 0 < n → f n ≡ f (suc (n - 1))
deeper f n some = let e : n ≡ suc (n - 1) = omega arith in ap f e

pub as_long : (bytes : List ℕ) (tokens : List Token) → length (seen bytes tokens) ≡ length tokens - 0
as_long bytes [] = refl
as_long bytes (t ∷ tokens) = omega (arith, as_long bytes tokens)

pub seen_drop : (bytes : List ℕ) (n : ℕ) (tokens : List Token) → seen bytes (drop n tokens) ≡ drop n (seen bytes tokens)
seen_drop bytes zero tokens = refl
seen_drop bytes (suc n) [] = refl
seen_drop bytes (suc n) (t ∷ tokens) = seen_drop bytes n tokens

pub seen_length : (bytes : List ℕ) (tokens : List Token) → length (seen bytes tokens) ≡ length tokens
seen_length bytes [] = refl
seen_length bytes (t ∷ tokens) = ap suc (seen_length bytes tokens)

take_all : (s : List Token) (n : ℕ) → n ≡ length s → take n s ≡ s
take_all [] zero e = refl
take_all [] (suc n) e = absurd (omega (arith, e))
take_all (t ∷ s) zero e = absurd (omega (arith, e))
take_all (t ∷ s) (suc n) e = ap (λ z. t ∷ z) (take_all s n (omega (arith, e)))

-- the tokens from some place on, as a slice has them
pub seen_rest : (bytes : List ℕ) (n : ℕ) (tokens : List Token) → seen bytes (take (length tokens - n) (drop n tokens)) ≡ drop n (seen bytes tokens)
seen_rest bytes n tokens = ap (seen bytes) (take_all (drop n tokens) (length tokens - n) (sym (length-drop n tokens))) ∙ seen_drop bytes n tokens
