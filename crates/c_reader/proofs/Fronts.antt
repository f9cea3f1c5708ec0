-- Where the tokens of a text stand.
use Rattle.std.proofs.Common.{◌≡◌, ℕ, zero, suc, ◌+◌, ◌≤◌, List, [], ◌∷◌, ◌++◌, length, Some, refl, ◌∙◌, ap, subst, length-append, arith}
use Rattle.std.specs.Prelude.{slice_get, slice_index_or}
use Rattle.c_grammar.specs.declared.token.CToken.{CToken}
use Rattle.c_grammar.specs.Token.{Token, Placed, placed, Cut, nothing, white, token, head_lines, IsTokens}
use Rattle.c_grammar.specs.Seen.{token_of}
use Rattle.c_grammar.specs.Text.{plain, TokenAt}
use Rattle.c_scanner.specs.Seen.{at_places}

-- ---- the bytes up to a token

record Front (n : ℕ) (x : List ℕ) (tokens : List Placed) : Type 0 where
  rest : List ℕ
  cut : Cut n x tokens rest

front_of : {n : ℕ} {x r : List ℕ} {ts : List Placed} → Cut n x ts r → (a b : List Placed) → ts ≡ a ++ b → Front n x a
front_of (nothing n r) [] b e = record { rest = r; cut = nothing n r }
front_of (nothing n r) (p ∷ a) b e = absurd (cc)
front_of (white n c v us r h k) a b e = let f = front_of k a b e in record { rest = f.rest; cut = white n c v a f.rest h f.cut }
front_of (token n front v t us r l k) [] b e = record { rest = front ++ v; cut = nothing n (front ++ v) }
front_of (token n front v t us r l k) (p ∷ a) b e =
    let f = front_of k a b (cc) in
    let same : placed t n ≡ p = cc in
    record { rest = f.rest; cut = subst (λ q. Cut n (front ++ v) (q ∷ a) f.rest) same (token n front v t a f.rest l f.cut) }

regroup : (before later : List Placed) (t : Placed) → before ++ t ∷ later ≡ (before ++ t ∷ []) ++ later
regroup [] later t = refl
regroup (p ∷ before) later t = ap (λ l. p ∷ l) (regroup before later t)

pub token_at : (bytes : List ℕ) (tokens before later : List Placed) (t : Placed) → IsTokens bytes tokens → tokens ≡ before ++ t ∷ later → TokenAt bytes before t
token_at bytes tokens before later t (body, e, cut) whole = let f = front_of cut (before ++ t ∷ []) later (whole ∙ regroup before later t) in (f.rest, (body, e, f.cut))

-- ---- a token begins within the bytes

pub some_is : {A : Type 0} (a b : A) → Some a ≡ Some b → a ≡ b
some_is a b e = cc

begins_within : {n : ℕ} {x r : List ℕ} {ts : List Placed} → Cut n x ts r → (k : ℕ) (t : Placed) → slice_get ts k ≡ Some t → t.place ≤ n + length x
begins_within (nothing n r) k t e = absurd (cc)
begins_within (white n b v us r h c) k t e = omega (arith, begins_within c k t e)
begins_within (token n front v u us r l c) zero t e = let at : n ≡ t.place = ap (λ (q : Placed). q.place) (some_is (placed u n) t e) in omega arith
begins_within (token n front v u us r l c) (suc k) t e = omega (arith, begins_within c k t e, length-append front v)

pub place_within : (bytes : List ℕ) (tokens : List Placed) (k : ℕ) (t : Placed) → IsTokens bytes tokens → slice_get tokens k ≡ Some t → t.place ≤ length bytes
place_within bytes tokens k t (body, e, cut) is = omega (arith, begins_within cut k t is, ap length e, length-append head_lines body)

-- ---- the token behind some others

pub record Behind (tokens : List Placed) (front : List Token) (t : Token) : Type 0 where
  pub before : List Placed
  pub found : Placed
  pub later : List Placed
  pub whole : tokens ≡ before ++ found ∷ later
  pub front_is : plain before ≡ front
  pub token_is : found.token ≡ t
  pub is : slice_get tokens (length front) ≡ Some found

pub behind : (tokens : List Placed) (front : List Token) (t : Token) (more : List Token) → plain tokens ≡ front ++ t ∷ more → Behind tokens front t
behind [] [] t more e = absurd (cc)
behind [] (u ∷ front) t more e = absurd (cc)
behind (p ∷ tokens) [] t more e = record { before = []; found = p; later = tokens; whole = refl; front_is = refl; token_is = cc; is = refl }
behind (p ∷ tokens) (u ∷ front) t more e =
    let b = behind tokens front t more (cc) in
    let same : p.token ≡ u = cc in
    record { before = p ∷ b.before; found = b.found; later = b.later; whole = λ i. p ∷ b.whole i; front_is = λ i. same i ∷ b.front_is i; token_is = b.token_is; is = b.is }

pub plain_long : (tokens : List Placed) → length (plain tokens) ≡ length tokens
plain_long [] = refl
plain_long (t ∷ tokens) = omega (arith, plain_long tokens)

-- ---- tokens beside their places

pub places_long : (tokens : List CToken) (places : List ℕ) → length places ≡ length tokens → length (at_places tokens places) ≡ length tokens
places_long [] places h = refl
places_long (t ∷ tokens) [] h = absurd (omega arith)
places_long (t ∷ tokens) (p ∷ places) h = omega (arith, places_long tokens places (omega arith))

-- what stands at an index among the places
pub place_at : (tokens : List CToken) (places : List ℕ) (k : ℕ) (t : Placed) (place : ℕ) → slice_get (at_places tokens places) k ≡ Some t → place ≡ slice_index_or places k place → place ≡ t.place
place_at [] places k t place e at = absurd (cc)
place_at (u ∷ tokens) [] k t place e at = absurd (cc)
place_at (u ∷ tokens) (p ∷ places) zero t place e at = at ∙ ap (λ (q : Placed). q.place) (some_is (placed (token_of u) p) t e)
place_at (u ∷ tokens) (p ∷ places) (suc k) t place e at = place_at tokens places k t place e at

pub found_at : (tokens : List Placed) (k : ℕ) → suc k ≤ length tokens → (t : Placed) × (slice_get tokens k ≡ Some t)
found_at [] k h = absurd (omega arith)
found_at (t ∷ tokens) zero h = (t, refl)
found_at (t ∷ tokens) (suc k) h = found_at tokens k (omega arith)
