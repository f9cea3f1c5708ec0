-- A text of the grammar is followed: as long as the tokens are those of the text, none is refused. Which tree is read is not asked.
use Rattle.std.proofs.Common.{◌≡◌, ℕ, zero, suc, ◌<◌, ◌≤◌, Bool, true, false, List, [], ◌∷◌, length, Option, Some, None, Ok, Err, refl, ap, subst, ◌∙◌, arith}
use Rattle.token_parsing.specs.declared.refusal.Refusal.TheVariants.{Unexpected, TooDeep}
use Rattle.token_parsing.specs.Parser.{Outcome, Parser, Class, and_then, take_of, one_of, is_some, begins, again, repeat}
use Rattle.token_parsing.proofs.Tracked.{Shorter, short, refuses_short, stops_short, Shrinks, short_then, again_shrinks, Takes}
use Rattle.expr_parser.specs.Tokens.{Token, Placed}

-- ---- the tokens of a text

-- how far the tokens are those of a text: to its end, after which so many more stand, or to a token after which so many stand
pub data Until : Type 0 where
  ended : (more : ℕ) → Until
  upto : (more : ℕ) → Until

-- fewer tokens are left where some were taken that are not known to be of the text, or the last that is
abbrev pub limit : Until → ℕ
limit (ended more) = more
limit (upto more) = suc more

-- the tokens are those of the text so far
pub data Along : Until → List Token → List Placed → Type 0 where
  done : (r : List Placed) → Along (ended (length r)) [] r
  last : (t : Placed) (x : Token) (w : List Token) (r : List Placed) → t.token ≡ x → Along (upto (length r)) (x ∷ w) (t ∷ r)
  longer : (n : Until) (t : Placed) (x : Token) (w : List Token) (r : List Placed) → t.token ≡ x → Along n w r → Along n (x ∷ w) (t ∷ r)

-- a test that sees the next token alone
pub record Looks (test : List Placed → Bool) (on : Token → Bool) : Type 0 where
  pub none : test [] ≡ false
  pub some : (t : Placed) (s : List Placed) → test (t ∷ s) ≡ on t.token

abbrev pub on_first : (Token → Bool) → List Token → Bool
on_first on [] = false
on_first on (x ∷ w) = on x

-- ---- what an answer is

-- In a text after which `rest` follows: something was read and `rest` is next, or the tokens are past those that are known, or it is nested too deep, which W excludes.
pub data Followed {A : Type 0} (n : Until) (W : Type 0) (rest : List Token) : Outcome Placed A → Type 0 where
  meets : (a : A) (r : List Placed) → Along n rest r → Followed n W rest (Ok (a, r))
  past : (a : A) (r : List Placed) → length r < limit n → Followed n W rest (Ok (a, r))
  refuses_past : (k : ℕ) → k < limit n → Followed n W rest (Err (Unexpected k))
  too_deep : (k : ℕ) → (W → k < limit n) → Followed n W rest (Err (TooDeep k))

pub short_followed : {A : Type 0} {n : Until} {W : Type 0} {rest : List Token} {o : Outcome Placed A} → Shorter (limit n) 0 o → Followed n W rest o
short_followed (short a r h) = past a r h
short_followed (refuses_short k h) = refuses_past k h
short_followed (stops_short k h) = too_deep k (λ w. omega arith)

pub follow_then : {A B : Type 0} {n : Until} {W : Type 0} {rest rest' : List Token} {o : Outcome Placed A} {f : A → Parser Placed B}
    → Followed n W rest o → ((a : A) → Shrinks (f a)) → ((a : A) (r : List Placed) → Along n rest r → Followed n W rest' (f a r)) → Followed n W rest' (and_then o f)
follow_then (meets a r h) shrinks k = k a r h
follow_then (past a r h) shrinks k = short_followed (shrinks a _ r h)
follow_then (refuses_past m h) shrinks k = refuses_past m h
follow_then (too_deep m h) shrinks k = too_deep m h

pub follow_pure : {A : Type 0} {n : Until} {W : Type 0} (x : A) {rest : List Token} {r : List Placed} → Along n rest r → Followed n W rest (Ok (x, r))
follow_pure x h = meets x _ h

-- ---- a token of the text

-- each token that is this one says so
abbrev pub Says : {A : Type 0} → Class Placed A → Token → A → Type 0
Says class x a = (t : Placed) → t.token ≡ x → class t ≡ Some a

-- each token that is this one is of the class
abbrev pub Accepts : {A : Type 0} → Class Placed A → Token → Type 0
Accepts {A} class x = (t : Placed) → t.token ≡ x → (a : A) × (class t ≡ Some a)

taken : {A B : Type 0} {n : Until} {W : Type 0} {rest' : List Token} (found : Option A) (a : A) → found ≡ Some a → (t : Placed) (r : List Placed) (f : A → Parser Placed B)
    → ((a : A) → Followed n W rest' (f a r)) → Followed n W rest' (and_then (take_of found (t ∷ r)) f)
taken None a e t r f k = absurd cc
taken (Some b) a e t r f k = k b

pub follow_token : {A B : Type 0} {n : Until} {W : Type 0} {rest' : List Token} (class : Class Placed A) {x : Token} → Accepts class x → {w : List Token} {s : List Placed} {f : A → Parser Placed B}
    → Along n (x ∷ w) s → ((a : A) → Shrinks (f a)) → ((a : A) (r : List Placed) → Along n w r → Followed n W rest' (f a r)) → Followed n W rest' (and_then (one_of class s) f)
unfolding one_of
follow_token class accepts {f} (last t x w r e) shrinks k = let (a, is) = accepts t e in taken (class t) a is t r f (λ a. short_followed (shrinks a _ r (omega arith)))
follow_token class accepts {f} (longer n t x w r e h) shrinks k = let (a, is) = accepts t e in taken (class t) a is t r f (λ a. k a r h)

-- ---- one way or another

pub follow_first : {A : Type 0} {n : Until} {W : Type 0} {rest : List Token} (b : Bool) (o o' : Outcome Placed A) → b ≡ true → Followed n W rest o → Followed n W rest (elim b [ true ↦ o | false ↦ o' ])
follow_first true o o' e h = h
follow_first false o o' e h = absurd cc

pub follow_second : {A : Type 0} {n : Until} {W : Type 0} {rest : List Token} (b : Bool) (o o' : Outcome Placed A) → b ≡ false → Followed n W rest o' → Followed n W rest (elim b [ true ↦ o | false ↦ o' ])
follow_second true o o' e h = absurd cc
follow_second false o o' e h = h

-- a test where the text has a token
pub looks_at : {test : List Placed → Bool} {on : Token → Bool} → Looks test on → {n : Until} {x : Token} {w : List Token} {s : List Placed} → Along n (x ∷ w) s → test s ≡ on x
looks_at {on} l (last t x w r e) = l.some t r ∙ ap on e
looks_at {on} l (longer n t x w r e h) = l.some t r ∙ ap on e

-- the text has some token, and it is none of these
pub looks_false : {test : List Placed → Bool} {on : Token → Bool} → Looks test on → {n : Until} {w : List Token} {s : List Placed} → on_first on w ≡ false → (w ≡ [] → ⊥) → Along n w s → test s ≡ false
looks_false l none some (done r) = absurd (some refl)
looks_false l none some (last t x w r e) = looks_at l (last t x w r e) ∙ none
looks_false l none some (longer n t x w r e h) = looks_at l (longer n t x w r e h) ∙ none

-- what follows this test takes the next token
abbrev pub Begun : {A : Type 0} → (List Placed → Bool) → Parser Placed A → Type 0
Begun test p = (s : List Placed) → test s ≡ true → Shorter (length s) 0 (p s)

begun : {A B : Type 0} (found : Option A) (t : Placed) (r : List Placed) (f : A → Parser Placed B) → is_some found ≡ true → ((a : A) → Shrinks (f a)) → Shorter (suc (length r)) 0 (and_then (take_of found (t ∷ r)) f)
begun None t r f e k = absurd cc
begun (Some a) t r f e k = k a (suc (length r)) r (omega arith)

pub begun_token : {A B : Type 0} (class : Class Placed A) {f : A → Parser Placed B} (s : List Placed) → begins class s ≡ true → ((a : A) → Shrinks (f a)) → Shorter (length s) 0 (and_then (one_of class s) f)
unfolding one_of begins
begun_token class [] e k = absurd cc
begun_token class {f} (t ∷ r) e k = begun (class t) t r f e k

-- where the text has no such token
pub follow_not : {A : Type 0} {n : Until} {W : Type 0} {rest : List Token} {test : List Placed → Bool} {on : Token → Bool} → Looks test on → {w : List Token} {s : List Placed} (p q : Parser Placed A)
    → on_first on w ≡ false → Along n w s → Begun test p → Followed n W rest (q s) → Followed n W rest (elim (test s) [ true ↦ p s | false ↦ q s ])
follow_not {n} {W} {rest} {test} l {s} p q none (done r) begun h = by (test s) refl
  where
    by : (b : Bool) → test s ≡ b → Followed n W rest (elim b [ true ↦ p s | false ↦ q s ])
    by true e = short_followed (begun s e)
    by false e = h
follow_not l {s} p q none (last t x w r e) begun h = follow_second _ (p (t ∷ r)) (q (t ∷ r)) (looks_at l (last t x w r e) ∙ none) h
follow_not l {s} p q none (longer n t x w r e k) begun h = follow_second _ (p (t ∷ r)) (q (t ∷ r)) (looks_at l (longer n t x w r e k) ∙ none) h

-- ---- again and again

track_left : {A B C : Type 0} {n : Until} {W : Type 0} {rest : List Token} (o : Outcome Placed A) (f : A → Parser Placed B) (g : B → Parser Placed C)
    → Followed n W rest (and_then o (λ a s. and_then (f a s) g)) → Followed n W rest (and_then (and_then o f) g)
track_left (Ok p) f g h = h
track_left (Err e) f g h = h

pub follow_plain : {A : Type 0} {n : Until} {W : Type 0} {rest : List Token} (o : Outcome Placed A) → Followed n W rest (and_then o (λ a s. Ok (a, s))) → Followed n W rest o
follow_plain (Ok p) h = h
follow_plain (Err e) h = h

along_some : {n : Until} {x : Token} {w : List Token} {s : List Placed} → Along n (x ∷ w) s → 0 < length s
along_some (last t x w r e) = omega arith
along_some (longer n t x w r e h) = omega arith

further : {A B : Type 0} {n : Until} {m : ℕ} {W : Type 0} {rest rest' : List Token} {o : Outcome Placed A} {f : A → Parser Placed B}
    → Followed n W rest o → Takes m o → ((a : A) → Shrinks (f a)) → ((a : A) (r : List Placed) → length r < m → Along n rest r → Followed n W rest' (f a r)) → Followed n W rest' (and_then o f)
further (meets a r h) takes shrinks k = k a r takes h
further (past a r h) takes shrinks k = short_followed (shrinks a _ r h)
further (refuses_past j h) takes shrinks k = refuses_past j h
further (too_deep j h) takes shrinks k = too_deep j h

-- items in a row, each read by a part that puts it behind those before
module _ {A : Type 0} (n : Until) (W : Type 0) (spell : A → List Token → List Token) (spell_list : List A → List Token → List Token) (test : List Placed → Bool) (on : Token → Bool) (part : List A → Parser Placed (List A)) where
  abbrev pub Item : List Token → List A → A → Type 0
  Item rest more x = (found : List A) (s : List Placed) → Along n (spell x (spell_list more rest)) s → Followed n W (spell_list more rest) (part found s)

  -- each item is read where the others follow
  abbrev pub Items : List A → List Token → Type 0
  Items [] rest = Unit {0}
  Items (x ∷ more) rest = Item rest more x × Items more rest

  pub record Listing : Type 0 where
    pub none : (rest : List Token) → spell_list [] rest ≡ rest
    pub one_more : (x : A) (more : List A) (rest : List Token) → spell_list (x ∷ more) rest ≡ spell x (spell_list more rest)
    pub looks : Looks test on
    pub takes : (found : List A) (s : List Placed) → Takes (length s) (part found s)
    pub shrinks : (found : List A) → Shrinks (part found)
    pub starts : (x : A) (rest : List Token) → (y : Token) × (w : List Token) × (spell x rest ≡ y ∷ w) × (on y ≡ true)
    pub begun : (found : List A) → Begun test (part found)

  no_turn : Listing → (g : ℕ) (found : List A) (w : List Token) (s : List Placed) → on_first on w ≡ false → length s ≤ g → Along n w s → Followed n W w (again test part g found s)
  unfolding again
  no_turn l zero found w s none enough h = meets found s h
  no_turn l (suc g) found w s none enough h =
      follow_not l.looks (λ s. and_then (part found s) (again test part g)) (λ s. Ok (found, s)) none h (λ s e. short_then (l.begun found s e) (λ b. again_shrinks test part l.shrinks g b)) (meets found s h)

  turn : Listing → (g : ℕ) (found : List A) (x : A) (rest rest' : List Token) (s : List Placed) → length s ≤ g → Along n (spell x rest) s → Followed n W rest (part found s)
      → ((b : List A) (g : ℕ) (r : List Placed) → length r ≤ g → Along n rest r → Followed n W rest' (again test part g b r)) → Followed n W rest' (again test part g found s)
  unfolding again
  turn l zero found x rest rest' s enough h k next =
      let (y, w, is, on_y) = l.starts x rest in let some = along_some (subst (λ z. Along n z s) is h) in absurd (omega arith)
  turn l (suc g) found x rest rest' s enough h k next =
      let (y, w, is, on_y) = l.starts x rest in
      follow_first (test s) _ _ (looks_at l.looks (subst (λ z. Along n z s) is h) ∙ on_y)
      (further k (l.takes found s) (λ b. again_shrinks test part l.shrinks g b) (λ b r below along. next b g r (omega arith) along))

  again_list : Listing → (xs : List A) (rest : List Token) → Items xs rest → on_first on rest ≡ false → (found : List A) (g : ℕ) (s : List Placed) → length s ≤ g
      → Along n (spell_list xs rest) s → Followed n W rest (again test part g found s)
  again_list l [] rest items stops found g s enough h = no_turn l g found rest s stops enough (subst (λ w. Along n w s) (l.none rest) h)
  again_list l (x ∷ more) rest items stops found g s enough h =
      let h' = subst (λ w. Along n w s) (l.one_more x more rest) h in
      turn l g found x (spell_list more rest) rest s enough h' (items.0 found s h') (λ b g r enough h. again_list l more rest items.1 stops b g r enough h)

  pub follow_list : Listing → (xs : List A) (rest : List Token) → Items xs rest → on_first on rest ≡ false → (found : List A) (s : List Placed)
      → Along n (spell_list xs rest) s → Followed n W rest (repeat test part found s)
  unfolding repeat
  follow_list l xs rest items stops found s h = again_list l xs rest items stops found (length s) s (omega arith) h
