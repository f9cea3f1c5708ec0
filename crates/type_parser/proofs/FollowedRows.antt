-- Rows of parts with semicolons between them are followed, where a semicolon may also stand behind the last part.
use Rattle.std.proofs.Common.{◌≡◌, ℕ, zero, suc, ◌<◌, ◌≤◌, Bool, true, false, ◌&&◌, List, [], ◌∷◌, ◌++◌, length, map, Ok, Err, refl, sym, ap, subst, ◌∙◌, arith}
use Rattle.std.specs.Prelude.{IsTrue}
use Rattle.dialect_lexer.specs.declared.token.Symbol.TheVariants as mark
use Rattle.token_parsing.specs.Parser.{Outcome, Parser, and_then, begins, rest, again, repeat}
use Rattle.token_parsing.proofs.Tracked.{Shorter, short, refuses_short, stops_short, Shrinks, Takes, short_then, again_shrinks, repeat_shrinks, one_shrinks, then_shrinks, pure_shrinks, takes_token}
use Rattle.expr_parser.specs.Tokens.{Token, Placed, Symbol}
use Rattle.expr_parser.specs.Layout.{Layout, ◌&◌, symbol}
use Rattle.expr_parser.specs.Semicolons.{after_semicolons, with_semicolons}
use Rattle.expr_parser.specs.Grammar.{all, some_all}
use Rattle.expr_parser.specs.Classes.{symbols, expect, same_symbol}
use Rattle.expr_parser.proofs.Layouts.{spell, spell_join}
use Rattle.expr_parser.proofs.Lookahead.{looks_symbol, on_symbol, on_symbol_here, accepts_symbol}
use Rattle.expr_parser.proofs.Followed.{Until, Along, Looks, Begun, Followed, meets, past, refuses_past, too_deep, on_first, short_followed, follow_then, follow_pure, follow_token, begun_token, looks_at}
use Rattle.expr_parser.proofs.FollowedParts.{Part, part_first, part_second, part_right, along_as}
use Rattle.type_parser.proofs.FollowedNames.{Next, next_is_last, next_is, next_of, looks_true, first_false, second_false, both_true, first_true}

-- ---- grouped otherwise

pub joined : {A B C : Type 0} (o : Outcome Placed A) (f : A → Parser Placed B) (g : B → Parser Placed C) → and_then (and_then o f) g ≡ and_then o (λ a s. and_then (f a s) g)
joined (Ok p) f g = refl
joined (Err e) f g = refl

pub joined_behind : {A B C D : Type 0} (o : Outcome Placed A) (f : A → Parser Placed B) (g : B → Parser Placed C) (h : C → Parser Placed D)
    → and_then (and_then o (λ a s. and_then (f a s) g)) h ≡ and_then o (λ a s. and_then (f a s) (λ b s. and_then (g b s) h))
joined_behind (Ok p) f g h = joined (f p.0 p.1) g h
joined_behind (Err e) f g h = refl

pub joined_row : {A B C D : Type 0} (o : Outcome Placed A) (f : A → Parser Placed B) (g : B → Parser Placed C) (h : C → Parser Placed D)
    → and_then (and_then (and_then o f) g) h ≡ and_then o (λ a s. and_then (f a s) (λ b s. and_then (g b s) h))
joined_row (Ok p) f g h = joined (f p.0 p.1) g h
joined_row (Err e) f g h = refl

-- ---- what is shorter

pub shorter_still : {A : Type 0} {i j : ℕ} {o : Outcome Placed A} → i ≤ j → Shorter i 0 o → Shorter j 0 o
shorter_still below (short a r h) = short a r (omega arith)
shorter_still below (refuses_short m h) = refuses_short m (omega arith)
shorter_still below (stops_short m h) = stops_short m (omega arith)

further : {A B : Type 0} {n : Until} {m : ℕ} {W : Type 0} {rest rest' : List Token} {o : Outcome Placed A} {f : A → Parser Placed B}
    → Followed n W rest o → Takes m o → ((a : A) → Shrinks (f a)) → ((a : A) (r : List Placed) → length r < m → Along n rest r → Followed n W rest' (f a r)) → Followed n W rest' (and_then o f)
further (meets a r h) takes shrinks k = k a r takes h
further (past a r h) takes shrinks k = short_followed (shrinks a _ r h)
further (refuses_past j h) takes shrinks k = refuses_past j h
further (too_deep j h) takes shrinks k = too_deep j h

-- No part goes on here: there is no semicolon, or one before a token with which no part begins.
pub data NoMore (on : Token → Bool) : List Token → Type 0 where
  other : (x : Token) (w : List Token) → on_symbol mark.Semicolon x ≡ false → NoMore on (x ∷ w)
  closing : (y : Token) (w : List Token) → on y ≡ false → NoMore on (Symbol mark.Semicolon ∷ y ∷ w)

-- Parts that `one` reads, each where P holds of what follows it, as of a semicolon. `first` tells by the next token whether one begins.
module _ (n : Until) (W : Type 0) {A : Type 0} (k : ℕ) (write : A → Layout) (formed : A → Bool) (one : Parser Placed A) (shrinks : Shrinks one)
    (first : List Placed → Bool) (on : Token → Bool) (looks : Looks first on) (starts : (x : A) → IsTrue (formed x) → (w : List Token) → on_first on (spell (write x) w) ≡ true)
    (P : List Token → Type 0) (semicolon : (w : List Token) → P (Symbol mark.Semicolon ∷ w))
    (reads : (x : A) → Part W k (write x) (formed x) → (rest : List Token) → P rest → (s : List Placed) → Along n (spell (write x) rest) s → Followed n W rest (one s)) where
  abbrev test : List Placed → Bool
  test s = begins (symbols mark.Semicolon) s && first (rest s)

  abbrev next : List A → Parser Placed (List A)
  next found s = and_then (expect mark.Semicolon s) (λ _ s. and_then (one s) (λ x s. Ok (found ++ x ∷ [], s)))

  later_shrinks : (found : List A) (u : Unit {0}) → Shrinks (λ s. and_then (one s) (λ x s. Ok (found ++ x ∷ [], s)))
  later_shrinks found u = then_shrinks shrinks (λ x. pure_shrinks _)

  next_shrinks : (found : List A) → Shrinks (next found)
  next_shrinks found = then_shrinks (one_shrinks _) (later_shrinks found)

  next_begun : (found : List A) → Begun test (next found)
  next_begun found s e = begun_token (symbols mark.Semicolon) s (first_true _ _ e) (later_shrinks found)

  next_read : (x : A) → Part W k (write x) (formed x) → (rest : List Token) → P rest → (found : List A) (s : List Placed) → Along n (Symbol mark.Semicolon ∷ spell (write x) rest) s → Followed n W rest (next found s)
  next_read x part rest ends found s h =
      follow_token (symbols mark.Semicolon) (accepts_symbol mark.Semicolon) h (later_shrinks found) (λ _ r h. follow_then (reads x part rest ends r h) (λ y. pure_shrinks _) (λ y r h. follow_pure _ h))

  -- A row, and then what takes a semicolon where one is next: a semicolon that is the last known token is taken by the one or the other.
  module _ {B : Type 0} (f : List A → Parser Placed B) (f_shrinks : (all : List A) → Shrinks (f all)) (f_begun : (all : List A) → Begun (begins (symbols mark.Semicolon)) (f all)) where
    row_shrinks : (g : ℕ) (found : List A) → Shrinks (λ s. and_then (again test next g found s) f)
    row_shrinks g found = then_shrinks (again_shrinks test next next_shrinks g found) f_shrinks

    semicolon_taken : (g : ℕ) (found : List A) (s : List Placed) → begins (symbols mark.Semicolon) s ≡ true → Shorter (length s) 0 (and_then (again test next g found s) f)
    unfolding again
    semicolon_taken zero found s e = f_begun found s e
    semicolon_taken (suc g) found s e = by (test s) refl
      where
        by : (b : Bool) → test s ≡ b → Shorter (length s) 0 (and_then (elim b [ true ↦ and_then (next found s) (again test next g) | false ↦ Ok (found, s) ]) f)
        by true t = short_then (short_then (next_begun found s t) (λ b. again_shrinks test next next_shrinks g b)) f_shrinks
        by false t = f_begun found s e

    -- what follows the row, and how that is read
    module _ (after rest' : List Token) (none : NoMore on after) (f_followed : (all : List A) (s : List Placed) → Along n after s → Followed n W rest' (f all s)) where
      abbrev Row : ℕ → List A → List Placed → Type 0
      Row g found s = Followed n W rest' (and_then (again test next g found s) f)

      no_turn : (found : List A) (s : List Placed) (b : Bool) → b ≡ false → Along n after s → (o : Outcome Placed (List A)) → Followed n W rest' (and_then (elim b [ true ↦ o | false ↦ Ok (found, s) ]) f)
      no_turn found s true e h o = absurd cc
      no_turn found s false e h o = f_followed found s h

      last_turn : (g : ℕ) (found : List A) (s : List Placed) (w : List Token) → NoMore on w → w ≡ after → Along n w s → Row g found s
      unfolding again same_symbol
      last_turn zero found s w kind same h = f_followed found s (along_as same h)
      last_turn (suc g) found s _ (other x w e) same h = no_turn found s (test s) (first_false _ _ (looks_at (looks_symbol mark.Semicolon) h ∙ e)) (along_as same h) _
      last_turn (suc g) found s _ (closing y w e) same h = by s h (next_of h)
        where
          by : (s : List Placed) → Along n (Symbol mark.Semicolon ∷ y ∷ w) s → Next n (Symbol mark.Semicolon) (y ∷ w) s → Row (suc g) found s
          by _ h (next_is_last t r is below) = short_followed (shorter_still (omega arith) (semicolon_taken (suc g) found (t ∷ r) (looks_at (looks_symbol mark.Semicolon) h)))
          by _ h (next_is t r is along) = no_turn found (t ∷ r) (test (t ∷ r)) (second_false _ _ (looks_at looks along ∙ e)) (along_as same h) _

      abbrev others : List A → List Token
      others xs = spell (after_semicolons (map write xs)) after

      first_turn : (b : Bool) (o o' : Outcome Placed (List A)) → b ≡ true → Followed n W rest' (and_then o f) → Followed n W rest' (and_then (elim b [ true ↦ o | false ↦ o' ]) f)
      first_turn true o o' e h = h
      first_turn false o o' e h = absurd cc

      abbrev Later : List Token → Type 0
      Later w = (g : ℕ) (found : List A) (s : List Placed) → length s ≤ g → Along n w s → Row g found s

      one_turn : (x : A) → Part W k (write x) (formed x) → (w : List Token) → P w → (g : ℕ) (found : List A) (s : List Placed) → length s ≤ g → Along n (Symbol mark.Semicolon ∷ spell (write x) w) s → Later w → test s ≡ true → 0 < length s → Row g found s
      unfolding again
      one_turn x part w ends zero found s enough h later e some = absurd (omega arith)
      one_turn x part w ends (suc g) found s enough h later e some =
          first_turn (test s) _ _ e (subst (λ o. Followed n W rest' o) (sym (joined (next found s) (again test next g) f))
          (further (next_read x part w ends found s h) (takes_token (symbols mark.Semicolon) s (later_shrinks found)) (row_shrinks g) (λ a r below h. later g a r (omega arith) h)))

      turn : (x : A) → Part W k (write x) (formed x) → (w : List Token) → P w → (g : ℕ) (found : List A) (s : List Placed) → length s ≤ g → Along n (Symbol mark.Semicolon ∷ spell (write x) w) s → Later w → Row g found s
      turn x part w ends g found s enough h later = by s enough h (next_of h)
        where
          by : (s : List Placed) → length s ≤ g → Along n (Symbol mark.Semicolon ∷ spell (write x) w) s → Next n (Symbol mark.Semicolon) (spell (write x) w) s → Row g found s
          by _ enough h (next_is_last t r is below) = short_followed (shorter_still (omega arith) (semicolon_taken g found (t ∷ r) (looks_at (looks_symbol mark.Semicolon) h ∙ on_symbol_here mark.Semicolon)))
          by _ enough h (next_is t r is along) =
              one_turn x part w ends g found (t ∷ r) enough h later
              (both_true _ _ (looks_at (looks_symbol mark.Semicolon) h ∙ on_symbol_here mark.Semicolon) (looks_true looks _ (starts x part.formed w) along)) (omega arith)

      ends_before : P after → (xs : List A) → P (others xs)
      ends_before ends [] = ends
      ends_before ends (x ∷ xs) = semicolon _

      more_read : P after → (xs : List A) → Part W k (after_semicolons (map write xs)) (all (map formed xs)) → Later (others xs)
      more_read ends [] part g found s enough h = last_turn g found s after none refl h
      more_read ends (x ∷ xs) part g found s enough h =
          let more = after_semicolons (map write xs) in
          let p = part_right (symbol mark.Semicolon) (write x & more) part in
          turn x (part_first (write x) more _ _ p) (others xs) (ends_before ends xs) g found s enough (along_as (ap (λ w. Symbol mark.Semicolon ∷ w) (spell_join (write x) more after)) h) (more_read ends xs (part_second (write x) more _ _ p))

      pub row_followed : P after → (xs : List A) → Part W k (with_semicolons (map write xs)) (some_all (map formed xs)) → (s : List Placed) → Along n (spell (with_semicolons (map write xs)) after) s
          → Followed n W rest' (and_then (one s) (λ x s. and_then (repeat test next (x ∷ []) s) f))
      unfolding repeat
      row_followed ends [] part s h = let none = part.formed in absurd cc
      row_followed ends (x ∷ xs) part s h =
          let more = after_semicolons (map write xs) in
          follow_then (reads x (part_first (write x) more _ _ part) (others xs) (ends_before ends xs) s (along_as (spell_join (write x) more after) h)) (λ y. then_shrinks (repeat_shrinks test next next_shrinks (y ∷ [])) f_shrinks)
          (λ y r h. more_read ends xs (part_second (write x) more _ _ part) (length r) (y ∷ []) r (omega arith) h)
