-- Rows of a text, whose items each begin with a token that nothing after them begins with, are followed.
use Rattle.std.proofs.Common.{◌≡◌, ℕ, zero, suc, ◌<◌, ◌≤◌, Bool, true, false, ◌&&◌, List, [], ◌∷◌, ◌++◌, length, map, Ok, refl, sym, subst, ◌∙◌, arith}
use Rattle.std.specs.Prelude.{IsTrue}
use Rattle.token_parsing.specs.Parser.{Outcome, Parser, and_then, again, repeat}
use Rattle.token_parsing.proofs.Tracked.{Shrinks, short_then, pure_shrinks, then_shrinks, again_shrinks, repeat_shrinks, takes_then, Takes}
use Rattle.expr_parser.specs.Tokens.{Token, Placed}
use Rattle.expr_parser.specs.Layout.{Layout, ◌&◌, in_row}
use Rattle.expr_parser.specs.Grammar.{all, some_all}
use Rattle.expr_parser.proofs.Layouts.{spell, spell_join}
use Rattle.expr_parser.proofs.Followed.{Until, Along, last, longer, Followed, meets, past, refuses_past, too_deep, short_followed, Looks, Begun, on_first, follow_then, follow_pure, follow_first, follow_not, looks_at}
use Rattle.expr_parser.proofs.FollowedParts.{Part, part_first, part_second, along_as}

along_some : {n : Until} {x : Token} {w : List Token} {s : List Placed} → Along n (x ∷ w) s → 0 < length s
along_some (last t x w r e) = omega arith
along_some (longer n t x w r e h) = omega arith

further : {A B : Type 0} {n : Until} {m : ℕ} {W : Type 0} {rest rest' : List Token} {o : Outcome Placed A} {f : A → Parser Placed B}
    → Followed n W rest o → Takes m o → ((a : A) → Shrinks (f a)) → ((a : A) (r : List Placed) → length r < m → Along n rest r → Followed n W rest' (f a r)) → Followed n W rest' (and_then o f)
further (meets a r h) takes shrinks k = k a r takes h
further (past a r h) takes shrinks k = short_followed (shrinks a _ r h)
further (refuses_past j h) takes shrinks k = refuses_past j h
further (too_deep j h) takes shrinks k = too_deep j h

-- Items that `one` reads, each where P holds of what follows it, as of each item.
module _ {A : Type 0} (n : Until) (W : Type 0) (k : ℕ) (write : A → Layout) (formed : A → Bool) (one : Parser Placed A) (shrinks : Shrinks one) (takes : (s : List Placed) → Takes (length s) (one s))
    (test : List Placed → Bool) (on : Token → Bool) (looks : Looks test on) (begun : Begun test one)
    (starts : (x : A) → IsTrue (formed x) → (rest : List Token) → (y : Token) × (w : List Token) × (spell (write x) rest ≡ y ∷ w) × (on y ≡ true))
    (P : List Token → Type 0) (item_ends : (x : A) → IsTrue (formed x) → (rest : List Token) → P (spell (write x) rest)) where
  abbrev pub Reads : Type 0
  Reads = (x : A) → Part W k (write x) (formed x) → (rest : List Token) → P rest → (s : List Placed) → Along n (spell (write x) rest) s → Followed n W rest (one s)

  abbrev pub next : List A → Parser Placed (List A)
  next found s = and_then (one s) (λ x s. Ok (found ++ x ∷ [], s))

  abbrev row : List A → List Token → List Token
  row xs rest = spell (in_row (map write xs)) rest

  abbrev Row : List A → Type 0
  Row xs = Part W k (in_row (map write xs)) (all (map formed xs))

  next_shrinks : (found : List A) → Shrinks (next found)
  next_shrinks found = then_shrinks shrinks (λ x. pure_shrinks _)

  row_ends : (xs : List A) → Row xs → (rest : List Token) → P rest → P (row xs rest)
  row_ends [] part rest h = h
  row_ends (x ∷ xs) part rest h = subst P (sym (spell_join (write x) (in_row (map write xs)) rest)) (item_ends x (part_first (write x) (in_row (map write xs)) _ _ part).formed (row xs rest))

  one_more : Reads → (x : A) → Part W k (write x) (formed x) → (rest : List Token) → P rest → (found : List A) (s : List Placed) → Along n (spell (write x) rest) s → Followed n W rest (next found s)
  one_more reads x part rest ends found s h = follow_then (reads x part rest ends s h) (λ x. pure_shrinks _) (λ x r h. follow_pure _ h)

  no_turn : (g : ℕ) (found : List A) (w : List Token) (s : List Placed) → on_first on w ≡ false → length s ≤ g → Along n w s → Followed n W w (again test next g found s)
  unfolding again
  no_turn zero found w s none enough h = meets found s h
  no_turn (suc g) found w s none enough h =
      follow_not looks (λ s. and_then (next found s) (again test next g)) (λ s. Ok (found, s)) none h
      (λ s e. short_then (short_then (begun s e) (λ x. pure_shrinks _)) (λ b. again_shrinks test next next_shrinks g b)) (meets found s h)

  turn : (g : ℕ) (found : List A) (x : A) → IsTrue (formed x) → (rest rest' : List Token) (s : List Placed) → length s ≤ g → Along n (spell (write x) rest) s → Followed n W rest (next found s)
      → ((b : List A) (g : ℕ) (r : List Placed) → length r ≤ g → Along n rest r → Followed n W rest' (again test next g b r)) → Followed n W rest' (again test next g found s)
  unfolding again
  turn zero found x ok rest rest' s enough h k more =
      let (y, w, is, on_y) = starts x ok rest in let some = along_some (subst (λ z. Along n z s) is h) in absurd (omega (arith, enough, some))
  turn (suc g) found x ok rest rest' s enough h k more =
      let (y, w, is, on_y) = starts x ok rest in
      follow_first (test s) _ _ (looks_at looks (subst (λ z. Along n z s) is h) ∙ on_y)
      (further k (takes_then (length s) (one s) (takes s) (λ x. pure_shrinks _)) (λ b. again_shrinks test next next_shrinks g b) (λ b r below along. more b g r (omega (arith, below, enough)) along))

  turns : Reads → (xs : List A) → Row xs → (rest : List Token) → P rest → on_first on rest ≡ false → (found : List A) (g : ℕ) (s : List Placed) → length s ≤ g → Along n (row xs rest) s → Followed n W rest (again test next g found s)
  turns reads [] part rest ends closed found g s enough h = no_turn g found rest s closed enough h
  turns reads (x ∷ xs) part rest ends closed found g s enough h =
      let first = part_first (write x) (in_row (map write xs)) _ _ part in
      let others = part_second (write x) (in_row (map write xs)) _ _ part in
      let h' = along_as (spell_join (write x) (in_row (map write xs)) rest) h in
      turn g found x first.formed (row xs rest) rest s enough h' (one_more reads x first (row xs rest) (row_ends xs others rest ends) found s h')
      (λ b g r enough h. turns reads xs others rest ends closed b g r enough h)

  pub row_followed : Reads → (xs : List A) → Row xs → (rest : List Token) → P rest → on_first on rest ≡ false → (found : List A) (s : List Placed) → Along n (row xs rest) s → Followed n W rest (repeat test next found s)
  unfolding repeat
  row_followed reads xs part rest ends closed found s h = turns reads xs part rest ends closed found (length s) s (omega arith) h

  -- one at least, and then a node of them
  pub some_followed : {B : Type 0} (node : List A → List Placed → B) → Reads → (xs : List A) → Part W k (in_row (map write xs)) (some_all (map formed xs)) → (rest : List Token) → P rest → on_first on rest ≡ false → (s : List Placed)
      → Along n (row xs rest) s → Followed n W rest (and_then (next [] s) (λ found s. and_then (repeat test next found s) (λ all s. Ok (node all s, s))))
  some_followed node reads [] part rest ends closed s h = let none = part.formed in absurd cc
  some_followed node reads (x ∷ xs) part rest ends closed s h =
      let first = part_first (write x) (in_row (map write xs)) (formed x) (all (map formed xs)) part in
      let others : Row xs = part_second (write x) (in_row (map write xs)) (formed x) (all (map formed xs)) part in
      follow_then (one_more reads x first (row xs rest) (row_ends xs others rest ends) [] s (along_as (spell_join (write x) (in_row (map write xs)) rest) h))
      (λ found. then_shrinks (repeat_shrinks test next next_shrinks found) (λ all. λ n r k. pure_shrinks (node all r) n r k)) (λ found r h.
      follow_then (row_followed reads xs others rest ends closed found r h) (λ all. λ n r k. pure_shrinks (node all r) n r k) (λ all r h. follow_pure (node all r) h))
