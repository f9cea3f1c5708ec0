-- Lists with semicolons of a text are followed.
use Rattle.std.proofs.Common.{◌≡◌, ℕ, Bool, false, ◌&&◌, List, [], ◌∷◌, ◌++◌, map, Ok, refl, ap}
use Rattle.dialect_lexer.specs.declared.token.Symbol.TheVariants as mark
use Rattle.token_parsing.specs.Parser.{Parser, and_then, begins, repeat}
use Rattle.token_parsing.proofs.Tracked.{Shrinks, pure_shrinks, one_shrinks, then_shrinks, repeat_shrinks, takes_token}
use Rattle.expr_parser.specs.Tokens.{Token, Placed, Symbol}
use Rattle.expr_parser.specs.Layout.{Layout, ◌&◌, symbol}
use Rattle.expr_parser.specs.Grammar.{all, some_all}
use Rattle.expr_parser.specs.Classes.{symbols, expect}
use Rattle.expr_parser.proofs.Layouts.{spell, spell_join}
use Rattle.expr_parser.proofs.Followed.{Until, Along, Followed, on_first, follow_then, follow_pure, follow_token, begun_token, Listing, Items, follow_list}
use Rattle.expr_parser.proofs.FollowedParts.{Part, part_first, part_second, part_right, along_as}
use Rattle.expr_parser.proofs.Lookahead.{looks_symbol, on_symbol, on_symbol_here, accepts_symbol}
use Rattle.expr_parser.specs.Semicolons.{after_semicolons, with_semicolons}

-- Items that `one` reads, each where P holds of what follows it, as of a semicolon.
module _ {A : Type 0} (n : Until) (W : Type 0) (k : ℕ) (write : A → Layout) (formed : A → Bool) (one : Parser Placed A) (shrinks : Shrinks one) (P : List Token → Type 0) (semicolon : (w : List Token) → P (Symbol mark.Semicolon ∷ w)) where
  abbrev pub Reads : Type 0
  Reads = (x : A) → Part W k (write x) (formed x) → (rest : List Token) → P rest → (s : List Placed) → Along n (spell (write x) rest) s → Followed n W rest (one s)

  abbrev pub next : List A → Parser Placed (List A)
  next found s = and_then (expect mark.Semicolon s) (λ _ s. and_then (one s) (λ x s. Ok (found ++ x ∷ [], s)))

  abbrev item : A → List Token → List Token
  item x rest = Symbol mark.Semicolon ∷ spell (write x) rest

  abbrev others : List A → List Token → List Token
  others xs rest = spell (after_semicolons (map write xs)) rest

  abbrev later : (found : List A) → Unit {0} → Parser Placed (List A)
  later found _ = λ s. and_then (one s) (λ x s. Ok (found ++ x ∷ [], s))

  later_shrinks : (found : List A) (u : Unit {0}) → Shrinks (later found u)
  later_shrinks found u = then_shrinks shrinks (λ x. pure_shrinks _)

  pub next_shrinks : (found : List A) → Shrinks (next found)
  next_shrinks found = then_shrinks (one_shrinks _) (later_shrinks found)

  listing : Listing n W item others (begins (symbols mark.Semicolon)) (on_symbol mark.Semicolon) next
  listing = record {
    none = λ rest. refl;
    one_more = λ x more rest. ap (λ w. Symbol mark.Semicolon ∷ w) (spell_join (write x) (after_semicolons (map write more)) rest);
    looks = looks_symbol mark.Semicolon;
    takes = λ found s. takes_token (symbols mark.Semicolon) s (later_shrinks found);
    shrinks = next_shrinks;
    starts = λ x rest. (Symbol mark.Semicolon, spell (write x) rest, refl, on_symbol_here mark.Semicolon);
    begun = λ found s e. begun_token (symbols mark.Semicolon) s e (later_shrinks found);
  }

  others_end : (xs : List A) (rest : List Token) → P rest → P (others xs rest)
  others_end [] rest h = h
  others_end (x ∷ xs) rest h = semicolon _

  one_item : Reads → (x : A) → Part W k (write x) (formed x) → (rest : List Token) → P rest → (found : List A) (s : List Placed) → Along n (item x rest) s → Followed n W rest (next found s)
  one_item reads x part rest ends found s h =
      follow_token (symbols mark.Semicolon) (accepts_symbol mark.Semicolon) h (later_shrinks found) (λ u r h. follow_then (reads x part rest ends r h) (λ x. pure_shrinks _) (λ x r h. follow_pure _ h))

  items : Reads → (xs : List A) → Part W k (after_semicolons (map write xs)) (all (map formed xs)) → (rest : List Token) → P rest → Items n W item others (begins (symbols mark.Semicolon)) (on_symbol mark.Semicolon) next xs rest
  items reads [] part rest ends = tt
  items reads (x ∷ xs) part rest ends =
      let inside = part_behind x xs part in (
        λ found s h. one_item reads x (part_first (write x) (after_semicolons (map write xs)) _ _ inside) (others xs rest) (others_end xs rest ends) found s h,
        items reads xs (part_second (write x) (after_semicolons (map write xs)) _ _ inside) rest ends,
      )
    where
      part_behind : (x : A) (xs : List A) → Part W k (after_semicolons (map write (x ∷ xs))) (all (map formed (x ∷ xs))) → Part W k (write x & after_semicolons (map write xs)) (formed x && all (map formed xs))
      part_behind x xs part = part_right (symbol mark.Semicolon) (write x & after_semicolons (map write xs)) part

  pub more_followed : Reads → (xs : List A) → Part W k (after_semicolons (map write xs)) (all (map formed xs)) → (rest : List Token) → P rest → on_first (on_symbol mark.Semicolon) rest ≡ false → (found : List A) (s : List Placed)
      → Along n (others xs rest) s → Followed n W rest (repeat (begins (symbols mark.Semicolon)) next found s)
  more_followed reads xs part rest ends closed found s h = follow_list n W item others (begins (symbols mark.Semicolon)) (on_symbol mark.Semicolon) next listing xs rest (items reads xs part rest ends) closed found s h

  -- one at least
  pub semicolons_followed : Reads → (x : A) (xs : List A) → Part W k (with_semicolons (map write (x ∷ xs))) (some_all (map formed (x ∷ xs))) → (rest : List Token) → P rest → on_first (on_symbol mark.Semicolon) rest ≡ false → (s : List Placed)
      → Along n (spell (with_semicolons (map write (x ∷ xs))) rest) s → Followed n W rest (and_then (one s) (λ e. repeat (begins (symbols mark.Semicolon)) next (e ∷ [])))
  semicolons_followed reads x xs part rest ends closed s h =
      follow_then (reads x (part_first (write x) (after_semicolons (map write xs)) _ _ part) (others xs rest) (others_end xs rest ends) s (along_as (spell_join (write x) (after_semicolons (map write xs)) rest) h))
      (λ e. repeat_shrinks (begins (symbols mark.Semicolon)) next next_shrinks (e ∷ [])) (λ e r h.
      more_followed reads xs (part_second (write x) (after_semicolons (map write xs)) _ _ part) rest ends closed (e ∷ []) r h)
