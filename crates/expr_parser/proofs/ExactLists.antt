-- Lists with commas or semicolons that are written are read.
use Rattle.std.proofs.Common.{◌≡◌, ℕ, Bool, true, false, ◌&&◌, List, [], ◌∷◌, ◌++◌, map, Ok, refl, ap, ◌∙◌}
use Rattle.std.specs.Prelude.{IsTrue}
use Rattle.std.specs.List.{AllByRecursion}
use Rattle.p2c_text.specs.declared.place.Span.{Span}
use Rattle.dialect_lexer.specs.declared.token.Symbol.{Symbol as SpecialSymbol}
use Rattle.dialect_lexer.specs.declared.token.Symbol.TheVariants as mark
use Rattle.token_parsing.specs.Parser.{Parser, and_then, begins, rest, repeat}
use Rattle.expr_parser.specs.Tokens.{Token, Placed, Symbol, plain}
use Rattle.expr_parser.specs.Layout.{Layout, Done, ◌&◌, symbol, after_commas, with_commas, IsWritten}
use Rattle.expr_parser.specs.Semicolons.{after_semicolons, with_semicolons}
use Rattle.expr_parser.specs.Grammar.{all, some_all}
use Rattle.expr_parser.specs.Classes.{symbols, expect}
use Rattle.expr_parser.proofs.Layouts.{spell}
use Rattle.expr_parser.proofs.Followed.{Looks, on_first}
use Rattle.expr_parser.proofs.FollowedParts.{and_in, Part, part_as, part_first, part_second, part_right}
use Rattle.expr_parser.proofs.Lookahead.{looks_symbol, on_symbol, on_symbol_here, says_symbol}
use Rattle.expr_parser.proofs.Exact.{exact_then, exact_part, exact_token, looks_written, some_taken, Chain, Turn, chain_ends, chain_exact, Row, row_ends, list_exact}

-- Items that `one` reads, each where P holds of what follows it, as of the mark before each but the first.
module _ {A : Type 0} (end : Span) (k : ℕ) (write : A → Layout) (formed : A → Bool) (one : Parser Placed A) (P : List Token → Type 0) (m : SpecialSymbol) (at_mark : (w : List Token) → P (Symbol m ∷ w)) where
  abbrev pub Reads : Type 0
  Reads = (x : A) → Part (Unit {0}) k (write x) (formed x) → (s r : List Placed) → IsWritten end (write x) s r → P (plain r) → one s ≡ Ok (x, r)

  abbrev pub next : List A → Parser Placed (List A)
  next found s = and_then (expect m s) (λ _ s. and_then (one s) (λ x s. Ok (found ++ x ∷ [], s)))

  abbrev item : A → Layout
  item x = symbol m & write x

  item_exact : Reads → (x : A) → Part (Unit {0}) k (write x) (formed x) → (found : List A) (s r : List Placed) → IsWritten end (item x) s r → P (plain r) → next found s ≡ Ok (found ++ x ∷ [], r)
  item_exact reads x part found s r h ends = exact_token _ (symbols m) (says_symbol m) end (write x) s r h (λ t h. exact_then _ (reads x part t r h ends) refl)

  -- how those behind the first are written
  module _ (others : List A → Layout) (none : others [] ≡ Done) (one_more : (x : A) (more : List A) → others (x ∷ more) ≡ (symbol m & write x & others more)) where
    others_row : Row end item others (begins (symbols m)) (on_symbol m) next P
    others_row = record { none = none; one_more = one_more; looks = looks_symbol m; starts = λ x w. on_symbol_here m; ends = λ x w. at_mark _ }

    abbrev Item : A → Type 0
    Item x = (found : List A) (s r : List Placed) → IsWritten end (item x) s r → P (plain r) → next found s ≡ Ok (found ++ x ∷ [], r)

    items : Reads → (xs : List A) → Part (Unit {0}) k (others xs) (all (map formed xs)) → AllByRecursion Item xs
    items reads [] part = tt
    items reads (x ∷ xs) part =
        let inside = part_right (symbol m) (write x & others xs) (part_as (one_more x xs) refl part) in
        (item_exact reads x (part_first (write x) (others xs) (formed x) (all (map formed xs)) inside), items reads xs (part_second (write x) (others xs) (formed x) (all (map formed xs)) inside))

    others_exact : Reads → (xs : List A) → Part (Unit {0}) k (others xs) (all (map formed xs)) → (found : List A) (s r : List Placed) → IsWritten end (others xs) s r → P (plain r) → on_first (on_symbol m) (plain r) ≡ false
        → repeat (begins (symbols m)) next found s ≡ Ok (found ++ xs, r)
    others_exact reads xs part found s r h ends closed = list_exact end item others (begins (symbols m)) (on_symbol m) next P others_row xs (items reads xs part) found s r h ends closed

    -- one at least
    some_exact : Reads → (x : A) (xs : List A) → Part (Unit {0}) k (write x & others xs) (formed x && all (map formed xs)) → (s r : List Placed) → IsWritten end (write x & others xs) s r → P (plain r) → on_first (on_symbol m) (plain r) ≡ false
        → and_then (one s) (λ e. repeat (begins (symbols m)) next (e ∷ [])) ≡ Ok (x ∷ xs, r)
    some_exact reads x xs part s r h ends closed =
        exact_part _ x end (write x) (others xs) s r h
        (λ t left right. reads x (part_first (write x) (others xs) (formed x) (all (map formed xs)) part) s t left (row_ends end item others (begins (symbols m)) (on_symbol m) next P others_row xs t r right ends))
        (λ t right. others_exact reads xs (part_second (write x) (others xs) (formed x) (all (map formed xs)) part) (x ∷ []) t r right ends closed)

-- Items with commas.
module _ {A : Type 0} (end : Span) (k : ℕ) (write : A → Layout) (formed : A → Bool) (one : Parser Placed A) (P : List Token → Type 0) (comma : (w : List Token) → P (Symbol mark.Comma ∷ w)) where
  pub commas_exact : Reads end k write formed one P mark.Comma comma → (x : A) (xs : List A) → Part (Unit {0}) k (with_commas (map write (x ∷ xs))) (some_all (map formed (x ∷ xs))) → (s r : List Placed)
      → IsWritten end (with_commas (map write (x ∷ xs))) s r → P (plain r) → on_first (on_symbol mark.Comma) (plain r) ≡ false
      → and_then (one s) (λ e. repeat (begins (symbols mark.Comma)) (next end k write formed one P mark.Comma comma) (e ∷ [])) ≡ Ok (x ∷ xs, r)
  commas_exact reads x xs part s r h ends closed = some_exact end k write formed one P mark.Comma comma (λ xs. after_commas (map write xs)) refl (λ x more. refl) reads x xs part s r h ends closed

-- Items with semicolons.
module _ {A : Type 0} (end : Span) (k : ℕ) (write : A → Layout) (formed : A → Bool) (one : Parser Placed A) (P : List Token → Type 0) (semicolon : (w : List Token) → P (Symbol mark.Semicolon ∷ w)) where
  pub semicolons_exact : Reads end k write formed one P mark.Semicolon semicolon → (x : A) (xs : List A) → Part (Unit {0}) k (with_semicolons (map write (x ∷ xs))) (some_all (map formed (x ∷ xs))) → (s r : List Placed)
      → IsWritten end (with_semicolons (map write (x ∷ xs))) s r → P (plain r) → on_first (on_symbol mark.Semicolon) (plain r) ≡ false
      → and_then (one s) (λ e. repeat (begins (symbols mark.Semicolon)) (next end k write formed one P mark.Semicolon semicolon) (e ∷ [])) ≡ Ok (x ∷ xs, r)
  semicolons_exact reads x xs part s r h ends closed = some_exact end k write formed one P mark.Semicolon semicolon (λ xs. after_semicolons (map write xs)) refl (λ x more. refl) reads x xs part s r h ends closed

  -- where a semicolon may stand after the last, and the token behind it tells whether an item begins
  module _ (first : List Placed → Bool) (on : Token → Bool) (looks : Looks first on) (starts : (x : A) → IsTrue (formed x) → (w : List Token) → on_first on (spell (write x) w) ≡ true) where
    abbrev test : List Placed → Bool
    test s = begins (symbols mark.Semicolon) s && first (rest s)

    abbrev next_part : List A → Parser Placed (List A)
    next_part = next end k write formed one P mark.Semicolon semicolon

    abbrev part_item : A → Layout
    part_item x = symbol mark.Semicolon & write x

    abbrev parts : List A → Layout
    parts xs = after_semicolons (map write xs)

    parts_chain : Chain end part_item parts test next_part P
    parts_chain = record { none = refl; one_more = λ x more. refl; ends = λ x w. semicolon _ }

    begins_part : (x : A) → IsTrue (formed x) → (s r : List Placed) → IsWritten end (part_item x) s r → test s ≡ true
    begins_part x formed s r (t, more, is, same, h) =
        and_in (begins (symbols mark.Semicolon) s) (first (rest s)) (looks_written (looks_symbol mark.Semicolon) end (part_item x) s r (t, more, is, same, h) ∙ on_symbol_here mark.Semicolon)
        (ap (λ z. first (rest z)) is ∙ looks_written looks end (write x) more r h ∙ starts x formed (plain r))

    turns : Reads end k write formed one P mark.Semicolon semicolon → (xs : List A) → Part (Unit {0}) k (parts xs) (all (map formed xs)) → AllByRecursion (Turn end part_item parts test next_part P) xs
    turns reads [] part = tt
    turns reads (x ∷ xs) part =
        let inside = part_right (symbol mark.Semicolon) (write x & parts xs) part in
        let p = part_first (write x) (parts xs) (formed x) (all (map formed xs)) inside in (
          λ found s r h ends. (begins_part x p.formed s r h, some_taken (on_symbol mark.Semicolon) end (part_item x) s r h (on_symbol_here mark.Semicolon), item_exact end k write formed one P mark.Semicolon semicolon reads x p found s r h ends),
          turns reads xs (part_second (write x) (parts xs) (formed x) (all (map formed xs)) inside),
        )

    pub parts_exact : Reads end k write formed one P mark.Semicolon semicolon → (x : A) (xs : List A) → Part (Unit {0}) k (with_semicolons (map write (x ∷ xs))) (some_all (map formed (x ∷ xs))) → (s r : List Placed)
        → IsWritten end (with_semicolons (map write (x ∷ xs))) s r → P (plain r) → (begins (symbols mark.Semicolon) r && first (rest r)) ≡ false
        → and_then (one s) (λ e. repeat (λ s. begins (symbols mark.Semicolon) s && first (rest s)) (next end k write formed one P mark.Semicolon semicolon) (e ∷ [])) ≡ Ok (x ∷ xs, r)
    parts_exact reads x xs part s r h ends closed =
        exact_part _ x end (write x) (parts xs) s r h
        (λ t left right. reads x (part_first (write x) (parts xs) (formed x) (all (map formed xs)) part) s t left (chain_ends end part_item parts test next_part P parts_chain xs t r right ends))
        (λ t right. chain_exact end part_item parts test next_part P parts_chain xs (turns reads xs (part_second (write x) (parts xs) (formed x) (all (map formed xs)) part)) (x ∷ []) t r right ends closed)
