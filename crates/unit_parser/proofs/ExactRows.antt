-- Rows that are written, whose items each begin with a token that nothing after them begins with, are read.
use Rattle.std.proofs.Common.{◌≡◌, ℕ, Bool, false, ◌&&◌, List, [], ◌∷◌, ◌++◌, map, Ok, refl, ◌∙◌, true}
use Rattle.std.specs.Prelude.{IsTrue}
use Rattle.std.specs.List.{AllByRecursion}
use Rattle.p2c_text.specs.declared.place.Span.{Span}
use Rattle.token_parsing.specs.Parser.{Outcome, Parser, and_then, repeat}
use Rattle.expr_parser.specs.Tokens.{Token, Placed, plain}
use Rattle.expr_parser.specs.Layout.{Layout, ◌&◌, in_row, IsWritten}
use Rattle.expr_parser.specs.Grammar.{all, some_all}
use Rattle.expr_parser.proofs.Layouts.{spell}
use Rattle.expr_parser.proofs.Followed.{Looks, on_first}
use Rattle.expr_parser.proofs.FollowedParts.{Part, part_first, part_second}
use Rattle.expr_parser.proofs.Exact.{exact_then, exact_part, looks_plain, looks_written, some_taken, Chain, Turn, chain_ends, chain_exact}

-- Items that `one` reads, each where P holds of what follows it, as of each item.
module _ {A : Type 0} (end : Span) (k : ℕ) (write : A → Layout) (formed : A → Bool) (one : Parser Placed A) (test : List Placed → Bool) (on : Token → Bool) (looks : Looks test on)
    (starts : (x : A) → IsTrue (formed x) → (w : List Token) → on_first on (spell (write x) w) ≡ true) (P : List Token → Type 0) (item_ends : (x : A) (w : List Token) → P (spell (write x) w)) where
  abbrev pub Reads : Type 0
  Reads = (x : A) → Part (Unit {0}) k (write x) (formed x) → (s r : List Placed) → IsWritten end (write x) s r → P (plain r) → one s ≡ Ok (x, r)

  abbrev pub next : List A → Parser Placed (List A)
  next found s = and_then (one s) (λ x s. Ok (found ++ x ∷ [], s))

  abbrev row : List A → Layout
  row xs = in_row (map write xs)

  row_chain : Chain end write row test next P
  row_chain = record { none = refl; one_more = λ x more. refl; ends = item_ends }

  turns : Reads → (xs : List A) → Part (Unit {0}) k (row xs) (all (map formed xs)) → AllByRecursion (Turn end write row test next P) xs
  turns reads [] part = tt
  turns reads (x ∷ xs) part =
      let p = part_first (write x) (row xs) (formed x) (all (map formed xs)) part in (
        λ found s r h ends. (looks_written looks end (write x) s r h ∙ starts x p.formed (plain r), some_taken on end (write x) s r h (starts x p.formed []), exact_then _ (reads x p s r h ends) refl),
        turns reads xs (part_second (write x) (row xs) (formed x) (all (map formed xs)) part),
      )

  -- what may follow the last may stand before the first
  pub row_ends : (xs : List A) (s r : List Placed) → IsWritten end (row xs) s r → P (plain r) → P (plain s)
  row_ends xs s r h ends = chain_ends end write row test next P row_chain xs s r h ends

  pub row_exact : Reads → (xs : List A) → Part (Unit {0}) k (row xs) (all (map formed xs)) → (found : List A) (s r : List Placed) → IsWritten end (row xs) s r → P (plain r) → on_first on (plain r) ≡ false → repeat test next found s ≡ Ok (found ++ xs, r)
  row_exact reads xs part found s r h ends closed = chain_exact end write row test next P row_chain xs (turns reads xs part) found s r h ends (looks_plain looks r ∙ closed)

  -- one at least
  pub some_row_exact : {B : Type 0} {out : Outcome Placed B} (f : List A → Parser Placed B) → Reads → (xs : List A) → Part (Unit {0}) k (row xs) (some_all (map formed xs)) → (s r : List Placed) → IsWritten end (row xs) s r → P (plain r) → on_first on (plain r) ≡ false
      → f xs r ≡ out → and_then (next [] s) (λ found s. and_then (repeat test next found s) f) ≡ out
  some_row_exact f reads [] part s r h ends closed go = let none = part.formed in absurd cc
  some_row_exact f reads (x ∷ xs) part s r h ends closed go =
      let first = part_first (write x) (row xs) (formed x) (all (map formed xs)) part in let others = part_second (write x) (row xs) (formed x) (all (map formed xs)) part in
      exact_part {o = next [] s} (λ found s. and_then (repeat test next found s) f) (x ∷ []) end (write x) (row xs) s r h (λ m left right. exact_then (λ x s. Ok (x ∷ [], s)) (reads x first s m left (row_ends xs m r right ends)) refl) (λ m right.
      exact_then f (row_exact reads xs others (x ∷ []) m r right ends closed) go)
