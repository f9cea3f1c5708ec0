-- Rows with semicolons that are read, where an `else` may follow the last item.
use Rattle.std.proofs.Common.{◌≡◌, ℕ, ◌+◌, ◌≤◌, Bool, true, false, List, [], ◌∷◌, ◌++◌, map, Ok, refl, sym, ap, subst, ◌∙◌, arith}
use Rattle.std.specs.Prelude.{IsTrue}
use Rattle.p2c_text.specs.declared.dialect.Dialect.{Dialect}
use Rattle.p2c_text.specs.declared.place.Span.{Span}
use Rattle.dialect_lexer.specs.declared.token.Word.TheVariants as word_
use Rattle.dialect_lexer.specs.declared.token.Symbol.TheVariants as mark
use Rattle.token_parsing.specs.Parser.{Parser, and_then, begins, repeat}
use Rattle.token_parsing.proofs.Fair.{reads, fair_then, fair_repeat}
use Rattle.expr_parser.specs.Tokens.{Token, Placed, plain}
use Rattle.expr_parser.specs.Layout.{Layout, Leaf, ◌&◌, symbol, height_of, IsWritten}
use Rattle.expr_parser.specs.Grammar.{AreTokens, all}
use Rattle.expr_parser.specs.Classes.{words, symbols, expect}
use Rattle.expr_parser.proofs.Layouts.{height_join, join_done, join_assoc, written_join}
use Rattle.expr_parser.proofs.FollowedParts.{and_in, and_out}
use Rattle.expr_parser.proofs.Openings.{Opening, within, behind, filled_as, Hole}
use Rattle.expr_parser.proofs.Spots.{Answer, Spot, spot_behind}
use Rattle.expr_parser.proofs.SoundTokens.{answer_mark}
use Rattle.expr_parser.proofs.SoundLists.{listed}
use Rattle.expr_parser.proofs.Lookahead.{looks_word, on_word}
use Rattle.expr_parser.specs.Semicolons.{after_semicolons, with_semicolons}
use Rattle.stmt_parser.specs.Grammar.{Formed, alone, some_alone, some_up_to}

-- whether an `else` is the next token
abbrev pub else_next : List Placed → Bool
else_next s = begins (words word_.KwElse) s

-- where another token is next, no `else` is
pub no_else : (end : Span) (x : Token) → on_word word_.KwElse x ≡ false → (l : Layout) (s r : List Placed) → IsWritten end (Leaf x l) s r → else_next s ≡ false
no_else end x other l s r (first, more, is, same, h) = ap else_next is ∙ (looks_word word_.KwElse).some first more ∙ ap (on_word word_.KwElse) same ∙ other

-- ---- one more in a row

after_push : {A : Type 0} (write : A → Layout) (xs : List A) (x : A) → after_semicolons (map write (xs ++ x ∷ [])) ≡ (after_semicolons (map write xs) & symbol mark.Semicolon & write x)
after_push write [] x = ap (λ z. symbol mark.Semicolon & z) (join_done (write x))
after_push write (y ∷ xs) x = ap (λ z. symbol mark.Semicolon & write y & z) (after_push write xs x) ∙ ap (λ z. symbol mark.Semicolon & z) (sym (join_assoc (write y) (after_semicolons (map write xs)) (symbol mark.Semicolon & write x)))

row_push : {A : Type 0} (write : A → Layout) (y : A) (xs : List A) (x : A) → with_semicolons (map write (y ∷ xs ++ x ∷ [])) ≡ (with_semicolons (map write (y ∷ xs)) & symbol mark.Semicolon & write x)
row_push write y xs x = ap (λ z. write y & z) (after_push write xs x) ∙ sym (join_assoc (write y) (after_semicolons (map write xs)) (symbol mark.Semicolon & write x))

alone_push : {A : Type 0} (formed : A → Formed) (y : A) (xs : List A) (x : A) → IsTrue (some_alone (map formed (y ∷ xs))) → IsTrue (alone (formed x)) → IsTrue (some_alone (map formed (y ∷ xs ++ x ∷ [])))
alone_push {A} formed y xs x h k = let both = and_out (alone (formed y)) (all (map alone (map formed xs))) h in and_in (alone (formed y)) _ both.0 (more xs both.1)
  where
    more : (xs : List A) → IsTrue (all (map alone (map formed xs))) → IsTrue (all (map alone (map formed (xs ++ x ∷ []))))
    more [] h = and_in (alone (formed x)) true k refl
    more (z ∷ xs) h = let both = and_out (alone (formed z)) (all (map alone (map formed xs))) h in and_in (alone (formed z)) _ both.0 (more xs both.1)

-- the last item before an `else`
last_push : {A : Type 0} (formed : A → Formed) (y : A) (xs : List A) (x : A) → IsTrue (some_alone (map formed (y ∷ xs))) → IsTrue (formed x true) → IsTrue (some_up_to (map formed (y ∷ xs ++ x ∷ [])) true)
last_push formed y [] x h k = and_in (alone (formed y)) (formed x true) (and_out (alone (formed y)) true h).0 k
last_push formed y (z ∷ xs) x h k = let both = and_out (alone (formed y)) (all (map alone (map formed (z ∷ xs)))) h in and_in (alone (formed y)) _ both.0 (last_push formed z xs x both.1 k)

module _ (d : Dialect) {C : Type 0} (layout : C → Layout) (form : C → Bool) (end : Span) (outer levels : ℕ) (tokens : List Placed) (known : AreTokens d (plain tokens)) {A : Type 0} (write : A → Layout) (formed : A → Formed) (k : ℕ) where
  -- an item was read, which is formed before an `else` too where one is next
  pub record ReadsOne (s : List Placed) (x : A) (r : List Placed) : Type 0 where
    pub written : IsWritten end (write x) s r
    pub formed_alone : IsTrue (alone (formed x))
    pub before_else : else_next r ≡ true → IsTrue (formed x true)
    pub fits : height_of (write x) ≤ k

  -- an item that was read, by its parts
  pub one_as : {s r : List Placed} {x : A} {l : Layout} {b : Formed} → write x ≡ l → ((follows : Bool) → formed x follows ≡ b follows) → IsWritten end l s r → IsTrue (alone b) → (else_next r ≡ true → IsTrue (b true)) → height_of l ≤ k → ReadsOne s x r
  one_as {s} {r} e f w t u h = record {
    written = subst (λ l. IsWritten end l s r) (sym e) w;
    formed_alone = f false ∙ t;
    before_else = λ next. f true ∙ u next;
    fits = subst (λ l. height_of l ≤ k) (sym e) h;
  }

  -- a parser of such items with k levels left
  abbrev pub GoodOne : Parser Placed A → Type 0
  GoodOne p = (o : Opening) (s : List Placed) → Spot d layout form end outer levels tokens o s → Hole d layout form write (λ x. alone (formed x)) o → o.depth + k ≡ levels → Answer d layout form end outer levels tokens (ReadsOne s) (p s)

  abbrev pub write_rows : A × List A → Layout
  write_rows p = with_semicolons (map write (listed p))

  abbrev pub formed_rows : A × List A → Bool
  formed_rows p = some_alone (map formed (listed p))

  abbrev next : Parser Placed A → List A → Parser Placed (List A)
  next one found s = and_then (expect mark.Semicolon s) (λ _ s. and_then (one s) (λ x s. Ok (found ++ x ∷ [], s)))

  -- a row that is not empty was read
  pub record ReadsRows (s : List Placed) (ys : List A) (r : List Placed) : Type 0 where
    pub first : A
    pub others : List A
    pub is : ys ≡ first ∷ others
    pub written : IsWritten end (write_rows (first, others)) s r
    pub formed_alone : IsTrue (some_alone (map formed (first ∷ others)))
    pub before_else : else_next r ≡ true → IsTrue (some_up_to (map formed (first ∷ others)) true)
    pub fits : height_of (write_rows (first, others)) ≤ k

  pub rows_sound : (test : List Placed → Bool) → ((s : List Placed) → test s ≡ true → begins (symbols mark.Semicolon) s ≡ true) → (one : Parser Placed A) → GoodOne one
      → (o : Opening) (s : List Placed) → Spot d layout form end outer levels tokens o s → Hole d layout form write_rows formed_rows o → o.depth + k ≡ levels
      → Answer d layout form end outer levels tokens (ReadsRows s) (and_then (one s) (λ e. repeat test (next one) (e ∷ [])))
  rows_sound test semicolon one good o s spot hole deep =
      fair_then (good o s spot first_hole deep) (λ x r h. fair_repeat test (next one) step (x ∷ []) r (record {
        first = x;
        others = [];
        is = refl;
        written = subst (λ l. IsWritten end l s r) (sym (join_done (write x))) h.written;
        formed_alone = and_in (alone (formed x)) true h.formed_alone refl;
        before_else = h.before_else;
        fits = let a = h.fits in subst (λ l. height_of l ≤ k) (sym (join_done (write x))) a;
      }))
    where
      first_hole : Hole d layout form write (λ x. alone (formed x)) o
      first_hole = record { at = λ x ok. filled_as layout form (ap o.plug (join_done (write x))) (hole.at (x, []) (and_in (alone (formed x)) true ok refl)) }

      inner : (y : A) (xs : List A) → IsTrue (some_alone (map formed (y ∷ xs))) → Hole d layout form write (λ x. alone (formed x)) (within (within o (behind (write_rows (y, xs)))) (behind (symbol mark.Semicolon)))
      inner y xs h = record { at = λ x ok. filled_as layout form (ap o.plug (row_push write y xs x)) (hole.at (y, xs ++ x ∷ []) (alone_push formed y xs x h ok)) }

      step_of : (y : A) (xs : List A) (r : List Placed) → IsWritten end (write_rows (y, xs)) s r → IsTrue (some_alone (map formed (y ∷ xs))) → height_of (write_rows (y, xs)) ≤ k → test r ≡ true
          → Answer d layout form end outer levels tokens (ReadsRows s) (next one (y ∷ xs) r)
      step_of y xs r w f fits e =
          let spot1 = spot_behind d layout form end outer levels tokens known (write_rows (y, xs)) spot w in
          answer_mark d layout form end outer levels tokens mark.Semicolon r (semicolon r e) (λ _ r1 w1.
          let spot2 = spot_behind d layout form end outer levels tokens known (symbol mark.Semicolon) spot1 w1 in
          fair_then (good (within (within o (behind (write_rows (y, xs)))) (behind (symbol mark.Semicolon))) r1 spot2 (inner y xs f) (omega (arith, deep))) (λ x r2 g.
          let b = g.fits in
          reads (y ∷ xs ++ x ∷ []) r2 (record {
            first = y;
            others = xs ++ x ∷ [];
            is = refl;
            written = subst (λ l. IsWritten end l s r2) (sym (row_push write y xs x)) (written_join end (write_rows (y, xs)) (symbol mark.Semicolon & write x) s r r2 w (written_join end (symbol mark.Semicolon) (write x) r r1 r2 w1 g.written));
            formed_alone = alone_push formed y xs x f g.formed_alone;
            before_else = λ e. last_push formed y xs x f (g.before_else e);
            fits = subst (λ l. height_of l ≤ k) (sym (row_push write y xs x)) (omega (arith, height_join (write_rows (y, xs)) (symbol mark.Semicolon & write x), fits, b));
          })))

      step : (found : List A) (r : List Placed) → ReadsRows s found r → test r ≡ true → Answer d layout form end outer levels tokens (ReadsRows s) (next one found r)
      step found r h e = subst (λ z. Answer d layout form end outer levels tokens (ReadsRows s) (next one z r)) (sym h.is) (step_of h.first h.others r h.written h.formed_alone h.fits e)
