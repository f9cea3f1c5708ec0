-- Rows of parts with semicolons between them that are read.
use Rattle.std.proofs.Common.{◌≡◌, ℕ, ◌+◌, ◌≤◌, Bool, true, List, [], ◌∷◌, ◌++◌, map, Ok, refl, sym, ap, subst, ◌∙◌, arith}
use Rattle.std.specs.Prelude.{IsTrue}
use Rattle.p2c_text.specs.declared.dialect.Dialect.{Dialect}
use Rattle.p2c_text.specs.declared.place.Span.{Span}
use Rattle.dialect_lexer.specs.declared.token.Symbol.TheVariants as mark
use Rattle.token_parsing.specs.Parser.{Parser, and_then, begins, repeat}
use Rattle.token_parsing.proofs.Fair.{reads, fair_then, fair_repeat}
use Rattle.expr_parser.specs.Tokens.{Placed, plain}
use Rattle.expr_parser.specs.Layout.{Layout, ◌&◌, symbol, height_of, IsWritten}
use Rattle.expr_parser.specs.Semicolons.{after_semicolons, with_semicolons}
use Rattle.expr_parser.specs.Grammar.{AreTokens, all, some_all}
use Rattle.expr_parser.specs.Classes.{symbols, expect}
use Rattle.expr_parser.proofs.Layouts.{height_join, join_done, join_assoc, written_join}
use Rattle.expr_parser.proofs.FollowedParts.{and_in, and_out}
use Rattle.expr_parser.proofs.Openings.{Opening, within, behind, Hole}
use Rattle.expr_parser.proofs.Spots.{Answer, Spot, Reads, Good, spot_behind}
use Rattle.expr_parser.proofs.SoundTokens.{answer_mark}
use Rattle.expr_parser.proofs.SoundLists.{listed}

-- ---- one more in a row

all_push : {A : Type 0} (formed : A → Bool) (xs : List A) (x : A) → IsTrue (all (map formed xs)) → IsTrue (formed x) → IsTrue (all (map formed (xs ++ x ∷ [])))
all_push formed [] x h k = and_in (formed x) true k refl
all_push formed (y ∷ xs) x h k = let both = and_out (formed y) (all (map formed xs)) h in and_in (formed y) _ both.0 (all_push formed xs x both.1 k)

after_push : {A : Type 0} (write : A → Layout) (xs : List A) (x : A) → after_semicolons (map write (xs ++ x ∷ [])) ≡ (after_semicolons (map write xs) & symbol mark.Semicolon & write x)
after_push write [] x = ap (λ z. symbol mark.Semicolon & z) (join_done (write x))
after_push write (y ∷ xs) x =
    ap (λ z. symbol mark.Semicolon & write y & z) (after_push write xs x) ∙ ap (λ z. symbol mark.Semicolon & z) (sym (join_assoc (write y) (after_semicolons (map write xs)) (symbol mark.Semicolon & write x)))

row_push : {A : Type 0} (write : A → Layout) (y : A) (xs : List A) (x : A) → with_semicolons (map write (y ∷ xs ++ x ∷ [])) ≡ (with_semicolons (map write (y ∷ xs)) & symbol mark.Semicolon & write x)
row_push write y xs x = ap (λ z. write y & z) (after_push write xs x) ∙ sym (join_assoc (write y) (after_semicolons (map write xs)) (symbol mark.Semicolon & write x))

module _ (d : Dialect) {C : Type 0} (layout : C → Layout) (form : C → Bool) (end : Span) (outer levels : ℕ) (tokens : List Placed) (known : AreTokens d (plain tokens)) {A : Type 0} (write : A → Layout) (formed : A → Bool) (k : ℕ) where
  abbrev write_row : A × List A → Layout
  write_row p = with_semicolons (map write (listed p))

  abbrev formed_row : A × List A → Bool
  formed_row p = some_all (map formed (listed p))

  abbrev next : Parser Placed A → List A → Parser Placed (List A)
  next one found s = and_then (expect mark.Semicolon s) (λ _ s. and_then (one s) (λ x s. Ok (found ++ x ∷ [], s)))

  -- a row that is not empty was read
  pub record ReadsRow (s : List Placed) (ys : List A) (r : List Placed) : Type 0 where
    pub first : A
    pub others : List A
    pub is : ys ≡ first ∷ others
    pub reads : Reads d layout form end outer levels tokens write_row formed_row k s (first, others) r

  -- a row goes on only where a semicolon is next
  pub row_sound : (test : List Placed → Bool) → ((s : List Placed) → test s ≡ true → begins (symbols mark.Semicolon) s ≡ true) → (one : Parser Placed A) → Good d layout form end outer levels tokens write formed k one
      → (o : Opening) (s : List Placed) → Spot d layout form end outer levels tokens o s → Hole d layout form write_row formed_row o → o.depth + k ≡ levels
      → Answer d layout form end outer levels tokens (ReadsRow s) (and_then (one s) (λ e. repeat test (next one) (e ∷ [])))
  row_sound test marked one good o s spot hole deep =
      fair_then (good o s spot first_hole deep) (λ x r h. fair_repeat test (next one) step (x ∷ []) r (record {
        first = x;
        others = [];
        is = refl;
        reads = record {
          written = subst (λ l. IsWritten end l s r) (sym (join_done (write x))) h.written;
          formed = and_in (formed x) true h.formed refl;
          fits = let a = h.fits in subst (λ l. height_of l ≤ k) (sym (join_done (write x))) a;
        };
      }))
    where
      first_hole : Hole d layout form write formed o
      first_hole = record { at = λ x ok. let (c, f, w) = hole.at (x, []) (and_in (formed x) true ok refl) in (c, f, w ∙ ap o.plug (join_done (write x))) }

      pushed_formed : (y : A) (xs : List A) (x : A) → IsTrue (formed_row (y, xs)) → IsTrue (formed x) → IsTrue (formed_row (y, xs ++ x ∷ []))
      pushed_formed y xs x h ok = let both = and_out (formed y) (all (map formed xs)) h in and_in (formed y) _ both.0 (all_push formed xs x both.1 ok)

      inner : (y : A) (xs : List A) → IsTrue (formed_row (y, xs)) → Hole d layout form write formed (within (within o (behind (write_row (y, xs)))) (behind (symbol mark.Semicolon)))
      inner y xs h = record { at = λ x ok. let (c, f, w) = hole.at (y, xs ++ x ∷ []) (pushed_formed y xs x h ok) in (c, f, w ∙ ap o.plug (row_push write y xs x)) }

      step_of : (y : A) (xs : List A) (r : List Placed) → Reads d layout form end outer levels tokens write_row formed_row k s (y, xs) r → begins (symbols mark.Semicolon) r ≡ true → Answer d layout form end outer levels tokens (ReadsRow s) (next one (y ∷ xs) r)
      step_of y xs r h e =
          let spot1 = spot_behind d layout form end outer levels tokens known (write_row (y, xs)) spot h.written in
          answer_mark d layout form end outer levels tokens mark.Semicolon r e (λ _ r1 w1.
          let spot2 = spot_behind d layout form end outer levels tokens known (symbol mark.Semicolon) spot1 w1 in
          fair_then (good (within (within o (behind (write_row (y, xs)))) (behind (symbol mark.Semicolon))) r1 spot2 (inner y xs h.formed) (omega (arith, deep))) (λ x r2 g.
          reads (y ∷ xs ++ x ∷ []) r2 (record {
            first = y;
            others = xs ++ x ∷ [];
            is = refl;
            reads = record {
              written = subst (λ l. IsWritten end l s r2) (sym (row_push write y xs x)) (written_join end (write_row (y, xs)) (symbol mark.Semicolon & write x) s r r2 h.written (written_join end (symbol mark.Semicolon) (write x) r r1 r2 w1 g.written));
              formed = pushed_formed y xs x h.formed g.formed;
              fits = let a = h.fits in let b = g.fits in subst (λ l. height_of l ≤ k) (sym (row_push write y xs x)) (omega (arith, height_join (write_row (y, xs)) (symbol mark.Semicolon & write x), a, b));
            };
          })))

      step : (found : List A) (r : List Placed) → ReadsRow s found r → test r ≡ true → Answer d layout form end outer levels tokens (ReadsRow s) (next one found r)
      step found r h e = subst (λ z. Answer d layout form end outer levels tokens (ReadsRow s) (next one z r)) (sym h.is) (step_of h.first h.others r h.reads (marked r e))
