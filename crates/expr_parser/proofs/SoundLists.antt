-- Rows and lists of parts that are read.
use Rattle.std.proofs.Common.{◌≡◌, ℕ, ◌+◌, ◌≤◌, Bool, true, List, [], ◌∷◌, ◌++◌, map, Ok, refl, sym, ap, subst, ◌∙◌, arith}
use Rattle.std.specs.Prelude.{IsTrue}
use Rattle.p2c_text.specs.declared.dialect.Dialect.{Dialect}
use Rattle.p2c_text.specs.declared.place.Span.{Span}
use Rattle.dialect_lexer.specs.declared.token.Symbol.TheVariants as mark
use Rattle.token_parsing.specs.Parser.{Parser, and_then, begins, repeat}
use Rattle.token_parsing.proofs.Fair.{reads, fair_then, fair_repeat, fair_so}
use Rattle.expr_parser.specs.Tokens.{Placed, plain}
use Rattle.expr_parser.specs.Layout.{Layout, ◌&◌, symbol, in_row, after_commas, with_commas, height_of, IsWritten}
use Rattle.expr_parser.specs.Grammar.{AreTokens, all, some_all}
use Rattle.expr_parser.specs.Classes.{symbols, expect}
use Rattle.expr_parser.proofs.Layouts.{height_join, join_done, join_assoc, written_join}
use Rattle.expr_parser.proofs.FollowedParts.{and_in, and_out}
use Rattle.expr_parser.proofs.Openings.{Opening, within, behind, Hole}
use Rattle.expr_parser.proofs.Spots.{Answer, Spot, Reads, Good, spot_behind}
use Rattle.expr_parser.proofs.SoundTokens.{answer_mark}

-- ---- one more in a row or list

row_push : {A : Type 0} (write : A → Layout) (xs : List A) (x : A) → in_row (map write (xs ++ x ∷ [])) ≡ (in_row (map write xs) & write x)
row_push write [] x = join_done (write x)
row_push write (y ∷ xs) x = ap (λ z. write y & z) (row_push write xs x) ∙ sym (join_assoc (write y) (in_row (map write xs)) (write x))

all_push : {A : Type 0} (formed : A → Bool) (xs : List A) (x : A) → IsTrue (all (map formed xs)) → IsTrue (formed x) → IsTrue (all (map formed (xs ++ x ∷ [])))
all_push formed [] x h k = and_in (formed x) true k refl
all_push formed (y ∷ xs) x h k = let both = and_out (formed y) (all (map formed xs)) h in and_in (formed y) _ both.0 (all_push formed xs x both.1 k)

after_push : {A : Type 0} (write : A → Layout) (xs : List A) (x : A) → after_commas (map write (xs ++ x ∷ [])) ≡ (after_commas (map write xs) & symbol mark.Comma & write x)
after_push write [] x = ap (λ z. symbol mark.Comma & z) (join_done (write x))
after_push write (y ∷ xs) x = ap (λ z. symbol mark.Comma & write y & z) (after_push write xs x) ∙ ap (λ z. symbol mark.Comma & z) (sym (join_assoc (write y) (after_commas (map write xs)) (symbol mark.Comma & write x)))

-- a list that is not empty
abbrev pub listed : {A : Type 0} → A × List A → List A
listed p = p.0 ∷ p.1

commas_push : {A : Type 0} (write : A → Layout) (y : A) (xs : List A) (x : A) → with_commas (map write (y ∷ xs ++ x ∷ [])) ≡ (with_commas (map write (y ∷ xs)) & symbol mark.Comma & write x)
commas_push write y xs x = ap (λ z. write y & z) (after_push write xs x) ∙ sym (join_assoc (write y) (after_commas (map write xs)) (symbol mark.Comma & write x))

module _ (d : Dialect) {C : Type 0} (layout : C → Layout) (form : C → Bool) (end : Span) (outer levels : ℕ) (tokens : List Placed) (known : AreTokens d (plain tokens)) {A : Type 0} (write : A → Layout) (formed : A → Bool) (k : ℕ) where
  abbrev write_row : List A → Layout
  write_row xs = in_row (map write xs)

  abbrev formed_row : List A → Bool
  formed_row xs = all (map formed xs)

  -- the part puts an item behind those before
  abbrev pub Pushed : (found : List A) (s : List Placed) → List A → List Placed → Type 0
  Pushed found s ys r = (x : A) × (ys ≡ found ++ x ∷ []) × Reads d layout form end outer levels tokens write formed k s x r

  pub row_sound : (test : List Placed → Bool) (part : List A → Parser Placed (List A))
      → ((found : List A) (o : Opening) (s : List Placed) → Spot d layout form end outer levels tokens o s → Hole d layout form write formed o → o.depth + k ≡ levels → test s ≡ true → Answer d layout form end outer levels tokens (Pushed found s) (part found s))
      → (o : Opening) (s : List Placed) → Spot d layout form end outer levels tokens o s → Hole d layout form write_row formed_row o → o.depth + k ≡ levels → Answer d layout form end outer levels tokens (Reads d layout form end outer levels tokens write_row formed_row k s) (repeat test part [] s)
  row_sound test part item o s spot hole deep = fair_repeat test part step [] s (record { written = refl; formed = refl; fits = omega arith })
    where
      pushed : (found : List A) (r : List Placed) → Reads d layout form end outer levels tokens write_row formed_row k s found r → (ys : List A) (r' : List Placed) → Pushed found r ys r' → Reads d layout form end outer levels tokens write_row formed_row k s ys r'
      pushed found r h ys r' (x, is, g) =
          subst (λ z. Reads d layout form end outer levels tokens write_row formed_row k s z r') (sym is) (record {
            written = subst (λ l. IsWritten end l s r') (sym (row_push write found x)) (written_join end (write_row found) (write x) s r r' h.written g.written);
            formed = all_push formed found x h.formed g.formed;
            fits = let a = h.fits in let b = g.fits in subst (λ l. height_of l ≤ k) (sym (row_push write found x)) (omega (arith, height_join (write_row found) (write x), a, b));
          })

      inner : (found : List A) → IsTrue (formed_row found) → Hole d layout form write formed (within o (behind (write_row found)))
      inner found h = record { at = λ x ok. let (c, f, w) = hole.at (found ++ x ∷ []) (all_push formed found x h ok) in (c, f, w ∙ ap o.plug (row_push write found x)) }

      step : (found : List A) (r : List Placed) → Reads d layout form end outer levels tokens write_row formed_row k s found r → test r ≡ true → Answer d layout form end outer levels tokens (Reads d layout form end outer levels tokens write_row formed_row k s) (part found r)
      step found r h e =
          fair_so (item found (within o (behind (write_row found))) r (spot_behind d layout form end outer levels tokens known (write_row found) spot h.written) (inner found h.formed) (omega (arith, deep)) e) (pushed found r h)

  -- ---- lists with commas

  abbrev write_list : A × List A → Layout
  write_list p = with_commas (map write (listed p))

  abbrev formed_list : A × List A → Bool
  formed_list p = some_all (map formed (listed p))

  abbrev next : Parser Placed A → List A → Parser Placed (List A)
  next one found s = and_then (expect mark.Comma s) (λ _ s. and_then (one s) (λ x s. Ok (found ++ x ∷ [], s)))

  -- a list that is not empty was read
  pub record ReadsList (s : List Placed) (ys : List A) (r : List Placed) : Type 0 where
    pub first : A
    pub others : List A
    pub is : ys ≡ first ∷ others
    pub reads : Reads d layout form end outer levels tokens write_list formed_list k s (first, others) r

  pub list_sound : (one : Parser Placed A) → Good d layout form end outer levels tokens write formed k one
      → (o : Opening) (s : List Placed) → Spot d layout form end outer levels tokens o s → Hole d layout form write_list formed_list o → o.depth + k ≡ levels
      → Answer d layout form end outer levels tokens (ReadsList s) (and_then (one s) (λ e. repeat (begins (symbols mark.Comma)) (next one) (e ∷ [])))
  list_sound one good o s spot hole deep =
      fair_then (good o s spot first_hole deep) (λ x r h. fair_repeat (begins (symbols mark.Comma)) (next one) step (x ∷ []) r (record {
        first = x;
        others = [];
        is = refl;
        reads = record {
          written = subst (λ l. IsWritten end l s r) (sym (join_done (write x))) h.written;
          formed = and_in (formed x) true h.formed refl;
          fits = let a = h.fits in subst (λ l. height_of l ≤ k) (sym (join_done (write x))) a;
        };
      }))
    where
      first_hole : Hole d layout form write formed o
      first_hole = record { at = λ x ok. let (c, f, w) = hole.at (x, []) (and_in (formed x) true ok refl) in (c, f, w ∙ ap o.plug (join_done (write x))) }

      pushed_formed : (y : A) (xs : List A) (x : A) → IsTrue (formed_list (y, xs)) → IsTrue (formed x) → IsTrue (formed_list (y, xs ++ x ∷ []))
      pushed_formed y xs x h ok = let both = and_out (formed y) (all (map formed xs)) h in and_in (formed y) _ both.0 (all_push formed xs x both.1 ok)

      inner : (y : A) (xs : List A) → IsTrue (formed_list (y, xs)) → Hole d layout form write formed (within (within o (behind (write_list (y, xs)))) (behind (symbol mark.Comma)))
      inner y xs h = record { at = λ x ok. let (c, f, w) = hole.at (y, xs ++ x ∷ []) (pushed_formed y xs x h ok) in (c, f, w ∙ ap o.plug (commas_push write y xs x)) }

      step_of : (y : A) (xs : List A) (r : List Placed) → Reads d layout form end outer levels tokens write_list formed_list k s (y, xs) r → begins (symbols mark.Comma) r ≡ true → Answer d layout form end outer levels tokens (ReadsList s) (next one (y ∷ xs) r)
      step_of y xs r h e =
          let spot1 = spot_behind d layout form end outer levels tokens known (write_list (y, xs)) spot h.written in
          answer_mark d layout form end outer levels tokens mark.Comma r e (λ _ r1 w1.
          let spot2 = spot_behind d layout form end outer levels tokens known (symbol mark.Comma) spot1 w1 in
          fair_then (good (within (within o (behind (write_list (y, xs)))) (behind (symbol mark.Comma))) r1 spot2 (inner y xs h.formed) (omega (arith, deep))) (λ x r2 g.
          reads (y ∷ xs ++ x ∷ []) r2 (record {
            first = y;
            others = xs ++ x ∷ [];
            is = refl;
            reads = record {
              written = subst (λ l. IsWritten end l s r2) (sym (commas_push write y xs x)) (written_join end (write_list (y, xs)) (symbol mark.Comma & write x) s r r2 h.written (written_join end (symbol mark.Comma) (write x) r r1 r2 w1 g.written));
              formed = pushed_formed y xs x h.formed g.formed;
              fits = let a = h.fits in let b = g.fits in subst (λ l. height_of l ≤ k) (sym (commas_push write y xs x)) (omega (arith, height_join (write_list (y, xs)) (symbol mark.Comma & write x), a, b));
            };
          })))

      step : (found : List A) (r : List Placed) → ReadsList s found r → begins (symbols mark.Comma) r ≡ true → Answer d layout form end outer levels tokens (ReadsList s) (next one found r)
      step found r h e = subst (λ z. Answer d layout form end outer levels tokens (ReadsList s) (next one z r)) (sym h.is) (step_of h.first h.others r h.reads e)
