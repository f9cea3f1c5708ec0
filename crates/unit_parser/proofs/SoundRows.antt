-- Rows of at least one part that are read, and definitions of a name.
use Rattle.std.proofs.Common.{◌≡◌, ℕ, ◌+◌, ◌≤◌, Bool, true, ◌&&◌, List, [], ◌∷◌, ◌++◌, map, Ok, refl, sym, ap, subst, ◌∙◌, arith}
use Rattle.std.specs.Prelude.{IsTrue}
use Rattle.p2c_text.specs.declared.dialect.Dialect.{Dialect}
use Rattle.p2c_text.specs.declared.place.Span.{Span}
use Rattle.dialect_lexer.specs.declared.token.Symbol.TheVariants as mark
use Rattle.pascal_tree.specs.declared.names.Identifier.{Identifier}
use Rattle.token_parsing.specs.Parser.{Outcome, Parser, and_then, one_of, repeat}
use Rattle.token_parsing.proofs.Fair.{reads, fair_then, fair_repeat}
use Rattle.expr_parser.specs.Tokens.{Placed, plain}
use Rattle.expr_parser.specs.Spans.{span_between}
use Rattle.expr_parser.specs.Layout.{Layout, ◌&◌, symbol, spanned, in_row, tokens_of, height_of, IsWritten}
use Rattle.expr_parser.specs.Writing.{identifier}
use Rattle.expr_parser.specs.Grammar.{AreTokens, all, some_all}
use Rattle.expr_parser.specs.Classes.{identifiers, expect}
use Rattle.expr_parser.specs.Places.{made}
use Rattle.expr_parser.proofs.Layouts.{height_join, join_done, join_assoc, written_join}
use Rattle.expr_parser.proofs.FollowedParts.{and_in, and_out}
use Rattle.expr_parser.proofs.KnownTokens.{name_known, semicolon_known, equal_known}
use Rattle.expr_parser.proofs.Openings.{Opening, within, in_spanned, behind, before, Filled, filled_as, Hole}
use Rattle.expr_parser.proofs.Spots.{Answer, Spot, Reads, Good, are_joined, spot_behind, spot_within, begins_at}
use Rattle.expr_parser.proofs.SoundTokens.{written_node, answer_symbol}
use Rattle.expr_parser.proofs.SoundLists.{listed}
use Rattle.type_parser.proofs.SoundNames.{answer_name}

-- ---- one more in a row

pub row_push : {A : Type 0} (write : A → Layout) (xs : List A) (x : A) → in_row (map write (xs ++ x ∷ [])) ≡ (in_row (map write xs) & write x)
row_push write [] x = join_done (write x)
row_push write (y ∷ xs) x = ap (λ z. write y & z) (row_push write xs x) ∙ sym (join_assoc (write y) (in_row (map write xs)) (write x))

pub all_push : {A : Type 0} (formed : A → Bool) (xs : List A) (x : A) → IsTrue (all (map formed xs)) → IsTrue (formed x) → IsTrue (all (map formed (xs ++ x ∷ [])))
all_push formed [] x h k = and_in (formed x) true k refl
all_push formed (y ∷ xs) x h k = let both = and_out (formed y) (all (map formed xs)) h in and_in (formed y) _ both.0 (all_push formed xs x both.1 k)

abbrev pub any : {A : Type 0} → A → Bool
any a = true

abbrev pub alone : Layout → Unit {0} → Layout
alone l _ = l

module _ (d : Dialect) {C : Type 0} (layout : C → Layout) (form : C → Bool) (end : Span) (outer levels : ℕ) (tokens : List Placed) (known : AreTokens d (plain tokens)) where
  abbrev AnswerT : {A : Type 0} → (A → List Placed → Type 0) → Outcome Placed A → Type 0
  AnswerT P o = Answer d layout form end outer levels tokens P o

  abbrev SpotT : Opening → List Placed → Type 0
  SpotT o s = Spot d layout form end outer levels tokens o s

  abbrev ReadsT : {A : Type 0} → (A → Layout) → (A → Bool) → ℕ → List Placed → A → List Placed → Type 0
  ReadsT write formed k s a r = Reads d layout form end outer levels tokens write formed k s a r

  abbrev GoodT : {A : Type 0} → (A → Layout) → (A → Bool) → ℕ → Parser Placed A → Type 0
  GoodT write formed k p = Good d layout form end outer levels tokens write formed k p

  abbrev HoleT : {A : Type 0} → (A → Layout) → (A → Bool) → Opening → Type 0
  HoleT write formed o = Hole d layout form write formed o

  abbrev moved : {o : Opening} {s r : List Placed} (l : Layout) → SpotT o s → IsWritten end l s r → SpotT (within o (behind l)) r
  moved l spot w = spot_behind d layout form end outer levels tokens known l spot w

  abbrev entered : {o : Opening} {s : List Placed} (p : Opening) → SpotT o s → p.left ≡ [] → AreTokens d p.right → SpotT (within o p) s
  entered p spot none closing = spot_within d layout form end outer levels tokens p spot none closing

  -- ---- rows

  module _ {A : Type 0} (write : A → Layout) (formed : A → Bool) (k : ℕ) (one : Parser Placed A) (good : GoodT write formed k one) where
    abbrev pub write_row : A × List A → Layout
    write_row p = in_row (map write (listed p))

    abbrev pub formed_row : A × List A → Bool
    formed_row p = some_all (map formed (listed p))

    abbrev next : List A → Parser Placed (List A)
    next found s = and_then (one s) (λ x s. Ok (found ++ x ∷ [], s))

    -- a row that is not empty was read
    pub record ReadsSome (s : List Placed) (ys : List A) (r : List Placed) : Type 0 where
      pub first : A
      pub others : List A
      pub is : ys ≡ first ∷ others
      pub reads : ReadsT write_row formed_row k s (first, others) r

    pub first_sound : (o : Opening) (s : List Placed) → SpotT o s → HoleT write_row formed_row o → o.depth + k ≡ levels → AnswerT (ReadsSome s) (next [] s)
    first_sound o s spot hole deep =
        let hole1 : HoleT write formed o = record { at = λ x ok. filled_as layout form (ap o.plug (join_done (write x))) (hole.at (x, []) (and_in (formed x) true ok refl)) } in
        fair_then (good o s spot hole1 deep) (λ x r h. let a = h.fits in
        reads (x ∷ []) r (record {
          first = x;
          others = [];
          is = refl;
          reads = record {
            written = subst (λ l. IsWritten end l s r) (sym (join_done (write x))) h.written;
            formed = and_in (formed x) true h.formed refl;
            fits = subst (λ l. height_of l ≤ k) (sym (join_done (write x))) a;
          };
        }))

    pub more_sound : (test : List Placed → Bool) (o : Opening) (s : List Placed) → SpotT o s → HoleT write_row formed_row o → o.depth + k ≡ levels → (found : List A) (r : List Placed) → ReadsSome s found r → AnswerT (ReadsSome s) (repeat test next found r)
    more_sound test o s spot hole deep found r h = fair_repeat test next step found r h
      where
        inner : (y : A) (xs : List A) → IsTrue (some_all (map formed (y ∷ xs))) → HoleT write formed (within o (behind (write_row (y, xs))))
        inner y xs h = record { at = λ x ok. filled_as layout form (ap o.plug (row_push write (y ∷ xs) x)) (hole.at (y, xs ++ x ∷ []) (all_push formed (y ∷ xs) x h ok)) }

        step_of : (y : A) (xs : List A) (r : List Placed) → ReadsT write_row formed_row k s (y, xs) r → AnswerT (ReadsSome s) (next (y ∷ xs) r)
        step_of y xs r h =
            fair_then (good (within o (behind (write_row (y, xs)))) r (moved (write_row (y, xs)) spot h.written) (inner y xs h.formed) (omega (arith, deep))) (λ x r2 g. let a = h.fits in let b = g.fits in
            reads (y ∷ xs ++ x ∷ []) r2 (record {
              first = y;
              others = xs ++ x ∷ [];
              is = refl;
              reads = record {
                written = subst (λ l. IsWritten end l s r2) (sym (row_push write (y ∷ xs) x)) (written_join end (write_row (y, xs)) (write x) s r r2 h.written g.written);
                formed = all_push formed (y ∷ xs) x h.formed g.formed;
                fits = subst (λ l. height_of l ≤ k) (sym (row_push write (y ∷ xs) x)) (omega (arith, height_join (write_row (y, xs)) (write x), a, b));
              };
            }))

        step : (found : List A) (r : List Placed) → ReadsSome s found r → test r ≡ true → AnswerT (ReadsSome s) (next found r)
        step found r h e = subst (λ z. AnswerT (ReadsSome s) (next z r)) (sym h.is) (step_of h.first h.others r h.reads)

  -- ---- a name, its definition and a semicolon

  module _ {A N : Type 0} (write : A → Layout) (formed : A → Bool) (k : ℕ) (one : Parser Placed A) (good : GoodT write formed k one) (node : Identifier → A → Span → N) (write_node : N → Layout) (formed_node : N → Bool)
      (written : (i : Identifier) (a : A) (span : Span) → write_node (node i a span) ≡ spanned span (identifier i & symbol mark.Equal & write a & symbol mark.Semicolon)) (is_formed : (i : Identifier) (a : A) (span : Span) → formed_node (node i a span) ≡ formed a)
      (filler : A) (filler_formed : IsTrue (formed filler)) (filler_known : AreTokens d (tokens_of (write filler))) where
    abbrev tail : A → Layout
    tail a = symbol mark.Equal & write a & symbol mark.Semicolon

    tail_known : AreTokens d (tokens_of (tail filler))
    tail_known = (equal_known d, are_joined d (write filler) (symbol mark.Semicolon) filler_known (semicolon_known d, tt))

    pub definition_sound : GoodT write_node formed_node k (λ s. and_then (one_of identifiers s) (λ i s1. and_then (expect mark.Equal s1) (λ _ s2. and_then (one s2) (λ a s3. and_then (expect mark.Semicolon s3) (λ _. made end s (node i a))))))
    definition_sound o s spot hole deep =
        let filled : (i : Identifier) (a : A) → IsTrue (formed a) → Filled layout form (o.plug (spanned end (identifier i & tail a))) = λ i a ok. filled_as layout form (ap o.plug (written i a end)) (hole.at (node i a end) (is_formed i a end ∙ ok)) in
        let inside = within o (in_spanned end) in
        let spot0 = entered (in_spanned end) spot refl tt in
        let hole0 : HoleT identifier any (within inside (before (tail filler))) = record { at = λ i ok. filled i filler filler_formed } in
        answer_name d layout form end outer levels tokens known s (entered (before (tail filler)) spot0 refl tail_known) hole0 (λ i r1 w1.
        let o1 = within inside (behind (identifier i)) in
        let spot1 = moved (identifier i) spot0 w1 in
        let hole1 : HoleT (alone (tail filler)) any o1 = record { at = λ _ ok. filled i filler filler_formed } in
        answer_symbol d layout form end outer levels tokens mark.Equal r1 spot1 (begins_at d layout form end outer levels tokens spot1 hole1 tt refl tail_known) (λ _ r2 w2.
        let o2 = within o1 (behind (symbol mark.Equal)) in
        let spot2 = moved (symbol mark.Equal) spot1 w2 in
        let hole2 : HoleT write formed (within o2 (before (symbol mark.Semicolon))) = record { at = λ a ok. filled i a ok } in
        fair_then (good (within o2 (before (symbol mark.Semicolon))) r2 (entered (before (symbol mark.Semicolon)) spot2 refl (semicolon_known d, tt)) hole2 (omega (arith, deep))) (λ a r3 h.
        let spot3 = moved (write a) spot2 h.written in
        let hole3 : HoleT (alone (symbol mark.Semicolon)) any (within o2 (behind (write a))) = record { at = λ _ ok. filled i a h.formed } in
        answer_symbol d layout form end outer levels tokens mark.Semicolon r3 spot3 (begins_at d layout form end outer levels tokens spot3 hole3 tt refl (semicolon_known d, tt)) (λ _ r4 w4.
        let span = span_between end s r4 in let fits = h.fits in
        let all_written : IsWritten end (spanned span (identifier i & tail a)) s r4 = written_node end (identifier i & tail a) _ _ (written_join end (identifier i) (tail a) s r1 r4 w1 (written_join end (symbol mark.Equal) (write a & symbol mark.Semicolon) r1 r2 r4 w2 (written_join end (write a) (symbol mark.Semicolon) r2 r3 r4 h.written w4))) in
        let low : height_of (spanned span (identifier i & tail a)) ≤ k = omega (arith, height_join (write a) (symbol mark.Semicolon), fits) in
        reads (node i a span) r4 (record {
          written = subst (λ l. IsWritten end l s r4) (sym (written i a span)) all_written;
          formed = is_formed i a span ∙ h.formed;
          fits = subst (λ l. height_of l ≤ k) (sym (written i a span)) low;
        })))))
