-- Terms, sums and comparisons that are read.
use Rattle.std.proofs.Common.{◌≡◌, ℕ, suc, ◌+◌, ◌≤◌, Bool, true, List, [], ◌∷◌, ◌++◌, map, Option, Some, None, refl, sym, ap, subst, ◌∙◌, arith}
use Rattle.std.specs.Prelude.{IsTrue}
use Rattle.p2c_text.specs.declared.dialect.Dialect.{Dialect}
use Rattle.p2c_text.specs.declared.place.Span.{Span}
use Rattle.pascal_tree.specs.declared.constants.Sign.{Sign}
use Rattle.pascal_tree.specs.declared.expressions.AddedTerm.{AddedTerm}
use Rattle.pascal_tree.specs.declared.expressions.Factor.{Factor}
use Rattle.pascal_tree.specs.declared.expressions.MultipliedFactor.{MultipliedFactor}
use Rattle.pascal_tree.specs.declared.expressions.Term.{Term}
use Rattle.token_parsing.specs.Parser.{Outcome, Parser, begins}
use Rattle.token_parsing.proofs.Fair.{reads, fair_then, fair_either}
use Rattle.expr_parser.specs.Tokens.{Placed, plain}
use Rattle.expr_parser.specs.Spans.{span_between}
use Rattle.expr_parser.specs.Layout.{Layout, Done, ◌&◌, token, spanned, in_row, height_of, IsWritten}
use Rattle.expr_parser.specs.Writing.{optional_sign as write_sign, sign_token, relation_token, adding_token, multiplying_token, write_added, write_expr, write_factor, write_multiplied, write_simple, write_term}
use Rattle.expr_parser.specs.Grammar.{AreTokens, all, formed_added, formed_expr, formed_factor, formed_multiplied, formed_simple, formed_term}
use Rattle.expr_parser.specs.Classes.{signs, relations, addings, multiplyings}
use Rattle.expr_parser.specs.Expressions.{multiplied_of, next_factor, more_factors, term_of, term, optional_sign, added_of, next_term, more_terms, simple_of, simple, compared, expr_of, expr_by}
use Rattle.expr_parser.proofs.Layouts.{height_join, written_join}
use Rattle.expr_parser.proofs.WrittenNodes.{write_right, write_term_of, write_multiplied_of, write_added_of, write_simple_of, write_expr_of}
use Rattle.expr_parser.proofs.FormedNodes.{formed_right, formed_term_of, formed_multiplied_of, formed_added_of, formed_simple_of, formed_expr_of}
use Rattle.expr_parser.proofs.ClassTokens.{sign_is, relation_is, adding_is, multiplying_is}
use Rattle.expr_parser.proofs.FollowedParts.{and_in}
use Rattle.expr_parser.proofs.Openings.{Opening, within, in_counted, in_spanned, behind, before, Hole}
use Rattle.expr_parser.proofs.Spots.{Answer, Spot, Reads, Good, spot_behind, spot_within}
use Rattle.expr_parser.proofs.SoundTokens.{written_node, written_both, written_token, answer_begun}
use Rattle.expr_parser.proofs.SoundLists.{Pushed, row_sound}

module _ (d : Dialect) {C : Type 0} (layout : C → Layout) (form : C → Bool) (end : Span) (outer levels : ℕ) (tokens : List Placed) (known : AreTokens d (plain tokens)) where
  abbrev AnswerT : {A : Type 0} → (A → List Placed → Type 0) → Outcome Placed A → Type 0
  AnswerT P o = Answer d layout form end outer levels tokens P o

  abbrev SpotT : Opening → List Placed → Type 0
  SpotT o s = Spot d layout form end outer levels tokens o s

  abbrev ReadsT : {A : Type 0} → (A → Layout) → (A → Bool) → ℕ → List Placed → A → List Placed → Type 0
  ReadsT write formed k s a r = Reads d layout form end outer levels tokens write formed k s a r

  -- what was read, by its parts
  pub reads_as : {A : Type 0} {write : A → Layout} {formed : A → Bool} {k : ℕ} {s r : List Placed} {a : A} {l : Layout} {b : Bool} → write a ≡ l → formed a ≡ b → IsWritten end l s r → IsTrue b → height_of l ≤ k → ReadsT write formed k s a r
  reads_as {k} {s} {r} e f w t h = record { written = subst (λ l. IsWritten end l s r) (sym e) w; formed = f ∙ t; fits = subst (λ l. height_of l ≤ k) (sym e) h }

  module _ (k : ℕ) (child : Parser Placed Factor) (good : Good d layout form end outer levels tokens write_factor (formed_factor d) k child) where
    -- ---- terms

    next_factor_sound : (found : List MultipliedFactor) (o : Opening) (s : List Placed) → SpotT o s → Hole d layout form write_multiplied (formed_multiplied d) o → o.depth + k ≡ levels → begins multiplyings s ≡ true
        → AnswerT (Pushed d layout form end outer levels tokens known write_multiplied (formed_multiplied d) k found s) (next_factor child found s)
    unfolding next_factor
    next_factor_sound found o s spot hole deep test = answer_begun d layout form end outer levels tokens multiplyings s test (λ t op r is e.
        let sign = token (multiplying_token op) in
        let w1 : IsWritten end sign s r = written_token end (multiplying_token op) t r e (multiplying_is t.token op is) in
        let hole1 : Hole d layout form write_factor (formed_factor d) (within o (behind sign)) =
        record { at = λ f ok. let (c, g, w) = hole.at (multiplied_of op f) (formed_multiplied_of d op f ∙ ok) in (c, g, w ∙ ap o.plug (write_multiplied_of op f)) } in
        fair_then (good (within o (behind sign)) r (spot_behind d layout form end outer levels tokens known sign spot w1) hole1 (omega (arith, deep))) (λ f r2 h.
        let fits = h.fits in
        reads (found ++ multiplied_of op f ∷ []) r2 (multiplied_of op f, refl, reads_as (write_multiplied_of op f) (formed_multiplied_of d op f) (written_join end sign (write_factor f) s r r2 w1 h.written) h.formed fits)))

    term_sound : Good d layout form end outer levels tokens write_term (formed_term d) k (term end child)
    unfolding term more_factors
    term_sound o s spot hole deep =
        let inside = within o (in_spanned end) in
        let spot1 = spot_within d layout form end outer levels tokens (in_spanned end) spot refl tt in
        let hole1 : Hole d layout form write_factor (formed_factor d) (within inside (before Done)) =
        record { at = λ f ok. let (c, g, w) = hole.at (term_of f [] end) (formed_term_of d f [] end ∙ and_in (formed_factor d f) true ok refl) in (c, g, w ∙ ap o.plug (write_term_of f [] end)) } in
        fair_then (good (within inside (before Done)) s (spot_within d layout form end outer levels tokens (before Done) spot1 refl tt) hole1 (omega (arith, deep))) (λ f r h.
        let hole2 : Hole d layout form (λ xs. in_row (map write_multiplied xs)) (λ xs. all (map (formed_multiplied d) xs)) (within inside (behind (write_factor f))) =
        record { at = λ xs ok. let (c, g, w) = hole.at (term_of f xs end) (formed_term_of d f xs end ∙ and_in (formed_factor d f) _ h.formed ok) in (c, g, w ∙ ap o.plug (write_term_of f xs end)) } in
        fair_then (row_sound d layout form end outer levels tokens known write_multiplied (formed_multiplied d) k (begins multiplyings) (next_factor child) next_factor_sound
        (within inside (behind (write_factor f))) r (spot_behind d layout form end outer levels tokens known (write_factor f) spot1 h.written) hole2 (omega (arith, deep))) (λ xs r2 g.
        let row = in_row (map write_multiplied xs) in
        let a = h.fits in let b = g.fits in
        reads (term_of f xs (span_between end s r2)) r2 (reads_as (write_term_of f xs (span_between end s r2)) (formed_term_of d f xs (span_between end s r2))
        (written_node end (write_factor f & row) _ _ (written_join end (write_factor f) row s r r2 h.written g.written)) (and_in (formed_factor d f) _ h.formed g.formed) (omega (arith, height_join (write_factor f) row, a, b)))))

    -- ---- sums

    next_term_sound : (found : List AddedTerm) (o : Opening) (s : List Placed) → SpotT o s → Hole d layout form write_added (formed_added d) o → o.depth + k ≡ levels → begins addings s ≡ true
        → AnswerT (Pushed d layout form end outer levels tokens known write_added (formed_added d) k found s) (next_term end child found s)
    unfolding next_term
    next_term_sound found o s spot hole deep test = answer_begun d layout form end outer levels tokens addings s test (λ t op r is e.
        let sign = token (adding_token op) in
        let w1 : IsWritten end sign s r = written_token end (adding_token op) t r e (adding_is t.token op is) in
        let hole1 : Hole d layout form write_term (formed_term d) (within o (behind sign)) =
        record { at = λ f ok. let (c, g, w) = hole.at (added_of op f) (formed_added_of d op f ∙ ok) in (c, g, w ∙ ap o.plug (write_added_of op f)) } in
        fair_then (term_sound (within o (behind sign)) r (spot_behind d layout form end outer levels tokens known sign spot w1) hole1 (omega (arith, deep))) (λ f r2 h.
        let fits = h.fits in
        reads (found ++ added_of op f ∷ []) r2 (added_of op f, refl, reads_as (write_added_of op f) (formed_added_of d op f) (written_join end sign (write_term f) s r r2 w1 h.written) h.formed fits)))

    sign_sound : (s : List Placed) → AnswerT (λ sign r. IsWritten end (write_sign sign) s r) (optional_sign s)
    unfolding optional_sign
    sign_sound s = fair_either (begins signs s)
        (λ test. answer_begun d layout form end outer levels tokens signs s test (λ t op r is e. reads (Some op) r (written_token end (sign_token op) t r e (sign_is t.token op is))))
        (λ test. reads None s refl)

    simple_sound : Good d layout form end outer levels tokens write_simple (formed_simple d) k (simple end child)
    unfolding simple more_terms
    simple_sound o s spot hole deep =
        let inside = within o (in_spanned end) in
        let spot1 = spot_within d layout form end outer levels tokens (in_spanned end) spot refl tt in
        fair_then (sign_sound s) (λ sign r w0.
        let signed = within inside (behind (write_sign sign)) in
        let spot2 = spot_behind d layout form end outer levels tokens known (write_sign sign) spot1 w0 in
        let hole1 : Hole d layout form write_term (formed_term d) (within signed (before Done)) =
        record { at = λ f ok. let (c, g, w) = hole.at (simple_of sign f [] end) (formed_simple_of d sign f [] end ∙ and_in (formed_term d f) true ok refl) in (c, g, w ∙ ap o.plug (write_simple_of sign f [] end)) } in
        fair_then (term_sound (within signed (before Done)) r (spot_within d layout form end outer levels tokens (before Done) spot2 refl tt) hole1 (omega (arith, deep))) (λ f r1 h.
        let hole2 : Hole d layout form (λ xs. in_row (map write_added xs)) (λ xs. all (map (formed_added d) xs)) (within signed (behind (write_term f))) =
        record { at = λ xs ok. let (c, g, w) = hole.at (simple_of sign f xs end) (formed_simple_of d sign f xs end ∙ and_in (formed_term d f) _ h.formed ok) in (c, g, w ∙ ap o.plug (write_simple_of sign f xs end)) } in
        fair_then (row_sound d layout form end outer levels tokens known write_added (formed_added d) k (begins addings) (next_term end child) next_term_sound
        (within signed (behind (write_term f))) r1 (spot_behind d layout form end outer levels tokens known (write_term f) spot2 h.written) hole2 (omega (arith, deep))) (λ xs r2 g.
        let row = in_row (map write_added xs) in
        let a = h.fits in let b = g.fits in
        reads (simple_of sign f xs (span_between end s r2)) r2 (reads_as (write_simple_of sign f xs (span_between end s r2)) (formed_simple_of d sign f xs (span_between end s r2))
        (written_node end (write_sign sign & write_term f & row) _ _ (written_join end (write_sign sign) (write_term f & row) s r r2 w0 (written_join end (write_term f) row r r1 r2 h.written g.written)))
        (and_in (formed_term d f) _ h.formed g.formed) (sign_fits sign f row a b)))))
      where
        sign_fits : (sign : Option Sign) (f : Term) (row : Layout) → height_of (write_term f) ≤ k → height_of row ≤ k → height_of (spanned end (write_sign sign & write_term f & row)) ≤ k
        sign_fits None f row a b = omega (arith, height_join (write_term f) row, a, b)
        sign_fits (Some op) f row a b = omega (arith, height_join (write_term f) row, a, b)

    -- ---- comparisons

    right_sound : (o : Opening) (s : List Placed) → SpotT o s → Hole d layout form write_right (formed_right d) o → o.depth + k ≡ levels → AnswerT (ReadsT write_right (formed_right d) k s) (compared end child s)
    unfolding compared
    right_sound o s spot hole deep = fair_either (begins relations s)
        (λ test. answer_begun d layout form end outer levels tokens relations s test (λ t op r is e.
        let sign = token (relation_token op) in
        let w1 : IsWritten end sign s r = written_token end (relation_token op) t r e (relation_is t.token op is) in
        let hole1 : Hole d layout form write_simple (formed_simple d) (within o (behind sign)) = record { at = λ b ok. hole.at (Some (op, b)) ok } in
        fair_then (simple_sound (within o (behind sign)) r (spot_behind d layout form end outer levels tokens known sign spot w1) hole1 (omega (arith, deep))) (λ b r2 h.
        let fits = h.fits in
        reads (Some (op, b)) r2 (record { written = written_join end sign (write_simple b) s r r2 w1 h.written; formed = h.formed; fits = fits }))))
        (λ test. reads None s (record { written = refl; formed = refl; fits = omega arith }))

    pub expr_by_sound : Good d layout form end outer levels tokens write_expr (formed_expr d) (suc k) (expr_by end child)
    unfolding expr_by
    expr_by_sound o s spot hole deep =
        let node = within in_counted (in_spanned end) in
        let inside = within o node in
        let spot1 = spot_within d layout form end outer levels tokens node spot refl tt in
        let hole1 : Hole d layout form write_simple (formed_simple d) (within inside (before Done)) =
        record { at = λ a ok. let (c, g, w) = hole.at (expr_of a None end) (formed_expr_of d a None end ∙ and_in (formed_simple d a) true ok refl) in (c, g, w ∙ ap o.plug (write_expr_of a None end)) } in
        fair_then (simple_sound (within inside (before Done)) s (spot_within d layout form end outer levels tokens (before Done) spot1 refl tt) hole1 (omega (arith, deep))) (λ a r h.
        let hole2 : Hole d layout form write_right (formed_right d) (within inside (behind (write_simple a))) =
        record { at = λ b ok. let (c, g, w) = hole.at (expr_of a b end) (formed_expr_of d a b end ∙ and_in (formed_simple d a) _ h.formed ok) in (c, g, w ∙ ap o.plug (write_expr_of a b end)) } in
        fair_then (right_sound (within inside (behind (write_simple a))) r (spot_behind d layout form end outer levels tokens known (write_simple a) spot1 h.written) hole2 (omega (arith, deep))) (λ b r2 g.
        let x = h.fits in let y = g.fits in
        reads (expr_of a b (span_between end s r2)) r2 (reads_as (write_expr_of a b (span_between end s r2)) (formed_expr_of d a b (span_between end s r2))
        (written_both end (write_simple a & write_right b) _ _ (written_join end (write_simple a) (write_right b) s r r2 h.written g.written)) (and_in (formed_simple d a) _ h.formed g.formed)
        (omega (arith, height_join (write_simple a) (write_right b), x, y)))))
