-- Factors and whole expressions that are read.
use Rattle.std.proofs.Common.{◌≡◌, ℕ, zero, suc, ◌+◌, Bool, true, ◌&&◌, List, [], ◌∷◌, length, map, None, refl, sym, ap, subst, ◌∙◌, arith}
use Rattle.std.specs.Prelude.{IsTrue}
use Rattle.std.specs.List.{Contains}
use Rattle.p2c_text.specs.declared.dialect.Dialect.{Dialect}
use Rattle.p2c_text.specs.declared.place.Span.{Span}
use Rattle.dialect_lexer.specs.declared.token.Word.TheVariants as word_
use Rattle.dialect_lexer.specs.declared.token.Symbol.TheVariants as mark
use Rattle.pascal_tree.specs.declared.expressions.Elem.{Elem}
use Rattle.pascal_tree.specs.declared.expressions.Expr.{Expr}
use Rattle.pascal_tree.specs.declared.expressions.Factor.{Factor}
use Rattle.pascal_tree.specs.declared.expressions.Factor.TheVariants as factor_
use Rattle.token_parsing.specs.Parser.{Outcome, Parser, begins}
use Rattle.token_parsing.proofs.Fair.{reads, fair_then, fair_either, fair_so}
use Rattle.expr_parser.specs.Tokens.{Placed, plain, Number, Text}
use Rattle.expr_parser.specs.Spans.{span_between}
use Rattle.expr_parser.specs.Layout.{Layout, Done, ◌&◌, token, symbol, word, spanned, counted, with_commas, tokens_of, levels_of, IsWritten}
use Rattle.expr_parser.specs.Writing.{identifier, write_args, write_elem, write_expr, write_factor, write_place}
use Rattle.expr_parser.specs.Grammar.{AreTokens, all, some_all, formed_args, formed_elem, formed_expr, formed_factor, formed_place}
use Rattle.expr_parser.specs.Classes.{identifiers, numbers, texts, words, symbols}
use Rattle.expr_parser.specs.Factors.{number, text, nil, call, read_place, named, group, negation, elem_of, elem, next_elem, more_elems, some_elems, elems, set, factor_by}
use Rattle.expr_parser.specs.Expressions.{term_of, simple_of, expr_of, expr, factor}
use Rattle.expr_parser.proofs.Layouts.{height_join, written_join}
use Rattle.expr_parser.proofs.WrittenNodes.{write_term_of, write_simple_of, write_expr_of, write_elem_of, write_factor_number, write_factor_text, write_factor_nil, write_factor_place, write_factor_call, write_factor_group, write_factor_not, write_factor_set}
use Rattle.expr_parser.proofs.FormedNodes.{formed_term_of, formed_simple_of, formed_expr_of, formed_elem_of, formed_factor_number, formed_factor_text, formed_factor_nil, formed_factor_place, formed_factor_call, formed_factor_group, formed_factor_not, formed_factor_set}
use Rattle.expr_parser.proofs.ClassTokens.{identifier_is, number_is, text_is}
use Rattle.expr_parser.proofs.KnownTokens.{nil_known, bracket_known, close_known}
use Rattle.expr_parser.proofs.FollowedParts.{and_in}
use Rattle.expr_parser.proofs.Openings.{Opening, within, in_counted, in_spanned, behind, before, Hole}
use Rattle.expr_parser.proofs.Spots.{Answer, Spot, Reads, Good, spot_behind, spot_within, begins_at, deep_at}
use Rattle.expr_parser.proofs.SoundTokens.{written_node, written_counted, written_both, written_token, written_name, answer_symbol, answer_begun, answer_word, answer_mark}
use Rattle.expr_parser.proofs.SoundLists.{listed, list_sound}
use Rattle.expr_parser.proofs.SoundTerms.{reads_as, expr_by_sound}
use Rattle.expr_parser.proofs.SoundPlaces.{write_opt, formed_opt, optional_sound, place_from_sound, args_sound}

-- ---- parts that may stand where one is wanted

abbrev pub no_span : Span
no_span = record { file = 0; start = 0; end = 0; line = 0 }

abbrev pub nil_factor : Factor
nil_factor = factor_.Nil no_span

abbrev pub nil_expr : Expr
nil_expr = expr_of (simple_of None (term_of nil_factor [] no_span) [] no_span) None no_span

nil_expr_written : write_expr nil_expr ≡ counted (spanned no_span (spanned no_span (spanned no_span (counted (spanned no_span (word word_.KwNil))))))
nil_expr_written =
    write_expr_of (simple_of None (term_of nil_factor [] no_span) [] no_span) None no_span ∙ ap (λ l. counted (spanned no_span (l & Done)))
    (write_simple_of None (term_of nil_factor [] no_span) [] no_span ∙ ap (λ l. spanned no_span (l & Done)) (write_term_of nil_factor [] no_span ∙ ap (λ l. spanned no_span (l & Done)) (write_factor_nil no_span)))

pub nil_expr_formed : (d : Dialect) → IsTrue (formed_expr d nil_expr)
nil_expr_formed d =
    formed_expr_of d (simple_of None (term_of nil_factor [] no_span) [] no_span) None no_span ∙ ap (λ b. b && true)
    (formed_simple_of d None (term_of nil_factor [] no_span) [] no_span ∙ ap (λ b. b && true) (formed_term_of d nil_factor [] no_span ∙ ap (λ b. b && true) (formed_factor_nil d no_span)))

pub nil_expr_known : (d : Dialect) → AreTokens d (tokens_of (write_expr nil_expr))
nil_expr_known d = subst (λ l. AreTokens d (tokens_of l)) (sym nil_expr_written) (nil_known d, tt)

module _ (d : Dialect) {C : Type 0} (layout : C → Layout) (form : C → Bool) (end : Span) (outer levels : ℕ) (tokens : List Placed) (known : AreTokens d (plain tokens)) where
  abbrev AnswerT : {A : Type 0} → (A → List Placed → Type 0) → Outcome Placed A → Type 0
  AnswerT P o = Answer d layout form end outer levels tokens P o

  abbrev SpotT : Opening → List Placed → Type 0
  SpotT o s = Spot d layout form end outer levels tokens o s

  abbrev ReadsT : {A : Type 0} → (A → Layout) → (A → Bool) → ℕ → List Placed → A → List Placed → Type 0
  ReadsT write formed k s a r = Reads d layout form end outer levels tokens write formed k s a r

  abbrev GoodT : {A : Type 0} → (A → Layout) → (A → Bool) → ℕ → Parser Placed A → Type 0
  GoodT write formed k p = Good d layout form end outer levels tokens write formed k p

  abbrev moved : {o : Opening} {s r : List Placed} (l : Layout) → SpotT o s → IsWritten end l s r → SpotT (within o (behind l)) r
  moved l spot w = spot_behind d layout form end outer levels tokens known l spot w

  abbrev entered : {o : Opening} {s : List Placed} (p : Opening) → SpotT o s → p.left ≡ [] → AreTokens d p.right → SpotT (within o p) s
  entered p spot none closing = spot_within d layout form end outer levels tokens p spot none closing

  module _ (k : ℕ) (child : Parser Placed Expr) (good : GoodT write_expr (formed_expr d) k child) where
    -- ---- elements of sets

    elem_sound : GoodT write_elem (formed_elem d) k (elem end child)
    unfolding elem
    elem_sound o s spot hole deep =
        let inside = within o (in_spanned end) in
        let spot1 = entered (in_spanned end) spot refl tt in
        let hole1 : Hole d layout form write_expr (formed_expr d) (within inside (before Done)) =
        record { at = λ a ok. let (c, g, e) = hole.at (elem_of a None end) (formed_elem_of d a None end ∙ and_in (formed_expr d a) true ok refl) in (c, g, e ∙ ap o.plug (write_elem_of a None end)) } in
        fair_then (good (within inside (before Done)) s (entered (before Done) spot1 refl tt) hole1 (omega (arith, deep))) (λ a r h.
        let behind_first = within inside (behind (write_expr a)) in
        let hole2 : Hole d layout form (λ b. write_opt d layout form end outer levels tokens known k child good mark.DotDot b) (λ b. formed_opt d layout form end outer levels tokens known k child good b) behind_first =
        record { at = λ b ok. let (c, g, e) = hole.at (elem_of a b end) (formed_elem_of d a b end ∙ and_in (formed_expr d a) _ h.formed ok) in (c, g, e ∙ ap o.plug (write_elem_of a b end)) } in
        fair_then (optional_sound d layout form end outer levels tokens known k child good mark.DotDot behind_first r (moved (write_expr a) spot1 h.written) hole2 (omega (arith, deep))) (λ b r2 g.
        let last = write_opt d layout form end outer levels tokens known k child good mark.DotDot b in
        let span = span_between end s r2 in let x = h.fits in let y = g.is.fits in
        reads (elem_of a b span) r2 (reads_as d layout form end outer levels tokens known (write_elem_of a b span) (formed_elem_of d a b span)
        (written_node end (write_expr a & last) _ _ (written_join end (write_expr a) last s r r2 h.written g.is.written)) (and_in (formed_expr d a) _ h.formed g.is.formed) (omega (arith, height_join (write_expr a) last, x, y)))))

    abbrev write_elems : List Elem → Layout
    write_elems xs = with_commas (map write_elem xs)

    abbrev formed_elems : List Elem → Bool
    formed_elems xs = all (map (formed_elem d) xs)

    elems_sound : GoodT write_elems formed_elems k (elems end child)
    unfolding elems some_elems more_elems next_elem
    elems_sound o s spot hole deep = fair_either (begins (symbols mark.CloseBracket) s)
        (λ test. reads [] s (record { written = refl; formed = refl; fits = omega arith }))
        (λ test. fair_so (list_sound d layout form end outer levels tokens known write_elem (formed_elem d) k (elem end child) elem_sound o s spot (record { at = λ p ok. hole.at (listed p) ok }) deep)
        (λ xs r h. subst (λ z. ReadsT write_elems formed_elems k s z r) (sym h.is) (some_read h.first h.others r h.reads)))
      where
        some_read : (x : Elem) (xs : List Elem) (r : List Placed) → ReadsT (λ p. with_commas (map write_elem (listed p))) (λ p. some_all (map (formed_elem d) (listed p))) k s (x, xs) r → ReadsT write_elems formed_elems k s (x ∷ xs) r
        some_read x xs r h = record { written = h.written; formed = h.formed; fits = h.fits }

    -- ---- factors

    abbrev node : Opening
    node = within in_counted (in_spanned end)

    number_sound : (s : List Placed) → begins numbers s ≡ true → AnswerT (ReadsT write_factor (formed_factor d) (suc k) s) (number end s)
    unfolding number
    number_sound s test = answer_begun d layout form end outer levels tokens numbers s test (λ t v r is e.
        let span = span_between end s r in
        reads (factor_.Number v span) r (reads_as d layout form end outer levels tokens known (write_factor_number v span) (formed_factor_number d v span)
        (written_both end (token (Number v)) _ _ (written_token end (Number v) t r e (number_is t.token v is))) refl (omega arith)))

    text_sound : (s : List Placed) → begins texts s ≡ true → AnswerT (ReadsT write_factor (formed_factor d) (suc k) s) (text end s)
    unfolding text
    text_sound s test = answer_begun d layout form end outer levels tokens texts s test (λ t bs r is e.
        let span = span_between end s r in
        reads (factor_.Text bs span) r (reads_as d layout form end outer levels tokens known (write_factor_text bs span) (formed_factor_text d bs span)
        (written_both end (token (Text bs)) _ _ (written_token end (Text bs) t r e (text_is t.token bs is))) refl (omega arith)))

    nil_sound : (s : List Placed) → begins (words word_.KwNil) s ≡ true → AnswerT (ReadsT write_factor (formed_factor d) (suc k) s) (nil end s)
    unfolding nil
    nil_sound s test = answer_word d layout form end outer levels tokens word_.KwNil s test (λ _ r w.
        let span = span_between end s r in
        reads (factor_.Nil span) r (reads_as d layout form end outer levels tokens known (write_factor_nil span) (formed_factor_nil d span) (written_both end (word word_.KwNil) _ _ w) refl (omega arith)))

    named_sound : (o : Opening) (s : List Placed) → SpotT o s → Hole d layout form write_factor (formed_factor d) o → o.depth + suc k ≡ levels → begins identifiers s ≡ true → AnswerT (ReadsT write_factor (formed_factor d) (suc k) s) (named d end child s)
    unfolding named call read_place
    named_sound o s spot hole deep test = answer_begun d layout form end outer levels tokens identifiers s test (λ t i r is e.
        let w0 = written_name end i t r e (identifier_is t.token t.span i is) in
        fair_either (begins (symbols mark.Open) r)
        (λ opens.
        let after = within (within o node) (behind (identifier i)) in
        let hole1 : Hole d layout form write_args (formed_args d) after = record { at = λ a ok. let (c, g, w) = hole.at (factor_.Call i a end) (formed_factor_call d i a end ∙ ok) in (c, g, w ∙ ap o.plug (write_factor_call i a end)) } in
        fair_then (args_sound d layout form end outer levels tokens known k child good after r (moved (identifier i) (entered node spot refl tt) w0) hole1 (omega (arith, deep)) opens) (λ a r2 h.
        let span = span_between end s r2 in let fits = h.fits in
        reads (factor_.Call i a span) r2 (reads_as d layout form end outer levels tokens known (write_factor_call i a span) (formed_factor_call d i a span)
        (written_both end (identifier i & write_args a) _ _ (written_join end (identifier i) (write_args a) s r r2 w0 h.written)) h.formed (omega (arith, fits)))))
        (λ none.
        let hole1 : Hole d layout form write_place (formed_place d) (within o in_counted) = record { at = λ p ok. let (c, g, w) = hole.at (factor_.Place p) (formed_factor_place d p ∙ ok) in (c, g, w ∙ ap o.plug (write_factor_place p)) } in
        fair_then (place_from_sound d layout form end outer levels tokens known k child good (within o in_counted) s (entered in_counted spot refl tt) hole1 (omega (arith, deep)) i r w0) (λ p r2 h.
        let fits = h.fits in
        reads (factor_.Place p) r2 (reads_as d layout form end outer levels tokens known (write_factor_place p) (formed_factor_place d p) (written_counted end (write_place p) _ _ h.written) h.formed (omega (arith, fits))))))

    group_sound : (o : Opening) (s : List Placed) → SpotT o s → Hole d layout form write_factor (formed_factor d) o → o.depth + suc k ≡ levels → begins (symbols mark.Open) s ≡ true → AnswerT (ReadsT write_factor (formed_factor d) (suc k) s) (group end child s)
    unfolding group
    group_sound o s spot hole deep test = answer_mark d layout form end outer levels tokens mark.Open s test (λ _ r1 w1.
        let opened = within (within o node) (behind (symbol mark.Open)) in
        let spot2 = moved (symbol mark.Open) (entered node spot refl tt) w1 in
        let hole3 : Hole d layout form write_expr (formed_expr d) (within opened (before (symbol mark.Close))) =
        record { at = λ e ok. let (c, g, w) = hole.at (factor_.Group e end) (formed_factor_group d e end ∙ ok) in (c, g, w ∙ ap o.plug (write_factor_group e end)) } in
        fair_then (good (within opened (before (symbol mark.Close))) r1 (entered (before (symbol mark.Close)) spot2 refl (close_known d, tt)) hole3 (omega (arith, deep))) (λ e r2 h.
        let hole4 : Hole {A = Unit {0}} d layout form (λ _. symbol mark.Close) (λ _. true) (within opened (behind (write_expr e))) = record { at = λ _ ok. hole3.at e h.formed } in
        let spot4 = moved (write_expr e) spot2 h.written in
        answer_symbol d layout form end outer levels tokens mark.Close r2 spot4 (begins_at d layout form end outer levels tokens spot4 hole4 tt refl (close_known d, tt)) (λ _ r3 w3.
        let span = span_between end s r3 in let fits = h.fits in
        reads (factor_.Group e span) r3 (reads_as d layout form end outer levels tokens known (write_factor_group e span) (formed_factor_group d e span)
        (written_both end (symbol mark.Open & write_expr e & symbol mark.Close) _ _
        (written_join end (symbol mark.Open) (write_expr e & symbol mark.Close) s r1 r3 w1 (written_join end (write_expr e) (symbol mark.Close) r1 r2 r3 h.written w3)))
        h.formed (omega (arith, height_join (write_expr e) (symbol mark.Close), fits))))))

    set_sound : (o : Opening) (s : List Placed) → SpotT o s → Hole d layout form write_factor (formed_factor d) o → o.depth + suc k ≡ levels → AnswerT (ReadsT write_factor (formed_factor d) (suc k) s) (set end child s)
    unfolding set
    set_sound o s spot hole deep =
        let here = begins_at d layout form end outer levels tokens spot hole nil_factor (formed_factor_nil d no_span) (subst (λ l. AreTokens d (tokens_of l)) (sym (write_factor_nil no_span)) (nil_known d, tt)) in
        answer_symbol d layout form end outer levels tokens mark.OpenBracket s spot here (λ _ r1 w1.
        let opened = within (within o node) (behind (symbol mark.OpenBracket)) in
        let spot2 = moved (symbol mark.OpenBracket) (entered node spot refl tt) w1 in
        let hole3 : Hole d layout form write_elems formed_elems (within opened (before (symbol mark.CloseBracket))) =
        record { at = λ xs ok. let (c, g, w) = hole.at (factor_.Set xs end) (formed_factor_set d xs end ∙ ok) in (c, g, w ∙ ap o.plug (write_factor_set xs end)) } in
        fair_then (elems_sound (within opened (before (symbol mark.CloseBracket))) r1 (entered (before (symbol mark.CloseBracket)) spot2 refl (bracket_known d, tt)) hole3 (omega (arith, deep))) (λ xs r2 h.
        let list = write_elems xs in
        let hole4 : Hole {A = Unit {0}} d layout form (λ _. symbol mark.CloseBracket) (λ _. true) (within opened (behind list)) = record { at = λ _ ok. hole3.at xs h.formed } in
        let spot4 = moved list spot2 h.written in
        answer_symbol d layout form end outer levels tokens mark.CloseBracket r2 spot4 (begins_at d layout form end outer levels tokens spot4 hole4 tt refl (bracket_known d, tt)) (λ _ r3 w3.
        let span = span_between end s r3 in let fits = h.fits in
        reads (factor_.Set xs span) r3 (reads_as d layout form end outer levels tokens known (write_factor_set xs span) (formed_factor_set d xs span)
        (written_both end (symbol mark.OpenBracket & list & symbol mark.CloseBracket) _ _
        (written_join end (symbol mark.OpenBracket) (list & symbol mark.CloseBracket) s r1 r3 w1 (written_join end list (symbol mark.CloseBracket) r1 r2 r3 h.written w3)))
        h.formed (omega (arith, height_join list (symbol mark.CloseBracket), fits))))))

    module _ (inner : Parser Placed Factor) (inner_good : GoodT write_factor (formed_factor d) k inner) where
      negation_sound : (o : Opening) (s : List Placed) → SpotT o s → Hole d layout form write_factor (formed_factor d) o → o.depth + suc k ≡ levels → begins (words word_.KwNot) s ≡ true → AnswerT (ReadsT write_factor (formed_factor d) (suc k) s) (negation end inner s)
      unfolding negation
      negation_sound o s spot hole deep test = answer_word d layout form end outer levels tokens word_.KwNot s test (λ _ r1 w1.
          let opened = within (within o node) (behind (word word_.KwNot)) in
          let hole2 : Hole d layout form write_factor (formed_factor d) opened = record { at = λ f ok. let (c, g, w) = hole.at (factor_.Not f end) (formed_factor_not d f end ∙ ok) in (c, g, w ∙ ap o.plug (write_factor_not f end)) } in
          fair_then (inner_good opened r1 (moved (word word_.KwNot) (entered node spot refl tt) w1) hole2 (omega (arith, deep))) (λ f r2 h.
          let span = span_between end s r2 in let fits = h.fits in
          reads (factor_.Not f span) r2 (reads_as d layout form end outer levels tokens known (write_factor_not f span) (formed_factor_not d f span)
          (written_both end (word word_.KwNot & write_factor f) _ _ (written_join end (word word_.KwNot) (write_factor f) s r1 r2 w1 h.written)) h.formed (omega (arith, fits)))))

      pub factor_by_sound : GoodT write_factor (formed_factor d) (suc k) (factor_by d end child inner)
      unfolding factor_by
      factor_by_sound o s spot hole deep =
          fair_either (begins identifiers s) (λ e. named_sound o s spot hole deep e)
          (λ _. fair_either (begins numbers s) (λ e. number_sound s e)
          (λ _. fair_either (begins texts s) (λ e. text_sound s e)
          (λ _. fair_either (begins (words word_.KwNil) s) (λ e. nil_sound s e)
          (λ _. fair_either (begins (symbols mark.Open) s) (λ e. group_sound o s spot hole deep e)
          (λ _. fair_either (begins (words word_.KwNot) s) (λ e. negation_sound o s spot hole deep e) (λ _. set_sound o s spot hole deep))))))

  -- ---- expressions

  expr_stops : GoodT write_expr (formed_expr d) 0 (expr d end 0)
  unfolding expr
  expr_stops o s spot hole deep =
      deep_at d layout form end outer levels tokens spot hole deep nil_expr (nil_expr_formed d) (nil_expr_known d)
      (subst (λ l. Contains (levels_of (outer + o.depth) (0 + length o.left) l) (0 + length o.left, outer + o.depth)) (sym nil_expr_written) (0, omega arith, refl))

  factor_stops : GoodT write_factor (formed_factor d) 0 (factor d end 0)
  unfolding factor
  factor_stops o s spot hole deep =
      deep_at d layout form end outer levels tokens spot hole deep nil_factor (formed_factor_nil d no_span) (subst (λ l. AreTokens d (tokens_of l)) (sym (write_factor_nil no_span)) (nil_known d, tt))
      (subst (λ l. Contains (levels_of (outer + o.depth) (0 + length o.left) l) (0 + length o.left, outer + o.depth)) (sym (write_factor_nil no_span)) (0, omega arith, refl))

  mutual
    unfolding expr factor

    pub expr_sound : (k : ℕ) → GoodT write_expr (formed_expr d) k (expr d end k)
    expr_sound zero = expr_stops
    expr_sound (suc k) = expr_by_sound d layout form end outer levels tokens known k (factor d end k) (factor_sound k)

    pub factor_sound : (k : ℕ) → GoodT write_factor (formed_factor d) k (factor d end k)
    factor_sound zero = factor_stops
    factor_sound (suc k) = factor_by_sound k (expr d end k) (expr_sound k) (factor d end k) (factor_sound k)
