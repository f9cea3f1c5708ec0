-- Places and arguments that are read.
use Rattle.std.proofs.Common.{◌≡◌, ℕ, ◌+◌, ◌≤◌, Bool, true, false, ◌&&◌, List, [], ◌∷◌, ◌++◌, map, Option, Some, None, Ok, refl, sym, ap, subst, ◌∙◌, arith}
use Rattle.std.specs.Prelude.{IsTrue}
use Rattle.p2c_text.specs.declared.dialect.Dialect.{Dialect}
use Rattle.p2c_text.specs.declared.place.Span.{Span}
use Rattle.dialect_lexer.specs.Dialects.{is_ucsd}
use Rattle.dialect_lexer.specs.declared.token.Word.TheVariants as word_
use Rattle.dialect_lexer.specs.declared.token.Symbol.{Symbol as SpecialSymbol}
use Rattle.dialect_lexer.specs.declared.token.Symbol.TheVariants as mark
use Rattle.pascal_tree.specs.declared.names.Identifier.{Identifier}
use Rattle.pascal_tree.specs.declared.expressions.Arg.{Arg}
use Rattle.pascal_tree.specs.declared.expressions.Arg.TheVariants as arg
use Rattle.pascal_tree.specs.declared.expressions.Expr.{Expr}
use Rattle.pascal_tree.specs.declared.expressions.Place.{Place}
use Rattle.pascal_tree.specs.declared.expressions.Selector.{Selector}
use Rattle.pascal_tree.specs.declared.expressions.Selector.TheVariants as selector
use Rattle.token_parsing.specs.Parser.{Outcome, Parser, and_then, begins}
use Rattle.token_parsing.proofs.Fair.{reads, fair_then, fair_either}
use Rattle.expr_parser.specs.Tokens.{Placed, plain}
use Rattle.expr_parser.specs.Spans.{span_between}
use Rattle.expr_parser.specs.Layout.{Layout, Done, ◌&◌, symbol, word, in_row, with_commas, tokens_of, height_of, IsWritten}
use Rattle.expr_parser.specs.Writing.{identifier, optional_after as write_after, write_arg, write_args, write_expr, write_place, write_selector}
use Rattle.expr_parser.specs.Grammar.{AreTokens, all, some_all, optional, formatted, formed_arg, formed_args, formed_expr, formed_place, formed_selector}
use Rattle.expr_parser.specs.Classes.{identifiers, words, symbols, expect}
use Rattle.expr_parser.specs.Places.{made, optional_after, next_expr, more_exprs, exprs, index, field, follow, selected, begins_selector, next_selector, selectors, place_of, place_from, place, value_arg, program_arg, begins_program, one_arg, next_arg, more_args, listed_args, args_of, args}
use Rattle.expr_parser.proofs.Layouts.{height_join, written_join}
use Rattle.expr_parser.proofs.WrittenNodes.{write_optional, write_place_of, write_args_of, write_selector_index, write_selector_field, write_selector_follow, write_arg_program, write_arg_value}
use Rattle.expr_parser.proofs.FormedNodes.{formed_optional, formed_place_of, formed_args_of, formed_selector_index, formed_selector_field, formed_selector_follow, formed_arg_program, formed_arg_value}
use Rattle.expr_parser.proofs.ClassTokens.{identifier_is}
use Rattle.expr_parser.proofs.KnownTokens.{name_known, bracket_known, close_known}
use Rattle.expr_parser.proofs.FollowedParts.{and_in, and_out}
use Rattle.expr_parser.proofs.Openings.{Opening, within, in_spanned, behind, before, Hole}
use Rattle.expr_parser.proofs.Spots.{Answer, Spot, Reads, Good, spot_behind, spot_within, begins_at}
use Rattle.expr_parser.proofs.SoundTokens.{written_node, written_name, answer_token, answer_symbol, answer_word, answer_mark}
use Rattle.expr_parser.proofs.SoundLists.{listed, Pushed, row_sound, list_sound}
use Rattle.expr_parser.proofs.SoundTerms.{reads_as}

-- ---- a place that may stand where one is wanted

abbrev pub a_name : Identifier
a_name = record { name = 97 ∷ []; span = record { file = 0; start = 0; end = 0; line = 0 } }

abbrev pub a_place : Place
a_place = place_of a_name [] a_name.span

pub a_place_formed : (d : Dialect) → IsTrue (formed_place d a_place)
a_place_formed d = formed_place_of d a_name [] a_name.span

pub a_place_known : (d : Dialect) → AreTokens d (tokens_of (write_place a_place))
a_place_known d = subst (λ l. AreTokens d (tokens_of l)) (sym (write_place_of a_name [] a_name.span)) (name_known d, tt)

module _ (d : Dialect) {C : Type 0} (layout : C → Layout) (form : C → Bool) (end : Span) (outer levels : ℕ) (tokens : List Placed) (known : AreTokens d (plain tokens)) where
  abbrev AnswerT : {A : Type 0} → (A → List Placed → Type 0) → Outcome Placed A → Type 0
  AnswerT P o = Answer d layout form end outer levels tokens P o

  abbrev SpotT : Opening → List Placed → Type 0
  SpotT o s = Spot d layout form end outer levels tokens o s

  abbrev ReadsT : {A : Type 0} → (A → Layout) → (A → Bool) → ℕ → List Placed → A → List Placed → Type 0
  ReadsT write formed k s a r = Reads d layout form end outer levels tokens write formed k s a r

  abbrev GoodT : {A : Type 0} → (A → Layout) → (A → Bool) → ℕ → Parser Placed A → Type 0
  GoodT write formed k p = Good d layout form end outer levels tokens write formed k p

  abbrev moved : {o : Opening} {s r : List Placed} (l : Layout) → SpotT o s → IsWritten end l s r → SpotT (within o (behind l)) r
  moved l spot w = spot_behind d layout form end outer levels tokens known l spot w

  abbrev entered : {o : Opening} {s : List Placed} (p : Opening) → SpotT o s → p.left ≡ [] → AreTokens d p.right → SpotT (within o p) s
  entered p spot none closing = spot_within d layout form end outer levels tokens p spot none closing

  module _ (k : ℕ) (child : Parser Placed Expr) (good : GoodT write_expr (formed_expr d) k child) where
    -- ---- [mark Expr]

    abbrev pub write_opt : SpecialSymbol → Option Expr → Layout
    write_opt m e = write_after m (write_optional e)

    abbrev pub formed_opt : Option Expr → Bool
    formed_opt e = optional (formed_optional d e)

    pub record ReadsOptional (m : SpecialSymbol) (s : List Placed) (a : Option Expr) (r : List Placed) : Type 0 where
      pub is : ReadsT (write_opt m) formed_opt k s a r
      pub none : a ≡ None → begins (symbols m) r ≡ false

    pub optional_sound : (m : SpecialSymbol) (o : Opening) (s : List Placed) → SpotT o s → Hole d layout form (write_opt m) formed_opt o → o.depth + k ≡ levels → AnswerT (ReadsOptional m s) (optional_after m child s)
    unfolding optional_after
    optional_sound m o s spot hole deep = fair_either (begins (symbols m) s)
        (λ test. answer_mark d layout form end outer levels tokens m s test (λ _ r w1.
        let hole1 : Hole d layout form write_expr (formed_expr d) (within o (behind (symbol m))) = record { at = λ e ok. hole.at (Some e) ok } in
        fair_then (good (within o (behind (symbol m))) r (moved (symbol m) spot w1) hole1 (omega (arith, deep))) (λ e r2 h.
        let fits = h.fits in
        reads (Some e) r2 (record { is = record { written = written_join end (symbol m) (write_expr e) s r r2 w1 h.written; formed = h.formed; fits = fits }; none = λ e. absurd cc }))))
        (λ test. reads None s (record { is = record { written = refl; formed = refl; fits = omega arith }; none = λ _. test }))

    optional_absent : (m : SpecialSymbol) (s : List Placed) → begins (symbols m) s ≡ false → ◌≡◌ {A = Outcome Placed (Option Expr)} (optional_after m child s) (Ok (None, s))
    unfolding optional_after
    optional_absent m s test = by (begins (symbols m) s) test
      where
        by : (b : Bool) → b ≡ false → ◌≡◌ {A = Outcome Placed (Option Expr)} (elim b [ true ↦ and_then (expect m s) (λ _ s. and_then (child s) (λ e s. Ok (Some e, s))) | false ↦ Ok (None, s) ]) (Ok (None, s))
        by true e = absurd cc
        by false e = refl

    -- ---- selectors

    index_sound : (o : Opening) (s : List Placed) → SpotT o s → Hole d layout form write_selector (formed_selector d) o → o.depth + k ≡ levels → begins (symbols mark.OpenBracket) s ≡ true → AnswerT (ReadsT write_selector (formed_selector d) k s) (index end child s)
    unfolding index exprs more_exprs next_expr
    index_sound o s spot hole deep test =
        let inside = within o (in_spanned end) in
        let spot1 = entered (in_spanned end) spot refl tt in
        answer_mark d layout form end outer levels tokens mark.OpenBracket s test (λ _ r1 w1.
        let opened = within inside (behind (symbol mark.OpenBracket)) in
        let spot2 = moved (symbol mark.OpenBracket) spot1 w1 in
        let hole3 : Hole d layout form (λ p. with_commas (map write_expr (listed p))) (λ p. some_all (map (formed_expr d) (listed p))) (within opened (before (symbol mark.CloseBracket))) =
        record { at = λ p ok. let (c, g, w) = hole.at (selector.Index (listed p) end) (formed_selector_index d (listed p) end ∙ ok) in (c, g, w ∙ ap o.plug (write_selector_index (listed p) end)) } in
        fair_then (list_sound d layout form end outer levels tokens known write_expr (formed_expr d) k child good (within opened (before (symbol mark.CloseBracket))) r1 (entered (before (symbol mark.CloseBracket)) spot2 refl (bracket_known d, tt)) hole3 (omega (arith, deep))) (λ all r2 h.
        let p : Expr × List Expr = (h.first, h.others) in
        let list = with_commas (map write_expr (listed p)) in
        let hole4 : Hole {A = Unit {0}} d layout form (λ _. symbol mark.CloseBracket) (λ _. true) (within opened (behind list)) = record { at = λ _ ok. hole3.at p h.reads.formed } in
        let spot4 = moved list spot2 h.reads.written in
        subst (λ z. AnswerT (ReadsT write_selector (formed_selector d) k s) (and_then (expect mark.CloseBracket r2) (λ _. made end s (selector.Index z)))) (sym h.is)
        (answer_symbol d layout form end outer levels tokens mark.CloseBracket r2 spot4 (begins_at d layout form end outer levels tokens spot4 hole4 tt refl (bracket_known d, tt)) (λ _ r3 w3.
        let span = span_between end s r3 in let fits = h.reads.fits in
        reads (selector.Index (listed p) span) r3 (reads_as d layout form end outer levels tokens known (write_selector_index (listed p) span) (formed_selector_index d (listed p) span)
        (written_node end (symbol mark.OpenBracket & list & symbol mark.CloseBracket) _ _ (written_join end (symbol mark.OpenBracket) (list & symbol mark.CloseBracket) s r1 r3 w1 (written_join end list (symbol mark.CloseBracket) r1 r2 r3 h.reads.written w3)))
        h.reads.formed (omega (arith, height_join list (symbol mark.CloseBracket), fits)))))))

    field_sound : (o : Opening) (s : List Placed) → SpotT o s → Hole d layout form write_selector (formed_selector d) o → begins (symbols mark.Dot) s ≡ true → AnswerT (ReadsT write_selector (formed_selector d) k s) (field end s)
    unfolding field
    field_sound o s spot hole test =
        let inside = within o (in_spanned end) in
        let spot1 = entered (in_spanned end) spot refl tt in
        answer_mark d layout form end outer levels tokens mark.Dot s test (λ _ r1 w1.
        let hole2 : Hole d layout form identifier (λ _. true) (within inside (behind (symbol mark.Dot))) =
        record { at = λ i ok. let (c, g, w) = hole.at (selector.Field i end) (formed_selector_field d i end) in (c, g, w ∙ ap o.plug (write_selector_field i end)) } in
        let spot2 = moved (symbol mark.Dot) spot1 w1 in
        answer_token d layout form end outer levels tokens identifiers r1 spot2 (begins_at d layout form end outer levels tokens spot2 hole2 (record { name = 97 ∷ []; span = end }) refl (name_known d, tt)) (λ t i r2 is e.
        let span = span_between end s r2 in
        reads (selector.Field i span) r2 (reads_as d layout form end outer levels tokens known (write_selector_field i span) (formed_selector_field d i span)
        (written_node end (symbol mark.Dot & identifier i) _ _ (written_join end (symbol mark.Dot) (identifier i) s r1 r2 w1 (written_name end i t r2 e (identifier_is t.token t.span i is)))) refl (omega arith))))

    follow_sound : (s : List Placed) → begins (symbols mark.Caret) s ≡ true → AnswerT (ReadsT write_selector (formed_selector d) k s) (follow end s)
    unfolding follow
    follow_sound s test = answer_mark d layout form end outer levels tokens mark.Caret s test (λ _ r w1.
        let span = span_between end s r in
        reads (selector.Follow span) r (reads_as d layout form end outer levels tokens known (write_selector_follow span) (formed_selector_follow d span) (written_node end (symbol mark.Caret) _ _ w1) refl (omega arith)))

    selected_sound : (o : Opening) (s : List Placed) → SpotT o s → Hole d layout form write_selector (formed_selector d) o → o.depth + k ≡ levels → begins_selector s ≡ true → AnswerT (ReadsT write_selector (formed_selector d) k s) (selected end child s)
    unfolding selected
    selected_sound o s spot hole deep test =
        fair_either (begins (symbols mark.Dot) s) (λ e. field_sound o s spot hole e)
        (λ e. fair_either (begins (symbols mark.Caret) s) (λ f. follow_sound s f)
        (λ f. index_sound o s spot hole deep (third (begins (symbols mark.Dot) s) (begins (symbols mark.Caret) s) (begins (symbols mark.OpenBracket) s) test e f)))
      where
        third : (a b c : Bool) → elim a [ true ↦ true | false ↦ elim b [ true ↦ true | false ↦ c ] ] ≡ true → a ≡ false → b ≡ false → c ≡ true
        third true b c h e f = absurd cc
        third false true c h e f = absurd cc
        third false false c h e f = h

    next_selector_sound : (found : List Selector) (o : Opening) (s : List Placed) → SpotT o s → Hole d layout form write_selector (formed_selector d) o → o.depth + k ≡ levels → begins_selector s ≡ true
        → AnswerT (Pushed d layout form end outer levels tokens known write_selector (formed_selector d) k found s) (next_selector end child found s)
    unfolding next_selector
    next_selector_sound found o s spot hole deep test = fair_then (selected_sound o s spot hole deep test) (λ x r h. reads (found ++ x ∷ []) r (x, refl, h))

    -- the place that begins with a name that was read
    pub place_from_sound : (o : Opening) (from : List Placed) → SpotT o from → Hole d layout form write_place (formed_place d) o → o.depth + k ≡ levels → (i : Identifier) (s : List Placed) → IsWritten end (identifier i) from s
        → AnswerT (ReadsT write_place (formed_place d) k from) (place_from end child from i s)
    unfolding place_from selectors
    place_from_sound o from spot hole deep i s w0 =
        let named = within (within o (in_spanned end)) (behind (identifier i)) in
        let spot1 = moved (identifier i) (entered (in_spanned end) spot refl tt) w0 in
        let hole1 : Hole d layout form (λ xs. in_row (map write_selector xs)) (λ xs. all (map (formed_selector d) xs)) named =
        record { at = λ xs ok. let (c, g, w) = hole.at (place_of i xs end) (formed_place_of d i xs end ∙ ok) in (c, g, w ∙ ap o.plug (write_place_of i xs end)) } in
        fair_then (row_sound d layout form end outer levels tokens known write_selector (formed_selector d) k begins_selector (next_selector end child) next_selector_sound named s spot1 hole1 (omega (arith, deep))) (λ xs r h.
        let span = span_between end from r in let fits = h.fits in
        reads (place_of i xs span) r (reads_as d layout form end outer levels tokens known (write_place_of i xs span) (formed_place_of d i xs span)
        (written_node end (identifier i & in_row (map write_selector xs)) _ _ (written_join end (identifier i) (in_row (map write_selector xs)) from s r w0 h.written)) h.formed (omega (arith, fits))))

    pub place_sound : GoodT write_place (formed_place d) k (place end child)
    unfolding place
    place_sound o s spot hole deep =
        answer_token d layout form end outer levels tokens identifiers s spot (begins_at d layout form end outer levels tokens spot hole a_place (a_place_formed d) (a_place_known d))
        (λ t i r is e. place_from_sound o s spot hole deep i r (written_name end i t r e (identifier_is t.token t.span i is)))

    -- ---- arguments

    format_none : (w : Option Expr) → IsTrue (formed_opt w) → IsTrue (formatted (formed_optional d w) None)
    format_none None ok = refl
    format_none (Some x) ok = and_in (formed_expr d x) true ok refl

    abbrev write_value : Expr → Option Expr → Option Expr → Layout
    write_value v w x = write_expr v & write_opt mark.Colon w & write_opt mark.Colon x

    abbrev formed_value : Expr → Option Expr → Option Expr → Bool
    formed_value v w x = formed_expr d v && formatted (formed_optional d w) (formed_optional d x)

    -- a value with its width and decimals, of which the last were just read
    value_made : (s : List Placed) (v : Expr) (w x : Option Expr) (r : List Placed) → IsWritten end (write_value v w x) s r → IsTrue (formed_value v w x) → height_of (write_value v w x) ≤ k → ReadsT write_arg (formed_arg d) k s (arg.Value v w x (span_between end s r)) r
    value_made s v w x r written formed fits =
        let span = span_between end s r in
        reads_as d layout form end outer levels tokens known (write_arg_value v w x span) (formed_arg_value d v w x span) (written_node end (write_value v w x) _ _ written) formed (omega (arith, fits))

    -- behind a value
    abbrev valued : Opening → Expr → Opening
    valued o v = within (within o (in_spanned end)) (behind (write_expr v))

    decimals_sound : (o : Opening) (s r : List Placed) → Hole d layout form write_arg (formed_arg d) o → o.depth + k ≡ levels → (v : Expr) → ReadsT write_expr (formed_expr d) k s v r → SpotT (valued o v) r → (w : Option Expr) (r1 : List Placed)
        → ReadsOptional mark.Colon r w r1 → AnswerT (ReadsT write_arg (formed_arg d) k s) (and_then (optional_after mark.Colon child r1) (λ x. made end s (arg.Value v w x)))
    decimals_sound o s r hole deep v h spot None r1 g =
        let a = h.fits in
        subst (λ z. AnswerT (ReadsT write_arg (formed_arg d) k s) (and_then z (λ x. made end s (arg.Value v None x)))) (sym (optional_absent mark.Colon r1 (g.none refl)))
        (reads (arg.Value v None None (span_between end s r1)) r1
        (value_made s v None None r1 (written_join end (write_expr v) Done s r r1 h.written g.is.written) (and_in (formed_expr d v) true h.formed refl) (omega (arith, height_join (write_expr v) Done, a))))
    decimals_sound o s r hole deep v h spot (Some y) r1 g =
        let first = write_opt mark.Colon (Some y) in
        let hole1 : Hole d layout form (write_opt mark.Colon) formed_opt (within (valued o v) (behind first)) =
        record { at = λ x ok. let (c, f, e) = hole.at (arg.Value v (Some y) x end) (formed_arg_value d v (Some y) x end ∙ and_in (formed_expr d v) _ h.formed (and_in (formed_expr d y) _ g.is.formed ok)) in (c, f, e ∙ ap o.plug (write_arg_value v (Some y) x end)) } in
        fair_then (optional_sound mark.Colon (within (valued o v) (behind first)) r1 (moved first spot g.is.written) hole1 (omega (arith, deep))) (λ x r2 q.
        let last = write_opt mark.Colon x in
        let a = h.fits in let b = g.is.fits in let c = q.is.fits in
        reads (arg.Value v (Some y) x (span_between end s r2)) r2
        (value_made s v (Some y) x r2 (written_join end (write_expr v) (first & last) s r r2 h.written (written_join end first last r r1 r2 g.is.written q.is.written))
        (and_in (formed_expr d v) _ h.formed (and_in (formed_expr d y) _ g.is.formed q.is.formed)) (omega (arith, height_join (write_expr v) (first & last), height_join first last, a, b, c))))

    value_sound : GoodT write_arg (formed_arg d) k (value_arg end child)
    unfolding value_arg
    value_sound o s spot hole deep =
        let inside = within o (in_spanned end) in
        let spot1 = entered (in_spanned end) spot refl tt in
        let hole1 : Hole d layout form write_expr (formed_expr d) (within inside (before Done)) =
        record { at = λ v ok. let (c, g, e) = hole.at (arg.Value v None None end) (formed_arg_value d v None None end ∙ and_in (formed_expr d v) true ok refl) in (c, g, e ∙ ap o.plug (write_arg_value v None None end)) } in
        fair_then (good (within inside (before Done)) s (entered (before Done) spot1 refl tt) hole1 (omega (arith, deep))) (λ v r h.
        let hole2 : Hole d layout form (write_opt mark.Colon) formed_opt (within (valued o v) (before Done)) =
        record { at = λ w ok. let (c, g, e) = hole.at (arg.Value v w None end) (formed_arg_value d v w None end ∙ and_in (formed_expr d v) _ h.formed (format_none w ok)) in (c, g, e ∙ ap o.plug (write_arg_value v w None end)) } in
        let spot2 = moved (write_expr v) spot1 h.written in
        fair_then (optional_sound mark.Colon (within (valued o v) (before Done)) r (entered (before Done) spot2 refl tt) hole2 (omega (arith, deep))) (λ w r1 g. decimals_sound o s r hole deep v h spot2 w r1 g))

    arg_sound : GoodT write_arg (formed_arg d) k (one_arg d end child)
    unfolding one_arg program_arg
    arg_sound o s spot hole deep = fair_either (begins_program d s)
        (λ test. let both = and_out (is_ucsd d) (begins (words word_.KwProgram) s) test in answer_word d layout form end outer levels tokens word_.KwProgram s both.1 (λ _ r w.
        let span = span_between end s r in
        reads (arg.Program span) r (reads_as d layout form end outer levels tokens known (write_arg_program span) (formed_arg_program d span) (written_node end (word word_.KwProgram) _ _ w) both.0 (omega arith))))
        (λ test. value_sound o s spot hole deep)

    -- arguments of which the parenthesis is there
    pub args_sound : (o : Opening) (s : List Placed) → SpotT o s → Hole d layout form write_args (formed_args d) o → o.depth + k ≡ levels → begins (symbols mark.Open) s ≡ true → AnswerT (ReadsT write_args (formed_args d) k s) (args d end child s)
    unfolding args listed_args more_args next_arg
    args_sound o s spot hole deep test =
        let inside = within o (in_spanned end) in
        let spot1 = entered (in_spanned end) spot refl tt in
        answer_mark d layout form end outer levels tokens mark.Open s test (λ _ r1 w1.
        let opened = within inside (behind (symbol mark.Open)) in
        let spot2 = moved (symbol mark.Open) spot1 w1 in
        let hole3 : Hole d layout form (λ p. with_commas (map write_arg (listed p))) (λ p. some_all (map (formed_arg d) (listed p))) (within opened (before (symbol mark.Close))) =
        record { at = λ p ok. let (c, g, w) = hole.at (args_of (listed p) end) (formed_args_of d (listed p) end ∙ ok) in (c, g, w ∙ ap o.plug (write_args_of (listed p) end)) } in
        fair_then (list_sound d layout form end outer levels tokens known write_arg (formed_arg d) k (one_arg d end child) arg_sound (within opened (before (symbol mark.Close))) r1 (entered (before (symbol mark.Close)) spot2 refl (close_known d, tt)) hole3 (omega (arith, deep))) (λ all r2 h.
        let p : Arg × List Arg = (h.first, h.others) in
        let list = with_commas (map write_arg (listed p)) in
        let hole4 : Hole {A = Unit {0}} d layout form (λ _. symbol mark.Close) (λ _. true) (within opened (behind list)) = record { at = λ _ ok. hole3.at p h.reads.formed } in
        let spot4 = moved list spot2 h.reads.written in
        subst (λ z. AnswerT (ReadsT write_args (formed_args d) k s) (and_then (expect mark.Close r2) (λ _. made end s (args_of z)))) (sym h.is)
        (answer_symbol d layout form end outer levels tokens mark.Close r2 spot4 (begins_at d layout form end outer levels tokens spot4 hole4 tt refl (close_known d, tt)) (λ _ r3 w3.
        let span = span_between end s r3 in let fits = h.reads.fits in
        reads (args_of (listed p) span) r3 (reads_as d layout form end outer levels tokens known (write_args_of (listed p) span) (formed_args_of d (listed p) span)
        (written_node end (symbol mark.Open & list & symbol mark.Close) _ _ (written_join end (symbol mark.Open) (list & symbol mark.Close) s r1 r3 w1 (written_join end list (symbol mark.Close) r1 r2 r3 h.reads.written w3)))
        h.reads.formed (omega (arith, height_join list (symbol mark.Close), fits)))))))
