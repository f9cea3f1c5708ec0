-- The statement `case` that is read.
use Rattle.std.proofs.Common.{◌≡◌, ℕ, ◌+◌, ◌≤◌, pos, Bool, true, false, ◌&&◌, not, List, [], ◌∷◌, map, Option, Some, None, refl, sym, ap, subst, ◌∙◌, arith}
use Rattle.std.specs.Prelude.{IsTrue}
use Rattle.p2c_text.specs.declared.dialect.Dialect.{Dialect}
use Rattle.p2c_text.specs.declared.dialect.Dialect.TheVariants as dialect
use Rattle.p2c_text.specs.declared.place.Span.{Span}
use Rattle.dialect_lexer.specs.Dialects.{is_turbo}
use Rattle.dialect_lexer.specs.declared.token.Word.TheVariants as word_
use Rattle.dialect_lexer.specs.declared.token.Symbol.TheVariants as mark
use Rattle.pascal_tree.specs.declared.constants.Constant.TheVariants as a_constant
use Rattle.pascal_tree.specs.declared.constants.CaseLabel.{CaseLabel}
use Rattle.pascal_tree.specs.declared.expressions.Expr.{Expr}
use Rattle.pascal_tree.specs.declared.statements.Arm.{Arm}
use Rattle.pascal_tree.specs.declared.statements.Plain.{Plain}
use Rattle.pascal_tree.specs.declared.statements.Plain.TheVariants as plain_
use Rattle.pascal_tree.specs.declared.statements.Rest.{Rest}
use Rattle.pascal_tree.specs.declared.statements.Stmt.{Stmt}
use Rattle.token_parsing.specs.Parser.{Outcome, Parser, begins, rest}
use Rattle.token_parsing.proofs.Fair.{reads, fair_then, fair_either}
use Rattle.expr_parser.specs.Tokens.{Placed, plain}
use Rattle.expr_parser.specs.Spans.{span_between}
use Rattle.expr_parser.specs.Layout.{Layout, Done, ◌&◌, word, symbol, spanned, with_commas, tokens_of, height_of, IsWritten}
use Rattle.expr_parser.specs.Semicolons.{optional_semicolon as write_semicolon, with_semicolons}
use Rattle.expr_parser.specs.Writing.{write_expr}
use Rattle.expr_parser.specs.Grammar.{AreTokens, all, some_all, formed_expr}
use Rattle.expr_parser.specs.Dialects.{has_rest}
use Rattle.expr_parser.specs.Constants.{begins_constant, case_label_of}
use Rattle.expr_parser.specs.ConstantNodes.{write_case_label, formed_case_label}
use Rattle.expr_parser.specs.Classes.{words, symbols}
use Rattle.expr_parser.proofs.Layouts.{height_join, written_join}
use Rattle.expr_parser.proofs.KnownTokens.{number_known, colon_known, of_known, end_known}
use Rattle.expr_parser.proofs.FollowedParts.{and_in, and_out}
use Rattle.expr_parser.proofs.Openings.{Opening, within, in_spanned, behind, before, Filled, filled_as, Hole}
use Rattle.expr_parser.proofs.Spots.{Answer, Spot, Reads, Good, are_joined, spot_behind, spot_within, begins_at}
use Rattle.expr_parser.proofs.SoundTokens.{written_node, answer_symbol, answer_word, answer_mark}
use Rattle.expr_parser.proofs.SoundLists.{listed}
use Rattle.expr_parser.proofs.SoundConstants.{case_labels_sound}
use Rattle.stmt_parser.specs.Writing.{rest_word, write_plain, write_arm, write_rest, write_stmt}
use Rattle.stmt_parser.specs.Grammar.{Formed, alone, some_alone, some_up_to, cases, formed_plain, formed_arm, formed_rest, formed_stmt}
use Rattle.stmt_parser.specs.Cases.{arm_of, arm, next_arm, begins_next_arm, more_arms, arms, optional_semicolon, rest_of, rest_part, begins_rest, optional_rest, case_of}
use Rattle.stmt_parser.proofs.WrittenStatements.{write_rest_part, write_arm_of, write_rest_of, write_case_of}
use Rattle.stmt_parser.proofs.FormedStatements.{formed_rest_part, formed_arm_of, formed_rest_of, formed_case_of}
use Rattle.stmt_parser.proofs.SoundRows.{else_next, ReadsOne, one_as, GoodOne, rows_sound}
use Rattle.stmt_parser.proofs.SoundStatements.{empty, empty_written, empty_formed, empty_known, StmtGood, answer_wanted, plain_as, between_sound, stmts_sound}
use Rattle.expr_parser.proofs.SoundFactors.{no_span}

-- ---- an arm that may stand where one is wanted

abbrev a_label : CaseLabel
a_label = case_label_of (a_constant.Number None (pos 1) no_span) None no_span

abbrev an_arm : Arm
an_arm = arm_of (a_label ∷ []) empty no_span

an_arm_formed : (d : Dialect) → IsTrue (alone (formed_arm d an_arm))
an_arm_formed d = formed_arm_of d (a_label ∷ []) empty no_span false ∙ and_in true (alone (formed_stmt d empty)) refl (empty_formed d false)

an_arm_known : (d : Dialect) → AreTokens d (tokens_of (write_arm d an_arm))
an_arm_known d =
    subst (λ l. AreTokens d (tokens_of l)) (sym (write_arm_of d (a_label ∷ []) empty no_span ∙ ap (λ l. spanned no_span (with_commas (write_case_label a_label ∷ []) & symbol mark.Colon & l)) (empty_written d))) (number_known d, (colon_known d, tt))

-- ---- what is formed

-- items of which no `else` follows one
alone_up_to : (parts : List Formed) → IsTrue (some_alone parts) → IsTrue (some_up_to parts false)
alone_up_to [] h = h
alone_up_to (x ∷ []) h = (and_out (alone x) true h).0
alone_up_to (x ∷ y ∷ more) h = let both = and_out (alone x) (all (map alone (y ∷ more))) h in and_in (alone x) (some_up_to (y ∷ more) false) both.0 (alone_up_to (y ∷ more) both.1)

-- the arms before what is done without a matching label
arms_before : (d : Dialect) (end : Span) (parts : List Formed) (closed : Bool) (s r : List Placed) → IsTrue (some_alone parts) → (else_next s ≡ true → IsTrue (some_up_to parts true)) → IsWritten end (write_semicolon closed) s r
    → begins (words (rest_word d)) r ≡ true → IsTrue (some_up_to parts (is_turbo d && not closed))
arms_before dialect.Turbo end parts true s r h k w e = alone_up_to parts h
arms_before dialect.Turbo end parts false s r h k w e = k (ap else_next w ∙ e)
arms_before dialect.Iso end parts closed s r h k w e = alone_up_to parts h
arms_before dialect.Ucsd end parts closed s r h k w e = alone_up_to parts h
arms_before dialect.Hp end parts closed s r h k w e = alone_up_to parts h

module _ (d : Dialect) {C : Type 0} (layout : C → Layout) (form : C → Bool) (end : Span) (outer levels : ℕ) (tokens : List Placed) (known : AreTokens d (plain tokens)) (k : ℕ) where
  abbrev AnswerT : {A : Type 0} → (A → List Placed → Type 0) → Outcome Placed A → Type 0
  AnswerT P o = Answer d layout form end outer levels tokens P o

  abbrev SpotT : Opening → List Placed → Type 0
  SpotT o s = Spot d layout form end outer levels tokens o s

  abbrev moved : {o : Opening} {s r : List Placed} (l : Layout) → SpotT o s → IsWritten end l s r → SpotT (within o (behind l)) r
  moved l spot w = spot_behind d layout form end outer levels tokens known l spot w

  abbrev entered : {o : Opening} {s : List Placed} (p : Opening) → SpotT o s → p.left ≡ [] → AreTokens d p.right → SpotT (within o p) s
  entered p spot none closing = spot_within d layout form end outer levels tokens p spot none closing

  abbrev PlainReads : List Placed → Plain → List Placed → Type 0
  PlainReads s p r = ReadsOne d layout form end outer levels tokens known (write_plain d) (formed_plain d) k s p r

  abbrev PlainHole : Opening → Type 0
  PlainHole o = Hole d layout form (write_plain d) (λ p. alone (formed_plain d p)) o

  abbrev inside : Opening → Opening
  inside o = within o (in_spanned end)

  closed_sound : (s : List Placed) → AnswerT (λ closed r. IsWritten end (write_semicolon closed) s r) (optional_semicolon s)
  unfolding optional_semicolon
  closed_sound s = fair_either (begins (symbols mark.Semicolon) s) (λ test. answer_mark d layout form end outer levels tokens mark.Semicolon s test (λ _ r w. reads true r w)) (λ _. reads false s refl)

  module _ (child : Parser Placed Expr) (good : Good d layout form end outer levels tokens write_expr (formed_expr d) k child) (inner : Parser Placed Stmt) (inner_good : StmtGood d layout form end outer levels tokens known k inner) where
    arm_sound : GoodOne d layout form end outer levels tokens known (write_arm d) (formed_arm d) k (arm d end inner)
    unfolding arm
    arm_sound o s spot hole deep =
        let write_labels : CaseLabel × List CaseLabel → Layout = λ p. with_commas (map write_case_label (listed p)) in
        let formed_labels : CaseLabel × List CaseLabel → Bool = λ p. some_all (map (formed_case_label d) (listed p)) in
        let filled : (p : CaseLabel × List CaseLabel) (x : Stmt) → IsTrue (formed_labels p) → IsTrue (alone (formed_stmt d x)) → Filled layout form (o.plug (spanned end (write_labels p & symbol mark.Colon & write_stmt d x))) =
        λ p x ok ok2. filled_as layout form (ap o.plug (write_arm_of d (listed p) x end)) (hole.at (arm_of (listed p) x end) (formed_arm_of d (listed p) x end false ∙ and_in (formed_labels p) (alone (formed_stmt d x)) ok ok2)) in
        let body = symbol mark.Colon & write_stmt d empty in
        let body_known : AreTokens d (tokens_of body) = (colon_known d, empty_known d) in
        let spot0 = entered (in_spanned end) spot refl tt in
        let hole1 : Hole d layout form write_labels formed_labels (within (inside o) (before body)) = record { at = λ p ok. filled p empty ok (empty_formed d false) } in
        fair_then (case_labels_sound d layout form end outer levels tokens known k (within (inside o) (before body)) s (entered (before body) spot0 refl body_known) hole1 (omega (arith, deep))) (λ ls r1 h.
        let p : CaseLabel × List CaseLabel = (h.first, h.others) in
        let labels = with_commas (map write_case_label (listed p)) in
        let o2 = within (inside o) (behind labels) in
        let spot2 = moved labels spot0 h.reads.written in
        let hole2 : Hole {A = Stmt} d layout form (λ x. symbol mark.Colon & write_stmt d x) (λ x. alone (formed_stmt d x)) o2 = record { at = λ x ok. filled p x h.reads.formed ok } in
        answer_symbol d layout form end outer levels tokens mark.Colon r1 spot2 (begins_at d layout form end outer levels tokens spot2 hole2 empty (empty_formed d false) body_known) (λ _ r2 w2.
        let o3 = within o2 (behind (symbol mark.Colon)) in
        let hole3 : Hole d layout form (write_stmt d) (λ x. alone (formed_stmt d x)) o3 = record { at = λ x ok. hole2.at x ok } in
        fair_then (inner_good o3 r2 (moved (symbol mark.Colon) spot2 w2) hole3 (omega (arith, deep))) (λ x r3 g.
        let span = span_between end s r3 in let u = write_stmt d x in let f1 = h.reads.fits in let f2 = g.fits in
        reads (arm_of ls x span) r3 (subst (λ z. ReadsOne d layout form end outer levels tokens known (write_arm d) (formed_arm d) k s (arm_of z x span) r3) (sym h.is)
        (one_as d layout form end outer levels tokens known (write_arm d) (formed_arm d) k (write_arm_of d (listed p) x span) (λ f. formed_arm_of d (listed p) x span f)
        (written_node end (labels & symbol mark.Colon & u) _ _ (written_join end labels (symbol mark.Colon & u) s r1 r3 h.reads.written (written_join end (symbol mark.Colon) u r1 r2 r3 w2 g.written)))
        (and_in (some_all (map (formed_case_label d) (listed p))) _ h.reads.formed g.formed_alone) (λ next. and_in (some_all (map (formed_case_label d) (listed p))) _ h.reads.formed (g.before_else next))
        (omega (arith, height_join labels (symbol mark.Colon & u), f1, f2)))))))

    abbrev write_row : Stmt × List Stmt → Layout
    write_row p = with_semicolons (map (write_stmt d) (listed p))

    abbrev RestReads : List Placed → Rest → List Placed → Type 0
    RestReads s x r = Reads d layout form end outer levels tokens (write_rest d) (λ x. alone (formed_rest d x)) k s x r

    rest_sound : (o : Opening) (s : List Placed) → SpotT o s → Hole d layout form (write_rest d) (λ x. alone (formed_rest d x)) o → o.depth + k ≡ levels → begins (words (rest_word d)) s ≡ true → AnswerT (RestReads s) (rest_part d end inner s)
    unfolding rest_part
    rest_sound o s spot hole deep test = answer_word d layout form end outer levels tokens (rest_word d) s test (λ _ r1 w1.
        let opened = within (inside o) (behind (word (rest_word d))) in
        let spot1 = moved (word (rest_word d)) (entered (in_spanned end) spot refl tt) w1 in
        let hole1 : Hole d layout form write_row (λ p. some_alone (map (formed_stmt d) (listed p))) opened =
        record { at = λ p ok. filled_as layout form (ap o.plug (write_rest_of d (listed p) end)) (hole.at (rest_of (listed p) end) (formed_rest_of d (listed p) end false ∙ ok)) } in
        fair_then (stmts_sound d layout form end outer levels tokens known k child good inner inner_good opened r1 spot1 hole1 (omega (arith, deep))) (λ ys r2 h.
        let p : Stmt × List Stmt = (h.first, h.others) in
        let span = span_between end s r2 in let list = write_row p in let fits = h.fits in
        let is = write_rest_of d (listed p) span in
        reads (rest_of ys span) r2 (subst (λ z. RestReads s (rest_of z span) r2) (sym h.is) (record {
          written = subst (λ l. IsWritten end l s r2) (sym is) (written_node end (word (rest_word d) & list) _ _ (written_join end (word (rest_word d)) list s r1 r2 w1 h.written));
          formed = formed_rest_of d (listed p) span false ∙ h.formed_alone;
          fits = subst (λ l. height_of l ≤ k) (sym is) (omega (arith, fits));
        }))))

    -- where one was read, it was next
    abbrev RestFormed : List Placed → Option Rest → Type 0
    RestFormed s None = Unit {0}
    RestFormed s (Some x) = (begins_rest d s ≡ true) × IsTrue (alone (formed_rest d x))

    record ReadsRest (s : List Placed) (x : Option Rest) (r : List Placed) : Type 0 where
      pub written : IsWritten end (write_rest_part d x) s r
      pub formed : RestFormed s x
      pub fits : height_of (write_rest_part d x) ≤ k

    optional_rest_sound : (o : Opening) (s : List Placed) → SpotT o s → (begins_rest d s ≡ true → Hole d layout form (write_rest d) (λ x. alone (formed_rest d x)) o) → o.depth + k ≡ levels → AnswerT (ReadsRest s) (optional_rest d end inner s)
    unfolding optional_rest
    optional_rest_sound o s spot hole deep = fair_either (begins_rest d s)
        (λ test. fair_then (rest_sound o s spot (hole test) deep (and_out (has_rest d) (begins (words (rest_word d)) s) test).1) (λ x r h. reads (Some x) r (record { written = h.written; formed = (test, h.formed); fits = h.fits })))
        (λ none. reads None s (record { written = refl; formed = tt; fits = omega arith }))

    -- ---- the statement

    abbrev write_arms : Arm × List Arm → Layout
    write_arms p = with_semicolons (map (write_arm d) (listed p))

    abbrev formed_arms : Arm × List Arm → List Formed
    formed_arms p = map (formed_arm d) (listed p)

    cases_formed : (p : Arm × List Arm) (closed : Bool) (x : Option Rest) (s r : List Placed) → IsTrue (some_alone (formed_arms p)) → (else_next s ≡ true → IsTrue (some_up_to (formed_arms p) true)) → IsWritten end (write_semicolon closed) s r → RestFormed r x
        → IsTrue (cases d (formed_arms p) closed (formed_rest_part d x))
    cases_formed p closed None s r h k w g = alone_up_to (formed_arms p) h
    cases_formed p closed (Some x) s r h k w g =
        let both = and_out (has_rest d) (begins (words (rest_word d)) r) g.0 in
        and_in (has_rest d && some_up_to (formed_arms p) (is_turbo d && not closed)) (alone (formed_rest d x)) (and_in (has_rest d) _ both.0 (arms_before d end (formed_arms p) closed s r h k w both.1)) g.1

    low : (closed : Bool) → height_of (write_semicolon closed) ≡ 0
    low true = refl
    low false = refl

    pub case_sound : (o : Opening) (s : List Placed) → SpotT o s → PlainHole o → o.depth + k ≡ levels → begins (words word_.KwCase) s ≡ true → AnswerT (PlainReads s) (case_of d end child inner s)
    unfolding case_of arms more_arms next_arm
    case_sound o s spot hole deep test =
        let filled : (c : Expr) (p : Arm × List Arm) (closed : Bool) (x : Option Rest) → IsTrue (formed_expr d c) → IsTrue (cases d (formed_arms p) closed (formed_rest_part d x))
        → Filled layout form (o.plug (spanned end (word word_.KwCase & write_expr c & word word_.KwOf & write_arms p & write_semicolon closed & write_rest_part d x & word word_.KwEnd))) =
        λ c p closed x ok ok2. filled_as layout form (ap o.plug (write_case_of d c (listed p) closed x end)) (hole.at (plain_.Case c (listed p) closed x end)
        (formed_case_of d c (listed p) closed x end false ∙ and_in (formed_expr d c) (cases d (formed_arms p) closed (formed_rest_part d x)) ok ok2)) in
        let some_arms : Arm × List Arm = (an_arm, []) in
        let some_formed : IsTrue (some_alone (formed_arms some_arms)) = and_in (alone (formed_arm d an_arm)) true (an_arm_formed d) refl in
        let more = write_arms some_arms & word word_.KwEnd in
        let more_known : AreTokens d (tokens_of more) = are_joined d (write_arms some_arms) (word word_.KwEnd) (are_joined d (write_arm d an_arm) Done (an_arm_known d) tt) (end_known d, tt) in
        let spot0 = entered (in_spanned end) spot refl tt in
        fair_then (between_sound d layout form end outer levels tokens known k child good word_.KwCase word_.KwOf (of_known d) more more_known (inside o) s spot0 (λ c ok. filled c some_arms false None ok (alone_up_to (formed_arms some_arms) some_formed)) (omega (arith, deep)) test) (λ c r1 b.
        let e = write_expr c in
        let o1 = within (within (within (inside o) (behind (word word_.KwCase))) (behind e)) (behind (word word_.KwOf)) in
        let spot1 = moved (word word_.KwOf) (moved e (moved (word word_.KwCase) spot0 b.opens) b.written) b.closes in
        let hole1 : Hole d layout form write_arms (λ p. some_alone (formed_arms p)) (within o1 (before (word word_.KwEnd))) = record { at = λ p ok. filled c p false None b.formed (alone_up_to (formed_arms p) ok) } in
        fair_then (rows_sound d layout form end outer levels tokens known (write_arm d) (formed_arm d) k begins_next_arm (λ s e. (and_out (begins (symbols mark.Semicolon) s) (begins_constant (rest s)) e).0) (arm d end inner) arm_sound
        (within o1 (before (word word_.KwEnd))) r1 (entered (before (word word_.KwEnd)) spot1 refl (end_known d, tt)) hole1 (omega (arith, deep))) (λ ys r2 h.
        let p : Arm × List Arm = (h.first, h.others) in
        let list = write_arms p in
        let o2 = within o1 (behind list) in
        let spot2 = moved list spot1 h.written in
        fair_then (closed_sound r2) (λ closed r3 w.
        let semicolon = write_semicolon closed in
        let o3 = within o2 (behind semicolon) in
        let spot3 = moved semicolon spot2 w in
        let formed : (x : Option Rest) → RestFormed r3 x → IsTrue (cases d (formed_arms p) closed (formed_rest_part d x)) = λ x. cases_formed p closed x r2 r3 h.formed_alone h.before_else w in
        let hole3 : begins_rest d r3 ≡ true → Hole d layout form (write_rest d) (λ x. alone (formed_rest d x)) (within o3 (before (word word_.KwEnd))) =
        λ next. record { at = λ x ok. filled c p closed (Some x) b.formed (formed (Some x) (next, ok)) } in
        fair_then (optional_rest_sound (within o3 (before (word word_.KwEnd))) r3 (entered (before (word word_.KwEnd)) spot3 refl (end_known d, tt)) hole3 (omega (arith, deep))) (λ x r4 g.
        let last = write_rest_part d x in
        let o4 = within o3 (behind last) in
        let spot4 = moved last spot3 g.written in
        let hole4 : Hole {A = Unit {0}} d layout form (λ _. word word_.KwEnd) (λ _. true) o4 = record { at = λ _ _. filled c p closed x b.formed (formed x g.formed) } in
        answer_wanted d layout form end outer levels tokens known word_.KwEnd r4 spot4 (begins_at d layout form end outer levels tokens spot4 hole4 tt refl (end_known d, tt)) (λ _ r5 w5.
        let span = span_between end s r5 in let f1 = b.fits in let f2 = h.fits in let f3 = g.fits in
        let ok = and_in (formed_expr d c) _ b.formed (formed x g.formed) in
        let close = last & word word_.KwEnd in let tail = list & semicolon & close in
        reads (plain_.Case c ys closed x span) r5 (subst (λ z. PlainReads s (plain_.Case c z closed x span) r5) (sym h.is)
        (plain_as d layout form end outer levels tokens known (write_case_of d c (listed p) closed x span) (λ f. formed_case_of d c (listed p) closed x span f)
        (written_node end (word word_.KwCase & e & word word_.KwOf & tail) _ _ (written_join end (word word_.KwCase) (e & word word_.KwOf & tail) s b.one r5 b.opens
        (written_join end e (word word_.KwOf & tail) b.one b.two r5 b.written (written_join end (word word_.KwOf) tail b.two r1 r5 b.closes
        (written_join end list (semicolon & close) r1 r2 r5 h.written (written_join end semicolon close r2 r3 r5 w (written_join end last (word word_.KwEnd) r3 r4 r5 g.written w5)))))))
        ok (λ _. ok) (omega (arith, height_join e (word word_.KwOf & tail), height_join list (semicolon & close), height_join semicolon close, height_join last (word word_.KwEnd), low closed, f1, f2, f3)))))))))
