-- Statements that are read.
use Rattle.std.proofs.Common.{◌≡◌, ℕ, ◌+◌, ◌≤◌, Bool, true, false, ◌&&◌, List, [], ◌∷◌, map, Option, Some, None, refl, sym, ap, subst, ◌∙◌, arith, true≢false}
use Rattle.std.specs.Prelude.{IsTrue}
use Rattle.p2c_text.specs.declared.dialect.Dialect.{Dialect}
use Rattle.p2c_text.specs.declared.place.Span.{Span}
use Rattle.dialect_lexer.specs.declared.token.Word.{Word as WordSymbol}
use Rattle.dialect_lexer.specs.declared.token.Word.TheVariants as word_
use Rattle.dialect_lexer.specs.declared.token.Symbol.TheVariants as mark
use Rattle.pascal_tree.specs.declared.expressions.Expr.{Expr}
use Rattle.pascal_tree.specs.declared.statements.Plain.{Plain}
use Rattle.pascal_tree.specs.declared.statements.Plain.TheVariants as plain_
use Rattle.pascal_tree.specs.declared.statements.Stmt.{Stmt}
use Rattle.token_parsing.specs.Parser.{Outcome, Parser, and_then, begins}
use Rattle.token_parsing.proofs.Fair.{reads, fair_then, fair_either}
use Rattle.expr_parser.specs.Tokens.{Placed, plain, Word}
use Rattle.expr_parser.specs.Spans.{span_between}
use Rattle.expr_parser.specs.Layout.{Layout, Done, ◌&◌, word, spanned, counted, tokens_of, height_of, IsWritten}
use Rattle.expr_parser.specs.Writing.{write_expr}
use Rattle.expr_parser.specs.Grammar.{IsToken, AreTokens, formed_expr}
use Rattle.expr_parser.specs.Classes.{words, symbols, expect_word}
use Rattle.expr_parser.proofs.Layouts.{height_join, written_join}
use Rattle.expr_parser.proofs.ClassTokens.{word_is}
use Rattle.expr_parser.proofs.FollowedParts.{and_in}
use Rattle.expr_parser.specs.Text.{Begins}
use Rattle.expr_parser.proofs.Openings.{Opening, within, in_spanned, behind, before, Filled, filled_as, Hole}
use Rattle.expr_parser.proofs.Spots.{Answer, Spot, Good, spot_behind, spot_within, begins_at}
use Rattle.expr_parser.proofs.SoundTokens.{written_node, written_token, answer_token, answer_word}
use Rattle.expr_parser.proofs.SoundLists.{listed}
use Rattle.expr_parser.specs.Semicolons.{with_semicolons}
use Rattle.stmt_parser.specs.Writing.{write_plain, write_stmt}
use Rattle.stmt_parser.specs.Grammar.{Formed, alone, some_alone, branches, formed_plain, formed_stmt}
use Rattle.stmt_parser.specs.Statements.{between, next_stmt, more_stmts, stmts, nothing, compound, optional_else, conditional, while_loop, stmt_of}
use Rattle.stmt_parser.proofs.WrittenStatements.{write_else, write_stmt_of, write_nothing_of, write_compound_of, write_if_of, write_while_of}
use Rattle.stmt_parser.proofs.FormedStatements.{formed_else, formed_stmt_of, formed_nothing_of, formed_compound_of, formed_if_of, formed_while_of}
use Rattle.expr_parser.proofs.KnownTokens.{do_known, then_known, end_known}
use Rattle.stmt_parser.proofs.SoundRows.{else_next, ReadsOne, one_as, GoodOne, ReadsRows, rows_sound}
use Rattle.expr_parser.proofs.SoundFactors.{no_span}

-- ---- the empty statement, which may stand where one is wanted

abbrev pub empty : Stmt
empty = stmt_of None (plain_.Nothing no_span) no_span

pub empty_written : (d : Dialect) → write_stmt d empty ≡ counted (spanned no_span (spanned no_span Done))
empty_written d = write_stmt_of d None (plain_.Nothing no_span) no_span ∙ ap (λ l. counted (spanned no_span l)) (write_nothing_of d no_span)

pub empty_formed : (d : Dialect) (follows : Bool) → IsTrue (formed_stmt d empty follows)
empty_formed d follows = formed_stmt_of d None (plain_.Nothing no_span) no_span follows ∙ formed_nothing_of d no_span follows

pub empty_known : (d : Dialect) → AreTokens d (tokens_of (write_stmt d empty))
empty_known d = subst (λ l. AreTokens d (tokens_of l)) (sym (empty_written d)) tt

pub empty_more : (d : Dialect) → AreTokens d (tokens_of (write_stmt d empty & Done))
empty_more d = subst (λ l. AreTokens d (tokens_of (l & Done))) (sym (empty_written d)) tt

-- ---- the `then` part and the `else` part

abbrev else_alone : Dialect → Option Stmt → Bool
else_alone d None = true
else_alone d (Some x) = alone (formed_stmt d x)

abbrev else_before : Dialect → Option Stmt → Bool
else_before d None = true
else_before d (Some x) = formed_stmt d x true

abbrev is_given : Option Stmt → Bool
is_given None = false
is_given (Some x) = true

branches_alone : (d : Dialect) (a : Stmt) (x : Option Stmt) (r : List Placed) → IsTrue (alone (formed_stmt d a)) → (else_next r ≡ true → IsTrue (formed_stmt d a true)) → else_next r ≡ is_given x → IsTrue (else_alone d x)
    → IsTrue (branches (formed_stmt d a) (formed_else d x) false)
branches_alone d a None r h k given g = h
branches_alone d a (Some x) r h k given g = and_in (formed_stmt d a true) (formed_stmt d x false) (k given) g

branches_before : (d : Dialect) (a : Stmt) (x : Option Stmt) (r r' : List Placed) → (else_next r ≡ true → IsTrue (formed_stmt d a true)) → else_next r ≡ is_given x → (else_next r' ≡ true → IsTrue (else_before d x)) → (is_given x ≡ false → else_next r' ≡ false)
    → else_next r' ≡ true → IsTrue (branches (formed_stmt d a) (formed_else d x) true)
branches_before d a None r r' k given g none next = absurd (true≢false (sym next ∙ none refl))
branches_before d a (Some x) r r' k given g none next = and_in (formed_stmt d a true) (formed_stmt d x true) (k given) (g next)

module _ (d : Dialect) {C : Type 0} (layout : C → Layout) (form : C → Bool) (end : Span) (outer levels : ℕ) (tokens : List Placed) (known : AreTokens d (plain tokens)) where
  abbrev AnswerT : {A : Type 0} → (A → List Placed → Type 0) → Outcome Placed A → Type 0
  AnswerT P o = Answer d layout form end outer levels tokens P o

  abbrev SpotT : Opening → List Placed → Type 0
  SpotT o s = Spot d layout form end outer levels tokens o s

  abbrev moved : {o : Opening} {s r : List Placed} (l : Layout) → SpotT o s → IsWritten end l s r → SpotT (within o (behind l)) r
  moved l spot w = spot_behind d layout form end outer levels tokens known l spot w

  abbrev entered : {o : Opening} {s : List Placed} (p : Opening) → SpotT o s → p.left ≡ [] → AreTokens d p.right → SpotT (within o p) s
  entered p spot none closing = spot_within d layout form end outer levels tokens p spot none closing

  -- a word that is wanted here
  pub answer_wanted : {B : Type 0} {Q : B → List Placed → Type 0} (w : WordSymbol) {o : Opening} (s : List Placed) {f : Unit {0} → Parser Placed B} → SpotT o s → Begins d layout form o.left
      → ((a : Unit {0}) (r : List Placed) → IsWritten end (word w) s r → AnswerT Q (f a r)) → AnswerT Q (and_then (expect_word w s) f)
  answer_wanted w s spot begun k = answer_token d layout form end outer levels tokens (words w) s spot begun (λ t a r is e. k a r (written_token end (Word w) t r e (word_is w t.token a is)))

  -- what was read, by its parts: it is formed alone, and before an `else` where one is next
  pub plain_as : {k : ℕ} {s r : List Placed} {p : Plain} {l : Layout} {b : Formed} → write_plain d p ≡ l → ((follows : Bool) → formed_plain d p follows ≡ b follows) → IsWritten end l s r → IsTrue (alone b) → (else_next r ≡ true → IsTrue (b true))
      → height_of l ≤ k → ReadsOne d layout form end outer levels tokens known (write_plain d) (formed_plain d) k s p r
  plain_as {k} e f w t u h = one_as d layout form end outer levels tokens known (write_plain d) (formed_plain d) k e f w t u h

  module _ (k : ℕ) where
    abbrev PlainReads : List Placed → Plain → List Placed → Type 0
    PlainReads s p r = ReadsOne d layout form end outer levels tokens known (write_plain d) (formed_plain d) k s p r

    abbrev PlainHole : Opening → Type 0
    PlainHole o = Hole d layout form (write_plain d) (λ p. alone (formed_plain d p)) o

    abbrev StmtReads : List Placed → Stmt → List Placed → Type 0
    StmtReads s x r = ReadsOne d layout form end outer levels tokens known (write_stmt d) (formed_stmt d) k s x r

    abbrev StmtHole : Opening → Type 0
    StmtHole o = Hole d layout form (write_stmt d) (λ x. alone (formed_stmt d x)) o

    abbrev pub StmtGood : Parser Placed Stmt → Type 0
    StmtGood p = GoodOne d layout form end outer levels tokens known (write_stmt d) (formed_stmt d) k p

    pub nothing_sound : (s : List Placed) → AnswerT (PlainReads s) (nothing end s)
    unfolding nothing
    nothing_sound s = let span = span_between end s s in reads (plain_.Nothing span) s (plain_as (write_nothing_of d span) (λ f. formed_nothing_of d span f) (written_node end Done s s refl) refl (λ _. refl) (omega arith))

    module _ (child : Parser Placed Expr) (good : Good d layout form end outer levels tokens write_expr (formed_expr d) k child) where
      -- word Expr word, before what may fill the rest
      pub record ReadsBetween (opening closing : WordSymbol) (s : List Placed) (e : Expr) (r : List Placed) : Type 0 where
        pub one : List Placed
        pub two : List Placed
        pub opens : IsWritten end (word opening) s one
        pub written : IsWritten end (write_expr e) one two
        pub closes : IsWritten end (word closing) two r
        pub formed : IsTrue (formed_expr d e)
        pub fits : height_of (write_expr e) ≤ k

      pub between_sound : (opening closing : WordSymbol) → IsToken d (Word closing) → (more : Layout) → AreTokens d (tokens_of more) → (o : Opening) (s : List Placed) → SpotT o s
          → ((e : Expr) → IsTrue (formed_expr d e) → Filled layout form (o.plug (word opening & write_expr e & word closing & more))) → o.depth + k ≡ levels → begins (words opening) s ≡ true
          → AnswerT (ReadsBetween opening closing s) (between opening closing child s)
      unfolding between
      between_sound opening closing closing_known more more_known o s spot whole deep test = answer_word d layout form end outer levels tokens opening s test (λ _ r1 w1.
          let opened = within o (behind (word opening)) in
          let spot1 = moved (word opening) spot w1 in
          let hole2 : Hole d layout form write_expr (formed_expr d) (within opened (before (word closing & more))) = record { at = whole } in
          fair_then (good (within opened (before (word closing & more))) r1 (entered (before (word closing & more)) spot1 refl (closing_known, more_known)) hole2 (omega (arith, deep))) (λ e r2 h.
          let hole3 : Hole {A = Unit {0}} d layout form (λ _. word closing & more) (λ _. true) (within opened (behind (write_expr e))) = record { at = λ _ ok. whole e h.formed } in
          let spot3 = moved (write_expr e) spot1 h.written in
          answer_wanted closing r2 spot3 (begins_at d layout form end outer levels tokens spot3 hole3 tt refl (closing_known, more_known)) (λ _ r3 w3.
          reads e r3 (record { one = r1; two = r2; opens = w1; written = h.written; closes = w3; formed = h.formed; fits = h.fits }))))

      module _ (inner : Parser Placed Stmt) (inner_good : StmtGood inner) where
        pub stmts_sound : (o : Opening) (s : List Placed) → SpotT o s → Hole d layout form (λ p. with_semicolons (map (write_stmt d) (listed p))) (λ p. some_alone (map (formed_stmt d) (listed p))) o → o.depth + k ≡ levels
            → AnswerT (ReadsRows d layout form end outer levels tokens known (write_stmt d) (formed_stmt d) k s) (stmts inner s)
        unfolding stmts more_stmts next_stmt
        stmts_sound o s spot hole deep = rows_sound d layout form end outer levels tokens known (write_stmt d) (formed_stmt d) k (begins (symbols mark.Semicolon)) (λ s e. e) inner inner_good o s spot hole deep

        abbrev inside : Opening → Opening
        inside o = within o (in_spanned end)

        pub compound_sound : (o : Opening) (s : List Placed) → SpotT o s → PlainHole o → o.depth + k ≡ levels → begins (words word_.KwBegin) s ≡ true → AnswerT (PlainReads s) (compound end inner s)
        unfolding compound
        compound_sound o s spot hole deep test = answer_word d layout form end outer levels tokens word_.KwBegin s test (λ _ r1 w1.
            let opened = within (inside o) (behind (word word_.KwBegin)) in
            let spot1 = moved (word word_.KwBegin) (entered (in_spanned end) spot refl tt) w1 in
            let hole2 : Hole d layout form (λ p. with_semicolons (map (write_stmt d) (listed p))) (λ p. some_alone (map (formed_stmt d) (listed p))) (within opened (before (word word_.KwEnd))) =
            record { at = λ p ok. filled_as layout form (ap o.plug (write_compound_of d (listed p) end)) (hole.at (plain_.Compound (listed p) end) (formed_compound_of d (listed p) end false ∙ ok)) } in
            fair_then (stmts_sound (within opened (before (word word_.KwEnd))) r1 (entered (before (word word_.KwEnd)) spot1 refl (end_known d, tt)) hole2 (omega (arith, deep))) (λ ys r2 h.
            let all = h.first ∷ h.others in let list = with_semicolons (map (write_stmt d) all) in
            let spot3 = moved list spot1 h.written in
            let hole3 : Hole {A = Unit {0}} d layout form (λ _. word word_.KwEnd) (λ _. true) (within opened (behind list)) = record { at = λ _ ok. hole2.at (h.first, h.others) h.formed_alone } in
            answer_wanted word_.KwEnd r2 spot3 (begins_at d layout form end outer levels tokens spot3 hole3 tt refl (end_known d, tt)) (λ _ r3 w3.
            let span = span_between end s r3 in let fits = h.fits in
            reads (plain_.Compound ys span) r3 (subst (λ z. PlainReads s (plain_.Compound z span) r3) (sym h.is) (plain_as (write_compound_of d all span) (λ f. formed_compound_of d all span f)
            (written_node end (word word_.KwBegin & list & word word_.KwEnd) _ _ (written_join end (word word_.KwBegin) (list & word word_.KwEnd) s r1 r3 w1 (written_join end list (word word_.KwEnd) r1 r2 r3 h.written w3)))
            h.formed_alone (λ _. h.formed_alone) (omega (arith, height_join list (word word_.KwEnd), fits)))))))

        -- ["else" Stmt], behind a statement that is formed before an `else` where one is next
        pub record ReadsElse (s : List Placed) (b : Option Stmt) (r : List Placed) : Type 0 where
          pub written : IsWritten end (write_else d b) s r
          pub formed_alone : IsTrue (else_alone d b)
          pub before_else : else_next r ≡ true → IsTrue (else_before d b)
          pub given : else_next s ≡ is_given b
          pub no_other : is_given b ≡ false → else_next r ≡ false
          pub fits : height_of (write_else d b) ≤ k

        else_sound : (o : Opening) (s : List Placed) → SpotT o s → (else_next s ≡ true → Hole d layout form (λ x. word word_.KwElse & write_stmt d x) (λ x. alone (formed_stmt d x)) o) → o.depth + k ≡ levels → AnswerT (ReadsElse s) (optional_else inner s)
        unfolding optional_else
        else_sound o s spot hole deep = fair_either (else_next s)
            (λ test. answer_word d layout form end outer levels tokens word_.KwElse s test (λ _ r w.
            let behind_else = within o (behind (word word_.KwElse)) in
            let hole1 : StmtHole behind_else = record { at = λ x ok. (hole test).at x ok } in
            fair_then (inner_good behind_else r (moved (word word_.KwElse) spot w) hole1 (omega (arith, deep))) (λ x r2 h.
            let fits = h.fits in
            reads (Some x) r2 (record { written = written_join end (word word_.KwElse) (write_stmt d x) s r r2 w h.written; formed_alone = h.formed_alone; before_else = h.before_else; given = test; no_other = λ e. absurd (true≢false e); fits = fits }))))
            (λ none. reads None s (record { written = refl; formed_alone = refl; before_else = λ e. refl; given = none; no_other = λ e. none; fits = omega arith }))

        pub conditional_sound : (o : Opening) (s : List Placed) → SpotT o s → PlainHole o → o.depth + k ≡ levels → begins (words word_.KwIf) s ≡ true → AnswerT (PlainReads s) (conditional end child inner s)
        unfolding conditional
        conditional_sound o s spot hole deep test =
            let filled : (c : Expr) (a : Stmt) → IsTrue (formed_expr d c) → IsTrue (alone (formed_stmt d a)) → Filled layout form (o.plug (spanned end (word word_.KwIf & write_expr c & word word_.KwThen & write_stmt d a & Done))) =
            λ c a ok ok2. filled_as layout form (ap o.plug (write_if_of d c a None end)) (hole.at (plain_.If c a None end) (formed_if_of d c a None end false ∙ and_in (formed_expr d c) (true && alone (formed_stmt d a)) ok ok2)) in
            let more = write_stmt d empty & Done in
            let spot0 = entered (in_spanned end) spot refl tt in
            fair_then (between_sound word_.KwIf word_.KwThen (then_known d) more (empty_more d) (inside o) s spot0 (λ c ok. filled c empty ok (empty_formed d false)) (omega (arith, deep)) test) (λ c r1 b.
            let e = write_expr c in
            let o1 = within (within (within (inside o) (behind (word word_.KwIf))) (behind e)) (behind (word word_.KwThen)) in
            let spot1 = moved (word word_.KwThen) (moved e (moved (word word_.KwIf) spot0 b.opens) b.written) b.closes in
            let hole1 : StmtHole (within o1 (before Done)) = record { at = λ a ok. filled c a b.formed ok } in
            fair_then (inner_good (within o1 (before Done)) r1 (entered (before Done) spot1 refl tt) hole1 (omega (arith, deep))) (λ a r2 h.
            let t = write_stmt d a in
            let hole2 : else_next r2 ≡ true → Hole d layout form (λ x. word word_.KwElse & write_stmt d x) (λ x. alone (formed_stmt d x)) (within o1 (behind t)) =
            λ next. record {
              at = λ x ok. filled_as layout form (ap o.plug (write_if_of d c a (Some x) end)) (hole.at (plain_.If c a (Some x) end)
                  (formed_if_of d c a (Some x) end false ∙ and_in (formed_expr d c) _ b.formed (and_in (formed_stmt d a true) _ (h.before_else next) ok)));
            } in
            fair_then (else_sound (within o1 (behind t)) r2 (moved t spot1 h.written) hole2 (omega (arith, deep))) (λ x r3 g.
            let z = write_else d x in let span = span_between end s r3 in let f1 = b.fits in let f2 = h.fits in let f3 = g.fits in
            reads (plain_.If c a x span) r3 (plain_as (write_if_of d c a x span) (λ f. formed_if_of d c a x span f)
            (written_node end (word word_.KwIf & e & word word_.KwThen & t & z) _ _ (written_join end (word word_.KwIf) (e & word word_.KwThen & t & z) s b.one r3 b.opens (written_join end e (word word_.KwThen & t & z) b.one b.two r3 b.written
            (written_join end (word word_.KwThen) (t & z) b.two r1 r3 b.closes (written_join end t z r1 r2 r3 h.written g.written)))))
            (and_in (formed_expr d c) _ b.formed (branches_alone d a x r2 h.formed_alone h.before_else g.given g.formed_alone))
            (λ next. and_in (formed_expr d c) _ b.formed (branches_before d a x r2 r3 h.before_else g.given g.before_else g.no_other next))
            (omega (arith, height_join e (word word_.KwThen & t & z), height_join t z, f1, f2, f3))))))

        pub while_sound : (o : Opening) (s : List Placed) → SpotT o s → PlainHole o → o.depth + k ≡ levels → begins (words word_.KwWhile) s ≡ true → AnswerT (PlainReads s) (while_loop end child inner s)
        unfolding while_loop
        while_sound o s spot hole deep test =
            let filled : (c : Expr) (a : Stmt) → IsTrue (formed_expr d c) → IsTrue (alone (formed_stmt d a)) → Filled layout form (o.plug (spanned end (word word_.KwWhile & write_expr c & word word_.KwDo & write_stmt d a))) =
            λ c a ok ok2. filled_as layout form (ap o.plug (write_while_of d c a end)) (hole.at (plain_.While c a end) (formed_while_of d c a end false ∙ and_in (formed_expr d c) (alone (formed_stmt d a)) ok ok2)) in
            let spot0 = entered (in_spanned end) spot refl tt in
            fair_then (between_sound word_.KwWhile word_.KwDo (do_known d) (write_stmt d empty) (empty_known d) (inside o) s spot0 (λ c ok. filled c empty ok (empty_formed d false)) (omega (arith, deep)) test) (λ c r1 b.
            let e = write_expr c in
            let o1 = within (within (within (inside o) (behind (word word_.KwWhile))) (behind e)) (behind (word word_.KwDo)) in
            let spot1 = moved (word word_.KwDo) (moved e (moved (word word_.KwWhile) spot0 b.opens) b.written) b.closes in
            let hole1 : StmtHole o1 = record { at = λ a ok. filled c a b.formed ok } in
            fair_then (inner_good o1 r1 spot1 hole1 (omega (arith, deep))) (λ a r2 h.
            let t = write_stmt d a in let span = span_between end s r2 in let f1 = b.fits in let f2 = h.fits in
            reads (plain_.While c a span) r2 (plain_as (write_while_of d c a span) (λ f. formed_while_of d c a span f)
            (written_node end (word word_.KwWhile & e & word word_.KwDo & t) _ _ (written_join end (word word_.KwWhile) (e & word word_.KwDo & t) s b.one r2 b.opens (written_join end e (word word_.KwDo & t) b.one b.two r2 b.written
            (written_join end (word word_.KwDo) t b.two r1 r2 b.closes h.written))))
            (and_in (formed_expr d c) _ b.formed h.formed_alone) (λ next. and_in (formed_expr d c) _ b.formed (h.before_else next)) (omega (arith, height_join e (word word_.KwDo & t), f1, f2)))))
