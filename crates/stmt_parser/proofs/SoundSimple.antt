-- Assignments, calls and `goto` that are read.
use Rattle.std.proofs.Common.{◌≡◌, ℕ, ◌+◌, Bool, true, false, List, [], Some, None, refl, ap, ◌∙◌, arith}
use Rattle.std.specs.Prelude.{IsTrue}
use Rattle.p2c_text.specs.declared.dialect.Dialect.{Dialect}
use Rattle.p2c_text.specs.declared.place.Span.{Span}
use Rattle.dialect_lexer.specs.declared.token.Word.TheVariants as word_
use Rattle.dialect_lexer.specs.declared.token.Symbol.TheVariants as mark
use Rattle.pascal_tree.specs.declared.names.Identifier.{Identifier}
use Rattle.pascal_tree.specs.declared.expressions.Expr.{Expr}
use Rattle.pascal_tree.specs.declared.expressions.Place.{Place}
use Rattle.pascal_tree.specs.declared.statements.Plain.{Plain}
use Rattle.pascal_tree.specs.declared.statements.Plain.TheVariants as plain_
use Rattle.token_parsing.specs.Parser.{Outcome, Parser, begins}
use Rattle.token_parsing.proofs.Fair.{reads, fair_then, fair_either}
use Rattle.expr_parser.specs.Tokens.{Placed, plain}
use Rattle.expr_parser.specs.Spans.{span_between}
use Rattle.expr_parser.specs.Layout.{Layout, Done, ◌&◌, word, symbol, spanned, tokens_of, IsWritten}
use Rattle.expr_parser.specs.Writing.{identifier, write_args, write_expr, write_place}
use Rattle.expr_parser.specs.Grammar.{AreTokens, formed_args, formed_expr, formed_place}
use Rattle.expr_parser.specs.ConstantNodes.{write_label, formed_label}
use Rattle.expr_parser.specs.Classes.{identifiers, words, symbols}
use Rattle.expr_parser.proofs.Layouts.{height_join, written_join}
use Rattle.expr_parser.proofs.ClassTokens.{identifier_is}
use Rattle.expr_parser.proofs.KnownTokens.{assign_known}
use Rattle.expr_parser.proofs.FollowedParts.{and_in}
use Rattle.expr_parser.proofs.Openings.{Opening, within, in_spanned, behind, before, Filled, filled_as, Hole}
use Rattle.expr_parser.proofs.Spots.{Answer, Spot, Good, spot_behind, spot_within, begins_at}
use Rattle.expr_parser.proofs.SoundTokens.{written_node, written_name, answer_symbol, answer_begun, answer_word}
use Rattle.expr_parser.proofs.SoundPlaces.{place_from_sound, args_sound}
use Rattle.expr_parser.proofs.SoundFactors.{nil_expr, nil_expr_formed, nil_expr_known}
use Rattle.expr_parser.proofs.SoundConstants.{label_sound}
use Rattle.stmt_parser.specs.Writing.{write_plain}
use Rattle.stmt_parser.specs.Grammar.{alone, formed_plain}
use Rattle.stmt_parser.specs.Statements.{goto, assignment, call_with, begins_target, after_name, named}
use Rattle.stmt_parser.proofs.WrittenStatements.{write_assign_of, write_call_of, write_goto_of}
use Rattle.stmt_parser.proofs.FormedStatements.{formed_assign_of, formed_call_of, formed_goto_of}
use Rattle.stmt_parser.proofs.SoundRows.{ReadsOne}
use Rattle.stmt_parser.proofs.SoundStatements.{plain_as}

module _ (d : Dialect) {C : Type 0} (layout : C → Layout) (form : C → Bool) (end : Span) (outer levels : ℕ) (tokens : List Placed) (known : AreTokens d (plain tokens)) (k : ℕ) where
  abbrev AnswerT : {A : Type 0} → (A → List Placed → Type 0) → Outcome Placed A → Type 0
  AnswerT P o = Answer d layout form end outer levels tokens P o

  abbrev SpotT : Opening → List Placed → Type 0
  SpotT o s = Spot d layout form end outer levels tokens o s

  abbrev moved : {o : Opening} {s r : List Placed} (l : Layout) → SpotT o s → IsWritten end l s r → SpotT (within o (behind l)) r
  moved l spot w = spot_behind d layout form end outer levels tokens known l spot w

  abbrev entered : {o : Opening} {s : List Placed} (p : Opening) → SpotT o s → p.left ≡ [] → AreTokens d p.right → SpotT (within o p) s
  entered p spot none closing = spot_within d layout form end outer levels tokens p spot none closing

  abbrev PlainReads : List Placed → Plain → List Placed → Type 0
  PlainReads s p r = ReadsOne d layout form end outer levels tokens known (write_plain d) (formed_plain d) k s p r

  abbrev PlainHole : Opening → Type 0
  PlainHole o = Hole d layout form (write_plain d) (λ p. alone (formed_plain d p)) o

  pub goto_sound : (o : Opening) (s : List Placed) → SpotT o s → PlainHole o → begins (words word_.KwGoto) s ≡ true → AnswerT (PlainReads s) (goto d end s)
  unfolding goto
  goto_sound o s spot hole test = answer_word d layout form end outer levels tokens word_.KwGoto s test (λ _ r1 w1.
      let opened = within (within o (in_spanned end)) (behind (word word_.KwGoto)) in
      let hole1 : Hole d layout form write_label (formed_label d) opened =
      record { at = λ l ok. filled_as layout form (ap o.plug (write_goto_of d l end)) (hole.at (plain_.Goto l end) (formed_goto_of d l end false ∙ ok)) } in
      fair_then (label_sound d layout form end outer levels tokens known k opened r1 (moved (word word_.KwGoto) (entered (in_spanned end) spot refl tt) w1) hole1) (λ l r2 h.
      let span = span_between end s r2 in let fits = h.fits in
      reads (plain_.Goto l span) r2 (plain_as d layout form end outer levels tokens known (write_goto_of d l span) (λ f. formed_goto_of d l span f)
      (written_node end (word word_.KwGoto & write_label l) _ _ (written_join end (word word_.KwGoto) (write_label l) s r1 r2 w1 h.written)) h.formed (λ _. h.formed) (omega (arith, fits)))))

  module _ (child : Parser Placed Expr) (good : Good d layout form end outer levels tokens write_expr (formed_expr d) k child) where
    assignment_sound : (o : Opening) (s : List Placed) → SpotT o s → PlainHole o → o.depth + k ≡ levels → (i : Identifier) (r : List Placed) → IsWritten end (identifier i) s r → AnswerT (PlainReads s) (assignment end child s i r)
    unfolding assignment
    assignment_sound o s spot hole deep i r w0 =
        let inside = within o (in_spanned end) in
        let spot0 = entered (in_spanned end) spot refl tt in
        let value = symbol mark.Assign & write_expr nil_expr in
        let value_known : AreTokens d (tokens_of value) = (assign_known d, nil_expr_known d) in
        let filled : (p : Place) (e : Expr) → IsTrue (formed_place d p) → IsTrue (formed_expr d e) → Filled layout form (o.plug (spanned end (write_place p & symbol mark.Assign & write_expr e))) =
        λ p e ok ok2. filled_as layout form (ap o.plug (write_assign_of d p e end)) (hole.at (plain_.Assign p e end) (formed_assign_of d p e end false ∙ and_in (formed_place d p) (formed_expr d e) ok ok2)) in
        let hole1 : Hole d layout form write_place (formed_place d) (within inside (before value)) = record { at = λ p ok. filled p nil_expr ok (nil_expr_formed d) } in
        fair_then (place_from_sound d layout form end outer levels tokens known k child good (within inside (before value)) s (entered (before value) spot0 refl value_known) hole1 (omega (arith, deep)) i r w0) (λ p r1 h.
        let target = write_place p in
        let o2 = within inside (behind target) in
        let spot2 = moved target spot0 h.written in
        let hole2 : Hole {A = Expr} d layout form (λ e. symbol mark.Assign & write_expr e) (formed_expr d) o2 = record { at = λ e ok. filled p e h.formed ok } in
        answer_symbol d layout form end outer levels tokens mark.Assign r1 spot2 (begins_at d layout form end outer levels tokens spot2 hole2 nil_expr (nil_expr_formed d) value_known) (λ _ r2 w2.
        let o3 = within o2 (behind (symbol mark.Assign)) in
        let hole3 : Hole d layout form write_expr (formed_expr d) o3 = record { at = λ e ok. hole2.at e ok } in
        fair_then (good o3 r2 (moved (symbol mark.Assign) spot2 w2) hole3 (omega (arith, deep))) (λ e r3 g.
        let span = span_between end s r3 in let f1 = h.fits in let f2 = g.fits in
        let ok = and_in (formed_place d p) (formed_expr d e) h.formed g.formed in
        reads (plain_.Assign p e span) r3 (plain_as d layout form end outer levels tokens known (write_assign_of d p e span) (λ f. formed_assign_of d p e span f)
        (written_node end (target & symbol mark.Assign & write_expr e) _ _ (written_join end target (symbol mark.Assign & write_expr e) s r1 r3 h.written (written_join end (symbol mark.Assign) (write_expr e) r1 r2 r3 w2 g.written)))
        ok (λ _. ok) (omega (arith, height_join target (symbol mark.Assign & write_expr e), f1, f2))))))

    call_with_sound : (o : Opening) (s : List Placed) → SpotT o s → PlainHole o → o.depth + k ≡ levels → (i : Identifier) (r : List Placed) → IsWritten end (identifier i) s r → begins (symbols mark.Open) r ≡ true
        → AnswerT (PlainReads s) (call_with d end child s i r)
    unfolding call_with
    call_with_sound o s spot hole deep i r w0 test =
        let o1 = within (within o (in_spanned end)) (behind (identifier i)) in
        let hole1 : Hole d layout form write_args (formed_args d) o1 =
        record { at = λ a ok. filled_as layout form (ap o.plug (write_call_of d i (Some a) end)) (hole.at (plain_.Call i (Some a) end) (formed_call_of d i (Some a) end false ∙ ok)) } in
        fair_then (args_sound d layout form end outer levels tokens known k child good o1 r (moved (identifier i) (entered (in_spanned end) spot refl tt) w0) hole1 (omega (arith, deep)) test) (λ a r2 h.
        let span = span_between end s r2 in let fits = h.fits in
        reads (plain_.Call i (Some a) span) r2 (plain_as d layout form end outer levels tokens known (write_call_of d i (Some a) span) (λ f. formed_call_of d i (Some a) span f)
        (written_node end (identifier i & write_args a) _ _ (written_join end (identifier i) (write_args a) s r r2 w0 h.written)) h.formed (λ _. h.formed) (omega (arith, fits))))

    call_alone_sound : (s : List Placed) (i : Identifier) (r : List Placed) → IsWritten end (identifier i) s r → PlainReads s (plain_.Call i None (span_between end s r)) r
    call_alone_sound s i r w0 =
        let span = span_between end s r in
        plain_as d layout form end outer levels tokens known (write_call_of d i None span) (λ f. formed_call_of d i None span f) (written_node end (identifier i & Done) _ _ (written_join end (identifier i) Done s r r w0 refl)) refl (λ _. refl) (omega arith)

    pub named_sound : (o : Opening) (s : List Placed) → SpotT o s → PlainHole o → o.depth + k ≡ levels → begins identifiers s ≡ true → AnswerT (PlainReads s) (named d end child s)
    unfolding named after_name
    named_sound o s spot hole deep test = answer_begun d layout form end outer levels tokens identifiers s test (λ t i r is e.
        let w0 = written_name end i t r e (identifier_is t.token t.span i is) in
        fair_either (begins (symbols mark.Open) r) (λ opens. call_with_sound o s spot hole deep i r w0 opens)
        (λ _. fair_either (begins_target r) (λ _. assignment_sound o s spot hole deep i r w0) (λ _. reads (plain_.Call i None (span_between end s r)) r (call_alone_sound s i r w0))))
