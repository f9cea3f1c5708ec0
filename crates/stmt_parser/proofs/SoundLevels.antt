-- Statements that are read, within so many levels.
use Rattle.std.proofs.Common.{◌≡◌, ℕ, zero, suc, ◌+◌, Bool, true, false, List, [], length, Option, Some, None, refl, sym, ap, subst, ◌∙◌, arith}
use Rattle.std.specs.Prelude.{IsTrue}
use Rattle.std.specs.List.{Contains}
use Rattle.p2c_text.specs.declared.dialect.Dialect.{Dialect}
use Rattle.p2c_text.specs.declared.place.Span.{Span}
use Rattle.dialect_lexer.specs.declared.token.Word.TheVariants as word_
use Rattle.dialect_lexer.specs.declared.token.Symbol.TheVariants as mark
use Rattle.pascal_tree.specs.declared.names.Label.{Label}
use Rattle.pascal_tree.specs.declared.expressions.Expr.{Expr}
use Rattle.pascal_tree.specs.declared.statements.Plain.{Plain}
use Rattle.pascal_tree.specs.declared.statements.Plain.TheVariants as plain_
use Rattle.pascal_tree.specs.declared.statements.Stmt.{Stmt}
use Rattle.token_parsing.specs.Parser.{Outcome, Parser, begins}
use Rattle.token_parsing.proofs.Fair.{reads, fair_then, fair_either}
use Rattle.expr_parser.specs.Tokens.{Placed, plain}
use Rattle.expr_parser.specs.Spans.{span_between}
use Rattle.expr_parser.specs.Layout.{Layout, ◌&◌, symbol, spanned, counted, tokens_of, levels_of, IsWritten}
use Rattle.expr_parser.specs.Writing.{write_expr}
use Rattle.expr_parser.specs.Grammar.{AreTokens, formed_expr}
use Rattle.expr_parser.specs.Expressions.{expr}
use Rattle.expr_parser.specs.Constants.{begins_label, optional_label}
use Rattle.expr_parser.specs.ConstantNodes.{write_label, formed_label}
use Rattle.expr_parser.specs.Classes.{identifiers, words}
use Rattle.expr_parser.proofs.Layouts.{height_join, written_join}
use Rattle.expr_parser.proofs.KnownTokens.{colon_known}
use Rattle.expr_parser.proofs.FollowedParts.{and_in}
use Rattle.expr_parser.proofs.Openings.{Opening, within, in_counted, in_spanned, behind, before, Filled, filled_as, Hole}
use Rattle.expr_parser.proofs.Spots.{Answer, Spot, Reads, Good, spot_behind, spot_within, begins_at, deep_at}
use Rattle.expr_parser.proofs.SoundTokens.{written_both, answer_symbol}
use Rattle.expr_parser.proofs.SoundFactors.{expr_sound, no_span}
use Rattle.expr_parser.proofs.SoundConstants.{label_sound}
use Rattle.stmt_parser.specs.Writing.{optional_label as write_label_part, write_plain, write_stmt}
use Rattle.stmt_parser.specs.Grammar.{alone, formed_optional_label, formed_plain, formed_stmt}
use Rattle.stmt_parser.specs.Statements.{stmt_of}
use Rattle.stmt_parser.specs.Levels.{structured, plain_by, stmt_by, stmt}
use Rattle.stmt_parser.proofs.WrittenStatements.{write_stmt_of, write_nothing_of}
use Rattle.stmt_parser.proofs.FormedStatements.{formed_stmt_of, formed_nothing_of}
use Rattle.stmt_parser.proofs.SoundRows.{ReadsOne, one_as}
use Rattle.stmt_parser.proofs.SoundStatements.{empty, empty_written, empty_formed, empty_known, StmtGood, nothing_sound, compound_sound, conditional_sound, while_sound}
use Rattle.stmt_parser.proofs.SoundSimple.{goto_sound, named_sound}
use Rattle.stmt_parser.proofs.SoundLoops.{repeat_sound, for_sound, with_sound, try_sound}
use Rattle.stmt_parser.proofs.SoundCases.{case_sound}

module _ (d : Dialect) {C : Type 0} (layout : C → Layout) (form : C → Bool) (end : Span) (outer levels : ℕ) (tokens : List Placed) (known : AreTokens d (plain tokens)) (k : ℕ) where
  abbrev AnswerT : {A : Type 0} → (A → List Placed → Type 0) → Outcome Placed A → Type 0
  AnswerT P o = Answer d layout form end outer levels tokens P o

  abbrev SpotT : Opening → List Placed → Type 0
  SpotT o s = Spot d layout form end outer levels tokens o s

  abbrev moved : {o : Opening} {s r : List Placed} (l : Layout) → SpotT o s → IsWritten end l s r → SpotT (within o (behind l)) r
  moved l spot w = spot_behind d layout form end outer levels tokens known l spot w

  abbrev entered : {o : Opening} {s : List Placed} (p : Opening) → SpotT o s → p.left ≡ [] → AreTokens d p.right → SpotT (within o p) s
  entered p spot none closing = spot_within d layout form end outer levels tokens p spot none closing

  abbrev PlainReads : List Placed → Plain → List Placed → Type 0
  PlainReads s p r = ReadsOne d layout form end outer levels tokens known (write_plain d) (formed_plain d) k s p r

  abbrev PlainHole : Opening → Type 0
  PlainHole o = Hole d layout form (write_plain d) (λ p. alone (formed_plain d p)) o

  -- ---- labels

  abbrev LabelReads : List Placed → Option Label → List Placed → Type 0
  LabelReads s l r = Reads d layout form end outer levels tokens write_label_part (formed_optional_label d) k s l r

  optional_label_sound : (o : Opening) (s : List Placed) → SpotT o s → Hole d layout form write_label_part (formed_optional_label d) o → AnswerT (LabelReads s) (optional_label d end s)
  unfolding optional_label
  optional_label_sound o s spot hole = fair_either (begins_label d s)
      (λ test.
      let hole1 : Hole d layout form write_label (formed_label d) (within o (before (symbol mark.Colon))) = record { at = λ l ok. hole.at (Some l) ok } in
      fair_then (label_sound d layout form end outer levels tokens known k (within o (before (symbol mark.Colon))) s (entered (before (symbol mark.Colon)) spot refl (colon_known d, tt)) hole1) (λ l r h.
      let hole2 : Hole {A = Unit {0}} d layout form (λ _. symbol mark.Colon) (λ _. true) (within o (behind (write_label l))) = record { at = λ _ ok. hole1.at l h.formed } in
      let spot2 = moved (write_label l) spot h.written in let fits = h.fits in
      answer_symbol d layout form end outer levels tokens mark.Colon r spot2 (begins_at d layout form end outer levels tokens spot2 hole2 tt refl (colon_known d, tt)) (λ _ r2 w.
      reads (Some l) r2 (record { written = written_join end (write_label l) (symbol mark.Colon) s r r2 h.written w; formed = h.formed; fits = omega (arith, height_join (write_label l) (symbol mark.Colon), fits) }))))
      (λ none. reads None s (record { written = refl; formed = refl; fits = omega arith }))

  module _ (child : Parser Placed Expr) (good : Good d layout form end outer levels tokens write_expr (formed_expr d) k child) (inner : Parser Placed Stmt) (inner_good : StmtGood d layout form end outer levels tokens known k inner) where
    plain_sound : (o : Opening) (s : List Placed) → SpotT o s → PlainHole o → o.depth + k ≡ levels → AnswerT (PlainReads s) (plain_by d end child inner s)
    unfolding plain_by structured
    plain_sound o s spot hole deep =
        fair_either (begins identifiers s) (λ e. named_sound d layout form end outer levels tokens known k child good o s spot hole deep e)
        (λ _. fair_either (begins (words word_.KwGoto) s) (λ e. goto_sound d layout form end outer levels tokens known k o s spot hole e)
        (λ _. fair_either (begins (words word_.KwBegin) s) (λ e. compound_sound d layout form end outer levels tokens known k child good inner inner_good o s spot hole deep e)
        (λ _. fair_either (begins (words word_.KwIf) s) (λ e. conditional_sound d layout form end outer levels tokens known k child good inner inner_good o s spot hole deep e)
        (λ _. fair_either (begins (words word_.KwCase) s) (λ e. case_sound d layout form end outer levels tokens known k child good inner inner_good o s spot hole deep e)
        (λ _. fair_either (begins (words word_.KwWhile) s) (λ e. while_sound d layout form end outer levels tokens known k child good inner inner_good o s spot hole deep e)
        (λ _. fair_either (begins (words word_.KwRepeat) s) (λ e. repeat_sound d layout form end outer levels tokens known k child good inner inner_good o s spot hole deep e)
        (λ _. fair_either (begins (words word_.KwFor) s) (λ e. for_sound d layout form end outer levels tokens known k child good inner inner_good o s spot hole deep e)
        (λ _. fair_either (begins (words word_.KwWith) s) (λ e. with_sound d layout form end outer levels tokens known k child good inner inner_good o s spot hole deep e)
        (λ _. fair_either (begins (words word_.KwTry) s) (λ e. try_sound d layout form end outer levels tokens known k child good inner inner_good o s spot hole deep e) (λ _. nothing_sound d layout form end outer levels tokens known k s))))))))))

    abbrev node : Opening
    node = within in_counted (in_spanned end)

    stmt_by_sound : StmtGood d layout form end outer levels tokens known (suc k) (stmt_by d end child inner)
    unfolding stmt_by
    stmt_by_sound o s spot hole deep =
        let filled : (l : Option Label) (p : Plain) → IsTrue (formed_optional_label d l) → IsTrue (alone (formed_plain d p)) → Filled layout form (o.plug (counted (spanned end (write_label_part l & write_plain d p)))) =
        λ l p ok ok2. filled_as layout form (ap o.plug (write_stmt_of d l p end)) (hole.at (stmt_of l p end) (formed_stmt_of d l p end false ∙ and_in (formed_optional_label d l) (alone (formed_plain d p)) ok ok2)) in
        let nothing = plain_.Nothing no_span in
        let nothing_known : AreTokens d (tokens_of (write_plain d nothing)) = subst (λ l. AreTokens d (tokens_of l)) (sym (write_nothing_of d no_span)) tt in
        let spot0 = entered node spot refl tt in
        let hole1 : Hole d layout form write_label_part (formed_optional_label d) (within (within o node) (before (write_plain d nothing))) = record { at = λ l ok. filled l nothing ok (formed_nothing_of d no_span false) } in
        fair_then (optional_label_sound (within (within o node) (before (write_plain d nothing))) s (entered (before (write_plain d nothing)) spot0 refl nothing_known) hole1) (λ l r h.
        let first = write_label_part l in
        let o1 = within (within o node) (behind first) in
        let hole2 : PlainHole o1 = record { at = λ p ok. filled l p h.formed ok } in
        fair_then (plain_sound o1 r (moved first spot0 h.written) hole2 (omega (arith, deep))) (λ p r2 g.
        let span = span_between end s r2 in let x = write_plain d p in let f1 = h.fits in let f2 = g.fits in
        reads (stmt_of l p span) r2 (one_as d layout form end outer levels tokens known (write_stmt d) (formed_stmt d) (suc k) (write_stmt_of d l p span) (λ f. formed_stmt_of d l p span f)
        (written_both end (first & x) _ _ (written_join end first x s r r2 h.written g.written))
        (and_in (formed_optional_label d l) _ h.formed g.formed_alone) (λ next. and_in (formed_optional_label d l) _ h.formed (g.before_else next)) (omega (arith, height_join first x, f1, f2)))))

module _ (d : Dialect) {C : Type 0} (layout : C → Layout) (form : C → Bool) (end : Span) (outer levels : ℕ) (tokens : List Placed) (known : AreTokens d (plain tokens)) where
  stmt_stops : StmtGood d layout form end outer levels tokens known 0 (stmt d end 0)
  unfolding stmt
  stmt_stops o s spot hole deep =
      deep_at d layout form end outer levels tokens spot hole deep empty (empty_formed d false) (empty_known d)
      (subst (λ l. Contains (levels_of (outer + o.depth) (0 + length o.left) l) (0 + length o.left, outer + o.depth)) (sym (empty_written d)) (0, omega arith, refl))

  pub stmt_sound : (k : ℕ) → StmtGood d layout form end outer levels tokens known k (stmt d end k)
  unfolding stmt
  stmt_sound zero = stmt_stops
  stmt_sound (suc k) = stmt_by_sound d layout form end outer levels tokens known k (expr d end k) (expr_sound d layout form end outer levels tokens known k) (stmt d end k) (stmt_sound k)
