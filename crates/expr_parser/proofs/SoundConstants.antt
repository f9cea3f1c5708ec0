-- Labels and constants that are read.
use Rattle.std.proofs.Common.{◌≡◌, ℕ, ◌+◌, ℤ, pos, Bool, true, false, ◌&&◌, List, [], ◌∷◌, map, Option, Some, None, refl, arith}
use Rattle.std.specs.Option.{option_map}
use Rattle.p2c_text.specs.declared.dialect.Dialect.{Dialect}
use Rattle.p2c_text.specs.declared.place.Span.{Span}
use Rattle.dialect_lexer.specs.declared.token.Symbol.TheVariants as mark
use Rattle.pascal_tree.specs.declared.names.Label.TheVariants as a_label
use Rattle.pascal_tree.specs.declared.constants.Sign.{Sign}
use Rattle.pascal_tree.specs.declared.constants.Constant.{Constant}
use Rattle.pascal_tree.specs.declared.constants.Constant.TheVariants as a_constant
use Rattle.pascal_tree.specs.declared.constants.CaseLabel.{CaseLabel}
use Rattle.token_parsing.specs.Parser.{Outcome, begins}
use Rattle.token_parsing.proofs.Fair.{reads, fair_then, fair_either}
use Rattle.expr_parser.specs.Tokens.{Placed, plain, Number, Text}
use Rattle.expr_parser.specs.Spans.{span_between}
use Rattle.expr_parser.specs.Layout.{Layout, Done, ◌&◌, token, symbol, with_commas, height_of, IsWritten}
use Rattle.expr_parser.specs.Writing.{identifier, optional_sign as write_sign, optional_after as write_after, sign_token}
use Rattle.expr_parser.specs.Grammar.{AreTokens, some_all}
use Rattle.expr_parser.specs.Classes.{identifiers, numbers, texts, signs, symbols}
use Rattle.expr_parser.specs.Expressions.{optional_sign}
use Rattle.expr_parser.proofs.Layouts.{height_join, written_join}
use Rattle.expr_parser.proofs.ClassTokens.{identifier_is, number_is, text_is, sign_is}
use Rattle.expr_parser.proofs.KnownTokens.{number_known}
use Rattle.expr_parser.proofs.Openings.{Opening, within, in_spanned, behind, before, Hole}
use Rattle.expr_parser.proofs.Spots.{Answer, Spot, Reads, Good, spot_behind, spot_within, begins_at}
use Rattle.expr_parser.proofs.SoundTokens.{written_node, written_token, written_name, answer_token, answer_begun, answer_mark}
use Rattle.expr_parser.proofs.SoundLists.{ReadsList, list_sound}
use Rattle.expr_parser.specs.Dialects.{has_named_labels, has_label_ranges}
use Rattle.expr_parser.specs.ConstantNodes.{write_label, write_constant, write_case_label, formed_label, formed_last, formed_case_label}
use Rattle.expr_parser.specs.Constants.{named_label, number_label, begins_named_label, label, text_constant, name_constant, number_constant, unsigned_constant, signed_constant, constant, begins_range, optional_last, case_label_of, case_label, next_case_label, more_case_labels, case_labels}
use Rattle.expr_parser.proofs.FollowedParts.{and_out}

module _ (d : Dialect) {C : Type 0} (layout : C → Layout) (form : C → Bool) (end : Span) (outer levels : ℕ) (tokens : List Placed) (known : AreTokens d (plain tokens)) (k : ℕ) where
  abbrev AnswerT : {A : Type 0} → (A → List Placed → Type 0) → Outcome Placed A → Type 0
  AnswerT P o = Answer d layout form end outer levels tokens P o

  abbrev SpotT : Opening → List Placed → Type 0
  SpotT o s = Spot d layout form end outer levels tokens o s

  abbrev ReadsT : {A : Type 0} → (A → Layout) → (A → Bool) → List Placed → A → List Placed → Type 0
  ReadsT write formed s a r = Reads d layout form end outer levels tokens write formed k s a r

  abbrev moved : {o : Opening} {s r : List Placed} (l : Layout) → SpotT o s → IsWritten end l s r → SpotT (within o (behind l)) r
  moved l spot w = spot_behind d layout form end outer levels tokens known l spot w

  abbrev entered : {o : Opening} {s : List Placed} (p : Opening) → SpotT o s → p.left ≡ [] → AreTokens d p.right → SpotT (within o p) s
  entered p spot none closing = spot_within d layout form end outer levels tokens p spot none closing

  -- ---- labels of statements

  pub label_sound : (o : Opening) (s : List Placed) → SpotT o s → Hole d layout form write_label (formed_label d) o → AnswerT (ReadsT write_label (formed_label d) s) (label d end s)
  unfolding label named_label number_label
  label_sound o s spot hole = fair_either (begins_named_label d s)
      (λ test. let named = and_out (has_named_labels d) (begins identifiers s) test in
      answer_begun d layout form end outer levels tokens identifiers s named.1 (λ t i r is e.
      reads (a_label.Name i) r (record { written = written_name end i t r e (identifier_is t.token t.span i is); formed = named.0; fits = omega arith })))
      (λ none. answer_token d layout form end outer levels tokens numbers s spot (begins_at d layout form end outer levels tokens spot hole (a_label.Number (pos 1) end) refl (number_known d, tt)) (λ t v r is e.
      reads (a_label.Number v (span_between end s r)) r (record { written = written_node end (token (Number v)) _ _ (written_token end (Number v) t r e (number_is t.token v is)); formed = refl; fits = omega arith })))

  -- ---- constants

  abbrev AnyConstant : Constant → Bool
  AnyConstant c = true

  sign_sound : (s : List Placed) → AnswerT (λ sign r. IsWritten end (write_sign sign) s r) (optional_sign s)
  unfolding optional_sign
  sign_sound s = fair_either (begins signs s)
      (λ test. answer_begun d layout form end outer levels tokens signs s test (λ t op r is e. reads (Some op) r (written_token end (sign_token op) t r e (sign_is t.token op is))))
      (λ none. reads None s refl)

  sign_low : (sign : Option Sign) → height_of (write_sign sign) ≡ 0
  sign_low None = refl
  sign_low (Some op) = refl

  pub constant_sound : (o : Opening) (s : List Placed) → SpotT o s → Hole d layout form write_constant AnyConstant o → AnswerT (ReadsT write_constant AnyConstant s) (constant end s)
  unfolding constant text_constant signed_constant unsigned_constant name_constant number_constant
  constant_sound o s spot hole = fair_either (begins texts s)
      (λ test. answer_begun d layout form end outer levels tokens texts s test (λ t bs r is e.
      reads (a_constant.Text bs (span_between end s r)) r (record { written = written_node end (token (Text bs)) _ _ (written_token end (Text bs) t r e (text_is t.token bs is)); formed = refl; fits = omega arith })))
      (λ none. fair_then (sign_sound s) (λ sign r w. fair_either (begins identifiers r)
      (λ test. answer_begun d layout form end outer levels tokens identifiers r test (λ t i r2 is e.
      reads (a_constant.Name sign i (span_between end s r2)) r2 (record {
        written = written_node end (write_sign sign & identifier i) _ _ (written_join end (write_sign sign) (identifier i) s r r2 w (written_name end i t r2 e (identifier_is t.token t.span i is)));
        formed = refl;
        fits = omega (arith, height_join (write_sign sign) (identifier i), sign_low sign);
      })))
      (λ other.
      let inside = within (within o (in_spanned end)) (behind (write_sign sign)) in
      let hole1 : Hole {A = ℤ} d layout form (λ v. token (Number v)) (λ _. true) inside = record { at = λ v ok. hole.at (a_constant.Number sign v end) refl } in
      let spot1 = moved (write_sign sign) (entered (in_spanned end) spot refl tt) w in
      answer_token d layout form end outer levels tokens numbers r spot1 (begins_at d layout form end outer levels tokens spot1 hole1 (pos 1) refl (number_known d, tt)) (λ t v r2 is e.
      reads (a_constant.Number sign v (span_between end s r2)) r2 (record {
        written = written_node end (write_sign sign & token (Number v)) _ _ (written_join end (write_sign sign) (token (Number v)) s r r2 w (written_token end (Number v) t r2 e (number_is t.token v is)));
        formed = refl;
        fits = omega (arith, height_join (write_sign sign) (token (Number v)), sign_low sign);
      })))))

  -- ---- labels of a `case`

  abbrev write_last : Option Constant → Layout
  write_last c = write_after mark.DotDot (option_map write_constant c)

  last_sound : (o : Opening) (s : List Placed) → SpotT o s → Hole d layout form write_last (formed_last d) o → AnswerT (ReadsT write_last (formed_last d) s) (optional_last d end s)
  unfolding optional_last
  last_sound o s spot hole = fair_either (begins_range d s)
      (λ test. let has = and_out (has_label_ranges d) (begins (symbols mark.DotDot) s) test in
      answer_mark d layout form end outer levels tokens mark.DotDot s has.1 (λ _ r w.
      let hole1 : Hole d layout form write_constant AnyConstant (within o (behind (symbol mark.DotDot))) = record { at = λ c ok. hole.at (Some c) has.0 } in
      fair_then (constant_sound (within o (behind (symbol mark.DotDot))) r (moved (symbol mark.DotDot) spot w) hole1) (λ c r2 h.
      let fits = h.fits in
      reads (Some c) r2 (record { written = written_join end (symbol mark.DotDot) (write_constant c) s r r2 w h.written; formed = has.0; fits = fits }))))
      (λ none. reads None s (record { written = refl; formed = refl; fits = omega arith }))

  pub case_label_sound : Good d layout form end outer levels tokens write_case_label (formed_case_label d) k (case_label d end)
  unfolding case_label
  case_label_sound o s spot hole deep =
      let inside = within o (in_spanned end) in
      let spot1 = entered (in_spanned end) spot refl tt in
      let hole1 : Hole d layout form write_constant AnyConstant (within inside (before Done)) = record { at = λ c ok. hole.at (case_label_of c None end) refl } in
      fair_then (constant_sound (within inside (before Done)) s (entered (before Done) spot1 refl tt) hole1) (λ a r h.
      let hole2 : Hole d layout form write_last (formed_last d) (within inside (behind (write_constant a))) = record { at = λ c ok. hole.at (case_label_of a c end) ok } in
      fair_then (last_sound (within inside (behind (write_constant a))) r (moved (write_constant a) spot1 h.written) hole2) (λ c r2 g.
      let x = h.fits in let y = g.fits in
      reads (case_label_of a c (span_between end s r2)) r2 (record {
        written = written_node end (write_constant a & write_last c) _ _ (written_join end (write_constant a) (write_last c) s r r2 h.written g.written);
        formed = g.formed;
        fits = omega (arith, height_join (write_constant a) (write_last c), x, y);
      })))

  pub case_labels_sound : (o : Opening) (s : List Placed) → SpotT o s → Hole d layout form (λ (p : CaseLabel × List CaseLabel). with_commas (map write_case_label (p.0 ∷ p.1))) (λ (p : CaseLabel × List CaseLabel). some_all (map (formed_case_label d) (p.0 ∷ p.1))) o → o.depth + k ≡ levels
      → AnswerT (ReadsList d layout form end outer levels tokens known write_case_label (formed_case_label d) k s) (case_labels d end s)
  unfolding case_labels more_case_labels next_case_label
  case_labels_sound o s spot hole deep = list_sound d layout form end outer levels tokens known write_case_label (formed_case_label d) k (case_label d end) case_label_sound o s spot hole deep
