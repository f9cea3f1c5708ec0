-- Labels and constants that are written are read.
use Rattle.std.proofs.Common.{◌≡◌, ℕ, Bool, true, false, ◌&&◌, List, [], ◌∷◌, map, Option, Some, None, Ok, refl, ap, ◌∙◌}
use Rattle.std.specs.Prelude.{IsTrue}
use Rattle.std.specs.Option.{option_map}
use Rattle.p2c_text.specs.declared.dialect.Dialect.{Dialect}
use Rattle.p2c_text.specs.declared.place.Span.{Span}
use Rattle.dialect_lexer.specs.declared.token.Symbol.TheVariants as mark
use Rattle.pascal_tree.specs.declared.names.Label.{Label}
use Rattle.pascal_tree.specs.declared.names.Label.TheVariants as a_label
use Rattle.pascal_tree.specs.declared.constants.Sign.{Sign}
use Rattle.pascal_tree.specs.declared.constants.Sign.TheVariants as a_sign
use Rattle.pascal_tree.specs.declared.constants.Constant.{Constant}
use Rattle.pascal_tree.specs.declared.constants.Constant.TheVariants as a_constant
use Rattle.pascal_tree.specs.declared.constants.CaseLabel.{CaseLabel}
use Rattle.token_parsing.specs.Parser.{begins}
use Rattle.expr_parser.specs.Tokens.{Token, Placed, Number, Text, plain}
use Rattle.expr_parser.specs.Layout.{Done, ◌&◌, token, symbol, with_commas, IsWritten}
use Rattle.expr_parser.specs.Writing.{identifier, optional_sign as write_sign, optional_after as write_after}
use Rattle.expr_parser.specs.Grammar.{some_all}
use Rattle.expr_parser.specs.Classes.{identifiers, numbers, texts, symbols}
use Rattle.expr_parser.specs.Dialects.{has_named_labels, has_label_ranges}
use Rattle.expr_parser.specs.ConstantNodes.{write_label, write_constant, write_case_label, formed_label, formed_last, formed_case_label}
use Rattle.expr_parser.specs.Constants.{named_label, number_label, begins_named_label, label, text_constant, name_constant, number_constant, unsigned_constant, signed_constant, constant, begins_range, optional_last, case_label_of, case_label, next_case_label, more_case_labels, case_labels}
use Rattle.expr_parser.proofs.Layouts.{spell, spell_join}
use Rattle.expr_parser.proofs.Followed.{on_first}
use Rattle.expr_parser.proofs.FollowedParts.{and_in, Part}
use Rattle.expr_parser.proofs.FollowedConstants.{no_name, looks_named, looks_range, LabelEnds, range_ends, comma_ends}
use Rattle.expr_parser.proofs.Lookahead.{looks_name, looks_text, on_text, on_sign, on_symbol, on_symbol_here, says_number, says_text, says_symbol}
use Rattle.expr_parser.proofs.Exact.{written_inside, written_plain, ends_plain, exact_then, exact_part, exact_token, exact_name, exact_made, exact_first, exact_second, looks_plain, looks_written}
use Rattle.expr_parser.proofs.ExactLists.{commas_exact}
use Rattle.expr_parser.proofs.ExactTerms.{sign_exact}

-- ---- labels

pub label_exact : (d : Dialect) (end : Span) (l : Label) → IsTrue (formed_label d l) → (s r : List Placed) → IsWritten end (write_label l) s r → label d end s ≡ Ok (l, r)
unfolding label named_label number_label
label_exact d end (a_label.Number v span) formed s r h =
    let (place, inside) = written_inside end span (token (Number v)) s r h in
    exact_second (begins_named_label d s) _ _ (looks_written (looks_named d) end (token (Number v)) s r inside ∙ no_name d) (exact_token _ numbers (says_number v) end Done s r inside (λ m h. exact_made end span (a_label.Number v) s m r h refl place))
label_exact d end (a_label.Name i) formed s r h =
    exact_first (begins_named_label d s) _ _ (looks_written (looks_named d) end (identifier i) s r h ∙ and_in (has_named_labels d) true formed refl) (exact_name _ i end Done s r h (λ m h. ap (λ z. Ok (a_label.Name i, z)) h))

-- ---- constants

-- what a constant with a sign begins with is no text
not_text : (sign : Option Sign) (w : List Token) → on_first on_text w ≡ false → on_first on_text (spell (write_sign sign) w) ≡ false
not_text None w e = e
not_text (Some a_sign.Plus) w e = refl
not_text (Some a_sign.Minus) w e = refl

pub constant_exact : (end : Span) (c : Constant) (s r : List Placed) → IsWritten end (write_constant c) s r → constant end s ≡ Ok (c, r)
unfolding constant text_constant signed_constant unsigned_constant name_constant number_constant
constant_exact end (a_constant.Number sign v span) s r h =
    let value = token (Number v) in let l = write_sign sign & value in
    let (place, inside) = written_inside end span l s r h in
    exact_second (begins texts s) _ _ (looks_written looks_text end l s r inside ∙ ap (on_first on_text) (spell_join (write_sign sign) value (plain r)) ∙ not_text sign (Number v ∷ plain r) refl)
    (exact_part _ sign end (write_sign sign) value s r inside (λ m left right. sign_exact end sign s m left (ap (on_first on_sign) (written_plain end value m r right))) (λ m h.
    exact_second (begins identifiers m) _ _ (looks_written looks_name end value m r h) (exact_token _ numbers (says_number v) end Done m r h (λ m h. exact_made end span (a_constant.Number sign v) s m r h refl place))))
constant_exact end (a_constant.Name sign i span) s r h =
    let l = write_sign sign & identifier i in
    let (place, inside) = written_inside end span l s r h in
    exact_second (begins texts s) _ _ (looks_written looks_text end l s r inside ∙ ap (on_first on_text) (spell_join (write_sign sign) (identifier i) (plain r)) ∙ not_text sign (spell (identifier i) (plain r)) refl)
    (exact_part _ sign end (write_sign sign) (identifier i) s r inside (λ m left right. sign_exact end sign s m left (ap (on_first on_sign) (written_plain end (identifier i) m r right))) (λ m h.
    exact_first (begins identifiers m) _ _ (looks_written looks_name end (identifier i) m r h) (exact_name _ i end Done m r h (λ m h. exact_made end span (a_constant.Name sign i) s m r h refl place))))
constant_exact end (a_constant.Text bs span) s r h =
    let (place, inside) = written_inside end span (token (Text bs)) s r h in
    exact_first (begins texts s) _ _ (looks_written looks_text end (token (Text bs)) s r inside) (exact_token _ texts (says_text bs) end Done s r inside (λ m h. exact_made end span (a_constant.Text bs) s m r h refl place))

-- ---- labels of a `case`

module _ (d : Dialect) (end : Span) where
  last_exact : (c : Option Constant) → IsTrue (formed_last d c) → (s r : List Placed) → IsWritten end (write_after mark.DotDot (option_map write_constant c)) s r → LabelEnds (plain r) → optional_last d end s ≡ Ok (c, r)
  unfolding optional_last
  last_exact None formed s r h ends = exact_second (begins_range d s) _ _ (looks_written (looks_range d) end Done s r h ∙ range_ends d (plain r) ends) (ap (λ z. Ok (None, z)) h)
  last_exact (Some c) formed s r h ends =
      exact_first (begins_range d s) _ _ (looks_written (looks_range d) end (symbol mark.DotDot & write_constant c) s r h ∙ ap (λ b. has_label_ranges d && b) (on_symbol_here mark.DotDot) ∙ and_in (has_label_ranges d) true formed refl)
      (exact_token _ (symbols mark.DotDot) (says_symbol mark.DotDot) end (write_constant c) s r h (λ m h. exact_then _ (constant_exact end c m r h) refl))

  pub case_label_exact : (x : CaseLabel) → IsTrue (formed_case_label d x) → (s r : List Placed) → IsWritten end (write_case_label x) s r → LabelEnds (plain r) → case_label d end s ≡ Ok (x, r)
  unfolding case_label
  case_label_exact x formed s r h ends =
      let first = write_constant x.first in let last = write_after mark.DotDot (option_map write_constant x.last) in
      let (place, inside) = written_inside end x.span (first & last) s r h in
      exact_part _ x.first end first last s r inside (λ m left right. constant_exact end x.first s m left) (λ m right.
      exact_then _ (last_exact x.last formed m r right ends) (exact_made end x.span (case_label_of x.first x.last) s r r refl refl place))

  pub case_labels_exact : (k : ℕ) (xs : List CaseLabel) → Part (Unit {0}) k (with_commas (map write_case_label xs)) (some_all (map (formed_case_label d) xs)) → (s r : List Placed) → IsWritten end (with_commas (map write_case_label xs)) s r
      → LabelEnds (plain r) → on_first (on_symbol mark.Comma) (plain r) ≡ false → case_labels d end s ≡ Ok (xs, r)
  unfolding case_labels more_case_labels next_case_label
  case_labels_exact k [] part s r h ends closed = let none = part.formed in absurd cc
  case_labels_exact k (x ∷ xs) part s r h ends closed =
      commas_exact end k write_case_label (formed_case_label d) (case_label d end) LabelEnds comma_ends (λ x part s r h ends. case_label_exact x part.formed s r h ends) x xs part s r h ends closed
