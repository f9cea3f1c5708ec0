-- Labels and constants of a text are followed.
use Rattle.std.proofs.Common.{◌≡◌, ℕ, Bool, true, false, ◌&&◌, List, [], ◌∷◌, map, Option, Some, None, Ok, refl, ap, ◌∙◌}
use Rattle.std.specs.Prelude.{IsTrue}
use Rattle.std.specs.Option.{option_map}
use Rattle.p2c_text.specs.declared.dialect.Dialect.{Dialect}
use Rattle.p2c_text.specs.declared.dialect.Dialect.TheVariants as dialect
use Rattle.p2c_text.specs.declared.place.Span.{Span}
use Rattle.dialect_lexer.specs.declared.token.Symbol.TheVariants as mark
use Rattle.pascal_tree.specs.declared.names.Label.{Label}
use Rattle.pascal_tree.specs.declared.names.Label.TheVariants as a_label
use Rattle.pascal_tree.specs.declared.constants.Sign.{Sign}
use Rattle.pascal_tree.specs.declared.constants.Sign.TheVariants as a_sign
use Rattle.pascal_tree.specs.declared.constants.Constant.{Constant}
use Rattle.pascal_tree.specs.declared.constants.Constant.TheVariants as a_constant
use Rattle.pascal_tree.specs.declared.constants.CaseLabel.{CaseLabel}
use Rattle.token_parsing.specs.Parser.{and_then, begins}
use Rattle.token_parsing.proofs.Tracked.{then_shrinks, pure_shrinks}
use Rattle.expr_parser.specs.Tokens.{Token, Placed, Name, Number, Symbol}
use Rattle.expr_parser.specs.Layout.{token, with_commas}
use Rattle.expr_parser.specs.Writing.{identifier, optional_sign as write_sign, optional_after as write_after}
use Rattle.expr_parser.specs.Grammar.{some_all}
use Rattle.expr_parser.specs.Classes.{identifiers, numbers, texts, signs, symbols, expect, same_symbol}
use Rattle.expr_parser.specs.Expressions.{optional_sign}
use Rattle.expr_parser.proofs.Layouts.{spell, spell_join}
use Rattle.expr_parser.proofs.Followed.{Until, Along, Followed, on_first, follow_then, follow_pure, follow_token, follow_first, follow_second, follow_not, begun_token, looks_at, Looks}
use Rattle.expr_parser.proofs.FollowedParts.{Part, along_as, and_in}
use Rattle.expr_parser.proofs.FollowedLists.{commas_followed}
use Rattle.expr_parser.proofs.Lookahead.{looks_name, looks_text, looks_sign, looks_symbol, on_name, on_text, on_symbol, on_sign, on_sign_here, on_symbol_here, accepts_name, accepts_number, accepts_text, accepts_sign, accepts_symbol}
use Rattle.expr_parser.specs.Dialects.{has_named_labels, has_label_ranges}
use Rattle.expr_parser.specs.ConstantNodes.{write_label, write_constant, write_case_label, formed_label, formed_last, formed_case_label}
use Rattle.expr_parser.specs.Constants.{named_label, number_label, begins_named_label, label, text_constant, name_constant, number_constant, unsigned_constant, signed_constant, constant, begins_range, optional_last, case_label, next_case_label, more_case_labels, case_labels}
use Rattle.expr_parser.proofs.ConstantShrinks.{unsigned_shrinks, constant_shrinks, optional_last_shrinks, case_label_shrinks}

-- ---- labels

pub no_name : (d : Dialect) → (has_named_labels d && false) ≡ false
no_name dialect.Iso = refl
no_name dialect.Turbo = refl
no_name dialect.Ucsd = refl
no_name dialect.Hp = refl

pub looks_named : (d : Dialect) → Looks (begins_named_label d) (λ x. has_named_labels d && on_name x)
looks_named d = record { none = ap (λ b. has_named_labels d && b) looks_name.none ∙ no_name d; some = λ t s. ap (λ b. has_named_labels d && b) (looks_name.some t s) }

pub label_followed : (n : Until) (W : Type 0) (d : Dialect) (end : Span) (l : Label) → IsTrue (formed_label d l) → (rest : List Token) (s : List Placed) → Along n (spell (write_label l) rest) s → Followed n W rest (label d end s)
unfolding label named_label number_label
label_followed n W d end (a_label.Number v span) formed rest s h =
    follow_second (begins_named_label d s) _ _ (looks_at (looks_named d) h ∙ no_name d) (follow_token numbers (accepts_number v) h (λ x. λ n r k. pure_shrinks _ n r k) (λ x r h. follow_pure _ h))
label_followed n W d end (a_label.Name i) formed rest s h =
    follow_first (begins_named_label d s) _ _ (looks_at (looks_named d) h ∙ and_in (has_named_labels d) true formed refl) (follow_token identifiers (accepts_name i.name) h (λ x. pure_shrinks _) (λ x r h. follow_pure _ h))

-- ---- constants

module _ (n : Until) (W : Type 0) (end : Span) where
  -- a sign, or none before a token that is no sign
  sign_followed : (sign : Option Sign) (x : Token) (rest : List Token) → on_sign x ≡ false → (s : List Placed) → Along n (spell (write_sign sign) (x ∷ rest)) s → Followed n W (x ∷ rest) (optional_sign s)
  unfolding optional_sign
  sign_followed None x rest none s h = follow_second (begins signs s) _ _ (looks_at looks_sign h ∙ none) (follow_pure _ h)
  sign_followed (Some op) x rest none s h =
      follow_first (begins signs s) _ _ (looks_at looks_sign h ∙ on_sign_here op) (follow_token signs (accepts_sign op) h (λ op. pure_shrinks _) (λ op r h. follow_pure _ h))

  -- what a constant with a sign begins with is no text
  not_text : (sign : Option Sign) (x : Token) (rest : List Token) → on_text x ≡ false → (s : List Placed) → Along n (spell (write_sign sign) (x ∷ rest)) s → begins texts s ≡ false
  not_text None x rest e s h = looks_at looks_text h ∙ e
  not_text (Some a_sign.Plus) x rest e s h = looks_at looks_text h
  not_text (Some a_sign.Minus) x rest e s h = looks_at looks_text h

  pub constant_followed : (c : Constant) (rest : List Token) (s : List Placed) → Along n (spell (write_constant c) rest) s → Followed n W rest (constant end s)
  unfolding constant text_constant signed_constant unsigned_constant name_constant number_constant
  constant_followed (a_constant.Number sign v span) rest s h =
      let h' = along_as (spell_join (write_sign sign) (token (Number v)) rest) h in
      follow_second (begins texts s) _ _ (not_text sign (Number v) rest refl s h') (follow_then (sign_followed sign (Number v) rest refl s h') (λ a. unsigned_shrinks dialect.Iso end s a) (λ a r h.
      follow_second (begins identifiers r) _ _ (looks_at looks_name h) (follow_token numbers (accepts_number v) h (λ x. λ n r k. pure_shrinks _ n r k) (λ x r h. follow_pure _ h))))
  constant_followed (a_constant.Name sign i span) rest s h =
      let h' = along_as (spell_join (write_sign sign) (identifier i) rest) h in
      follow_second (begins texts s) _ _ (not_text sign (Name i.name) rest refl s h') (follow_then (sign_followed sign (Name i.name) rest refl s h') (λ a. unsigned_shrinks dialect.Iso end s a) (λ a r h.
      follow_first (begins identifiers r) _ _ (looks_at looks_name h) (follow_token identifiers (accepts_name i.name) h (λ x. λ n r k. pure_shrinks _ n r k) (λ x r h. follow_pure _ h))))
  constant_followed (a_constant.Text bs span) rest s h =
      follow_first (begins texts s) _ _ (looks_at looks_text h) (follow_token texts (accepts_text bs) h (λ x. λ n r k. pure_shrinks _ n r k) (λ x r h. follow_pure _ h))

-- ---- labels of a `case`

pub no_range : (d : Dialect) → (has_label_ranges d && false) ≡ false
no_range dialect.Iso = refl
no_range dialect.Turbo = refl
no_range dialect.Ucsd = refl
no_range dialect.Hp = refl

pub looks_range : (d : Dialect) → Looks (begins_range d) (λ x. has_label_ranges d && on_symbol mark.DotDot x)
looks_range d = record { none = ap (λ b. has_label_ranges d && b) (looks_symbol mark.DotDot).none ∙ no_range d; some = λ t s. ap (λ b. has_label_ranges d && b) ((looks_symbol mark.DotDot).some t s) }

-- what may follow a label: no range
abbrev pub LabelEnds : List Token → Type 0
LabelEnds w = on_first (on_symbol mark.DotDot) w ≡ false

pub range_ends : (d : Dialect) (w : List Token) → LabelEnds w → on_first (λ x. has_label_ranges d && on_symbol mark.DotDot x) w ≡ false
range_ends d [] e = refl
range_ends d (x ∷ w) e = ap (λ b. has_label_ranges d && b) e ∙ no_range d

pub comma_ends : (w : List Token) → LabelEnds (Symbol mark.Comma ∷ w)
unfolding same_symbol
comma_ends w = refl

module _ (n : Until) (W : Type 0) (d : Dialect) (end : Span) (k : ℕ) where
  last_followed : (c : Option Constant) → IsTrue (formed_last d c) → (rest : List Token) → LabelEnds rest → (s : List Placed) → Along n (spell (write_after mark.DotDot (option_map write_constant c)) rest) s
      → Followed n W rest (optional_last d end s)
  unfolding optional_last
  last_followed None formed rest ends s h =
      follow_not (looks_range d) (λ s. and_then (expect mark.DotDot s) (λ _ s. and_then (constant end s) (λ c s. Ok (Some c, s)))) (λ s. Ok (None, s)) (range_ends d rest ends) h
      (λ s e. begun_token (symbols mark.DotDot) s (and_last (has_label_ranges d) (begins (symbols mark.DotDot) s) e) (λ _. then_shrinks (constant_shrinks d end) (λ c. pure_shrinks _))) (follow_pure _ h)
    where
      and_last : (a b : Bool) → (a && b) ≡ true → b ≡ true
      and_last true b e = e
      and_last false b e = absurd cc
  last_followed (Some c) formed rest ends s h =
      follow_first (begins_range d s) _ _ (looks_at (looks_range d) h ∙ ap (λ b. has_label_ranges d && b) (on_symbol_here mark.DotDot) ∙ and_in (has_label_ranges d) true formed refl)
      (follow_token (symbols mark.DotDot) (accepts_symbol mark.DotDot) h (λ _. then_shrinks (constant_shrinks d end) (λ c. pure_shrinks _)) (λ _ r h.
      follow_then (constant_followed n W end c rest r h) (λ c. pure_shrinks _) (λ c r h. follow_pure _ h)))

  label_read : (x : CaseLabel) → Part W k (write_case_label x) (formed_case_label d x) → (rest : List Token) → LabelEnds rest → (s : List Placed) → Along n (spell (write_case_label x) rest) s → Followed n W rest (case_label d end s)
  unfolding case_label
  label_read x part rest ends s h =
      follow_then (constant_followed n W end x.first _ s (along_as (spell_join (write_constant x.first) (write_after mark.DotDot (option_map write_constant x.last)) rest) h))
      (λ a. then_shrinks (optional_last_shrinks d end) (λ b. λ n r k. pure_shrinks _ n r k)) (λ a r h.
      follow_then (last_followed x.last part.formed rest ends r h) (λ b. λ n r k. pure_shrinks _ n r k) (λ b r h. follow_pure _ h))

  pub case_labels_followed : (xs : List CaseLabel) → Part W k (with_commas (map write_case_label xs)) (some_all (map (formed_case_label d) xs)) → (rest : List Token) → LabelEnds rest → on_first (on_symbol mark.Comma) rest ≡ false
      → (s : List Placed) → Along n (spell (with_commas (map write_case_label xs)) rest) s → Followed n W rest (case_labels d end s)
  unfolding case_labels more_case_labels next_case_label
  case_labels_followed [] part rest ends closed s h = let none = part.formed in absurd cc
  case_labels_followed (x ∷ xs) part rest ends closed s h =
      commas_followed n W k write_case_label (formed_case_label d) (case_label d end) (case_label_shrinks d end) LabelEnds comma_ends label_read x xs part rest ends closed s h
