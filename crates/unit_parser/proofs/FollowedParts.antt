-- Parts of declarations of a text are followed.
use Rattle.std.proofs.Common.{◌≡◌, ℕ, Bool, true, false, ◌&&◌, not, List, [], ◌∷◌, length, map, Ok, refl, sym, ap, ◌∙◌}
use Rattle.std.specs.Prelude.{IsTrue}
use Rattle.p2c_text.specs.declared.dialect.Dialect.{Dialect}
use Rattle.p2c_text.specs.declared.place.Span.{Span}
use Rattle.dialect_lexer.specs.declared.token.Word.TheVariants as word_
use Rattle.dialect_lexer.specs.declared.token.Symbol.TheVariants as mark
use Rattle.pascal_tree.specs.declared.names.Identifier.{Identifier}
use Rattle.pascal_tree.specs.declared.names.Label.{Label}
use Rattle.pascal_tree.specs.declared.expressions.Expr.{Expr}
use Rattle.pascal_tree.specs.declared.types.TypeNode.{TypeNode}
use Rattle.pascal_tree.specs.declared.declarations.LabelPart.{LabelPart}
use Rattle.pascal_tree.specs.declared.declarations.Value.{Value}
use Rattle.pascal_tree.specs.declared.declarations.Value.TheVariants as value_
use Rattle.pascal_tree.specs.declared.declarations.ConstDefinition.{ConstDefinition}
use Rattle.pascal_tree.specs.declared.declarations.ConstPart.{ConstPart}
use Rattle.pascal_tree.specs.declared.declarations.TypeDefinition.{TypeDefinition}
use Rattle.pascal_tree.specs.declared.declarations.TypePart.{TypePart}
use Rattle.pascal_tree.specs.declared.declarations.VarSection.{VarSection}
use Rattle.pascal_tree.specs.declared.declarations.VarPart.{VarPart}
use Rattle.token_parsing.specs.Parser.{Parser, begins}
use Rattle.token_parsing.proofs.Tracked.{Shrinks, Takes, one_shrinks, then_shrinks, pure_shrinks, repeat_shrinks, short_then, takes_token, takes_then}
use Rattle.expr_parser.specs.Tokens.{Token, Placed, Name, Word, Symbol}
use Rattle.expr_parser.specs.Spans.{span_between}
use Rattle.expr_parser.specs.Layout.{Layout, ◌&◌, word, symbol, in_row, with_commas}
use Rattle.expr_parser.specs.Writing.{identifier}
use Rattle.expr_parser.specs.ConstantNodes.{write_label, formed_label}
use Rattle.expr_parser.specs.Grammar.{some_all, formed_expr}
use Rattle.expr_parser.specs.Classes.{identifiers, words, symbols, same_symbol, same_word}
use Rattle.expr_parser.specs.Constants.{label}
use Rattle.expr_parser.proofs.Layouts.{spell, spell_join}
use Rattle.expr_parser.proofs.ConstantShrinks.{label_shrinks}
use Rattle.expr_parser.proofs.Followed.{Until, Along, Followed, on_first, Begun, follow_then, follow_pure, follow_token, follow_first, follow_second, begun_token}
use Rattle.expr_parser.proofs.FollowedParts.{and_out, Part, part_left, part_right, part_inside, along_as, ExprFollowed}
use Rattle.expr_parser.proofs.FollowedLists.{commas_followed}
use Rattle.expr_parser.proofs.FollowedConstants.{label_followed, constant_followed}
use Rattle.expr_parser.proofs.Lookahead.{looks_name, on_name, on_symbol, accepts_name, accepts_word, accepts_symbol, ExprEnds}
use Rattle.type_parser.specs.Writing.{write_names, write_type}
use Rattle.type_parser.specs.Grammar.{some_names, formed_type}
use Rattle.type_parser.specs.Names.{next_name, more_names, names}
use Rattle.type_parser.proofs.Shrinks.{next_name_shrinks}
use Rattle.type_parser.proofs.FollowedNames.{names_followed}
use Rattle.type_parser.proofs.FollowedTypes.{TypeFollowed, marks_end}
use Rattle.stmt_parser.proofs.Ends.{semicolon_ends}
use Rattle.unit_parser.specs.Dialects.{has_value_expressions}
use Rattle.unit_parser.specs.Writing.{write_labels, write_value, write_const_definition, write_constants, write_type_definition, write_types, write_var_section, write_variables}
use Rattle.unit_parser.specs.Grammar.{formed_labels, formed_value, formed_const_definition, formed_constants, formed_type_definition, formed_types, formed_var_section, formed_variables}
use Rattle.unit_parser.specs.Parts.{next_label, more_labels, labels, label_part_of, label_part, constant_value, expression_value, value, const_definition, next_const_definition, const_definitions, const_part_of, const_part, type_definition, next_type_definition, type_definitions, type_part_of, type_part, var_section, next_var_section, var_sections, var_part_of, var_part}
use Rattle.unit_parser.proofs.Shrinks.{labels_shrinks, value_shrinks, const_definition_shrinks, type_definition_shrinks, var_section_shrinks, next_const_definition_shrinks, const_definitions_shrinks, next_type_definition_shrinks, type_definitions_shrinks, next_var_section_shrinks, var_sections_shrinks}
use Rattle.unit_parser.proofs.FollowedRows.{some_followed}

pub not_true : (b : Bool) → IsTrue (not b) → b ≡ false
not_true true h = sym h
not_true false h = refl

-- what begins with a list of names takes a name
names_takes : (s : List Placed) → Takes (length s) (names s)
unfolding names more_names
names_takes s = takes_token identifiers s (λ i. repeat_shrinks (begins (symbols mark.Comma)) next_name next_name_shrinks (i ∷ []))

names_begun : Begun (begins identifiers) names
unfolding names more_names
names_begun s e = begun_token identifiers s e (λ i. repeat_shrinks (begins (symbols mark.Comma)) next_name next_name_shrinks (i ∷ []))

module _ (n : Until) (W : Type 0) (d : Dialect) (end : Span) (k : ℕ) where
  -- ---- labels

  labels_followed : (xs : List Label) → Part W k (with_commas (map write_label xs)) (some_all (map (formed_label d) xs)) → (rest : List Token) → on_first (on_symbol mark.Comma) rest ≡ false → (s : List Placed)
      → Along n (spell (with_commas (map write_label xs)) rest) s → Followed n W rest (labels d end s)
  unfolding labels more_labels next_label
  labels_followed [] part rest closed s h = let none = part.formed in absurd cc
  labels_followed (x ∷ xs) part rest closed s h =
      commas_followed n W k write_label (formed_label d) (label d end) (label_shrinks d end) (λ _. Unit {0}) (λ _. tt) (λ y p rest ends s h. label_followed n W d end y p.formed rest s h) x xs part rest tt closed s h

  pub label_part_followed : (p : LabelPart) → Part W k (write_labels p) (formed_labels d p) → (rest : List Token) (s : List Placed) → Along n (spell (write_labels p) rest) s → Followed n W rest (label_part d end s)
  unfolding label_part same_symbol
  label_part_followed p part rest s h =
      let list = with_commas (map write_label p.labels) in
      let q = part_left list (symbol mark.Semicolon) (part_right (word word_.KwLabel) (list & symbol mark.Semicolon) (part_inside (word word_.KwLabel & list & symbol mark.Semicolon) part)) in
      follow_token (words word_.KwLabel) (accepts_word word_.KwLabel) (along_as (ap (λ w. Word word_.KwLabel ∷ w) (spell_join list (symbol mark.Semicolon) rest)) h)
      (λ _. then_shrinks (labels_shrinks d end) (λ all. then_shrinks (one_shrinks _) (λ u. λ n r k. pure_shrinks _ n r k))) (λ _ r h.
      follow_then (labels_followed p.labels q (Symbol mark.Semicolon ∷ rest) refl r h) (λ all. then_shrinks (one_shrinks _) (λ u. λ n r k. pure_shrinks _ n r k)) (λ all r h.
      follow_token (symbols mark.Semicolon) (accepts_symbol mark.Semicolon) h (λ u. λ n r k. pure_shrinks _ n r k) (λ _ r h. follow_pure _ h)))

  -- ---- constants

  module _ (child : Parser Placed Expr) (shrinks : Shrinks child) (good : ExprFollowed n W d k child) where
    value_followed : (v : Value) → Part W k (write_value v) (formed_value d v) → (rest : List Token) → ExprEnds rest → (s : List Placed) → Along n (spell (write_value v) rest) s → Followed n W rest (value d end child s)
    unfolding value constant_value expression_value
    value_followed (value_.Constant c) part rest ends s h =
        follow_second (has_value_expressions d) _ _ (not_true (has_value_expressions d) part.formed) (follow_then (constant_followed n W end c rest s h) (λ x. pure_shrinks _) (λ x r h. follow_pure _ h))
    value_followed (value_.Expression e) part rest ends s h =
        let both = and_out (has_value_expressions d) (formed_expr d e) part.formed in
        follow_first (has_value_expressions d) _ _ both.0 (follow_then (good e (record { formed = both.1; fits = part.fits }) rest ends s h) (λ x. pure_shrinks _) (λ x r h. follow_pure _ h))

    const_definition_followed : (x : ConstDefinition) → Part W k (write_const_definition x) (formed_const_definition d x) → (rest : List Token) → Unit {0} → (s : List Placed)
        → Along n (spell (write_const_definition x) rest) s → Followed n W rest (const_definition d end child s)
    unfolding const_definition
    const_definition_followed x part rest ends s h =
        let v = write_value x.value in
        let tail = symbol mark.Equal & v & symbol mark.Semicolon in
        let p = part_left v (symbol mark.Semicolon) (part_right (symbol mark.Equal) (v & symbol mark.Semicolon) (part_right (identifier x.name) tail (part_inside (identifier x.name & tail) part))) in
        follow_token identifiers (accepts_name x.name.name) (along_as (ap (λ w. Name x.name.name ∷ Symbol mark.Equal ∷ w) (spell_join v (symbol mark.Semicolon) rest)) h)
        (λ i. then_shrinks (one_shrinks _) (λ _. then_shrinks (value_shrinks d end child shrinks) (λ v. then_shrinks (one_shrinks _) (λ u. λ n r k. pure_shrinks _ n r k)))) (λ i r h.
        follow_token (symbols mark.Equal) (accepts_symbol mark.Equal) h (λ _. then_shrinks (value_shrinks d end child shrinks) (λ v. then_shrinks (one_shrinks _) (λ u. λ n r k. pure_shrinks _ n r k))) (λ _ r h.
        follow_then (value_followed x.value p (Symbol mark.Semicolon ∷ rest) (semicolon_ends rest).expr r h) (λ v. then_shrinks (one_shrinks _) (λ u. λ n r k. pure_shrinks _ n r k)) (λ v r h.
        follow_token (symbols mark.Semicolon) (accepts_symbol mark.Semicolon) h (λ u. λ n r k. pure_shrinks _ n r k) (λ _ r h. follow_pure _ h))))

    const_definition_begun : Begun (begins identifiers) (const_definition d end child)
    unfolding const_definition
    const_definition_begun s e =
        begun_token identifiers s e (λ i. then_shrinks (one_shrinks _) (λ _. then_shrinks (value_shrinks d end child shrinks) (λ v. then_shrinks (one_shrinks _) (λ u. λ n r k. pure_shrinks _ n r k))))

    const_definition_takes : (s : List Placed) → Takes (length s) (const_definition d end child s)
    unfolding const_definition
    const_definition_takes s =
        takes_token identifiers s (λ i. then_shrinks (one_shrinks _) (λ _. then_shrinks (value_shrinks d end child shrinks) (λ v. then_shrinks (one_shrinks _) (λ u. λ n r k. pure_shrinks _ n r k))))

    pub const_part_followed : (p : ConstPart) → Part W k (write_constants p) (formed_constants d p) → (rest : List Token) → on_first on_name rest ≡ false → (s : List Placed) → Along n (spell (write_constants p) rest) s → Followed n W rest (const_part d end child s)
    unfolding const_part const_definitions next_const_definition
    const_part_followed p part rest closed s h =
        let row = in_row (map write_const_definition p.definitions) in
        follow_token (words word_.KwConst) (accepts_word word_.KwConst) h
        (λ _. then_shrinks (next_const_definition_shrinks d end child shrinks []) (λ x. then_shrinks (const_definitions_shrinks d end child shrinks x) (λ all. λ n r k. pure_shrinks _ n r k))) (λ _ r h.
        some_followed n W k write_const_definition (formed_const_definition d) (const_definition d end child) (const_definition_shrinks d end child shrinks) const_definition_takes (begins identifiers) on_name looks_name const_definition_begun
        (λ x ok rest. (Name x.name.name, spell (symbol mark.Equal & write_value x.value & symbol mark.Semicolon) rest, refl, refl)) (λ w. Unit {0}) (λ x ok rest. tt)
        (λ all r. const_part_of all (span_between end s r)) const_definition_followed p.definitions (part_right (word word_.KwConst) row (part_inside (word word_.KwConst & row) part)) rest tt closed r h)

  -- ---- types and variables

  module _ (child : Parser Placed TypeNode) (shrinks : Shrinks child) (good : TypeFollowed n W d k child) where
    type_definition_followed : (x : TypeDefinition) → Part W k (write_type_definition x) (formed_type_definition d x) → (rest : List Token) → Unit {0} → (s : List Placed)
        → Along n (spell (write_type_definition x) rest) s → Followed n W rest (type_definition end child s)
    unfolding type_definition
    type_definition_followed x part rest ends s h =
        let t = write_type x.of in
        let tail = symbol mark.Equal & t & symbol mark.Semicolon in
        let p = part_left t (symbol mark.Semicolon) (part_right (symbol mark.Equal) (t & symbol mark.Semicolon) (part_right (identifier x.name) tail (part_inside (identifier x.name & tail) part))) in
        follow_token identifiers (accepts_name x.name.name) (along_as (ap (λ w. Name x.name.name ∷ Symbol mark.Equal ∷ w) (spell_join t (symbol mark.Semicolon) rest)) h)
        (λ i. then_shrinks (one_shrinks _) (λ _. then_shrinks shrinks (λ v. then_shrinks (one_shrinks _) (λ u. λ n r k. pure_shrinks _ n r k)))) (λ i r h.
        follow_token (symbols mark.Equal) (accepts_symbol mark.Equal) h (λ _. then_shrinks shrinks (λ v. then_shrinks (one_shrinks _) (λ u. λ n r k. pure_shrinks _ n r k))) (λ _ r h.
        follow_then (good x.of p (Symbol mark.Semicolon ∷ rest) (marks_end rest).2 r h) (λ v. then_shrinks (one_shrinks _) (λ u. λ n r k. pure_shrinks _ n r k)) (λ v r h.
        follow_token (symbols mark.Semicolon) (accepts_symbol mark.Semicolon) h (λ u. λ n r k. pure_shrinks _ n r k) (λ _ r h. follow_pure _ h))))

    type_definition_begun : Begun (begins identifiers) (type_definition end child)
    unfolding type_definition
    type_definition_begun s e = begun_token identifiers s e (λ i. then_shrinks (one_shrinks _) (λ _. then_shrinks shrinks (λ v. then_shrinks (one_shrinks _) (λ u. λ n r k. pure_shrinks _ n r k))))

    type_definition_takes : (s : List Placed) → Takes (length s) (type_definition end child s)
    unfolding type_definition
    type_definition_takes s = takes_token identifiers s (λ i. then_shrinks (one_shrinks _) (λ _. then_shrinks shrinks (λ v. then_shrinks (one_shrinks _) (λ u. λ n r k. pure_shrinks _ n r k))))

    pub type_part_followed : (p : TypePart) → Part W k (write_types p) (formed_types d p) → (rest : List Token) → on_first on_name rest ≡ false → (s : List Placed) → Along n (spell (write_types p) rest) s → Followed n W rest (type_part end child s)
    unfolding type_part type_definitions next_type_definition
    type_part_followed p part rest closed s h =
        let row = in_row (map write_type_definition p.definitions) in
        follow_token (words word_.KwType) (accepts_word word_.KwType) h
        (λ _. then_shrinks (next_type_definition_shrinks d end child shrinks []) (λ x. then_shrinks (type_definitions_shrinks d end child shrinks x) (λ all. λ n r k. pure_shrinks _ n r k))) (λ _ r h.
        some_followed n W k write_type_definition (formed_type_definition d) (type_definition end child) (type_definition_shrinks d end child shrinks) type_definition_takes (begins identifiers) on_name looks_name type_definition_begun
        (λ x ok rest. (Name x.name.name, spell (symbol mark.Equal & write_type x.of & symbol mark.Semicolon) rest, refl, refl)) (λ w. Unit {0}) (λ x ok rest. tt)
        (λ all r. type_part_of all (span_between end s r)) type_definition_followed p.definitions (part_right (word word_.KwType) row (part_inside (word word_.KwType & row) part)) rest tt closed r h)

    var_section_followed : (x : VarSection) → Part W k (write_var_section x) (formed_var_section d x) → (rest : List Token) → Unit {0} → (s : List Placed)
        → Along n (spell (write_var_section x) rest) s → Followed n W rest (var_section end child s)
    unfolding var_section same_symbol
    var_section_followed x part rest ends s h =
        let t = write_type x.of in
        let both = and_out (some_names x.names) (formed_type d x.of) part.formed in
        let fits = part.fits in
        let inside : Part W k (write_names x.names & symbol mark.Colon & t & symbol mark.Semicolon) (formed_type d x.of) = part_inside {span = x.span} (write_names x.names & symbol mark.Colon & t & symbol mark.Semicolon) (record { formed = both.1; fits = fits }) in
        let p = part_left t (symbol mark.Semicolon) (part_right (symbol mark.Colon) (t & symbol mark.Semicolon) (part_right (write_names x.names) (symbol mark.Colon & t & symbol mark.Semicolon) inside)) in
        follow_then (names_followed n W x.names both.0 (Symbol mark.Colon ∷ spell (t & symbol mark.Semicolon) rest) refl s (along_as (spell_join (write_names x.names) (symbol mark.Colon & t & symbol mark.Semicolon) rest) h))
        (λ ns. then_shrinks (one_shrinks _) (λ _. then_shrinks shrinks (λ v. then_shrinks (one_shrinks _) (λ u. λ n r k. pure_shrinks _ n r k)))) (λ ns r h.
        follow_token (symbols mark.Colon) (accepts_symbol mark.Colon) (along_as (ap (λ w. Symbol mark.Colon ∷ w) (spell_join t (symbol mark.Semicolon) rest)) h) (λ _. then_shrinks shrinks (λ v. then_shrinks (one_shrinks _) (λ u. λ n r k. pure_shrinks _ n r k))) (λ _ r h.
        follow_then (good x.of p (Symbol mark.Semicolon ∷ rest) (marks_end rest).2 r h) (λ v. then_shrinks (one_shrinks _) (λ u. λ n r k. pure_shrinks _ n r k)) (λ v r h.
        follow_token (symbols mark.Semicolon) (accepts_symbol mark.Semicolon) h (λ u. λ n r k. pure_shrinks _ n r k) (λ _ r h. follow_pure _ h))))

    var_section_begun : Begun (begins identifiers) (var_section end child)
    unfolding var_section
    var_section_begun s e = short_then (names_begun s e) (λ ns. then_shrinks (one_shrinks _) (λ _. then_shrinks shrinks (λ v. then_shrinks (one_shrinks _) (λ u. λ n r k. pure_shrinks _ n r k))))

    var_section_takes : (s : List Placed) → Takes (length s) (var_section end child s)
    unfolding var_section
    var_section_takes s = takes_then (length s) (names s) (names_takes s) (λ ns. then_shrinks (one_shrinks _) (λ _. then_shrinks shrinks (λ v. then_shrinks (one_shrinks _) (λ u. λ n r k. pure_shrinks _ n r k))))

    section_starts : (ns : List Identifier) → IsTrue (some_names ns) → (tail : Layout) (rest : List Token) → (y : Token) × (w : List Token) × (spell (write_names ns & tail) rest ≡ y ∷ w) × (on_name y ≡ true)
    section_starts [] ok tail rest = absurd cc
    section_starts (i ∷ is) ok tail rest = (Name i.name, _, refl, refl)

    pub var_part_followed : (p : VarPart) → Part W k (write_variables p) (formed_variables d p) → (rest : List Token) → on_first on_name rest ≡ false → (s : List Placed) → Along n (spell (write_variables p) rest) s → Followed n W rest (var_part end child s)
    unfolding var_part var_sections next_var_section
    var_part_followed p part rest closed s h =
        let row = in_row (map write_var_section p.sections) in
        follow_token (words word_.KwVar) (accepts_word word_.KwVar) h
        (λ _. then_shrinks (next_var_section_shrinks d end child shrinks []) (λ x. then_shrinks (var_sections_shrinks d end child shrinks x) (λ all. λ n r k. pure_shrinks _ n r k))) (λ _ r h.
        some_followed n W k write_var_section (formed_var_section d) (var_section end child) (var_section_shrinks d end child shrinks) var_section_takes (begins identifiers) on_name looks_name var_section_begun
        (λ x ok rest. section_starts x.names (and_out (some_names x.names) (formed_type d x.of) ok).0 (symbol mark.Colon & write_type x.of & symbol mark.Semicolon) rest) (λ w. Unit {0}) (λ x ok rest. tt)
        (λ all r. var_part_of all (span_between end s r)) var_section_followed p.sections (part_right (word word_.KwVar) row (part_inside (word word_.KwVar & row) part)) rest tt closed r h)
