-- Parts of declarations that are written are read.
use Rattle.std.proofs.Common.{◌≡◌, ℕ, Bool, true, false, ◌&&◌, List, [], ◌∷◌, map, Ok, refl, ap, ◌∙◌}
use Rattle.std.specs.Prelude.{IsTrue}
use Rattle.p2c_text.specs.declared.dialect.Dialect.{Dialect}
use Rattle.p2c_text.specs.declared.place.Span.{Span}
use Rattle.dialect_lexer.specs.declared.token.Word.TheVariants as word_
use Rattle.dialect_lexer.specs.declared.token.Symbol.TheVariants as mark
use Rattle.pascal_tree.specs.declared.names.Identifier.{Identifier}
use Rattle.pascal_tree.specs.declared.names.Label.{Label}
use Rattle.pascal_tree.specs.declared.expressions.Expr.{Expr}
use Rattle.pascal_tree.specs.declared.types.TypeNode.{TypeNode}
use Rattle.pascal_tree.specs.declared.declarations.LabelPart.{LabelPart}
use Rattle.pascal_tree.specs.declared.declarations.Value.{Value}
use Rattle.pascal_tree.specs.declared.declarations.Value.TheVariants as value_
use Rattle.pascal_tree.specs.declared.declarations.ConstDefinition.{ConstDefinition}
use Rattle.pascal_tree.specs.declared.declarations.ConstPart.{ConstPart}
use Rattle.pascal_tree.specs.declared.declarations.TypeDefinition.{TypeDefinition}
use Rattle.pascal_tree.specs.declared.declarations.TypePart.{TypePart}
use Rattle.pascal_tree.specs.declared.declarations.VarSection.{VarSection}
use Rattle.pascal_tree.specs.declared.declarations.VarPart.{VarPart}
use Rattle.token_parsing.specs.Parser.{Parser, begins}
use Rattle.expr_parser.specs.Tokens.{Token, Placed, plain}
use Rattle.expr_parser.specs.Layout.{Layout, Done, ◌&◌, word, symbol, in_row, with_commas, IsWritten}
use Rattle.expr_parser.specs.Writing.{identifier}
use Rattle.expr_parser.specs.ConstantNodes.{write_label, formed_label}
use Rattle.expr_parser.specs.Grammar.{some_all, formed_expr}
use Rattle.expr_parser.specs.Classes.{identifiers, words, symbols, same_symbol}
use Rattle.expr_parser.specs.Constants.{label}
use Rattle.expr_parser.proofs.Layouts.{spell}
use Rattle.expr_parser.proofs.Followed.{on_first}
use Rattle.expr_parser.proofs.FollowedParts.{and_out, Part, part_first, part_second, part_left, part_right, part_inside}
use Rattle.expr_parser.proofs.Lookahead.{ExprEnds, looks_name, on_name, on_symbol, says_word, says_symbol}
use Rattle.expr_parser.proofs.Exact.{written_inside, written_plain, ends_plain, exact_then, exact_part, exact_token, exact_name, exact_made, exact_first, exact_second}
use Rattle.expr_parser.proofs.ExactLists.{commas_exact}
use Rattle.expr_parser.proofs.ExactTerms.{ExprExact}
use Rattle.expr_parser.proofs.ExactConstants.{label_exact, constant_exact}
use Rattle.type_parser.specs.Writing.{write_names, write_type}
use Rattle.type_parser.specs.Grammar.{some_names, formed_type}
use Rattle.type_parser.proofs.FollowedTypes.{TypeEnds, marks_end}
use Rattle.type_parser.proofs.ExactNames.{names_exact}
use Rattle.type_parser.proofs.ExactTypes.{TypeExact}
use Rattle.stmt_parser.proofs.Ends.{semicolon_ends}
use Rattle.unit_parser.specs.Dialects.{has_value_expressions}
use Rattle.unit_parser.specs.Writing.{write_labels, write_value, write_const_definition, write_constants, write_type_definition, write_types, write_var_section, write_variables}
use Rattle.unit_parser.specs.Grammar.{formed_labels, formed_value, formed_const_definition, formed_constants, formed_type_definition, formed_types, formed_var_section, formed_variables}
use Rattle.unit_parser.specs.Parts.{next_label, more_labels, labels, label_part_of, label_part, constant_value, expression_value, value, const_definition_of, const_definition, next_const_definition, const_definitions, const_part_of, const_part, type_definition_of, type_definition, next_type_definition, type_definitions, type_part_of, type_part, var_section_of, var_section, next_var_section, var_sections, var_part_of, var_part}
use Rattle.unit_parser.proofs.FollowedParts.{not_true}
use Rattle.unit_parser.proofs.ExactRows.{some_row_exact}

module _ (d : Dialect) (end : Span) (k : ℕ) where
  -- ---- labels

  labels_exact : (xs : List Label) → Part (Unit {0}) k (with_commas (map write_label xs)) (some_all (map (formed_label d) xs)) → (s r : List Placed) → IsWritten end (with_commas (map write_label xs)) s r → on_first (on_symbol mark.Comma) (plain r) ≡ false → labels d end s ≡ Ok (xs, r)
  unfolding labels more_labels next_label
  labels_exact [] part s r h closed = let none = part.formed in absurd cc
  labels_exact (x ∷ xs) part s r h closed = commas_exact end k write_label (formed_label d) (label d end) (λ w. Unit {0}) (λ w. tt) (λ x part s r h ends. label_exact d end x part.formed s r h) x xs part s r h tt closed

  pub label_part_exact : (p : LabelPart) → Part (Unit {0}) k (write_labels p) (formed_labels d p) → (s r : List Placed) → IsWritten end (write_labels p) s r → label_part d end s ≡ Ok (p, r)
  unfolding label_part same_symbol
  label_part_exact p part s r h =
      let list = with_commas (map write_label p.labels) in let close = symbol mark.Semicolon in let l = word word_.KwLabel & list & close in
      let q = part_left list close (part_right (word word_.KwLabel) (list & close) (part_inside l part)) in
      let (place, inside) = written_inside end p.span l s r h in
      exact_token _ (words word_.KwLabel) (says_word word_.KwLabel) end (list & close) s r inside (λ m h.
      exact_part _ p.labels end list close m r h (λ m' left right. labels_exact p.labels q m m' left (ap (on_first (on_symbol mark.Comma)) (written_plain end close m' r right))) (λ m h.
      exact_token _ (symbols mark.Semicolon) (says_symbol mark.Semicolon) end Done m r h (λ m h. exact_made end p.span (label_part_of p.labels) s m r h refl place)))

  -- ---- constants

  module _ (child : Parser Placed Expr) (good : ExprExact d end k child) where
    value_exact : (v : Value) → Part (Unit {0}) k (write_value v) (formed_value d v) → (s r : List Placed) → IsWritten end (write_value v) s r → ExprEnds (plain r) → value d end child s ≡ Ok (v, r)
    unfolding value constant_value expression_value
    value_exact (value_.Constant c) part s r h ends = exact_second (has_value_expressions d) _ _ (not_true (has_value_expressions d) part.formed) (exact_then _ (constant_exact end c s r h) refl)
    value_exact (value_.Expression e) part s r h ends =
        let both = and_out (has_value_expressions d) (formed_expr d e) part.formed in
        exact_first (has_value_expressions d) _ _ both.0 (exact_then _ (good e (record { formed = both.1; fits = part.fits }) s r h ends) refl)

    const_definition_exact : (x : ConstDefinition) → Part (Unit {0}) k (write_const_definition x) (formed_const_definition d x) → (s r : List Placed) → IsWritten end (write_const_definition x) s r → Unit {0} → const_definition d end child s ≡ Ok (x, r)
    unfolding const_definition
    const_definition_exact x part s r h ends =
        let v = write_value x.value in let close = symbol mark.Semicolon in let tail = symbol mark.Equal & v & close in let l = identifier x.name & tail in
        let p = part_left v close (part_right (symbol mark.Equal) (v & close) (part_right (identifier x.name) tail (part_inside l part))) in
        let (place, inside) = written_inside end x.span l s r h in
        exact_name _ x.name end tail s r inside (λ m h.
        exact_token _ (symbols mark.Equal) (says_symbol mark.Equal) end (v & close) m r h (λ m h.
        exact_part _ x.value end v close m r h (λ m' left right. value_exact x.value p m m' left (ends_plain ExprEnds end close m' r right (semicolon_ends _).expr)) (λ m h.
        exact_token _ (symbols mark.Semicolon) (says_symbol mark.Semicolon) end Done m r h (λ m h. exact_made end x.span (const_definition_of x.name x.value) s m r h refl place))))

    pub const_part_exact : (p : ConstPart) → Part (Unit {0}) k (write_constants p) (formed_constants d p) → (s r : List Placed) → IsWritten end (write_constants p) s r → on_first on_name (plain r) ≡ false → const_part d end child s ≡ Ok (p, r)
    unfolding const_part const_definitions next_const_definition
    const_part_exact p part s r h closed =
        let row = in_row (map write_const_definition p.definitions) in let l = word word_.KwConst & row in
        let (place, inside) = written_inside end p.span l s r h in
        exact_token _ (words word_.KwConst) (says_word word_.KwConst) end row s r inside (λ m h.
        some_row_exact end k write_const_definition (formed_const_definition d) (const_definition d end child) (begins identifiers) on_name looks_name (λ x ok w. refl) (λ w. Unit {0}) (λ x w. tt)
        _ const_definition_exact p.definitions (part_right (word word_.KwConst) row (part_inside l part)) m r h tt closed (exact_made end p.span (const_part_of p.definitions) s r r refl refl place))

  -- ---- types and variables

  module _ (child : Parser Placed TypeNode) (good : TypeExact d end k child) where
    type_definition_exact : (x : TypeDefinition) → Part (Unit {0}) k (write_type_definition x) (formed_type_definition d x) → (s r : List Placed) → IsWritten end (write_type_definition x) s r → Unit {0} → type_definition end child s ≡ Ok (x, r)
    unfolding type_definition
    type_definition_exact x part s r h ends =
        let t = write_type x.of in let close = symbol mark.Semicolon in let tail = symbol mark.Equal & t & close in let l = identifier x.name & tail in
        let p = part_left t close (part_right (symbol mark.Equal) (t & close) (part_right (identifier x.name) tail (part_inside l part))) in
        let (place, inside) = written_inside end x.span l s r h in
        exact_name _ x.name end tail s r inside (λ m h.
        exact_token _ (symbols mark.Equal) (says_symbol mark.Equal) end (t & close) m r h (λ m h.
        exact_part _ x.of end t close m r h (λ m' left right. good x.of p m m' left (ends_plain TypeEnds end close m' r right (marks_end _).2)) (λ m h.
        exact_token _ (symbols mark.Semicolon) (says_symbol mark.Semicolon) end Done m r h (λ m h. exact_made end x.span (type_definition_of x.name x.of) s m r h refl place))))

    pub type_part_exact : (p : TypePart) → Part (Unit {0}) k (write_types p) (formed_types d p) → (s r : List Placed) → IsWritten end (write_types p) s r → on_first on_name (plain r) ≡ false → type_part end child s ≡ Ok (p, r)
    unfolding type_part type_definitions next_type_definition
    type_part_exact p part s r h closed =
        let row = in_row (map write_type_definition p.definitions) in let l = word word_.KwType & row in
        let (place, inside) = written_inside end p.span l s r h in
        exact_token _ (words word_.KwType) (says_word word_.KwType) end row s r inside (λ m h.
        some_row_exact end k write_type_definition (formed_type_definition d) (type_definition end child) (begins identifiers) on_name looks_name (λ x ok w. refl) (λ w. Unit {0}) (λ x w. tt)
        _ type_definition_exact p.definitions (part_right (word word_.KwType) row (part_inside l part)) m r h tt closed (exact_made end p.span (type_part_of p.definitions) s r r refl refl place))

    var_section_exact : (x : VarSection) → Part (Unit {0}) k (write_var_section x) (formed_var_section d x) → (s r : List Placed) → IsWritten end (write_var_section x) s r → Unit {0} → var_section end child s ≡ Ok (x, r)
    unfolding var_section same_symbol
    var_section_exact x part s r h ends =
        let ns = write_names x.names in let t = write_type x.of in let close = symbol mark.Semicolon in let tail = symbol mark.Colon & t & close in let l = ns & tail in
        let p = part_inside l part in
        let q = part_left t close (part_right (symbol mark.Colon) (t & close) (part_second ns tail (some_names x.names) (formed_type d x.of) p)) in
        let (place, inside) = written_inside end x.span l s r h in
        exact_part _ x.names end ns tail s r inside (λ m left right. names_exact end x.names (part_first ns tail (some_names x.names) (formed_type d x.of) p).formed s m left (ap (on_first (on_symbol mark.Comma)) (written_plain end tail m r right))) (λ m h.
        exact_token _ (symbols mark.Colon) (says_symbol mark.Colon) end (t & close) m r h (λ m h.
        exact_part _ x.of end t close m r h (λ m' left right. good x.of q m m' left (ends_plain TypeEnds end close m' r right (marks_end _).2)) (λ m h.
        exact_token _ (symbols mark.Semicolon) (says_symbol mark.Semicolon) end Done m r h (λ m h. exact_made end x.span (var_section_of x.names x.of) s m r h refl place))))

    section_begins : (ns : List Identifier) → IsTrue (some_names ns) → (tail : Layout) (w : List Token) → on_first on_name (spell (write_names ns & tail) w) ≡ true
    section_begins [] ok tail w = absurd cc
    section_begins (i ∷ is) ok tail w = refl

    pub var_part_exact : (p : VarPart) → Part (Unit {0}) k (write_variables p) (formed_variables d p) → (s r : List Placed) → IsWritten end (write_variables p) s r → on_first on_name (plain r) ≡ false → var_part end child s ≡ Ok (p, r)
    unfolding var_part var_sections next_var_section
    var_part_exact p part s r h closed =
        let row = in_row (map write_var_section p.sections) in let l = word word_.KwVar & row in
        let (place, inside) = written_inside end p.span l s r h in
        exact_token _ (words word_.KwVar) (says_word word_.KwVar) end row s r inside (λ m h.
        some_row_exact end k write_var_section (formed_var_section d) (var_section end child) (begins identifiers) on_name looks_name
        (λ x ok w. section_begins x.names (and_out (some_names x.names) (formed_type d x.of) ok).0 (symbol mark.Colon & write_type x.of & symbol mark.Semicolon) w) (λ w. Unit {0}) (λ x w. tt)
        _ var_section_exact p.sections (part_right (word word_.KwVar) row (part_inside l part)) m r h tt closed (exact_made end p.span (var_part_of p.sections) s r r refl refl place))
