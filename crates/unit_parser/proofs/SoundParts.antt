-- Parts of declarations that are read.
use Rattle.std.proofs.Common.{◌≡◌, ℕ, ◌+◌, ◌≤◌, Bool, true, false, ◌&&◌, not, List, [], ◌∷◌, ◌++◌, map, Ok, refl, sym, ap, subst, ◌∙◌, arith}
use Rattle.std.specs.Prelude.{IsTrue}
use Rattle.p2c_text.specs.declared.dialect.Dialect.{Dialect}
use Rattle.p2c_text.specs.declared.dialect.Dialect.TheVariants as dialect
use Rattle.p2c_text.specs.declared.place.Span.{Span}
use Rattle.dialect_lexer.specs.declared.token.Word.TheVariants as word_
use Rattle.dialect_lexer.specs.declared.token.Symbol.TheVariants as mark
use Rattle.pascal_tree.specs.declared.names.Identifier.{Identifier}
use Rattle.pascal_tree.specs.declared.names.Label.{Label}
use Rattle.pascal_tree.specs.declared.expressions.Expr.{Expr}
use Rattle.pascal_tree.specs.declared.types.TypeNode.{TypeNode}
use Rattle.pascal_tree.specs.declared.declarations.Value.{Value}
use Rattle.pascal_tree.specs.declared.declarations.Value.TheVariants as value_
use Rattle.pascal_tree.specs.declared.declarations.ConstDefinition.{ConstDefinition}
use Rattle.pascal_tree.specs.declared.declarations.TypeDefinition.{TypeDefinition}
use Rattle.pascal_tree.specs.declared.declarations.VarSection.{VarSection}
use Rattle.token_parsing.specs.Parser.{Outcome, Parser, and_then, begins}
use Rattle.token_parsing.proofs.Fair.{reads, fair_then, fair_either}
use Rattle.expr_parser.specs.Tokens.{Placed, plain}
use Rattle.expr_parser.specs.Spans.{span_between}
use Rattle.expr_parser.specs.Layout.{Layout, ◌&◌, word, symbol, spanned, in_row, with_commas, tokens_of, height_of, IsWritten}
use Rattle.expr_parser.specs.Writing.{write_expr}
use Rattle.expr_parser.specs.ConstantNodes.{write_label, formed_label}
use Rattle.expr_parser.specs.Grammar.{AreTokens, some_all, formed_expr}
use Rattle.expr_parser.specs.Classes.{identifiers, words, symbols}
use Rattle.expr_parser.specs.Constants.{label}
use Rattle.expr_parser.proofs.Layouts.{height_join, written_join}
use Rattle.expr_parser.proofs.FollowedParts.{and_in, and_out}
use Rattle.expr_parser.proofs.KnownTokens.{name_known, semicolon_known, colon_known}
use Rattle.expr_parser.proofs.Openings.{Opening, within, in_spanned, behind, before, Filled, Hole}
use Rattle.expr_parser.proofs.Spots.{Answer, Spot, Reads, Good, are_joined, spot_behind, spot_within, begins_at}
use Rattle.expr_parser.proofs.SoundTokens.{written_node, answer_symbol, answer_word}
use Rattle.expr_parser.proofs.SoundLists.{listed, list_sound}
use Rattle.expr_parser.proofs.SoundFactors.{nil_expr, nil_expr_formed, nil_expr_known}
use Rattle.expr_parser.proofs.SoundConstants.{label_sound, constant_sound}
use Rattle.type_parser.specs.Writing.{write_names, write_type}
use Rattle.type_parser.specs.Grammar.{some_names, formed_type}
use Rattle.type_parser.specs.Names.{names}
use Rattle.type_parser.proofs.WrittenNodes.{write_type_named}
use Rattle.type_parser.proofs.FormedNodes.{formed_type_named}
use Rattle.type_parser.proofs.Fillers.{a_name, a_constant, a_type, of_a_type}
use Rattle.type_parser.proofs.SoundNames.{names_sound}
use Rattle.unit_parser.specs.Dialects.{has_value_expressions}
use Rattle.unit_parser.specs.Writing.{write_labels, write_value, write_const_definition, write_constants, write_type_definition, write_types, write_var_section, write_variables}
use Rattle.unit_parser.specs.Grammar.{formed_labels, formed_value, formed_const_definition, formed_constants, formed_type_definition, formed_types, formed_var_section, formed_variables}
use Rattle.unit_parser.specs.Parts.{next_label, more_labels, labels, label_part_of, label_part, constant_value, expression_value, value, const_definition_of, const_definition, next_const_definition, const_definitions, const_part_of, const_part, type_definition_of, type_definition, next_type_definition, type_definitions, type_part_of, type_part, var_section_of, var_section, next_var_section, var_sections, var_part_of, var_part}
use Rattle.unit_parser.proofs.SoundRows.{any, alone, first_sound, more_sound, definition_sound}

-- ---- a value, which may stand where one is wanted

pub a_value : Dialect → Value
a_value dialect.Iso = value_.Constant a_constant
a_value dialect.Turbo = value_.Expression nil_expr
a_value dialect.Ucsd = value_.Constant a_constant
a_value dialect.Hp = value_.Expression nil_expr

a_value_formed : (d : Dialect) → IsTrue (formed_value d (a_value d))
unfolding a_value
a_value_formed dialect.Iso = refl
a_value_formed dialect.Turbo = nil_expr_formed dialect.Turbo
a_value_formed dialect.Ucsd = refl
a_value_formed dialect.Hp = nil_expr_formed dialect.Hp

a_value_known : (d : Dialect) → AreTokens d (tokens_of (write_value (a_value d)))
unfolding a_value
a_value_known dialect.Iso = (name_known dialect.Iso, tt)
a_value_known dialect.Turbo = nil_expr_known dialect.Turbo
a_value_known dialect.Ucsd = (name_known dialect.Ucsd, tt)
a_value_known dialect.Hp = nil_expr_known dialect.Hp

a_type_known : (d : Dialect) → AreTokens d (tokens_of (write_type a_type))
a_type_known d = of_a_type (λ l. AreTokens d (tokens_of l)) (name_known d, tt)

not_in : (b : Bool) → b ≡ false → IsTrue (not b)
not_in true e = sym e
not_in false e = refl

module _ (d : Dialect) {C : Type 0} (layout : C → Layout) (form : C → Bool) (end : Span) (outer levels : ℕ) (tokens : List Placed) (known : AreTokens d (plain tokens)) (k : ℕ) where
  abbrev AnswerT : {A : Type 0} → (A → List Placed → Type 0) → Outcome Placed A → Type 0
  AnswerT P o = Answer d layout form end outer levels tokens P o

  abbrev SpotT : Opening → List Placed → Type 0
  SpotT o s = Spot d layout form end outer levels tokens o s

  abbrev ReadsT : {A : Type 0} → (A → Layout) → (A → Bool) → List Placed → A → List Placed → Type 0
  ReadsT write formed s a r = Reads d layout form end outer levels tokens write formed k s a r

  abbrev GoodT : {A : Type 0} → (A → Layout) → (A → Bool) → Parser Placed A → Type 0
  GoodT write formed p = Good d layout form end outer levels tokens write formed k p

  abbrev HoleT : {A : Type 0} → (A → Layout) → (A → Bool) → Opening → Type 0
  HoleT write formed o = Hole d layout form write formed o

  abbrev moved : {o : Opening} {s r : List Placed} (l : Layout) → SpotT o s → IsWritten end l s r → SpotT (within o (behind l)) r
  moved l spot w = spot_behind d layout form end outer levels tokens known l spot w

  abbrev entered : {o : Opening} {s : List Placed} (p : Opening) → SpotT o s → p.left ≡ [] → AreTokens d p.right → SpotT (within o p) s
  entered p spot none closing = spot_within d layout form end outer levels tokens p spot none closing

  -- ---- labels

  pub label_part_sound : (o : Opening) (s : List Placed) → SpotT o s → HoleT write_labels (formed_labels d) o → o.depth + k ≡ levels → begins (words word_.KwLabel) s ≡ true → AnswerT (ReadsT write_labels (formed_labels d) s) (label_part d end s)
  unfolding label_part labels more_labels next_label
  label_part_sound o s spot hole deep test = answer_word d layout form end outer levels tokens word_.KwLabel s test (λ _ r1 w1.
      let opened = within (within o (in_spanned end)) (behind (word word_.KwLabel)) in
      let spot1 = moved (word word_.KwLabel) (entered (in_spanned end) spot refl tt) w1 in
      let hole2 : HoleT (λ p. with_commas (map write_label (listed p))) (λ p. some_all (map (formed_label d) (listed p))) (within opened (before (symbol mark.Semicolon))) = record { at = λ p ok. hole.at (label_part_of (listed p) end) ok } in
      fair_then (list_sound d layout form end outer levels tokens known write_label (formed_label d) k (label d end) (λ o s spot hole deep. label_sound d layout form end outer levels tokens known k o s spot hole)
      (within opened (before (symbol mark.Semicolon))) r1 (entered (before (symbol mark.Semicolon)) spot1 refl (semicolon_known d, tt)) hole2 (omega (arith, deep))) (λ all r2 h.
      let p : Label × List Label = (h.first, h.others) in
      let list = with_commas (map write_label (listed p)) in
      let spot3 = moved list spot1 h.reads.written in
      let hole3 : HoleT (alone (symbol mark.Semicolon)) any (within opened (behind list)) = record { at = λ _ ok. hole2.at p h.reads.formed } in
      answer_symbol d layout form end outer levels tokens mark.Semicolon r2 spot3 (begins_at d layout form end outer levels tokens spot3 hole3 tt refl (semicolon_known d, tt)) (λ _ r3 w3.
      let span = span_between end s r3 in let fits = h.reads.fits in
      reads (label_part_of all span) r3 (subst (λ z. ReadsT write_labels (formed_labels d) s (label_part_of z span) r3) (sym h.is) (record {
        written = written_node end (word word_.KwLabel & list & symbol mark.Semicolon) _ _ (written_join end (word word_.KwLabel) (list & symbol mark.Semicolon) s r1 r3 w1 (written_join end list (symbol mark.Semicolon) r1 r2 r3 h.reads.written w3));
        formed = h.reads.formed;
        fits = omega (arith, height_join list (symbol mark.Semicolon), fits);
      })))))

  -- ---- constants

  module _ (child : Parser Placed Expr) (good : GoodT write_expr (formed_expr d) child) where
    value_sound : GoodT write_value (formed_value d) (value d end child)
    unfolding value constant_value expression_value
    value_sound o s spot hole deep = fair_either (has_value_expressions d)
        (λ test. fair_then (good o s spot (record { at = λ e ok. hole.at (value_.Expression e) (and_in (has_value_expressions d) (formed_expr d e) test ok) }) deep) (λ e r h. let w = h.written in let fits = h.fits in
        reads (value_.Expression e) r (record { written = w; formed = and_in (has_value_expressions d) (formed_expr d e) test h.formed; fits = fits })))
        (λ none. fair_then (constant_sound d layout form end outer levels tokens known k o s spot (record { at = λ c ok. hole.at (value_.Constant c) (not_in (has_value_expressions d) none) })) (λ c r h. let w = h.written in let fits = h.fits in
        reads (value_.Constant c) r (record { written = w; formed = not_in (has_value_expressions d) none; fits = fits })))

    const_definition_sound : GoodT write_const_definition (formed_const_definition d) (const_definition d end child)
    unfolding const_definition
    const_definition_sound o s spot hole deep =
        definition_sound d layout form end outer levels tokens known write_value (formed_value d) k (value d end child) value_sound const_definition_of write_const_definition (formed_const_definition d) (λ i a span. refl) (λ i a span. refl)
        (a_value d) (a_value_formed d) (a_value_known d) o s spot hole deep

    pub const_part_sound : (o : Opening) (s : List Placed) → SpotT o s → HoleT write_constants (formed_constants d) o → o.depth + k ≡ levels → begins (words word_.KwConst) s ≡ true → AnswerT (ReadsT write_constants (formed_constants d) s) (const_part d end child s)
    unfolding const_part const_definitions next_const_definition
    const_part_sound o s spot hole deep test = answer_word d layout form end outer levels tokens word_.KwConst s test (λ _ r1 w1.
        let opened = within (within o (in_spanned end)) (behind (word word_.KwConst)) in
        let spot1 = moved (word word_.KwConst) (entered (in_spanned end) spot refl tt) w1 in
        let hole1 : HoleT (λ p. in_row (map write_const_definition (listed p))) (λ p. some_all (map (formed_const_definition d) (listed p))) opened = record { at = λ p ok. hole.at (const_part_of (listed p) end) ok } in
        fair_then (first_sound d layout form end outer levels tokens known write_const_definition (formed_const_definition d) k (const_definition d end child) const_definition_sound opened r1 spot1 hole1 (omega (arith, deep))) (λ found r2 h.
        fair_then (more_sound d layout form end outer levels tokens known write_const_definition (formed_const_definition d) k (const_definition d end child) const_definition_sound (begins identifiers) opened r1 spot1 hole1 (omega (arith, deep)) found r2 h) (λ all r3 g.
        let span = span_between end s r3 in let fits = g.reads.fits in let w = g.reads.written in
        reads (const_part_of all span) r3 (subst (λ z. ReadsT write_constants (formed_constants d) s (const_part_of z span) r3) (sym g.is) (record {
          written = written_node end (word word_.KwConst & in_row (map write_const_definition (g.first ∷ g.others))) _ _ (written_join end (word word_.KwConst) (in_row (map write_const_definition (g.first ∷ g.others))) s r1 r3 w1 w);
          formed = g.reads.formed;
          fits = omega (arith, fits);
        })))))

  -- ---- types and variables

  module _ (child : Parser Placed TypeNode) (good : GoodT write_type (formed_type d) child) where
    type_definition_sound : GoodT write_type_definition (formed_type_definition d) (type_definition end child)
    unfolding type_definition
    type_definition_sound o s spot hole deep =
        definition_sound d layout form end outer levels tokens known write_type (formed_type d) k child good type_definition_of write_type_definition (formed_type_definition d) (λ i a span. refl) (λ i a span. refl)
        a_type (formed_type_named d a_name) (a_type_known d) o s spot hole deep

    pub type_part_sound : (o : Opening) (s : List Placed) → SpotT o s → HoleT write_types (formed_types d) o → o.depth + k ≡ levels → begins (words word_.KwType) s ≡ true → AnswerT (ReadsT write_types (formed_types d) s) (type_part end child s)
    unfolding type_part type_definitions next_type_definition
    type_part_sound o s spot hole deep test = answer_word d layout form end outer levels tokens word_.KwType s test (λ _ r1 w1.
        let opened = within (within o (in_spanned end)) (behind (word word_.KwType)) in
        let spot1 = moved (word word_.KwType) (entered (in_spanned end) spot refl tt) w1 in
        let hole1 : HoleT (λ p. in_row (map write_type_definition (listed p))) (λ p. some_all (map (formed_type_definition d) (listed p))) opened = record { at = λ p ok. hole.at (type_part_of (listed p) end) ok } in
        fair_then (first_sound d layout form end outer levels tokens known write_type_definition (formed_type_definition d) k (type_definition end child) type_definition_sound opened r1 spot1 hole1 (omega (arith, deep))) (λ found r2 h.
        fair_then (more_sound d layout form end outer levels tokens known write_type_definition (formed_type_definition d) k (type_definition end child) type_definition_sound (begins identifiers) opened r1 spot1 hole1 (omega (arith, deep)) found r2 h) (λ all r3 g.
        let span = span_between end s r3 in let fits = g.reads.fits in let w = g.reads.written in
        reads (type_part_of all span) r3 (subst (λ z. ReadsT write_types (formed_types d) s (type_part_of z span) r3) (sym g.is) (record {
          written = written_node end (word word_.KwType & in_row (map write_type_definition (g.first ∷ g.others))) _ _ (written_join end (word word_.KwType) (in_row (map write_type_definition (g.first ∷ g.others))) s r1 r3 w1 w);
          formed = g.reads.formed;
          fits = omega (arith, fits);
        })))))

    abbrev tail : TypeNode → Layout
    tail t = symbol mark.Colon & write_type t & symbol mark.Semicolon

    tail_known : AreTokens d (tokens_of (tail a_type))
    tail_known = (colon_known d, are_joined d (write_type a_type) (symbol mark.Semicolon) (a_type_known d) (semicolon_known d, tt))

    var_section_sound : GoodT write_var_section (formed_var_section d) (var_section end child)
    unfolding var_section
    var_section_sound o s spot hole deep =
        let filled : (ns : List Identifier) (t : TypeNode) → IsTrue (some_names ns) → IsTrue (formed_type d t) → Filled layout form (o.plug (spanned end (write_names ns & tail t))) = λ ns t ok ok2. hole.at (var_section_of ns t end) (and_in (some_names ns) (formed_type d t) ok ok2) in
        let inside = within o (in_spanned end) in
        let spot0 = entered (in_spanned end) spot refl tt in
        let hole0 : HoleT write_names some_names (within inside (before (tail a_type))) = record { at = λ ns ok. filled ns a_type ok (formed_type_named d a_name) } in
        fair_then (names_sound d layout form end outer levels tokens known k (within inside (before (tail a_type))) s (entered (before (tail a_type)) spot0 refl tail_known) hole0 (omega (arith, deep))) (λ ns r1 g.
        let list = write_names ns in
        let o1 = within inside (behind list) in
        let spot1 = moved list spot0 g.written in
        let hole1 : HoleT (alone (tail a_type)) any o1 = record { at = λ _ ok. filled ns a_type g.formed (formed_type_named d a_name) } in
        answer_symbol d layout form end outer levels tokens mark.Colon r1 spot1 (begins_at d layout form end outer levels tokens spot1 hole1 tt refl tail_known) (λ _ r2 w2.
        let o2 = within o1 (behind (symbol mark.Colon)) in
        let spot2 = moved (symbol mark.Colon) spot1 w2 in
        let hole2 : HoleT write_type (formed_type d) (within o2 (before (symbol mark.Semicolon))) = record { at = λ t ok. filled ns t g.formed ok } in
        fair_then (good (within o2 (before (symbol mark.Semicolon))) r2 (entered (before (symbol mark.Semicolon)) spot2 refl (semicolon_known d, tt)) hole2 (omega (arith, deep))) (λ t r3 h.
        let spot3 = moved (write_type t) spot2 h.written in
        let hole3 : HoleT (alone (symbol mark.Semicolon)) any (within o2 (behind (write_type t))) = record { at = λ _ ok. filled ns t g.formed h.formed } in
        answer_symbol d layout form end outer levels tokens mark.Semicolon r3 spot3 (begins_at d layout form end outer levels tokens spot3 hole3 tt refl (semicolon_known d, tt)) (λ _ r4 w4.
        let span = span_between end s r4 in let f1 = g.fits in let f2 = h.fits in
        reads (var_section_of ns t span) r4 (record {
          written = written_node end (list & tail t) _ _ (written_join end list (tail t) s r1 r4 g.written (written_join end (symbol mark.Colon) (write_type t & symbol mark.Semicolon) r1 r2 r4 w2 (written_join end (write_type t) (symbol mark.Semicolon) r2 r3 r4 h.written w4)));
          formed = and_in (some_names ns) (formed_type d t) g.formed h.formed;
          fits = omega (arith, height_join list (tail t), height_join (write_type t) (symbol mark.Semicolon), f1, f2);
        })))))

    pub var_part_sound : (o : Opening) (s : List Placed) → SpotT o s → HoleT write_variables (formed_variables d) o → o.depth + k ≡ levels → begins (words word_.KwVar) s ≡ true → AnswerT (ReadsT write_variables (formed_variables d) s) (var_part end child s)
    unfolding var_part var_sections next_var_section
    var_part_sound o s spot hole deep test = answer_word d layout form end outer levels tokens word_.KwVar s test (λ _ r1 w1.
        let opened = within (within o (in_spanned end)) (behind (word word_.KwVar)) in
        let spot1 = moved (word word_.KwVar) (entered (in_spanned end) spot refl tt) w1 in
        let hole1 : HoleT (λ p. in_row (map write_var_section (listed p))) (λ p. some_all (map (formed_var_section d) (listed p))) opened = record { at = λ p ok. hole.at (var_part_of (listed p) end) ok } in
        fair_then (first_sound d layout form end outer levels tokens known write_var_section (formed_var_section d) k (var_section end child) var_section_sound opened r1 spot1 hole1 (omega (arith, deep))) (λ found r2 h.
        fair_then (more_sound d layout form end outer levels tokens known write_var_section (formed_var_section d) k (var_section end child) var_section_sound (begins identifiers) opened r1 spot1 hole1 (omega (arith, deep)) found r2 h) (λ all r3 g.
        let span = span_between end s r3 in let fits = g.reads.fits in let w = g.reads.written in
        reads (var_part_of all span) r3 (subst (λ z. ReadsT write_variables (formed_variables d) s (var_part_of z span) r3) (sym g.is) (record {
          written = written_node end (word word_.KwVar & in_row (map write_var_section (g.first ∷ g.others))) _ _ (written_join end (word word_.KwVar) (in_row (map write_var_section (g.first ∷ g.others))) s r1 r3 w1 w);
          formed = g.reads.formed;
          fits = omega (arith, fits);
        })))))
