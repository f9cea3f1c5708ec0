-- Lists of fields that are written are read, and with them all types.
use Rattle.std.proofs.Common.{◌≡◌, ℕ, zero, suc, Bool, true, false, List, [], ◌∷◌, map, Option, Some, None, Ok, refl, sym, ap, subst, ◌∙◌, arith}
use Rattle.std.specs.Option.{option_map}
use Rattle.p2c_text.specs.declared.dialect.Dialect.{Dialect}
use Rattle.p2c_text.specs.declared.place.Span.{Span}
use Rattle.dialect_lexer.specs.declared.token.Word.TheVariants as word_
use Rattle.dialect_lexer.specs.declared.token.Symbol.TheVariants as mark
use Rattle.pascal_tree.specs.declared.types.TypeNode.{TypeNode}
use Rattle.pascal_tree.specs.declared.types.Fields.{Fields, out-Fields}
use Rattle.pascal_tree.specs.declared.types.Fixed.{Fixed, out-Fixed}
use Rattle.pascal_tree.specs.declared.types.FixedSection.{FixedSection, out-FixedSection}
use Rattle.pascal_tree.specs.declared.types.Variants.{Variants}
use Rattle.token_parsing.specs.Parser.{Parser, begins}
use Rattle.expr_parser.specs.Tokens.{Token, Placed, plain}
use Rattle.expr_parser.specs.Layout.{Done, ◌&◌, symbol, IsWritten}
use Rattle.expr_parser.specs.Spans.{span_between}
use Rattle.expr_parser.specs.Semicolons.{with_semicolons, optional_semicolon as write_semicolon}
use Rattle.expr_parser.specs.Grammar.{some_all, optional}
use Rattle.expr_parser.specs.Classes.{identifiers, words, symbols, same_word, same_symbol}
use Rattle.expr_parser.specs.Places.{made}
use Rattle.expr_parser.proofs.Layouts.{spell, spell_join, join_assoc}
use Rattle.expr_parser.proofs.Lookahead.{looks_name, looks_word, looks_symbol, on_name, on_word, on_symbol, on_symbol_here, says_symbol}
use Rattle.expr_parser.proofs.Followed.{on_first}
use Rattle.expr_parser.proofs.FollowedParts.{Part, part_as, part_first, part_second, part_left, part_right, part_inside, part_counted}
use Rattle.expr_parser.proofs.Exact.{written_as, written_inside, written_inside_both, written_plain, ends_plain, exact_then, exact_part, exact_token, exact_made, exact_first, exact_second, looks_written}
use Rattle.expr_parser.proofs.ExactLists.{parts_exact}
use Rattle.type_parser.specs.Writing.{write_names, write_type, write_fixed, write_section, write_variants}
use Rattle.type_parser.specs.Grammar.{some_names, formed_type, formed_fixed, formed_section, formed_variants}
use Rattle.type_parser.specs.Fields.{section_of, section, next_section, more_sections, fixed_of, fixed, optional_semicolon, fields_of, with_fixed, only_variants, no_fields, fields_by}
use Rattle.type_parser.specs.Levels.{type_node, fields}
use Rattle.type_parser.proofs.Views.{fields_is, fixed_is, section_is}
use Rattle.type_parser.proofs.FollowedTypes.{TypeEnds, marks_end, Closing, at_close, at_end}
use Rattle.type_parser.proofs.FollowedRows.{joined, NoMore}
use Rattle.type_parser.proofs.FollowedVariants.{on_constant, variants_spelled, write_more}
use Rattle.type_parser.proofs.FollowedFields.{section_written, section_formed, section_starts, fixed_written, fixed_formed, fixed_starts, inside_of, formed_inside, fields_written, fields_formed, none_behind, names_end, fixed_ends, type_deep, fields_deep}
use Rattle.type_parser.proofs.ExactNames.{names_exact}
use Rattle.type_parser.proofs.ExactTypes.{TypeExact, FieldsExact, type_by_exact}
use Rattle.type_parser.proofs.ExactVariants.{no_more, variants_exact, optional_variants_exact}

-- ---- the end of a list of fields

no_semicolon : (w : List Token) → Closing w → on_first (on_symbol mark.Semicolon) w ≡ false
unfolding same_symbol
no_semicolon _ (at_close w) = refl
no_semicolon _ (at_end w) = refl

semicolon_exact : (end : Span) (closed : Bool) (s r : List Placed) → IsWritten end (write_semicolon closed) s r → Closing (plain r) → optional_semicolon s ≡ Ok (closed, r)
unfolding optional_semicolon
semicolon_exact end true s r h c =
    exact_first _ _ _ (looks_written (looks_symbol mark.Semicolon) end (symbol mark.Semicolon) s r h ∙ on_symbol_here mark.Semicolon) (exact_token _ (symbols mark.Semicolon) (says_symbol mark.Semicolon) end Done s r h (λ m h. ap (λ z. Ok (true, z)) h))
semicolon_exact end false s r h c = exact_second _ _ _ (looks_written (looks_symbol mark.Semicolon) end Done s r h ∙ no_semicolon (plain r) c) (ap (λ z. Ok (false, z)) h)

no_fields_begin : (w : List Token) → Closing w → (on_first on_name w ≡ false) × (on_first (on_word word_.KwCase) w ≡ false)
unfolding same_word
no_fields_begin _ (at_close w) = (refl, refl)
no_fields_begin _ (at_end w) = (refl, refl)

module _ (d : Dialect) (end : Span) (k : ℕ) (child : Parser Placed TypeNode) (good : TypeExact d end k child) (inner : Parser Placed Fields) (inner_good : FieldsExact d end k inner) where
  -- ---- the fixed part

  section_exact : (x : FixedSection) → Part (Unit {0}) k (write_section x) (formed_section d x) → (s r : List Placed) → IsWritten end (write_section x) s r → TypeEnds (plain r) → section end child s ≡ Ok (x, r)
  unfolding section same_symbol
  section_exact x part s r h ends =
      let ns = write_names (out-FixedSection x).names in let t = write_type (out-FixedSection x).of in let others = symbol mark.Colon & t in
      let p = part_inside _ (part_as (section_written x) (section_formed d x) part) in
      let q = part_second ns others (some_names (out-FixedSection x).names) (formed_type d (out-FixedSection x).of) p in
      let (place, inside) = written_inside end (out-FixedSection x).span (ns & others) s r (written_as end s r (section_written x) h) in
      exact_part _ (out-FixedSection x).names end ns others s r inside
      (λ m left right. names_exact end (out-FixedSection x).names (part_first ns others (some_names (out-FixedSection x).names) (formed_type d (out-FixedSection x).of) p).formed s m left (ap (on_first (on_symbol mark.Comma)) (written_plain end others m r right))) (λ m h.
      exact_token _ (symbols mark.Colon) (says_symbol mark.Colon) end t m r h (λ m h.
      exact_then _ (good (out-FixedSection x).of (part_right (symbol mark.Colon) t q) m r h ends) (exact_made end (out-FixedSection x).span (section_of (out-FixedSection x).names (out-FixedSection x).of) s r r refl (section_is x) place)))

  sections_exact : (xs : List FixedSection) → Part (Unit {0}) k (with_semicolons (map write_section xs)) (some_all (map (formed_section d) xs)) → (s r : List Placed) → IsWritten end (with_semicolons (map write_section xs)) s r
      → NoMore on_name (plain r) → TypeEnds (plain r) → (span : Span) → span ≡ span_between end s r → fixed end child s ≡ Ok (fixed_of xs span, r)
  unfolding fixed more_sections next_section
  sections_exact [] part s r h none ends span place = let no = part.formed in absurd cc
  sections_exact (x ∷ xs) part s r h none ends span place =
      let sections = parts_exact end k write_section (formed_section d) (section end child) TypeEnds (λ w. (marks_end w).2) (begins identifiers) on_name looks_name (section_starts d) section_exact x xs part s r h ends (no_more looks_name r (plain r) refl none) in
      sym (joined (section end child s) (λ x. more_sections end child (x ∷ [])) (λ all. made end s (fixed_of all))) ∙ exact_then (λ all. made end s (fixed_of all)) sections (exact_made end span (fixed_of (x ∷ xs)) s r r refl refl place)

  fixed_exact : (x : Fixed) → Part (Unit {0}) k (write_fixed x) (formed_fixed d x) → (s r : List Placed) → IsWritten end (write_fixed x) s r → NoMore on_name (plain r) → TypeEnds (plain r) → fixed end child s ≡ Ok (x, r)
  fixed_exact x part s r h none ends =
      let list = with_semicolons (map write_section (out-Fixed x).sections) in
      let (place, inside) = written_inside end (out-Fixed x).span list s r (written_as end s r (fixed_written x) h) in
      sections_exact (out-Fixed x).sections (part_inside list (part_as (fixed_written x) (fixed_formed d x) part)) s r inside none ends (out-Fixed x).span place ∙ ap (λ z. Ok (z, r)) (sym (fixed_is x))

  -- ---- all

  abbrev Reads : Option Fixed → Option Variants → Bool → (s r : List Placed) → Type 0
  Reads f v closed s r = (span : Span) → span ≡ span_between end s r → fields_by d end child inner s ≡ Ok (fields_of f v closed span, r)

  fixed_first : (x : Fixed) (v : Option Variants) (closed : Bool) → Part (Unit {0}) k (write_fixed x) (formed_fixed d x) → Part (Unit {0}) k (write_more v) (optional (option_map (formed_variants d) v)) → (s r : List Placed)
      → IsWritten end (write_fixed x & write_more v & write_semicolon closed) s r → Closing (plain r) → Reads (Some x) v closed s r
  unfolding fields_by with_fixed same_word
  fixed_first x v closed part more s r h c span place =
      let last = write_semicolon closed in let others = write_more v & last in
      let behind : spell (write_more v) (spell last (plain r)) ≡ spell others (plain r) = sym (spell_join (write_more v) last (plain r)) in
      exact_first (begins identifiers s) _ _ (looks_written looks_name end (write_fixed x & others) s r h ∙ ap (on_first on_name) (spell_join (write_fixed x) others (plain r)) ∙ fixed_starts d x part.formed (spell others (plain r)))
      (exact_part _ x end (write_fixed x) others s r h
      (λ m left right. fixed_exact x part s m left (ends_plain (NoMore on_name) end others m r right (subst (NoMore on_name) behind (names_end v closed (plain r) c))) (ends_plain TypeEnds end others m r right (subst TypeEnds behind (fixed_ends v closed (plain r) c)))) (λ m h.
      exact_part _ v end (write_more v) last m r h
      (λ m' left right. optional_variants_exact end d k inner inner_good v more m m' left (ends_plain (NoMore (on_word word_.KwCase)) end last m' r right (none_behind (on_word word_.KwCase) refl refl closed (plain r) c)) (ends_plain (NoMore on_constant) end last m' r right (none_behind on_constant refl refl closed (plain r) c))) (λ m h.
      exact_then _ (semicolon_exact end closed m r h c) (exact_made end span (fields_of (Some x) v closed) s r r refl refl place))))

  variants_first : (v : Variants) (closed : Bool) → Part (Unit {0}) k (write_variants v) (formed_variants d v) → (s r : List Placed) → IsWritten end (write_variants v & write_semicolon closed) s r → Closing (plain r) → Reads None (Some v) closed s r
  unfolding fields_by only_variants same_word
  variants_first v closed part s r h c span place =
      let last = write_semicolon closed in
      let spelled = spell_join (write_variants v) last (plain r) ∙ variants_spelled v (spell last (plain r)) in
      exact_second (begins identifiers s) _ _ (looks_written looks_name end (write_variants v & last) s r h ∙ ap (on_first on_name) spelled)
      (exact_first (begins (words word_.KwCase) s) _ _ (looks_written (looks_word word_.KwCase) end (write_variants v & last) s r h ∙ ap (on_first (on_word word_.KwCase)) spelled)
      (exact_part _ v end (write_variants v) last s r h (λ m left right. variants_exact end d k inner inner_good v part s m left (ends_plain (NoMore on_constant) end last m r right (none_behind on_constant refl refl closed (plain r) c))) (λ m h.
      exact_then _ (semicolon_exact end closed m r h c) (exact_made end span (fields_of None (Some v) closed) s r r refl refl place))))

  nothing_first : (s r : List Placed) → s ≡ r → Closing (plain r) → Reads None None false s r
  unfolding fields_by no_fields
  nothing_first s r h c span place =
      let none = no_fields_begin (plain r) c in
      exact_second (begins identifiers s) _ _ (looks_written looks_name end Done s r h ∙ none.0) (exact_second (begins (words word_.KwCase) s) _ _ (looks_written (looks_word word_.KwCase) end Done s r h ∙ none.1)
      (exact_made end span (fields_of None None false) s s r h refl place))

  fields_read : (f : Option Fixed) (v : Option Variants) (closed : Bool) → Part (Unit {0}) k (inside_of f v closed) (formed_inside d f v closed) → (s r : List Placed) → IsWritten end (inside_of f v closed) s r → Closing (plain r) → Reads f v closed s r
  fields_read None None false part s r h c = nothing_first s r h c
  fields_read None None true part s r h c = let none = part.formed in absurd cc
  fields_read None (Some v) closed part s r h c = variants_first v closed (part_left (write_variants v) (write_semicolon closed) part) s r h c
  fields_read (Some x) None closed part s r h c = fixed_first x None closed (part_first (write_fixed x) (write_semicolon closed) _ _ part) (record { formed = refl; fits = λ w. omega arith }) s r h c
  fields_read (Some x) (Some v) closed part s r h c =
      let more = symbol mark.Semicolon & write_variants v in
      let p = part_left (write_fixed x & more) (write_semicolon closed) part in
      fixed_first x (Some v) closed (part_first (write_fixed x) more _ _ p) (part_second (write_fixed x) more _ _ p) s r (written_as end s r (join_assoc (write_fixed x) more (write_semicolon closed)) h) c

  pub fields_by_exact : FieldsExact d end (suc k) (fields_by d end child inner)
  fields_by_exact x part s r h c =
      let inside = inside_of (out-Fields x).fixed (out-Fields x).variants (out-Fields x).closed in
      let (place, written) = written_inside_both end (out-Fields x).span inside s r (written_as end s r (fields_written x) h) in
      fields_read (out-Fields x).fixed (out-Fields x).variants (out-Fields x).closed (part_inside inside (part_counted _ (part_as (fields_written x) (fields_formed d x) part))) s r written c (out-Fields x).span place ∙ ap (λ z. Ok (z, r)) (sym (fields_is x))

-- ---- within so many levels

mutual
  unfolding type_node fields

  pub type_exact : (d : Dialect) (end : Span) (k : ℕ) → TypeExact d end k (type_node d end k)
  type_exact d end zero t part s r h ends = let fits = part.fits tt in absurd (omega (arith, fits, type_deep t))
  type_exact d end (suc k) t part s r h ends = type_by_exact d end k (type_node d end k) (type_exact d end k) (fields d end k) (fields_exact d end k) t part s r h ends

  pub fields_exact : (d : Dialect) (end : Span) (k : ℕ) → FieldsExact d end k (fields d end k)
  fields_exact d end zero x part s r h c = let fits = part.fits tt in absurd (omega (arith, fits, fields_deep x))
  fields_exact d end (suc k) x part s r h c = fields_by_exact d end k (type_node d end k) (type_exact d end k) (fields d end k) (fields_exact d end k) x part s r h c
