-- Lists of fields that are read, and with them all types.
use Rattle.std.proofs.Common.{◌≡◌, ℕ, zero, suc, ◌+◌, Bool, true, false, ◌&&◌, List, [], ◌∷◌, length, map, Option, Some, None, refl, sym, ap, subst, ◌∙◌, arith}
use Rattle.std.specs.Prelude.{IsTrue}
use Rattle.std.specs.Option.{option_map}
use Rattle.std.specs.List.{Contains}
use Rattle.p2c_text.specs.declared.dialect.Dialect.{Dialect}
use Rattle.p2c_text.specs.declared.place.Span.{Span}
use Rattle.dialect_lexer.specs.declared.token.Word.TheVariants as word_
use Rattle.dialect_lexer.specs.declared.token.Symbol.TheVariants as mark
use Rattle.pascal_tree.specs.declared.names.Identifier.{Identifier}
use Rattle.pascal_tree.specs.declared.types.TypeNode.{TypeNode}
use Rattle.pascal_tree.specs.declared.types.Fields.{Fields}
use Rattle.pascal_tree.specs.declared.types.Fixed.{Fixed}
use Rattle.pascal_tree.specs.declared.types.FixedSection.{FixedSection}
use Rattle.pascal_tree.specs.declared.types.Variants.{Variants}
use Rattle.token_parsing.specs.Parser.{Outcome, Parser, begins}
use Rattle.token_parsing.proofs.Fair.{reads, fair_then, fair_either}
use Rattle.expr_parser.specs.Tokens.{Placed, plain}
use Rattle.expr_parser.specs.Spans.{span_between}
use Rattle.expr_parser.specs.Layout.{Layout, Done, ◌&◌, symbol, spanned, counted, tokens_of, levels_of, height_of, IsWritten}
use Rattle.expr_parser.specs.Semicolons.{with_semicolons, optional_semicolon as write_semicolon}
use Rattle.expr_parser.specs.Grammar.{AreTokens, some_all, optional}
use Rattle.expr_parser.specs.Classes.{identifiers, words, symbols}
use Rattle.expr_parser.specs.Places.{made}
use Rattle.expr_parser.proofs.Layouts.{height_join, join_done, written_join}
use Rattle.expr_parser.proofs.FollowedParts.{and_in}
use Rattle.expr_parser.proofs.KnownTokens.{name_known, colon_known}
use Rattle.expr_parser.proofs.Openings.{Opening, within, in_counted, in_spanned, behind, before, Hole}
use Rattle.expr_parser.proofs.Spots.{Answer, Spot, Reads, Good, spot_behind, spot_within, begins_at, deep_at}
use Rattle.expr_parser.proofs.SoundTokens.{written_node, written_both, answer_symbol, answer_mark}
use Rattle.expr_parser.proofs.SoundLists.{listed}
use Rattle.expr_parser.proofs.SoundTerms.{reads_as}
use Rattle.type_parser.specs.Writing.{write_names, write_type, write_fields, write_fixed, write_section, write_variants}
use Rattle.type_parser.specs.Grammar.{some_names, formed_type, formed_fields, formed_fixed, formed_section, formed_variants}
use Rattle.type_parser.specs.Fields.{section_of, section, begins_next_section, next_section, more_sections, fixed_of, fixed, optional_semicolon, fields_of, with_fixed, only_variants, no_fields, fields_by}
use Rattle.type_parser.specs.Levels.{type_node, fields}
use Rattle.type_parser.proofs.WrittenNodes.{write_fields_of, write_fixed_of, write_section_of}
use Rattle.type_parser.proofs.FormedNodes.{formed_fields_of, formed_fixed_of, formed_section_of, formed_type_named}
use Rattle.type_parser.proofs.Fillers.{a_name, a_type, of_a_type, no_fields as nothing, of_no_fields, no_fields_formed}
use Rattle.type_parser.proofs.FollowedNames.{first_true}
use Rattle.type_parser.proofs.FollowedRows.{joined}
use Rattle.type_parser.proofs.FollowedVariants.{write_more}
use Rattle.type_parser.proofs.SoundNames.{names_sound}
use Rattle.type_parser.proofs.SoundRows.{row_sound}
use Rattle.type_parser.proofs.SoundTypes.{type_by_sound}
use Rattle.type_parser.proofs.SoundVariants.{variants_sound, more_sound}

-- a list of fields with a fixed part
fields_written : (x : Fixed) (v : Option Variants) (closed : Bool) (span : Span) → write_fields (fields_of (Some x) v closed span) ≡ counted (spanned span ((write_fixed x & write_more v) & write_semicolon closed))
fields_written x None closed span = write_fields_of (Some x) None closed span ∙ ap (λ l. counted (spanned span (l & write_semicolon closed))) (sym (join_done (write_fixed x)))
fields_written x (Some v) closed span = write_fields_of (Some x) (Some v) closed span

fields_formed : (d : Dialect) (x : Fixed) (v : Option Variants) (closed : Bool) (span : Span) → formed_fields d (fields_of (Some x) v closed span) ≡ (formed_fixed d x && optional (option_map (formed_variants d) v))
fields_formed d x None closed span = formed_fields_of d (Some x) None closed span
fields_formed d x (Some v) closed span = formed_fields_of d (Some x) (Some v) closed span

semicolon_low : (c : Bool) → height_of (write_semicolon c) ≡ 0
semicolon_low true = refl
semicolon_low false = refl

module _ (d : Dialect) {C : Type 0} (layout : C → Layout) (form : C → Bool) (end : Span) (outer levels : ℕ) (tokens : List Placed) (known : AreTokens d (plain tokens)) where
  abbrev AnswerT : {A : Type 0} → (A → List Placed → Type 0) → Outcome Placed A → Type 0
  AnswerT P o = Answer d layout form end outer levels tokens P o

  abbrev SpotT : Opening → List Placed → Type 0
  SpotT o s = Spot d layout form end outer levels tokens o s

  abbrev ReadsT : {A : Type 0} → (A → Layout) → (A → Bool) → ℕ → List Placed → A → List Placed → Type 0
  ReadsT write formed k s a r = Reads d layout form end outer levels tokens write formed k s a r

  abbrev GoodT : {A : Type 0} → (A → Layout) → (A → Bool) → ℕ → Parser Placed A → Type 0
  GoodT write formed k p = Good d layout form end outer levels tokens write formed k p

  abbrev HoleT : {A : Type 0} → (A → Layout) → (A → Bool) → Opening → Type 0
  HoleT write formed o = Hole d layout form write formed o

  abbrev moved : {o : Opening} {s r : List Placed} (l : Layout) → SpotT o s → IsWritten end l s r → SpotT (within o (behind l)) r
  moved l spot w = spot_behind d layout form end outer levels tokens known l spot w

  abbrev entered : {o : Opening} {s : List Placed} (p : Opening) → SpotT o s → p.left ≡ [] → AreTokens d p.right → SpotT (within o p) s
  entered p spot none closing = spot_within d layout form end outer levels tokens p spot none closing

  abbrev node : Opening
  node = within in_counted (in_spanned end)

  semicolon_sound : (s : List Placed) → AnswerT (λ c r. IsWritten end (write_semicolon c) s r) (optional_semicolon s)
  unfolding optional_semicolon
  semicolon_sound s = fair_either (begins (symbols mark.Semicolon) s)
      (λ test. answer_mark d layout form end outer levels tokens mark.Semicolon s test (λ _ r w. reads true r w))
      (λ none. reads false s refl)

  -- ---- the fixed part

  module _ (k : ℕ) (child : Parser Placed TypeNode) (good : GoodT write_type (formed_type d) k child) where
    section_sound : GoodT write_section (formed_section d) k (section end child)
    unfolding section
    section_sound o s spot hole deep =
        let inside = within o (in_spanned end) in
        let spot1 = entered (in_spanned end) spot refl tt in
        let a = write_type a_type in
        let wanted : (ns : List Identifier) (t : TypeNode) → IsTrue (some_names ns) → IsTrue (formed_type d t) → (c : C) × IsTrue (form c) × (layout c ≡ inside.plug (write_names ns & symbol mark.Colon & write_type t)) =
        λ ns t ok ok'. let (c, g, w) = hole.at (section_of ns t end) (formed_section_of d ns t end ∙ and_in (some_names ns) _ ok ok') in (c, g, w ∙ ap o.plug (write_section_of ns t end)) in
        let hole1 : HoleT write_names some_names (within inside (before (symbol mark.Colon & a))) = record { at = λ ns ok. wanted ns a_type ok (formed_type_named d a_name) } in
        let last_known = of_a_type (λ l. AreTokens d (tokens_of (symbol mark.Colon & l))) (colon_known d, (name_known d, tt)) in
        fair_then (names_sound d layout form end outer levels tokens known k (within inside (before (symbol mark.Colon & a))) s (entered (before (symbol mark.Colon & a)) spot1 refl last_known) hole1 (omega (arith, deep))) (λ ns r1 h.
        let list = write_names ns in
        let middle = within inside (behind list) in
        let spot2 = moved list spot1 h.written in
        let hole2 : HoleT {A = Unit {0}} (λ _. symbol mark.Colon) (λ _. true) (within middle (before a)) = record { at = λ _ ok. wanted ns a_type h.formed (formed_type_named d a_name) } in
        let spot3 = entered (before a) spot2 refl (of_a_type (λ l. AreTokens d (tokens_of l)) (name_known d, tt)) in
        answer_symbol d layout form end outer levels tokens mark.Colon r1 spot3 (begins_at d layout form end outer levels tokens spot3 hole2 tt refl (colon_known d, tt)) (λ _ r2 w2.
        let hole4 : HoleT write_type (formed_type d) (within middle (behind (symbol mark.Colon))) = record { at = λ t ok. wanted ns t h.formed ok } in
        fair_then (good (within middle (behind (symbol mark.Colon))) r2 (moved (symbol mark.Colon) spot2 w2) hole4 (omega (arith, deep))) (λ t r3 g.
        let span = span_between end s r3 in let x = h.fits in let y = g.fits in
        reads (section_of ns t span) r3 (reads_as d layout form end outer levels tokens known (write_section_of ns t span) (formed_section_of d ns t span)
        (written_node end (list & symbol mark.Colon & write_type t) _ _ (written_join end list (symbol mark.Colon & write_type t) s r1 r3 h.written (written_join end (symbol mark.Colon) (write_type t) r1 r2 r3 w2 g.written)))
        (and_in (some_names ns) _ h.formed g.formed) (omega (arith, height_join list (symbol mark.Colon & write_type t), x, y))))))

    fixed_sound : GoodT write_fixed (formed_fixed d) k (fixed end child)
    unfolding fixed more_sections next_section
    fixed_sound o s spot hole deep =
        let inside = within o (in_spanned end) in
        let row_of : List FixedSection → Layout = λ xs. with_semicolons (map write_section xs) in
        let hole1 : HoleT (λ p. row_of (listed p)) (λ p. some_all (map (formed_section d) (listed p))) inside =
        record { at = λ p ok. let (c, g, w) = hole.at (fixed_of (listed p) end) (formed_fixed_of d (listed p) end ∙ ok) in (c, g, w ∙ ap o.plug (write_fixed_of (listed p) end)) } in
        subst (λ z. AnswerT (ReadsT write_fixed (formed_fixed d) k s) z) (joined (section end child s) (λ x. more_sections end child (x ∷ [])) (λ all. made end s (fixed_of all)))
        (fair_then (row_sound d layout form end outer levels tokens known write_section (formed_section d) k begins_next_section (λ s e. first_true _ _ e) (section end child) section_sound inside s (entered (in_spanned end) spot refl tt) hole1 (omega (arith, deep))) (λ all r h.
        let xs = listed (h.first, h.others) in
        let span = span_between end s r in let fits = h.reads.fits in
        reads (fixed_of all span) r (subst (λ z. ReadsT write_fixed (formed_fixed d) k s (fixed_of z span) r) (sym h.is)
        (reads_as d layout form end outer levels tokens known (write_fixed_of xs span) (formed_fixed_of d xs span) (written_node end (row_of xs) _ _ h.reads.written) h.reads.formed (omega (arith, fits))))))

    -- ---- all

    module _ (inner : Parser Placed Fields) (inner_good : GoodT write_fields (formed_fields d) k inner) where
      with_fixed_sound : GoodT write_fields (formed_fields d) (suc k) (with_fixed d end child inner)
      unfolding with_fixed
      with_fixed_sound o s spot hole deep =
          let inside = within (within o node) (before Done) in
          let spot1 = entered (before Done) (entered node spot refl tt) refl tt in
          let wanted : (x : Fixed) (v : Option Variants) → IsTrue (formed_fixed d x) → IsTrue (optional (option_map (formed_variants d) v)) → (c : C) × IsTrue (form c) × (layout c ≡ inside.plug (write_fixed x & write_more v)) =
          λ x v ok ok'. let (c, g, w) = hole.at (fields_of (Some x) v false end) (fields_formed d x v false end ∙ and_in (formed_fixed d x) _ ok ok') in (c, g, w ∙ ap o.plug (fields_written x v false end)) in
          let hole1 : HoleT write_fixed (formed_fixed d) (within inside (before Done)) = record { at = λ x ok. wanted x None ok refl } in
          fair_then (fixed_sound (within inside (before Done)) s (entered (before Done) spot1 refl tt) hole1 (omega (arith, deep))) (λ x r1 h.
          let first = write_fixed x in
          let hole2 : HoleT write_more (λ v. optional (option_map (formed_variants d) v)) (within inside (behind first)) = record { at = λ v ok. wanted x v h.formed ok } in
          fair_then (more_sound d layout form end outer levels tokens known k inner inner_good (within inside (behind first)) r1 (moved first spot1 h.written) hole2 (omega (arith, deep))) (λ v r2 g.
          fair_then (semicolon_sound r2) (λ c r3 w.
          let more = write_more v in let last = write_semicolon c in
          let span = span_between end s r3 in let a = h.fits in let b = g.fits in
          reads (fields_of (Some x) v c span) r3 (reads_as d layout form end outer levels tokens known (fields_written x v c span) (fields_formed d x v c span)
          (written_both end ((first & more) & last) _ _ (written_join end (first & more) last s r2 r3 (written_join end first more s r1 r2 h.written g.written) w))
          (and_in (formed_fixed d x) _ h.formed g.formed) (omega (arith, height_join (first & more) last, height_join first more, semicolon_low c, a, b))))))

      only_variants_sound : (o : Opening) (s : List Placed) → SpotT o s → HoleT write_fields (formed_fields d) o → o.depth + suc k ≡ levels → begins (words word_.KwCase) s ≡ true → AnswerT (ReadsT write_fields (formed_fields d) (suc k) s) (only_variants d end inner s)
      unfolding only_variants
      only_variants_sound o s spot hole deep test =
          let inside = within (within o node) (before Done) in
          let hole1 : HoleT write_variants (formed_variants d) inside =
          record { at = λ v ok. let (c, g, w) = hole.at (fields_of None (Some v) false end) (formed_fields_of d None (Some v) false end ∙ ok) in (c, g, w ∙ ap o.plug (write_fields_of None (Some v) false end)) } in
          fair_then (variants_sound d layout form end outer levels tokens known k inner inner_good inside s (entered (before Done) (entered node spot refl tt) refl tt) hole1 (omega (arith, deep)) test) (λ v r1 h.
          fair_then (semicolon_sound r1) (λ c r2 w.
          let first = write_variants v in let last = write_semicolon c in
          let span = span_between end s r2 in let fits = h.fits in
          reads (fields_of None (Some v) c span) r2 (reads_as d layout form end outer levels tokens known (write_fields_of None (Some v) c span) (formed_fields_of d None (Some v) c span)
          (written_both end (first & last) _ _ (written_join end first last s r1 r2 h.written w)) h.formed (omega (arith, height_join first last, semicolon_low c, fits)))))

      fields_by_sound : GoodT write_fields (formed_fields d) (suc k) (fields_by d end child inner)
      unfolding fields_by no_fields
      fields_by_sound o s spot hole deep = fair_either (begins identifiers s)
          (λ _. with_fixed_sound o s spot hole deep)
          (λ _. fair_either (begins (words word_.KwCase) s)
          (λ test. only_variants_sound o s spot hole deep test)
          (λ _. let span = span_between end s s in reads (fields_of None None false span) s (reads_as d layout form end outer levels tokens known (write_fields_of None None false span) (formed_fields_of d None None false span) (written_both end Done _ _ refl) refl (omega arith))))

  -- ---- within so many levels

  type_stops : GoodT write_type (formed_type d) 0 (type_node d end 0)
  unfolding type_node
  type_stops o s spot hole deep =
      deep_at d layout form end outer levels tokens spot hole deep a_type (formed_type_named d a_name) (of_a_type (λ l. AreTokens d (tokens_of l)) (name_known d, tt))
      (of_a_type (λ l. Contains (levels_of (outer + o.depth) (0 + length o.left) l) (0 + length o.left, outer + o.depth)) (0, omega arith, refl))

  fields_stop : GoodT write_fields (formed_fields d) 0 (fields d end 0)
  unfolding fields
  fields_stop o s spot hole deep =
      deep_at d layout form end outer levels tokens spot hole deep nothing (no_fields_formed d) (of_no_fields (λ l. AreTokens d (tokens_of l)) tt)
      (of_no_fields (λ l. Contains (levels_of (outer + o.depth) (0 + length o.left) l) (0 + length o.left, outer + o.depth)) (0, omega arith, refl))

  mutual
    unfolding type_node fields

    pub type_sound : (k : ℕ) → GoodT write_type (formed_type d) k (type_node d end k)
    type_sound zero = type_stops
    type_sound (suc k) = type_by_sound d layout form end outer levels tokens known k (type_node d end k) (type_sound k) (fields d end k) (fields_sound k)

    pub fields_sound : (k : ℕ) → GoodT write_fields (formed_fields d) k (fields d end k)
    fields_sound zero = fields_stop
    fields_sound (suc k) = fields_by_sound k (type_node d end k) (type_sound k) (fields d end k) (fields_sound k)
