-- Variants of records that are read.
use Rattle.std.proofs.Common.{◌≡◌, ℕ, ◌+◌, Bool, true, List, [], ◌∷◌, map, Option, Some, None, refl, sym, ap, subst, ◌∙◌, arith}
use Rattle.std.specs.Prelude.{IsTrue}
use Rattle.std.specs.Option.{option_map}
use Rattle.p2c_text.specs.declared.dialect.Dialect.{Dialect}
use Rattle.p2c_text.specs.declared.place.Span.{Span}
use Rattle.dialect_lexer.specs.declared.token.Word.TheVariants as word_
use Rattle.dialect_lexer.specs.declared.token.Symbol.TheVariants as mark
use Rattle.pascal_tree.specs.declared.names.Identifier.{Identifier}
use Rattle.pascal_tree.specs.declared.constants.CaseLabel.{CaseLabel}
use Rattle.pascal_tree.specs.declared.types.TypeName.{TypeName}
use Rattle.pascal_tree.specs.declared.types.Fields.{Fields}
use Rattle.pascal_tree.specs.declared.types.Variant.{Variant}
use Rattle.token_parsing.specs.Parser.{Outcome, Parser, and_then, begins, rest}
use Rattle.token_parsing.proofs.Fair.{reads, fair_then, fair_either}
use Rattle.expr_parser.specs.Tokens.{Token, Placed, plain, Name}
use Rattle.expr_parser.specs.Spans.{span_between}
use Rattle.expr_parser.specs.Layout.{Layout, ◌&◌, token, word, symbol, spanned, with_commas, tokens_of, height_of, IsWritten}
use Rattle.expr_parser.specs.Semicolons.{with_semicolons}
use Rattle.expr_parser.specs.Writing.{identifier}
use Rattle.expr_parser.specs.Grammar.{AreTokens, some_all, optional}
use Rattle.expr_parser.specs.Classes.{words, symbols, expect}
use Rattle.expr_parser.specs.Places.{made}
use Rattle.expr_parser.specs.ConstantNodes.{write_case_label, formed_case_label}
use Rattle.expr_parser.proofs.Layouts.{height_join, join_assoc, written_join}
use Rattle.expr_parser.proofs.FollowedParts.{and_in}
use Rattle.expr_parser.proofs.KnownTokens.{close_known, colon_known, of_known}
use Rattle.expr_parser.proofs.Openings.{Opening, within, in_spanned, behind, before, Hole}
use Rattle.expr_parser.proofs.Spots.{Answer, Spot, Reads, Good, spot_behind, spot_within, begins_at}
use Rattle.expr_parser.proofs.SoundTokens.{written_node, answer_symbol, answer_word, answer_mark}
use Rattle.expr_parser.proofs.SoundLists.{listed}
use Rattle.expr_parser.proofs.SoundTerms.{reads_as}
use Rattle.expr_parser.proofs.SoundConstants.{case_labels_sound}
use Rattle.type_parser.specs.Writing.{optional_tag as write_tag, write_type_name, write_fields, write_variant, write_variants}
use Rattle.type_parser.specs.Grammar.{formed_fields, formed_variant, formed_variants}
use Rattle.type_parser.specs.Fields.{group, variant_of, variant, begins_next_variant, next_variant, more_variants, variant_list, begins_tag, optional_tag, selector, variants_of, variants, begins_more_variants, optional_variants}
use Rattle.type_parser.proofs.WrittenNodes.{write_variant_of, write_variants_of}
use Rattle.type_parser.proofs.FormedNodes.{formed_variant_of, formed_variants_of}
use Rattle.type_parser.proofs.Fillers.{open_known, no_fields, of_no_fields, no_fields_formed, a_variant, a_variant_known, a_variant_formed}
use Rattle.type_parser.proofs.FollowedNames.{first_true, second_true}
use Rattle.type_parser.proofs.FollowedVariants.{write_more}
use Rattle.type_parser.proofs.SoundNames.{answer_wanted, answer_named, type_name_sound}
use Rattle.type_parser.proofs.SoundRows.{row_sound}

-- what is left behind one token
behind_token : (end : Span) (x : Token) (s r : List Placed) → IsWritten end (token x) s r → rest s ≡ r
behind_token end x s r (t, more, is, same, e) = ap rest is ∙ e

behind_name : (end : Span) (i : Identifier) (s r : List Placed) → IsWritten end (identifier i) s r → rest s ≡ r
behind_name end i s r (m, span, w, e) = behind_token end (Name i.name) s m w ∙ e

-- "case" [Id ":"] TypeName "of"
abbrev write_head : Option Identifier × TypeName → Layout
write_head h = word word_.KwCase & write_tag h.0 & write_type_name h.1 & word word_.KwOf

-- variants, with what stands before the first as one part
variants_written : (h : Option Identifier × TypeName) (vs : List Variant) (span : Span) → write_variants (variants_of h vs span) ≡ spanned span (write_head h & with_semicolons (map write_variant vs))
variants_written h vs span =
    let tag = write_tag h.0 in let name = write_type_name h.1 in let row = with_semicolons (map write_variant vs) in
    write_variants_of h.0 h.1 vs span ∙ ap (λ l. spanned span (word word_.KwCase & l)) (ap (λ l. tag & l) (sym (join_assoc name (word word_.KwOf) row)) ∙ sym (join_assoc tag (name & word word_.KwOf) row))

-- a variant, with its group as one part
abbrev write_group : Fields → Layout
write_group f = symbol mark.Open & write_fields f & symbol mark.Close

module _ (d : Dialect) {C : Type 0} (layout : C → Layout) (form : C → Bool) (end : Span) (outer levels : ℕ) (tokens : List Placed) (known : AreTokens d (plain tokens)) where
  abbrev AnswerT : {A : Type 0} → (A → List Placed → Type 0) → Outcome Placed A → Type 0
  AnswerT P o = Answer d layout form end outer levels tokens P o

  abbrev SpotT : Opening → List Placed → Type 0
  SpotT o s = Spot d layout form end outer levels tokens o s

  abbrev ReadsT : {A : Type 0} → (A → Layout) → (A → Bool) → ℕ → List Placed → A → List Placed → Type 0
  ReadsT write formed k s a r = Reads d layout form end outer levels tokens write formed k s a r

  abbrev GoodT : {A : Type 0} → (A → Layout) → (A → Bool) → ℕ → Parser Placed A → Type 0
  GoodT write formed k p = Good d layout form end outer levels tokens write formed k p

  abbrev HoleT : {A : Type 0} → (A → Layout) → (A → Bool) → Opening → Type 0
  HoleT write formed o = Hole d layout form write formed o

  abbrev moved : {o : Opening} {s r : List Placed} (l : Layout) → SpotT o s → IsWritten end l s r → SpotT (within o (behind l)) r
  moved l spot w = spot_behind d layout form end outer levels tokens known l spot w

  abbrev entered : {o : Opening} {s : List Placed} (p : Opening) → SpotT o s → p.left ≡ [] → AreTokens d p.right → SpotT (within o p) s
  entered p spot none closing = spot_within d layout form end outer levels tokens p spot none closing

  abbrev alone : Layout → Unit {0} → Layout
  alone l _ = l

  abbrev any : {A : Type 0} → A → Bool
  any a = true

  -- ---- what stands before variants

  tag_sound : (s : List Placed) → AnswerT (λ t r. IsWritten end (write_tag t) s r) (optional_tag s)
  unfolding optional_tag
  tag_sound s = fair_either (begins_tag s)
      (λ test. answer_named d layout form end outer levels tokens known s (first_true _ _ test) (λ i r w.
      answer_mark d layout form end outer levels tokens mark.Colon r (ap (begins (symbols mark.Colon)) (sym (behind_name end i s r w)) ∙ second_true _ _ test) (λ _ r2 w2.
      reads (Some i) r2 (written_join end (identifier i) (symbol mark.Colon) s r r2 w w2))))
      (λ none. reads None s refl)

  tag_low : (t : Option Identifier) → height_of (write_tag t) ≡ 0
  tag_low None = refl
  tag_low (Some i) = refl

  module _ (k : ℕ) where
    selector_sound : (o : Opening) (s : List Placed) → SpotT o s → HoleT write_head any o → begins (words word_.KwCase) s ≡ true → AnswerT (ReadsT write_head any k s) (selector end s)
    unfolding selector
    selector_sound o s spot hole test = answer_word d layout form end outer levels tokens word_.KwCase s test (λ _ r1 w1. fair_then (tag_sound r1) (λ t r2 w2.
        let tag = write_tag t in
        let last = word word_.KwOf in
        let opened = within (within o (behind (word word_.KwCase))) (behind tag) in
        let spot3 = moved tag (moved (word word_.KwCase) spot w1) w2 in
        let hole3 : HoleT write_type_name any (within opened (before last)) = record { at = λ n ok. hole.at (t, n) refl } in
        fair_then (type_name_sound d layout form end outer levels tokens known k (within opened (before last)) r2 (entered (before last) spot3 refl (of_known d, tt)) hole3) (λ n r3 h.
        let name = write_type_name n in
        let hole4 : HoleT (alone last) any (within opened (behind name)) = record { at = λ _ ok. hole.at (t, n) refl } in
        let spot4 = moved name spot3 h.written in
        answer_wanted d layout form end outer levels tokens known word_.KwOf r3 spot4 (begins_at d layout form end outer levels tokens spot4 hole4 tt refl (of_known d, tt)) (λ _ r4 w4.
        let fits = h.fits in
        let head : Option Identifier × TypeName = (t, n) in
        reads head r4 (record {
          written = written_join end (word word_.KwCase) (tag & name & last) s r1 r4 w1 (written_join end tag (name & last) r1 r2 r4 w2 (written_join end name last r2 r3 r4 h.written w4));
          formed = refl;
          fits = omega (arith, height_join tag (name & last), height_join name last, tag_low t, fits);
        })))))

    module _ (inner : Parser Placed Fields) (inner_good : GoodT write_fields (formed_fields d) k inner) where
      -- ---- variants

      group_sound : GoodT write_group (formed_fields d) k (group inner)
      unfolding group
      group_sound o s spot hole deep =
          let last = symbol mark.Close in
          let rest = write_fields no_fields & last in
          let hole1 : HoleT (alone (symbol mark.Open)) any (within o (before rest)) = record { at = λ _ ok. hole.at no_fields (no_fields_formed d) } in
          let spot1 = entered (before rest) spot refl (of_no_fields (λ l. AreTokens d (tokens_of (l & last))) (close_known d, tt)) in
          answer_symbol d layout form end outer levels tokens mark.Open s spot1 (begins_at d layout form end outer levels tokens spot1 hole1 tt refl (open_known d, tt)) (λ _ r1 w1.
          let opened = within o (behind (symbol mark.Open)) in
          let spot2 = moved (symbol mark.Open) spot w1 in
          let hole3 : HoleT write_fields (formed_fields d) (within opened (before last)) = record { at = λ f ok. hole.at f ok } in
          fair_then (inner_good (within opened (before last)) r1 (entered (before last) spot2 refl (close_known d, tt)) hole3 (omega (arith, deep))) (λ f r2 h.
          let inside = write_fields f in
          let hole4 : HoleT (alone last) any (within opened (behind inside)) = record { at = λ _ ok. hole.at f h.formed } in
          let spot4 = moved inside spot2 h.written in
          answer_symbol d layout form end outer levels tokens mark.Close r2 spot4 (begins_at d layout form end outer levels tokens spot4 hole4 tt refl (close_known d, tt)) (λ _ r3 w3.
          let fits = h.fits in
          reads f r3 (record {
            written = written_join end (symbol mark.Open) (inside & last) s r1 r3 w1 (written_join end inside last r1 r2 r3 h.written w3);
            formed = h.formed;
            fits = omega (arith, height_join inside last, fits);
          }))))

      abbrev write_labels : List CaseLabel → Layout
      write_labels ls = with_commas (map write_case_label ls)

      abbrev formed_labels : List CaseLabel → Bool
      formed_labels ls = some_all (map (formed_case_label d) ls)

      variant_sound : GoodT write_variant (formed_variant d) k (variant d end inner)
      unfolding variant
      variant_sound o s spot hole deep =
          let inside = within o (in_spanned end) in
          let spot1 = entered (in_spanned end) spot refl tt in
          let last = write_group no_fields in
          let last_known = of_no_fields (λ l. AreTokens d (tokens_of (symbol mark.Open & l & symbol mark.Close))) (open_known d, (close_known d, tt)) in
          let wanted : (ls : List CaseLabel) (f : Fields) → IsTrue (formed_labels ls) → IsTrue (formed_fields d f) → (c : C) × IsTrue (form c) × (layout c ≡ inside.plug (write_labels ls & symbol mark.Colon & write_group f)) =
          λ ls f ok ok'. let (c, g, w) = hole.at (variant_of ls f end) (formed_variant_of d ls f end ∙ and_in (formed_labels ls) _ ok ok') in (c, g, w ∙ ap o.plug (write_variant_of ls f end)) in
          let hole1 : HoleT (λ (p : CaseLabel × List CaseLabel). write_labels (p.0 ∷ p.1)) (λ (p : CaseLabel × List CaseLabel). formed_labels (p.0 ∷ p.1)) (within inside (before (symbol mark.Colon & last))) =
          record { at = λ p ok. wanted (p.0 ∷ p.1) no_fields ok (no_fields_formed d) } in
          fair_then (case_labels_sound d layout form end outer levels tokens known k (within inside (before (symbol mark.Colon & last))) s (entered (before (symbol mark.Colon & last)) spot1 refl (colon_known d, last_known)) hole1 (omega (arith, deep))) (λ all r1 h.
          let ls : List CaseLabel = h.first ∷ h.others in
          let labels = write_labels ls in
          let middle = within inside (behind labels) in
          let spot2 = moved labels spot1 h.reads.written in
          let hole2 : HoleT (alone (symbol mark.Colon)) any (within middle (before last)) = record { at = λ _ ok. wanted ls no_fields h.reads.formed (no_fields_formed d) } in
          let spot3 = entered (before last) spot2 refl last_known in
          subst (λ z. AnswerT (ReadsT write_variant (formed_variant d) k s) (and_then (expect mark.Colon r1) (λ _ s'. and_then (group inner s') (λ f. made end s (variant_of z f))))) (sym h.is)
          (answer_symbol d layout form end outer levels tokens mark.Colon r1 spot3 (begins_at d layout form end outer levels tokens spot3 hole2 tt refl (colon_known d, tt)) (λ _ r2 w2.
          let hole4 : HoleT write_group (formed_fields d) (within middle (behind (symbol mark.Colon))) = record { at = λ f ok. wanted ls f h.reads.formed ok } in
          fair_then (group_sound (within middle (behind (symbol mark.Colon))) r2 (moved (symbol mark.Colon) spot2 w2) hole4 (omega (arith, deep))) (λ f r3 g.
          let span = span_between end s r3 in let x = h.reads.fits in let y = g.fits in
          reads (variant_of ls f span) r3 (reads_as d layout form end outer levels tokens known (write_variant_of ls f span) (formed_variant_of d ls f span)
          (written_node end (labels & symbol mark.Colon & write_group f) _ _ (written_join end labels (symbol mark.Colon & write_group f) s r1 r3 h.reads.written (written_join end (symbol mark.Colon) (write_group f) r1 r2 r3 w2 g.written)))
          (and_in (formed_labels ls) _ h.reads.formed g.formed) (omega (arith, height_join labels (symbol mark.Colon & write_group f), x, y)))))))

      pub variants_sound : (o : Opening) (s : List Placed) → SpotT o s → HoleT write_variants (formed_variants d) o → o.depth + k ≡ levels → begins (words word_.KwCase) s ≡ true → AnswerT (ReadsT write_variants (formed_variants d) k s) (variants d end inner s)
      unfolding variants variant_list more_variants next_variant
      variants_sound o s spot hole deep test =
          let inside = within o (in_spanned end) in
          let spot1 = entered (in_spanned end) spot refl tt in
          let row_of : List Variant → Layout = λ vs. with_semicolons (map write_variant vs) in
          let row_formed : List Variant → Bool = λ vs. some_all (map (formed_variant d) vs) in
          let some : List Variant = a_variant ∷ [] in
          let wanted : (h : Option Identifier × TypeName) (vs : List Variant) → IsTrue (row_formed vs) → (c : C) × IsTrue (form c) × (layout c ≡ inside.plug (write_head h & row_of vs)) =
          λ h vs ok. let (c, g, w) = hole.at (variants_of h vs end) (formed_variants_of d h.0 h.1 vs end ∙ ok) in (c, g, w ∙ ap o.plug (variants_written h vs end)) in
          let hole1 : HoleT write_head any (within inside (before (row_of some))) = record { at = λ h ok. wanted h some (and_in (formed_variant d a_variant) true (a_variant_formed d) refl) } in
          fair_then (selector_sound (within inside (before (row_of some))) s (entered (before (row_of some)) spot1 refl (a_variant_known d)) hole1 test) (λ h r1 g.
          let hole2 : HoleT (λ p. row_of (listed p)) (λ p. row_formed (listed p)) (within inside (behind (write_head h))) = record { at = λ p ok. wanted h (listed p) ok } in
          fair_then (row_sound d layout form end outer levels tokens known write_variant (formed_variant d) k begins_next_variant (λ s e. first_true _ _ e) (variant d end inner) variant_sound (within inside (behind (write_head h))) r1 (moved (write_head h) spot1 g.written) hole2 (omega (arith, deep))) (λ all r2 q.
          let vs = listed (q.first, q.others) in
          let span = span_between end s r2 in let x = g.fits in let y = q.reads.fits in
          reads (variants_of h all span) r2 (subst (λ z. ReadsT write_variants (formed_variants d) k s (variants_of h z span) r2) (sym q.is)
          (reads_as d layout form end outer levels tokens known (variants_written h vs span) (formed_variants_of d h.0 h.1 vs span)
          (written_node end (write_head h & row_of vs) _ _ (written_join end (write_head h) (row_of vs) s r1 r2 g.written q.reads.written)) q.reads.formed (omega (arith, height_join (write_head h) (row_of vs), x, y))))))

      -- [";" Variants]
      pub more_sound : GoodT write_more (λ v. optional (option_map (formed_variants d) v)) k (optional_variants d end inner)
      unfolding optional_variants
      more_sound o s spot hole deep = fair_either (begins_more_variants s)
          (λ test. answer_mark d layout form end outer levels tokens mark.Semicolon s (first_true _ _ test) (λ _ r1 w1.
          let hole1 : HoleT write_variants (formed_variants d) (within o (behind (symbol mark.Semicolon))) = record { at = λ v ok. hole.at (Some v) ok } in
          fair_then (variants_sound (within o (behind (symbol mark.Semicolon))) r1 (moved (symbol mark.Semicolon) spot w1) hole1 (omega (arith, deep)) (ap (begins (words word_.KwCase)) (sym (behind_token end _ s r1 w1)) ∙ second_true _ _ test)) (λ v r2 h.
          let fits = h.fits in
          reads (Some v) r2 (record { written = written_join end (symbol mark.Semicolon) (write_variants v) s r1 r2 w1 h.written; formed = h.formed; fits = fits }))))
          (λ none. reads None s (record { written = refl; formed = refl; fits = omega arith }))
