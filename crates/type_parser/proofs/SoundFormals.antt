-- Formal parameters that are read.
use Rattle.std.proofs.Common.{◌≡◌, ℕ, zero, suc, ◌+◌, Bool, true, false, List, [], ◌∷◌, length, map, Option, Some, None, refl, sym, ap, subst, ◌∙◌, arith}
use Rattle.std.specs.Prelude.{IsTrue}
use Rattle.std.specs.Option.{option_map}
use Rattle.std.specs.List.{Contains}
use Rattle.p2c_text.specs.declared.dialect.Dialect.{Dialect}
use Rattle.p2c_text.specs.declared.place.Span.{Span}
use Rattle.dialect_lexer.specs.declared.token.Word.TheVariants as word_
use Rattle.dialect_lexer.specs.declared.token.Symbol.TheVariants as mark
use Rattle.pascal_tree.specs.declared.names.Identifier.{Identifier}
use Rattle.pascal_tree.specs.declared.types.TypeName.{TypeName}
use Rattle.pascal_tree.specs.declared.types.TypeName.TheVariants as name_
use Rattle.pascal_tree.specs.declared.declarations.Formal.{Formal}
use Rattle.pascal_tree.specs.declared.declarations.Formal.TheVariants as formal_
use Rattle.pascal_tree.specs.declared.declarations.Formals.{Formals}
use Rattle.token_parsing.specs.Parser.{Outcome, Parser, and_then, begins}
use Rattle.token_parsing.proofs.Fair.{reads, fair_then, fair_either, fair_so}
use Rattle.expr_parser.specs.Tokens.{Placed, plain}
use Rattle.expr_parser.specs.Spans.{span_between}
use Rattle.expr_parser.specs.Layout.{Layout, ◌&◌, word, symbol, levels_of, height_of, IsWritten}
use Rattle.expr_parser.specs.Semicolons.{with_semicolons, optional_part}
use Rattle.expr_parser.specs.Writing.{identifier}
use Rattle.expr_parser.specs.Grammar.{AreTokens, some_all, optional}
use Rattle.expr_parser.specs.Classes.{words, symbols, expect}
use Rattle.expr_parser.specs.Places.{made}
use Rattle.expr_parser.proofs.Layouts.{height_join, written_join}
use Rattle.expr_parser.proofs.FollowedParts.{and_in}
use Rattle.expr_parser.proofs.KnownTokens.{name_known, close_known, colon_known}
use Rattle.expr_parser.proofs.Openings.{Opening, within, in_counted, in_spanned, behind, before, Hole}
use Rattle.expr_parser.proofs.Spots.{Answer, Spot, Reads, Good, spot_behind, spot_within, begins_at, deep_at}
use Rattle.expr_parser.proofs.SoundTokens.{written_node, written_both, answer_symbol, answer_word}
use Rattle.expr_parser.proofs.SoundLists.{listed}
use Rattle.expr_parser.proofs.SoundTerms.{reads_as}
use Rattle.type_parser.specs.Writing.{write_names, write_type_name, optional_word, write_formal, write_formals}
use Rattle.type_parser.specs.Grammar.{some_names, formed_formal, formed_formals}
use Rattle.type_parser.specs.Formals.{optional_formals, optional_var, result, variables, procedure, function, formal, next_formal, more_formals, listed_formals, formals_of, formals_by}
use Rattle.type_parser.specs.Levels.{formals}
use Rattle.type_parser.proofs.WrittenNodes.{write_formal_variables, write_formal_procedure, write_formal_function, write_formals_of}
use Rattle.type_parser.proofs.FormedNodes.{formed_formal_variables, formed_formal_procedure, formed_formal_function, formed_formals_of}
use Rattle.type_parser.proofs.Fillers.{open_known, a_name, a_formal, a_formal_formed, some_formals, of_some_formals, some_formals_formed, some_formals_known, formals_known}
use Rattle.type_parser.proofs.SoundNames.{answer_name, names_sound, type_name_sound}
use Rattle.type_parser.proofs.SoundRows.{row_sound}

-- ":" TypeName
abbrev pub write_result : TypeName → Layout
write_result t = symbol mark.Colon & write_type_name t

-- [Formals]
abbrev pub write_optional : Option Formals → Layout
write_optional f = optional_part (option_map write_formals f)

abbrev pub formed_optional : Option Formals → Bool
formed_optional f = optional (option_map formed_formals f)

abbrev a_type_name : TypeName
a_type_name = name_.Name a_name

module _ (d : Dialect) {C : Type 0} (layout : C → Layout) (form : C → Bool) (end : Span) (outer levels : ℕ) (tokens : List Placed) (known : AreTokens d (plain tokens)) where
  abbrev AnswerT : {A : Type 0} → (A → List Placed → Type 0) → Outcome Placed A → Type 0
  AnswerT P o = Answer d layout form end outer levels tokens P o

  abbrev SpotT : Opening → List Placed → Type 0
  SpotT o s = Spot d layout form end outer levels tokens o s

  abbrev ReadsT : {A : Type 0} → (A → Layout) → (A → Bool) → ℕ → List Placed → A → List Placed → Type 0
  ReadsT write formed k s a r = Reads d layout form end outer levels tokens write formed k s a r

  abbrev GoodT : {A : Type 0} → (A → Layout) → (A → Bool) → ℕ → Parser Placed A → Type 0
  GoodT write formed k p = Good d layout form end outer levels tokens write formed k p

  abbrev HoleT : {A : Type 0} → (A → Layout) → (A → Bool) → Opening → Type 0
  HoleT write formed o = Hole d layout form write formed o

  abbrev moved : {o : Opening} {s r : List Placed} (l : Layout) → SpotT o s → IsWritten end l s r → SpotT (within o (behind l)) r
  moved l spot w = spot_behind d layout form end outer levels tokens known l spot w

  abbrev entered : {o : Opening} {s : List Placed} (p : Opening) → SpotT o s → p.left ≡ [] → AreTokens d p.right → SpotT (within o p) s
  entered p spot none closing = spot_within d layout form end outer levels tokens p spot none closing

  abbrev alone : Layout → Unit {0} → Layout
  alone l _ = l

  abbrev any : {A : Type 0} → A → Bool
  any a = true

  var_sound : (s : List Placed) → AnswerT (λ b r. IsWritten end (optional_word word_.KwVar b) s r) (optional_var s)
  unfolding optional_var
  var_sound s = fair_either (begins (words word_.KwVar) s)
      (λ test. answer_word d layout form end outer levels tokens word_.KwVar s test (λ _ r w. reads true r w))
      (λ none. reads false s refl)

  var_low : (b : Bool) → height_of (optional_word word_.KwVar b) ≡ 0
  var_low true = refl
  var_low false = refl

  module _ (k : ℕ) where
    pub result_sound : (o : Opening) (s : List Placed) → SpotT o s → HoleT write_result any o → AnswerT (ReadsT write_result any k s) (result end s)
    unfolding result
    result_sound o s spot hole =
        let a = write_type_name a_type_name in
        let hole1 : HoleT (alone (symbol mark.Colon)) any (within o (before a)) = record { at = λ _ ok. hole.at a_type_name refl } in
        let spot1 = entered (before a) spot refl (name_known d, tt) in
        answer_symbol d layout form end outer levels tokens mark.Colon s spot1 (begins_at d layout form end outer levels tokens spot1 hole1 tt refl (colon_known d, tt)) (λ _ r1 w1.
        let hole2 : HoleT write_type_name any (within o (behind (symbol mark.Colon))) = record { at = λ t ok. hole.at t refl } in
        fair_so (type_name_sound d layout form end outer levels tokens known k (within o (behind (symbol mark.Colon))) r1 (moved (symbol mark.Colon) spot w1) hole2) (λ t r2 h.
        let fits = h.fits in
        record { written = written_join end (symbol mark.Colon) (write_type_name t) s r1 r2 w1 h.written; formed = refl; fits = fits }))

    variables_sound : GoodT write_formal formed_formal k (variables end)
    unfolding variables
    variables_sound o s spot hole deep = fair_then (var_sound s) (λ b r1 w1.
        let mark_of = optional_word word_.KwVar b in
        let opened = within (within o (in_spanned end)) (behind mark_of) in
        let spot1 = moved mark_of (entered (in_spanned end) spot refl tt) w1 in
        let last = write_result a_type_name in
        let hole1 : HoleT write_names some_names (within opened (before last)) =
        record { at = λ ns ok. let (c, g, w) = hole.at (formal_.Variables b ns a_type_name end) (formed_formal_variables b ns a_type_name end ∙ ok) in (c, g, w ∙ ap o.plug (write_formal_variables b ns a_type_name end)) } in
        fair_then (names_sound d layout form end outer levels tokens known k (within opened (before last)) r1 (entered (before last) spot1 refl (colon_known d, (name_known d, tt))) hole1 (omega (arith, deep))) (λ ns r2 h.
        let list = write_names ns in
        let hole2 : HoleT write_result any (within opened (behind list)) =
        record { at = λ t ok. let (c, g, w) = hole.at (formal_.Variables b ns t end) (formed_formal_variables b ns t end ∙ h.formed) in (c, g, w ∙ ap o.plug (write_formal_variables b ns t end)) } in
        fair_then (result_sound (within opened (behind list)) r2 (moved list spot1 h.written) hole2) (λ t r3 g.
        let span = span_between end s r3 in let x = h.fits in let y = g.fits in
        reads (formal_.Variables b ns t span) r3 (reads_as d layout form end outer levels tokens known (write_formal_variables b ns t span) (formed_formal_variables b ns t span)
        (written_node end (mark_of & list & write_result t) _ _ (written_join end mark_of (list & write_result t) s r1 r3 w1 (written_join end list (write_result t) r1 r2 r3 h.written g.written)))
        h.formed (omega (arith, height_join mark_of (list & write_result t), height_join list (write_result t), var_low b, x, y))))))

    module _ (child : Parser Placed Formals) (good : GoodT write_formals formed_formals k child) where
      pub optional_formals_sound : GoodT write_optional formed_optional k (optional_formals child)
      unfolding optional_formals
      optional_formals_sound o s spot hole deep = fair_either (begins (symbols mark.Open) s)
          (λ test. fair_then (good o s spot (record { at = λ f ok. hole.at (Some f) ok }) deep) (λ f r h. let w = h.written in let formed = h.formed in let fits = h.fits in reads (Some f) r (record { written = w; formed = formed; fits = fits })))
          (λ none. reads None s (record { written = refl; formed = refl; fits = omega arith }))

      procedure_sound : (o : Opening) (s : List Placed) → SpotT o s → HoleT write_formal formed_formal o → o.depth + k ≡ levels → begins (words word_.KwProcedure) s ≡ true → AnswerT (ReadsT write_formal formed_formal k s) (procedure end child s)
      unfolding procedure
      procedure_sound o s spot hole deep test = answer_word d layout form end outer levels tokens word_.KwProcedure s test (λ _ r1 w1.
          let opened = within (within o (in_spanned end)) (behind (word word_.KwProcedure)) in
          let spot1 = moved (word word_.KwProcedure) (entered (in_spanned end) spot refl tt) w1 in
          let wanted : (i : Identifier) (f : Option Formals) → IsTrue (formed_optional f) → (c : C) × IsTrue (form c) × (layout c ≡ opened.plug (identifier i & write_optional f)) =
          λ i f ok. let (c, g, w) = hole.at (formal_.Procedure i f end) (formed_formal_procedure i f end ∙ ok) in (c, g, w ∙ ap o.plug (write_formal_procedure i f end)) in
          let hole1 : HoleT identifier any opened = record { at = λ i ok. wanted i None refl } in
          answer_name d layout form end outer levels tokens known r1 spot1 hole1 (λ i r2 w2.
          let name = identifier i in
          let hole2 : HoleT write_optional formed_optional (within opened (behind name)) = record { at = λ f ok. wanted i f ok } in
          fair_then (optional_formals_sound (within opened (behind name)) r2 (moved name spot1 w2) hole2 (omega (arith, deep))) (λ f r3 h.
          let span = span_between end s r3 in let fits = h.fits in
          reads (formal_.Procedure i f span) r3 (reads_as d layout form end outer levels tokens known (write_formal_procedure i f span) (formed_formal_procedure i f span)
          (written_node end (word word_.KwProcedure & name & write_optional f) _ _ (written_join end (word word_.KwProcedure) (name & write_optional f) s r1 r3 w1 (written_join end name (write_optional f) r1 r2 r3 w2 h.written)))
          h.formed (omega (arith, height_join name (write_optional f), fits))))))

      function_sound : (o : Opening) (s : List Placed) → SpotT o s → HoleT write_formal formed_formal o → o.depth + k ≡ levels → begins (words word_.KwFunction) s ≡ true → AnswerT (ReadsT write_formal formed_formal k s) (function end child s)
      unfolding function
      function_sound o s spot hole deep test = answer_word d layout form end outer levels tokens word_.KwFunction s test (λ _ r1 w1.
          let opened = within (within o (in_spanned end)) (behind (word word_.KwFunction)) in
          let spot1 = moved (word word_.KwFunction) (entered (in_spanned end) spot refl tt) w1 in
          let last = write_result a_type_name in
          let wanted : (i : Identifier) (f : Option Formals) (t : TypeName) → IsTrue (formed_optional f) → (c : C) × IsTrue (form c) × (layout c ≡ opened.plug (identifier i & write_optional f & write_result t)) =
          λ i f t ok. let (c, g, w) = hole.at (formal_.Function i f t end) (formed_formal_function i f t end ∙ ok) in (c, g, w ∙ ap o.plug (write_formal_function i f t end)) in
          let hole1 : HoleT identifier any (within opened (before last)) = record { at = λ i ok. wanted i None a_type_name refl } in
          answer_name d layout form end outer levels tokens known r1 (entered (before last) spot1 refl (colon_known d, (name_known d, tt))) hole1 (λ i r2 w2.
          let name = identifier i in
          let named = within opened (behind name) in
          let spot2 = moved name spot1 w2 in
          let hole2 : HoleT write_optional formed_optional (within named (before last)) = record { at = λ f ok. wanted i f a_type_name ok } in
          fair_then (optional_formals_sound (within named (before last)) r2 (entered (before last) spot2 refl (colon_known d, (name_known d, tt))) hole2 (omega (arith, deep))) (λ f r3 h.
          let inner = write_optional f in
          let hole3 : HoleT write_result any (within named (behind inner)) = record { at = λ t ok. wanted i f t h.formed } in
          fair_then (result_sound (within named (behind inner)) r3 (moved inner spot2 h.written) hole3) (λ t r4 g.
          let span = span_between end s r4 in let x = h.fits in let y = g.fits in
          reads (formal_.Function i f t span) r4 (reads_as d layout form end outer levels tokens known (write_formal_function i f t span) (formed_formal_function i f t span)
          (written_node end (word word_.KwFunction & name & inner & write_result t) _ _
          (written_join end (word word_.KwFunction) (name & inner & write_result t) s r1 r4 w1 (written_join end name (inner & write_result t) r1 r2 r4 w2 (written_join end inner (write_result t) r2 r3 r4 h.written g.written))))
          h.formed (omega (arith, height_join name (inner & write_result t), height_join inner (write_result t), x, y)))))))

      formal_sound : GoodT write_formal formed_formal k (formal end child)
      unfolding formal
      formal_sound o s spot hole deep =
          fair_either (begins (words word_.KwProcedure) s) (λ test. procedure_sound o s spot hole deep test)
          (λ _. fair_either (begins (words word_.KwFunction) s) (λ test. function_sound o s spot hole deep test) (λ _. variables_sound o s spot hole deep))

      formals_by_sound : GoodT write_formals formed_formals (suc k) (formals_by end child)
      unfolding formals_by listed_formals more_formals next_formal
      formals_by_sound o s spot hole deep =
          let inside = within o (within in_counted (in_spanned end)) in
          let spot1 = entered (within in_counted (in_spanned end)) spot refl tt in
          let last = symbol mark.Close in
          let row_of : List Formal → Layout = λ xs. with_semicolons (map write_formal xs) in
          let row_formed : List Formal → Bool = λ xs. some_all (map formed_formal xs) in
          let some : List Formal = a_formal ∷ [] in
          let wanted : (xs : List Formal) → IsTrue (row_formed xs) → (c : C) × IsTrue (form c) × (layout c ≡ inside.plug (symbol mark.Open & row_of xs & last)) =
          λ xs ok. let (c, g, w) = hole.at (formals_of xs end) (formed_formals_of xs end ∙ ok) in (c, g, w ∙ ap o.plug (write_formals_of xs end)) in
          let hole1 : HoleT (alone (symbol mark.Open)) any (within inside (before (row_of some & last))) = record { at = λ _ ok. wanted some (and_in (formed_formal a_formal) true a_formal_formed refl) } in
          let spot2 = entered (before (row_of some & last)) spot1 refl (formals_known d) in
          answer_symbol d layout form end outer levels tokens mark.Open s spot2 (begins_at d layout form end outer levels tokens spot2 hole1 tt refl (open_known d, tt)) (λ _ r1 w1.
          let opened = within inside (behind (symbol mark.Open)) in
          let spot3 = moved (symbol mark.Open) spot1 w1 in
          let hole3 : HoleT (λ p. row_of (listed p)) (λ p. row_formed (listed p)) (within opened (before last)) = record { at = λ p ok. wanted (listed p) ok } in
          fair_then (row_sound d layout form end outer levels tokens known write_formal formed_formal k (begins (symbols mark.Semicolon)) (λ s e. e) (formal end child) formal_sound (within opened (before last)) r1 (entered (before last) spot3 refl (close_known d, tt)) hole3 (omega (arith, deep))) (λ all r2 h.
          let xs = listed (h.first, h.others) in
          let row = row_of xs in
          let hole4 : HoleT (alone last) any (within opened (behind row)) = record { at = λ _ ok. wanted xs h.reads.formed } in
          let spot4 = moved row spot3 h.reads.written in
          subst (λ z. AnswerT (ReadsT write_formals formed_formals (suc k) s) (and_then (expect mark.Close r2) (λ _. made end s (formals_of z)))) (sym h.is)
          (answer_symbol d layout form end outer levels tokens mark.Close r2 spot4 (begins_at d layout form end outer levels tokens spot4 hole4 tt refl (close_known d, tt)) (λ _ r3 w3.
          let span = span_between end s r3 in let fits = h.reads.fits in
          reads (formals_of xs span) r3 (reads_as d layout form end outer levels tokens known (write_formals_of xs span) (formed_formals_of xs span)
          (written_both end (symbol mark.Open & row & last) _ _ (written_join end (symbol mark.Open) (row & last) s r1 r3 w1 (written_join end row last r1 r2 r3 h.reads.written w3)))
          h.reads.formed (omega (arith, height_join row last, fits)))))))

  formals_stop : GoodT write_formals formed_formals 0 (formals end 0)
  unfolding formals
  formals_stop o s spot hole deep =
      deep_at d layout form end outer levels tokens spot hole deep some_formals some_formals_formed (some_formals_known d)
      (of_some_formals (λ l. Contains (levels_of (outer + o.depth) (0 + length o.left) l) (0 + length o.left, outer + o.depth)) (0, omega arith, refl))

  pub formals_sound : (k : ℕ) → GoodT write_formals formed_formals k (formals end k)
  unfolding formals
  formals_sound zero = formals_stop
  formals_sound (suc k) = formals_by_sound k (formals end k) (formals_sound k)
