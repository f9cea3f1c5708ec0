-- Headings and routines that are read.
use Rattle.std.proofs.Common.{◌≡◌, ℕ, ◌+◌, ◌≤◌, Bool, true, false, ◌&&◌, List, [], ◌∷◌, Option, Some, None, refl, sym, ap, subst, ◌∙◌, arith}
use Rattle.std.specs.Prelude.{IsTrue}
use Rattle.std.specs.Option.{option_map}
use Rattle.p2c_text.specs.declared.dialect.Dialect.{Dialect}
use Rattle.p2c_text.specs.declared.place.Span.{Span}
use Rattle.dialect_lexer.specs.declared.token.Word.TheVariants as word_
use Rattle.dialect_lexer.specs.declared.token.Symbol.TheVariants as mark
use Rattle.pascal_tree.specs.declared.names.Identifier.{Identifier}
use Rattle.pascal_tree.specs.declared.types.TypeName.{TypeName}
use Rattle.pascal_tree.specs.declared.declarations.Formals.{Formals}
use Rattle.pascal_tree.specs.declared.declarations.Heading.{Heading}
use Rattle.pascal_tree.specs.declared.declarations.Heading.TheVariants as heading_
use Rattle.pascal_tree.specs.declared.declarations.RoutineBody.{RoutineBody}
use Rattle.pascal_tree.specs.declared.declarations.RoutineBody.TheVariants as body
use Rattle.pascal_tree.specs.declared.declarations.Routine.{Routine}
use Rattle.pascal_tree.specs.declared.declarations.Block.{Block}
use Rattle.token_parsing.specs.Parser.{Outcome, Parser, begins}
use Rattle.token_parsing.proofs.Fair.{reads, fair_then, fair_either}
use Rattle.expr_parser.specs.Tokens.{Placed, plain}
use Rattle.expr_parser.specs.Spans.{span_between}
use Rattle.expr_parser.specs.Layout.{Layout, Done, ◌&◌, word, symbol, spanned, tokens_of, height_of, IsWritten}
use Rattle.expr_parser.specs.Writing.{identifier}
use Rattle.expr_parser.specs.Grammar.{AreTokens}
use Rattle.expr_parser.specs.Classes.{identifiers, words, symbols}
use Rattle.expr_parser.proofs.Layouts.{height_join, written_join}
use Rattle.expr_parser.proofs.FollowedParts.{and_in}
use Rattle.expr_parser.proofs.KnownTokens.{name_known, semicolon_known}
use Rattle.expr_parser.proofs.Openings.{Opening, within, in_spanned, behind, before, Filled, filled_as, Hole}
use Rattle.expr_parser.proofs.Spots.{Answer, Spot, Reads, Good, are_joined, spot_behind, spot_within, begins_at}
use Rattle.expr_parser.proofs.SoundTokens.{written_node, answer_symbol, answer_word}
use Rattle.expr_parser.proofs.SoundTerms.{reads_as}
use Rattle.type_parser.specs.Writing.{write_formals}
use Rattle.type_parser.specs.Grammar.{formed_formals}
use Rattle.type_parser.specs.Levels.{formals}
use Rattle.type_parser.proofs.Fillers.{a_name}
use Rattle.type_parser.proofs.SoundNames.{answer_name, answer_named}
use Rattle.type_parser.proofs.SoundFormals.{write_optional, formed_optional, result_sound, optional_formals_sound, formals_sound}
use Rattle.unit_parser.specs.Writing.{optional_result as write_result, write_heading, write_body, write_block, write_routine}
use Rattle.unit_parser.specs.Grammar.{formed_heading, formed_body, formed_block, formed_routine}
use Rattle.unit_parser.specs.Parts.{procedure_heading, optional_result, function_heading, heading}
use Rattle.unit_parser.specs.Blocks.{routine_words, routine_body, routine_of, routine}
use Rattle.unit_parser.proofs.WrittenNodes.{write_body_block, write_body_directive, write_routine_of}
use Rattle.unit_parser.proofs.FormedNodes.{formed_body_block, formed_body_directive, formed_routine_of}
use Rattle.unit_parser.proofs.FollowedDeclarations.{procedure_is}
use Rattle.unit_parser.proofs.SoundRows.{any, alone}

-- a directive, which may stand where a body is wanted
a_body : RoutineBody
a_body = body.Directive a_name

a_body_known : (d : Dialect) → AreTokens d (tokens_of (write_body d a_body))
unfolding a_body
a_body_known d = subst (λ l. AreTokens d (tokens_of l)) (sym (write_body_directive d a_name)) (name_known d, tt)

a_body_formed : (d : Dialect) → IsTrue (formed_body d a_body)
unfolding a_body
a_body_formed d = formed_body_directive d a_name

module _ (d : Dialect) {C : Type 0} (layout : C → Layout) (form : C → Bool) (end : Span) (outer levels : ℕ) (tokens : List Placed) (known : AreTokens d (plain tokens)) (k : ℕ) where
  abbrev AnswerT : {A : Type 0} → (A → List Placed → Type 0) → Outcome Placed A → Type 0
  AnswerT P o = Answer d layout form end outer levels tokens P o

  abbrev SpotT : Opening → List Placed → Type 0
  SpotT o s = Spot d layout form end outer levels tokens o s

  abbrev ReadsT : {A : Type 0} → (A → Layout) → (A → Bool) → List Placed → A → List Placed → Type 0
  ReadsT write formed s a r = Reads d layout form end outer levels tokens write formed k s a r

  abbrev GoodT : {A : Type 0} → (A → Layout) → (A → Bool) → Parser Placed A → Type 0
  GoodT write formed p = Good d layout form end outer levels tokens write formed k p

  abbrev HoleT : {A : Type 0} → (A → Layout) → (A → Bool) → Opening → Type 0
  HoleT write formed o = Hole d layout form write formed o

  abbrev moved : {o : Opening} {s r : List Placed} (l : Layout) → SpotT o s → IsWritten end l s r → SpotT (within o (behind l)) r
  moved l spot w = spot_behind d layout form end outer levels tokens known l spot w

  abbrev entered : {o : Opening} {s : List Placed} (p : Opening) → SpotT o s → p.left ≡ [] → AreTokens d p.right → SpotT (within o p) s
  entered p spot none closing = spot_within d layout form end outer levels tokens p spot none closing

  -- ---- headings

  optional_result_sound : (o : Opening) (s : List Placed) → SpotT o s → HoleT write_result any o → AnswerT (ReadsT write_result any s) (optional_result end s)
  unfolding optional_result
  optional_result_sound o s spot hole = fair_either (begins (symbols mark.Colon) s)
      (λ test. fair_then (result_sound d layout form end outer levels tokens known k o s spot (record { at = λ t ok. hole.at (Some t) refl })) (λ t r h. let w = h.written in let fits = h.fits in reads (Some t) r (record { written = w; formed = refl; fits = fits })))
      (λ none. reads None s (record { written = refl; formed = refl; fits = omega arith }))

  module _ (child : Parser Placed Formals) (good : GoodT write_formals formed_formals child) where
    procedure_sound : (o : Opening) (s : List Placed) → SpotT o s → HoleT write_heading formed_heading o → o.depth + k ≡ levels → begins (words word_.KwProcedure) s ≡ true → AnswerT (ReadsT write_heading formed_heading s) (procedure_heading end child s)
    unfolding procedure_heading
    procedure_sound o s spot hole deep test = answer_word d layout form end outer levels tokens word_.KwProcedure s test (λ _ r1 w1.
        let opened = within (within o (in_spanned end)) (behind (word word_.KwProcedure)) in
        let spot1 = moved (word word_.KwProcedure) (entered (in_spanned end) spot refl tt) w1 in
        let hole1 : HoleT identifier any opened = record { at = λ i ok. hole.at (heading_.Procedure i None end) refl } in
        answer_name d layout form end outer levels tokens known r1 spot1 hole1 (λ i r2 w2.
        let o2 = within opened (behind (identifier i)) in
        let hole2 : HoleT write_optional formed_optional o2 = record { at = λ f ok. hole.at (heading_.Procedure i f end) ok } in
        fair_then (optional_formals_sound d layout form end outer levels tokens known k child good o2 r2 (moved (identifier i) spot1 w2) hole2 (omega (arith, deep))) (λ f r3 h.
        let span = span_between end s r3 in let fits = h.fits in let formed = h.formed in
        reads (heading_.Procedure i f span) r3 (record {
          written = written_node end (word word_.KwProcedure & identifier i & write_optional f) _ _ (written_join end (word word_.KwProcedure) (identifier i & write_optional f) s r1 r3 w1 (written_join end (identifier i) (write_optional f) r1 r2 r3 w2 h.written));
          formed = formed;
          fits = omega (arith, fits);
        }))))

    function_sound : (o : Opening) (s : List Placed) → SpotT o s → HoleT write_heading formed_heading o → o.depth + k ≡ levels → begins (words word_.KwFunction) s ≡ true → AnswerT (ReadsT write_heading formed_heading s) (function_heading end child s)
    unfolding function_heading
    function_sound o s spot hole deep test = answer_word d layout form end outer levels tokens word_.KwFunction s test (λ _ r1 w1.
        let opened = within (within o (in_spanned end)) (behind (word word_.KwFunction)) in
        let spot1 = moved (word word_.KwFunction) (entered (in_spanned end) spot refl tt) w1 in
        let hole1 : HoleT identifier any opened = record { at = λ i ok. hole.at (heading_.Function i None None end) refl } in
        answer_name d layout form end outer levels tokens known r1 spot1 hole1 (λ i r2 w2.
        let o2 = within opened (behind (identifier i)) in
        let spot2 = moved (identifier i) spot1 w2 in
        let hole2 : HoleT write_optional formed_optional (within o2 (before Done)) = record { at = λ f ok. hole.at (heading_.Function i f None end) ok } in
        fair_then (optional_formals_sound d layout form end outer levels tokens known k child good (within o2 (before Done)) r2 (entered (before Done) spot2 refl tt) hole2 (omega (arith, deep))) (λ f r3 h.
        let hole3 : HoleT write_result any (within o2 (behind (write_optional f))) = record { at = λ t ok. hole.at (heading_.Function i f t end) h.formed } in
        fair_then (optional_result_sound (within o2 (behind (write_optional f))) r3 (moved (write_optional f) spot2 h.written) hole3) (λ t r4 g.
        let span = span_between end s r4 in let f1 = h.fits in let f2 = g.fits in let formed = h.formed in
        let tail = write_optional f & write_result t in
        reads (heading_.Function i f t span) r4 (record {
          written = written_node end (word word_.KwFunction & identifier i & tail) _ _
              (written_join end (word word_.KwFunction) (identifier i & tail) s r1 r4 w1 (written_join end (identifier i) tail r1 r2 r4 w2 (written_join end (write_optional f) (write_result t) r2 r3 r4 h.written g.written)));
          formed = formed;
          fits = omega (arith, height_join (write_optional f) (write_result t), f1, f2);
        })))))

    pub heading_sound : (o : Opening) (s : List Placed) → SpotT o s → HoleT write_heading formed_heading o → o.depth + k ≡ levels → begins routine_words s ≡ true → AnswerT (ReadsT write_heading formed_heading s) (heading end child s)
    unfolding heading
    heading_sound o s spot hole deep test = fair_either (begins (words word_.KwFunction) s) (λ e. function_sound o s spot hole deep e) (λ e. procedure_sound o s spot hole deep (procedure_is s test e))

  -- ---- routines

  module _ (inner : Parser Placed Block) (inner_good : GoodT (write_block d) (formed_block d) inner) where
    body_sound : GoodT (write_body d) (formed_body d) (routine_body inner)
    unfolding routine_body
    body_sound o s spot hole deep = fair_either (begins identifiers s)
        (λ test. answer_named d layout form end outer levels tokens known s test (λ i r w. reads (body.Directive i) r (reads_as d layout form end outer levels tokens known (write_body_directive d i) (formed_body_directive d i) w refl (omega arith))))
        (λ none. fair_then (inner_good o s spot (record { at = λ b ok. filled_as layout form (ap o.plug (write_body_block d b)) (hole.at (body.Block b) (formed_body_block d b ∙ ok)) }) deep) (λ b r h. let fits = h.fits in
        reads (body.Block b) r (reads_as d layout form end outer levels tokens known (write_body_block d b) (formed_body_block d b) h.written h.formed fits)))

    abbrev tail : RoutineBody → Layout
    tail b = symbol mark.Semicolon & write_body d b & symbol mark.Semicolon

    tail_known : AreTokens d (tokens_of (tail a_body))
    tail_known = (semicolon_known d, are_joined d (write_body d a_body) (symbol mark.Semicolon) (a_body_known d) (semicolon_known d, tt))

    pub routine_sound : (o : Opening) (s : List Placed) → SpotT o s → HoleT (write_routine d) (formed_routine d) o → o.depth + k ≡ levels → begins routine_words s ≡ true → AnswerT (ReadsT (write_routine d) (formed_routine d) s) (routine end k inner s)
    unfolding routine
    routine_sound o s spot hole deep test =
        let filled : (h : Heading) (b : RoutineBody) → IsTrue (formed_heading h) → IsTrue (formed_body d b) → Filled layout form (o.plug (spanned end (write_heading h & tail b))) =
        λ h b ok ok2. filled_as layout form (ap o.plug (write_routine_of d h b end)) (hole.at (routine_of h b end) (formed_routine_of d h b end ∙ and_in (formed_heading h) (formed_body d b) ok ok2)) in
        let inside = within o (in_spanned end) in
        let spot0 = entered (in_spanned end) spot refl tt in
        let hole0 : HoleT write_heading formed_heading (within inside (before (tail a_body))) = record { at = λ h ok. filled h a_body ok (a_body_formed d) } in
        fair_then (heading_sound (formals end k) (formals_sound d layout form end outer levels tokens known k) (within inside (before (tail a_body))) s (entered (before (tail a_body)) spot0 refl tail_known) hole0 (omega (arith, deep)) test) (λ x r1 g.
        let top = write_heading x in
        let o1 = within inside (behind top) in
        let spot1 = moved top spot0 g.written in
        let hole1 : HoleT (alone (tail a_body)) any o1 = record { at = λ _ ok. filled x a_body g.formed (a_body_formed d) } in
        answer_symbol d layout form end outer levels tokens mark.Semicolon r1 spot1 (begins_at d layout form end outer levels tokens spot1 hole1 tt refl tail_known) (λ _ r2 w2.
        let o2 = within o1 (behind (symbol mark.Semicolon)) in
        let spot2 = moved (symbol mark.Semicolon) spot1 w2 in
        let hole2 : HoleT (write_body d) (formed_body d) (within o2 (before (symbol mark.Semicolon))) = record { at = λ b ok. filled x b g.formed ok } in
        fair_then (body_sound (within o2 (before (symbol mark.Semicolon))) r2 (entered (before (symbol mark.Semicolon)) spot2 refl (semicolon_known d, tt)) hole2 (omega (arith, deep))) (λ b r3 h.
        let low = write_body d b in
        let spot3 = moved low spot2 h.written in
        let hole3 : HoleT (alone (symbol mark.Semicolon)) any (within o2 (behind low)) = record { at = λ _ ok. filled x b g.formed h.formed } in
        answer_symbol d layout form end outer levels tokens mark.Semicolon r3 spot3 (begins_at d layout form end outer levels tokens spot3 hole3 tt refl (semicolon_known d, tt)) (λ _ r4 w4.
        let span = span_between end s r4 in let f1 = g.fits in let f2 = h.fits in
        reads (routine_of x b span) r4 (reads_as d layout form end outer levels tokens known (write_routine_of d x b span) (formed_routine_of d x b span)
        (written_node end (top & tail b) _ _ (written_join end top (tail b) s r1 r4 g.written (written_join end (symbol mark.Semicolon) (low & symbol mark.Semicolon) r1 r2 r4 w2 (written_join end low (symbol mark.Semicolon) r2 r3 r4 h.written w4))))
        (and_in (formed_heading x) (formed_body d b) g.formed h.formed) (omega (arith, height_join top (tail b), height_join low (symbol mark.Semicolon), f1, f2)))))))
