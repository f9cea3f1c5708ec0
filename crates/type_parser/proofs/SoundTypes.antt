-- Types that are read.
use Rattle.std.proofs.Common.{◌≡◌, ℕ, suc, ◌+◌, Bool, true, false, List, [], ◌∷◌, map, Some, None, refl, sym, ap, subst, ◌∙◌, arith}
use Rattle.std.specs.Prelude.{IsTrue}
use Rattle.p2c_text.specs.declared.dialect.Dialect.{Dialect}
use Rattle.p2c_text.specs.declared.place.Span.{Span}
use Rattle.dialect_lexer.specs.declared.token.Word.TheVariants as word_
use Rattle.dialect_lexer.specs.declared.token.Symbol.TheVariants as mark
use Rattle.pascal_tree.specs.declared.constants.Constant.{Constant}
use Rattle.pascal_tree.specs.declared.types.TypeNode.{TypeNode}
use Rattle.pascal_tree.specs.declared.types.TypeNode.TheVariants as node_
use Rattle.pascal_tree.specs.declared.types.Struct.{Struct}
use Rattle.pascal_tree.specs.declared.types.Struct.TheVariants as struct_
use Rattle.pascal_tree.specs.declared.types.Fields.{Fields}
use Rattle.token_parsing.specs.Parser.{Outcome, Parser, begins}
use Rattle.token_parsing.proofs.Fair.{reads, fair_then, fair_either, fair_so}
use Rattle.expr_parser.specs.Tokens.{Placed, plain}
use Rattle.expr_parser.specs.Spans.{span_between}
use Rattle.expr_parser.specs.Layout.{Layout, ◌&◌, word, symbol, spanned, with_commas, tokens_of, height_of, IsWritten}
use Rattle.expr_parser.specs.Writing.{identifier}
use Rattle.expr_parser.specs.Grammar.{AreTokens, some_all}
use Rattle.expr_parser.specs.Classes.{identifiers, words, symbols}
use Rattle.expr_parser.specs.ConstantNodes.{write_constant}
use Rattle.expr_parser.proofs.Layouts.{height_join, join_assoc, written_join}
use Rattle.expr_parser.proofs.FollowedParts.{and_in}
use Rattle.expr_parser.proofs.KnownTokens.{name_known, close_known, bracket_known, open_bracket_known, dots_known, of_known, end_known}
use Rattle.expr_parser.proofs.Openings.{Opening, within, in_counted, in_spanned, behind, before, Hole}
use Rattle.expr_parser.proofs.Spots.{Answer, Spot, Reads, Good, spot_behind, spot_within, begins_at}
use Rattle.expr_parser.proofs.SoundTokens.{written_node, written_both, written_counted, answer_symbol, answer_word, answer_mark}
use Rattle.expr_parser.proofs.SoundLists.{listed, list_sound}
use Rattle.expr_parser.proofs.SoundTerms.{reads_as}
use Rattle.expr_parser.proofs.SoundConstants.{constant_sound}
use Rattle.type_parser.specs.Writing.{write_names, optional_word, optional_limit as write_limit, write_struct, write_type, write_fields}
use Rattle.type_parser.specs.Grammar.{some_names, formed_struct, formed_type, formed_fields}
use Rattle.type_parser.specs.Types.{pointer, enumeration, subrange, named, optional_limit, string_type, begins_name_alone, simple_type, of_type, next_type, more_types, types, indexes, array, record_type, set_type, file_type, structure, optional_packed, structured, struct_words, type_by}
use Rattle.type_parser.proofs.WrittenNodes.{write_struct_array, write_struct_record, write_struct_set, write_struct_file, write_type_structured, write_type_pointer, write_type_enumeration, write_type_subrange, write_type_named, write_type_string}
use Rattle.type_parser.proofs.FormedNodes.{
  formed_struct_array,
  formed_struct_record,
  formed_struct_set,
  formed_struct_file,
  formed_type_structured,
  formed_type_pointer,
  formed_type_enumeration,
  formed_type_subrange,
  formed_type_named,
  formed_type_string,
}
use Rattle.type_parser.proofs.Fillers.{set_known, no_span, a_name, a_constant, a_type, of_a_type}
use Rattle.type_parser.proofs.FollowedNames.{first_true}
use Rattle.type_parser.proofs.SoundNames.{answer_wanted, answer_name, answer_named, names_sound}

-- an array, with its indexes as one part
array_written : (ts : List TypeNode) (t : TypeNode) (span : Span)
    → write_struct (struct_.Array ts t span) ≡ spanned span (word word_.KwArray & (symbol mark.OpenBracket & with_commas (map write_type ts) & symbol mark.CloseBracket) & word word_.KwOf & write_type t)
array_written ts t span =
    write_struct_array ts t span ∙ ap (λ l. spanned span (word word_.KwArray & symbol mark.OpenBracket & l)) (sym (join_assoc (with_commas (map write_type ts)) (symbol mark.CloseBracket) (word word_.KwOf & write_type t)))

module _ (d : Dialect) {C : Type 0} (layout : C → Layout) (form : C → Bool) (end : Span) (outer levels : ℕ) (tokens : List Placed) (known : AreTokens d (plain tokens)) where
  abbrev AnswerT : {A : Type 0} → (A → List Placed → Type 0) → Outcome Placed A → Type 0
  AnswerT P o = Answer d layout form end outer levels tokens P o

  abbrev SpotT : Opening → List Placed → Type 0
  SpotT o s = Spot d layout form end outer levels tokens o s

  abbrev ReadsT : {A : Type 0} → (A → Layout) → (A → Bool) → ℕ → List Placed → A → List Placed → Type 0
  ReadsT write formed k s a r = Reads d layout form end outer levels tokens write formed k s a r

  abbrev GoodT : {A : Type 0} → (A → Layout) → (A → Bool) → ℕ → Parser Placed A → Type 0
  GoodT write formed k p = Good d layout form end outer levels tokens write formed k p

  abbrev HoleT : {A : Type 0} → (A → Layout) → (A → Bool) → Opening → Type 0
  HoleT write formed o = Hole d layout form write formed o

  abbrev moved : {o : Opening} {s r : List Placed} (l : Layout) → SpotT o s → IsWritten end l s r → SpotT (within o (behind l)) r
  moved l spot w = spot_behind d layout form end outer levels tokens known l spot w

  abbrev entered : {o : Opening} {s : List Placed} (p : Opening) → SpotT o s → p.left ≡ [] → AreTokens d p.right → SpotT (within o p) s
  entered p spot none closing = spot_within d layout form end outer levels tokens p spot none closing

  abbrev node : Opening
  node = within in_counted (in_spanned end)

  -- a token alone, where no tree but one may stand
  abbrev alone : Layout → Unit {0} → Layout
  alone l _ = l

  abbrev any : {A : Type 0} → A → Bool
  any a = true

  -- ---- types without types in them

  module _ (k : ℕ) where
    abbrev TypeAnswer : List Placed → Outcome Placed TypeNode → Type 0
    TypeAnswer s o = AnswerT (ReadsT write_type (formed_type d) (suc k) s) o

    pointer_sound : (o : Opening) (s : List Placed) → SpotT o s → HoleT write_type (formed_type d) o → begins (symbols mark.Caret) s ≡ true → TypeAnswer s (pointer end s)
    unfolding pointer
    pointer_sound o s spot hole test = answer_mark d layout form end outer levels tokens mark.Caret s test (λ _ r w1.
        let hole2 : HoleT identifier any (within (within o node) (behind (symbol mark.Caret))) =
        record { at = λ i ok. let (c, g, w) = hole.at (node_.Pointer i end) (formed_type_pointer d i end) in (c, g, w ∙ ap o.plug (write_type_pointer i end)) } in
        answer_name d layout form end outer levels tokens known r (moved (symbol mark.Caret) (entered node spot refl tt) w1) hole2 (λ i r2 w2.
        let span = span_between end s r2 in
        reads (node_.Pointer i span) r2 (reads_as d layout form end outer levels tokens known (write_type_pointer i span) (formed_type_pointer d i span)
        (written_both end (symbol mark.Caret & identifier i) _ _ (written_join end (symbol mark.Caret) (identifier i) s r r2 w1 w2)) refl (omega arith))))

    enumeration_sound : (o : Opening) (s : List Placed) → SpotT o s → HoleT write_type (formed_type d) o → o.depth + suc k ≡ levels → begins (symbols mark.Open) s ≡ true → TypeAnswer s (enumeration end s)
    unfolding enumeration
    enumeration_sound o s spot hole deep test = answer_mark d layout form end outer levels tokens mark.Open s test (λ _ r1 w1.
        let opened = within (within o node) (behind (symbol mark.Open)) in
        let spot2 = moved (symbol mark.Open) (entered node spot refl tt) w1 in
        let hole3 : HoleT write_names some_names (within opened (before (symbol mark.Close))) =
        record { at = λ ns ok. let (c, g, w) = hole.at (node_.Enumeration ns end) (formed_type_enumeration d ns end ∙ ok) in (c, g, w ∙ ap o.plug (write_type_enumeration ns end)) } in
        fair_then (names_sound d layout form end outer levels tokens known k (within opened (before (symbol mark.Close))) r1 (entered (before (symbol mark.Close)) spot2 refl (close_known d, tt)) hole3 (omega (arith, deep))) (λ ns r2 h.
        let list = write_names ns in
        let hole4 : HoleT (alone (symbol mark.Close)) any (within opened (behind list)) = record { at = λ _ ok. hole3.at ns h.formed } in
        let spot4 = moved list spot2 h.written in
        answer_symbol d layout form end outer levels tokens mark.Close r2 spot4 (begins_at d layout form end outer levels tokens spot4 hole4 tt refl (close_known d, tt)) (λ _ r3 w3.
        let span = span_between end s r3 in let fits = h.fits in
        reads (node_.Enumeration ns span) r3 (reads_as d layout form end outer levels tokens known (write_type_enumeration ns span) (formed_type_enumeration d ns span)
        (written_both end (symbol mark.Open & list & symbol mark.Close) _ _ (written_join end (symbol mark.Open) (list & symbol mark.Close) s r1 r3 w1 (written_join end list (symbol mark.Close) r1 r2 r3 h.written w3)))
        h.formed (omega (arith, height_join list (symbol mark.Close), fits))))))

    subrange_sound : (o : Opening) (s : List Placed) → SpotT o s → HoleT write_type (formed_type d) o → TypeAnswer s (subrange end s)
    unfolding subrange
    subrange_sound o s spot hole =
        let inside = within o node in
        let spot1 = entered node spot refl tt in
        let last = write_constant a_constant in
        let wanted : (a b : Constant) → (c : C) × IsTrue (form c) × (layout c ≡ inside.plug (write_constant a & symbol mark.DotDot & write_constant b)) =
        λ a b. let (c, g, w) = hole.at (node_.Subrange a b end) (formed_type_subrange d a b end) in (c, g, w ∙ ap o.plug (write_type_subrange a b end)) in
        let hole1 : HoleT write_constant any (within inside (before (symbol mark.DotDot & last))) = record { at = λ a ok. wanted a a_constant } in
        fair_then (constant_sound d layout form end outer levels tokens known k (within inside (before (symbol mark.DotDot & last))) s (entered (before (symbol mark.DotDot & last)) spot1 refl (dots_known d, (name_known d, tt))) hole1) (λ a r1 h.
        let first = write_constant a in
        let middle = within inside (behind first) in
        let spot2 = moved first spot1 h.written in
        let hole2 : HoleT (alone (symbol mark.DotDot)) any (within middle (before last)) = record { at = λ _ ok. wanted a a_constant } in
        let spot3 = entered (before last) spot2 refl (name_known d, tt) in
        answer_symbol d layout form end outer levels tokens mark.DotDot r1 spot3 (begins_at d layout form end outer levels tokens spot3 hole2 tt refl (dots_known d, tt)) (λ _ r2 w2.
        let hole4 : HoleT write_constant any (within middle (behind (symbol mark.DotDot))) = record { at = λ b ok. wanted a b } in
        fair_then (constant_sound d layout form end outer levels tokens known k (within middle (behind (symbol mark.DotDot))) r2 (moved (symbol mark.DotDot) spot2 w2) hole4) (λ b r3 g.
        let span = span_between end s r3 in let x = h.fits in let y = g.fits in
        reads (node_.Subrange a b span) r3 (reads_as d layout form end outer levels tokens known (write_type_subrange a b span) (formed_type_subrange d a b span)
        (written_both end (first & symbol mark.DotDot & write_constant b) _ _ (written_join end first (symbol mark.DotDot & write_constant b) s r1 r3 h.written (written_join end (symbol mark.DotDot) (write_constant b) r1 r2 r3 w2 g.written)))
        refl (omega (arith, height_join first (symbol mark.DotDot & write_constant b), x, y))))))

    named_sound : (s : List Placed) → begins identifiers s ≡ true → TypeAnswer s (named s)
    unfolding named
    named_sound s test = answer_named d layout form end outer levels tokens known s test (λ i r w.
        reads (node_.Name i) r (reads_as d layout form end outer levels tokens known (write_type_named i) (formed_type_named d i) (written_counted end (identifier i) _ _ w) refl (omega arith)))

    limit_sound : (o : Opening) (s : List Placed) → SpotT o s → HoleT write_limit any o → AnswerT (ReadsT write_limit any k s) (optional_limit end s)
    unfolding optional_limit
    limit_sound o s spot hole = fair_either (begins (symbols mark.OpenBracket) s)
        (λ test. answer_mark d layout form end outer levels tokens mark.OpenBracket s test (λ _ r1 w1.
        let opened = within o (behind (symbol mark.OpenBracket)) in
        let spot2 = moved (symbol mark.OpenBracket) spot w1 in
        let hole3 : HoleT write_constant any (within opened (before (symbol mark.CloseBracket))) = record { at = λ c ok. hole.at (Some c) refl } in
        fair_then (constant_sound d layout form end outer levels tokens known k (within opened (before (symbol mark.CloseBracket))) r1 (entered (before (symbol mark.CloseBracket)) spot2 refl (bracket_known d, tt)) hole3) (λ c r2 h.
        let limit = write_constant c in
        let hole4 : HoleT (alone (symbol mark.CloseBracket)) any (within opened (behind limit)) = record { at = λ _ ok. hole3.at c refl } in
        let spot4 = moved limit spot2 h.written in
        answer_symbol d layout form end outer levels tokens mark.CloseBracket r2 spot4 (begins_at d layout form end outer levels tokens spot4 hole4 tt refl (bracket_known d, tt)) (λ _ r3 w3.
        let fits = h.fits in
        reads (Some c) r3 (record {
          written = written_join end (symbol mark.OpenBracket) (limit & symbol mark.CloseBracket) s r1 r3 w1 (written_join end limit (symbol mark.CloseBracket) r1 r2 r3 h.written w3);
          formed = refl;
          fits = omega (arith, height_join limit (symbol mark.CloseBracket), fits);
        })))))
        (λ none. reads None s (record { written = refl; formed = refl; fits = omega arith }))

    string_sound : (o : Opening) (s : List Placed) → SpotT o s → HoleT write_type (formed_type d) o → begins (words word_.KwString) s ≡ true → TypeAnswer s (string_type end s)
    unfolding string_type
    string_sound o s spot hole test = answer_word d layout form end outer levels tokens word_.KwString s test (λ _ r w1.
        let hole2 : HoleT write_limit any (within (within o node) (behind (word word_.KwString))) =
        record { at = λ c ok. let (t, g, w) = hole.at (node_.String c end) (formed_type_string d c end) in (t, g, w ∙ ap o.plug (write_type_string c end)) } in
        fair_then (limit_sound (within (within o node) (behind (word word_.KwString))) r (moved (word word_.KwString) (entered node spot refl tt) w1) hole2) (λ c r2 h.
        let span = span_between end s r2 in let fits = h.fits in
        reads (node_.String c span) r2 (reads_as d layout form end outer levels tokens known (write_type_string c span) (formed_type_string d c span)
        (written_both end (word word_.KwString & write_limit c) _ _ (written_join end (word word_.KwString) (write_limit c) s r r2 w1 h.written)) refl (omega (arith, fits)))))

    simple_sound : GoodT write_type (formed_type d) (suc k) (simple_type end)
    unfolding simple_type
    simple_sound o s spot hole deep =
        fair_either (begins_name_alone s) (λ e. named_sound s (first_true _ _ e))
        (λ _. fair_either (begins (symbols mark.Caret) s) (λ e. pointer_sound o s spot hole e)
        (λ _. fair_either (begins (symbols mark.Open) s) (λ e. enumeration_sound o s spot hole deep e)
        (λ _. fair_either (begins (words word_.KwString) s) (λ e. string_sound o s spot hole e) (λ _. subrange_sound o s spot hole))))

    -- ---- types with types in them

    packed_sound : (s : List Placed) → AnswerT (λ b r. IsWritten end (optional_word word_.KwPacked b) s r) (optional_packed s)
    unfolding optional_packed
    packed_sound s = fair_either (begins (words word_.KwPacked) s)
        (λ test. answer_word d layout form end outer levels tokens word_.KwPacked s test (λ _ r w. reads true r w))
        (λ none. reads false s refl)

    word_low : (b : Bool) → height_of (optional_word word_.KwPacked b) ≡ 0
    word_low true = refl
    word_low false = refl

    module _ (child : Parser Placed TypeNode) (good : GoodT write_type (formed_type d) k child) where
      abbrev write_of : TypeNode → Layout
      write_of t = word word_.KwOf & write_type t

      of_sound : GoodT write_of (formed_type d) k (of_type child)
      unfolding of_type
      of_sound o s spot hole deep =
          let a = write_type a_type in
          let hole1 : HoleT (alone (word word_.KwOf)) any (within o (before a)) = record { at = λ _ ok. hole.at a_type (formed_type_named d a_name) } in
          let spot1 = entered (before a) spot refl (of_a_type (λ l. AreTokens d (tokens_of l)) (name_known d, tt)) in
          answer_wanted d layout form end outer levels tokens known word_.KwOf s spot1 (begins_at d layout form end outer levels tokens spot1 hole1 tt refl (of_known d, tt)) (λ _ r1 w1.
          let hole2 : HoleT write_type (formed_type d) (within o (behind (word word_.KwOf))) = record { at = λ t ok. hole.at t ok } in
          fair_so (good (within o (behind (word word_.KwOf))) r1 (moved (word word_.KwOf) spot w1) hole2 (omega (arith, deep))) (λ t r2 h.
          let fits = h.fits in
          record { written = written_join end (word word_.KwOf) (write_type t) s r1 r2 w1 h.written; formed = h.formed; fits = fits }))

      abbrev write_indexes : List TypeNode → Layout
      write_indexes ts = symbol mark.OpenBracket & with_commas (map write_type ts) & symbol mark.CloseBracket

      abbrev formed_indexes : List TypeNode → Bool
      formed_indexes ts = some_all (map (formed_type d) ts)

      indexes_sound : GoodT write_indexes formed_indexes k (indexes child)
      unfolding indexes types more_types next_type
      indexes_sound o s spot hole deep =
          let some : List TypeNode = a_type ∷ [] in
          let rest = with_commas (map write_type some) & symbol mark.CloseBracket in
          let hole1 : HoleT (alone (symbol mark.OpenBracket)) any (within o (before rest)) = record { at = λ _ ok. hole.at some (and_in (formed_type d a_type) true (formed_type_named d a_name) refl) } in
          let spot1 = entered (before rest) spot refl (of_a_type (λ l. AreTokens d (tokens_of (with_commas (l ∷ []) & symbol mark.CloseBracket))) (name_known d, (bracket_known d, tt))) in
          answer_symbol d layout form end outer levels tokens mark.OpenBracket s spot1 (begins_at d layout form end outer levels tokens spot1 hole1 tt refl (open_bracket_known d, tt)) (λ _ r1 w1.
          let opened = within o (behind (symbol mark.OpenBracket)) in
          let spot2 = moved (symbol mark.OpenBracket) spot w1 in
          let hole3 : HoleT (λ p. with_commas (map write_type (listed p))) (λ p. some_all (map (formed_type d) (listed p))) (within opened (before (symbol mark.CloseBracket))) = record { at = λ p ok. hole.at (listed p) ok } in
          fair_then (list_sound d layout form end outer levels tokens known write_type (formed_type d) k child good (within opened (before (symbol mark.CloseBracket))) r1 (entered (before (symbol mark.CloseBracket)) spot2 refl (bracket_known d, tt)) hole3 (omega (arith, deep))) (λ all r2 h.
          let p : TypeNode × List TypeNode = (h.first, h.others) in
          let list = with_commas (map write_type (listed p)) in
          let hole4 : HoleT (alone (symbol mark.CloseBracket)) any (within opened (behind list)) = record { at = λ _ ok. hole3.at p h.reads.formed } in
          let spot4 = moved list spot2 h.reads.written in
          answer_symbol d layout form end outer levels tokens mark.CloseBracket r2 spot4 (begins_at d layout form end outer levels tokens spot4 hole4 tt refl (bracket_known d, tt)) (λ _ r3 w3.
          let fits = h.reads.fits in let formed = h.reads.formed in
          reads all r3 (subst (λ z. ReadsT write_indexes formed_indexes k s z r3) (sym h.is) (record {
            written = written_join end (symbol mark.OpenBracket) (list & symbol mark.CloseBracket) s r1 r3 w1 (written_join end list (symbol mark.CloseBracket) r1 r2 r3 h.reads.written w3);
            formed = formed;
            fits = omega (arith, height_join list (symbol mark.CloseBracket), fits);
          })))))

      abbrev StructAnswer : List Placed → Outcome Placed Struct → Type 0
      StructAnswer s o = AnswerT (ReadsT write_struct (formed_struct d) k s) o

      abbrev plain_node : Opening
      plain_node = in_spanned end

      array_sound : (o : Opening) (s : List Placed) → SpotT o s → HoleT write_struct (formed_struct d) o → o.depth + k ≡ levels → begins (words word_.KwArray) s ≡ true → StructAnswer s (array end child s)
      unfolding array
      array_sound o s spot hole deep test = answer_word d layout form end outer levels tokens word_.KwArray s test (λ _ r1 w1.
          let opened = within (within o plain_node) (behind (word word_.KwArray)) in
          let spot2 = moved (word word_.KwArray) (entered plain_node spot refl tt) w1 in
          let last = write_of a_type in
          let wanted : (ts : List TypeNode) (t : TypeNode) → IsTrue (formed_indexes ts) → IsTrue (formed_type d t) → (c : C) × IsTrue (form c) × (layout c ≡ opened.plug (write_indexes ts & write_of t)) =
          λ ts t ok ok'. let (c, g, w) = hole.at (struct_.Array ts t end) (formed_struct_array d ts t end ∙ and_in (formed_indexes ts) _ ok ok') in (c, g, w ∙ ap o.plug (array_written ts t end)) in
          let hole3 : HoleT write_indexes formed_indexes (within opened (before last)) = record { at = λ ts ok. wanted ts a_type ok (formed_type_named d a_name) } in
          let spot3 = entered (before last) spot2 refl (of_a_type (λ l. AreTokens d (tokens_of (word word_.KwOf & l))) (of_known d, (name_known d, tt))) in
          fair_then (indexes_sound (within opened (before last)) r1 spot3 hole3 (omega (arith, deep))) (λ ts r2 h.
          let hole4 : HoleT write_of (formed_type d) (within opened (behind (write_indexes ts))) = record { at = λ t ok. wanted ts t h.formed ok } in
          fair_then (of_sound (within opened (behind (write_indexes ts))) r2 (moved (write_indexes ts) spot2 h.written) hole4 (omega (arith, deep))) (λ t r3 g.
          let span = span_between end s r3 in let x = h.fits in let y = g.fits in
          reads (struct_.Array ts t span) r3 (reads_as d layout form end outer levels tokens known (array_written ts t span) (formed_struct_array d ts t span)
          (written_node end (word word_.KwArray & write_indexes ts & write_of t) _ _
          (written_join end (word word_.KwArray) (write_indexes ts & write_of t) s r1 r3 w1 (written_join end (write_indexes ts) (write_of t) r1 r2 r3 h.written g.written)))
          (and_in (formed_indexes ts) _ h.formed g.formed) (omega (arith, height_join (write_indexes ts) (write_of t), x, y))))))

      set_sound : (o : Opening) (s : List Placed) → SpotT o s → HoleT write_struct (formed_struct d) o → o.depth + k ≡ levels → begins (words word_.KwSet) s ≡ true → StructAnswer s (set_type end child s)
      unfolding set_type
      set_sound o s spot hole deep test = answer_word d layout form end outer levels tokens word_.KwSet s test (λ _ r1 w1.
          let opened = within (within o plain_node) (behind (word word_.KwSet)) in
          let hole2 : HoleT write_of (formed_type d) opened = record { at = λ t ok. let (c, g, w) = hole.at (struct_.Set t end) (formed_struct_set d t end ∙ ok) in (c, g, w ∙ ap o.plug (write_struct_set t end)) } in
          fair_then (of_sound opened r1 (moved (word word_.KwSet) (entered plain_node spot refl tt) w1) hole2 (omega (arith, deep))) (λ t r2 h.
          let span = span_between end s r2 in let fits = h.fits in
          reads (struct_.Set t span) r2 (reads_as d layout form end outer levels tokens known (write_struct_set t span) (formed_struct_set d t span)
          (written_node end (word word_.KwSet & write_of t) _ _ (written_join end (word word_.KwSet) (write_of t) s r1 r2 w1 h.written)) h.formed (omega (arith, fits)))))

      file_sound : (o : Opening) (s : List Placed) → SpotT o s → HoleT write_struct (formed_struct d) o → o.depth + k ≡ levels → StructAnswer s (file_type end child s)
      unfolding file_type
      file_sound o s spot hole deep =
          let tokens_of_set : AreTokens d (tokens_of (write_struct (struct_.Set a_type no_span))) =
          subst (λ l. AreTokens d (tokens_of l)) (sym (write_struct_set a_type no_span)) (of_a_type (λ l. AreTokens d (tokens_of (spanned no_span (word word_.KwSet & word word_.KwOf & l)))) (set_known d, (of_known d, (name_known d, tt)))) in
          let here = begins_at d layout form end outer levels tokens spot hole (struct_.Set a_type no_span) (formed_struct_set d a_type no_span ∙ formed_type_named d a_name) tokens_of_set in
          answer_wanted d layout form end outer levels tokens known word_.KwFile s spot here (λ _ r1 w1.
          let opened = within (within o plain_node) (behind (word word_.KwFile)) in
          let hole2 : HoleT write_of (formed_type d) opened = record { at = λ t ok. let (c, g, w) = hole.at (struct_.File t end) (formed_struct_file d t end ∙ ok) in (c, g, w ∙ ap o.plug (write_struct_file t end)) } in
          fair_then (of_sound opened r1 (moved (word word_.KwFile) (entered plain_node spot refl tt) w1) hole2 (omega (arith, deep))) (λ t r2 h.
          let span = span_between end s r2 in let fits = h.fits in
          reads (struct_.File t span) r2 (reads_as d layout form end outer levels tokens known (write_struct_file t span) (formed_struct_file d t span)
          (written_node end (word word_.KwFile & write_of t) _ _ (written_join end (word word_.KwFile) (write_of t) s r1 r2 w1 h.written)) h.formed (omega (arith, fits)))))

      module _ (inner : Parser Placed Fields) (inner_good : GoodT write_fields (formed_fields d) k inner) where
        record_sound : (o : Opening) (s : List Placed) → SpotT o s → HoleT write_struct (formed_struct d) o → o.depth + k ≡ levels → begins (words word_.KwRecord) s ≡ true → StructAnswer s (record_type end inner s)
        unfolding record_type
        record_sound o s spot hole deep test = answer_word d layout form end outer levels tokens word_.KwRecord s test (λ _ r1 w1.
            let opened = within (within o plain_node) (behind (word word_.KwRecord)) in
            let spot2 = moved (word word_.KwRecord) (entered plain_node spot refl tt) w1 in
            let last = word word_.KwEnd in
            let hole3 : HoleT write_fields (formed_fields d) (within opened (before last)) =
            record { at = λ f ok. let (c, g, w) = hole.at (struct_.Record f end) (formed_struct_record d f end ∙ ok) in (c, g, w ∙ ap o.plug (write_struct_record f end)) } in
            fair_then (inner_good (within opened (before last)) r1 (entered (before last) spot2 refl (end_known d, tt)) hole3 (omega (arith, deep))) (λ f r2 h.
            let inside = write_fields f in
            let hole4 : HoleT (alone last) any (within opened (behind inside)) = record { at = λ _ ok. hole3.at f h.formed } in
            let spot4 = moved inside spot2 h.written in
            answer_wanted d layout form end outer levels tokens known word_.KwEnd r2 spot4 (begins_at d layout form end outer levels tokens spot4 hole4 tt refl (end_known d, tt)) (λ _ r3 w3.
            let span = span_between end s r3 in let fits = h.fits in
            reads (struct_.Record f span) r3 (reads_as d layout form end outer levels tokens known (write_struct_record f span) (formed_struct_record d f span)
            (written_node end (word word_.KwRecord & inside & last) _ _ (written_join end (word word_.KwRecord) (inside & last) s r1 r3 w1 (written_join end inside last r1 r2 r3 h.written w3)))
            h.formed (omega (arith, height_join inside last, fits))))))

        structure_sound : GoodT write_struct (formed_struct d) k (structure end child inner)
        unfolding structure
        structure_sound o s spot hole deep =
            fair_either (begins (words word_.KwArray) s) (λ e. array_sound o s spot hole deep e)
            (λ _. fair_either (begins (words word_.KwRecord) s) (λ e. record_sound o s spot hole deep e)
            (λ _. fair_either (begins (words word_.KwSet) s) (λ e. set_sound o s spot hole deep e) (λ _. file_sound o s spot hole deep)))

        structured_sound : GoodT write_type (formed_type d) (suc k) (structured end child inner)
        unfolding structured
        structured_sound o s spot hole deep = fair_then (packed_sound s) (λ packed r w0.
            let mark_of = optional_word word_.KwPacked packed in
            let opened = within (within o node) (behind mark_of) in
            let hole1 : HoleT write_struct (formed_struct d) opened =
            record { at = λ x ok. let (c, g, w) = hole.at (node_.Structured packed x end) (formed_type_structured d packed x end ∙ ok) in (c, g, w ∙ ap o.plug (write_type_structured packed x end)) } in
            fair_then (structure_sound opened r (moved mark_of (entered node spot refl tt) w0) hole1 (omega (arith, deep))) (λ x r2 h.
            let span = span_between end s r2 in let fits = h.fits in
            reads (node_.Structured packed x span) r2 (reads_as d layout form end outer levels tokens known (write_type_structured packed x span) (formed_type_structured d packed x span)
            (written_both end (mark_of & write_struct x) _ _ (written_join end mark_of (write_struct x) s r r2 w0 h.written)) h.formed (omega (arith, height_join mark_of (write_struct x), word_low packed, fits)))))

        pub type_by_sound : GoodT write_type (formed_type d) (suc k) (type_by end child inner)
        unfolding type_by
        type_by_sound o s spot hole deep = fair_either (begins struct_words s) (λ _. structured_sound o s spot hole deep) (λ _. simple_sound o s spot hole deep)
