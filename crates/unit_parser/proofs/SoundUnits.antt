-- Units, modules and whole texts that are read.
use Rattle.std.proofs.Common.{◌≡◌, ℕ, ◌+◌, ◌≤◌, Bool, true, false, ◌&&◌, List, [], ◌∷◌, ◌++◌, map, Option, Some, None, Ok, Err, refl, sym, ap, subst, ◌∙◌, arith}
use Rattle.std.specs.Prelude.{IsTrue}
use Rattle.std.specs.Option.{option_map}
use Rattle.std.proofs.lemmas.List.{map-append}
use Rattle.p2c_text.specs.declared.dialect.Dialect.{Dialect}
use Rattle.p2c_text.specs.declared.place.Span.{Span}
use Rattle.dialect_lexer.specs.declared.token.Word.{Word as WordSymbol}
use Rattle.dialect_lexer.specs.declared.token.Word.TheVariants as word_
use Rattle.dialect_lexer.specs.declared.token.Symbol.TheVariants as mark
use Rattle.pascal_tree.specs.declared.names.Identifier.{Identifier}
use Rattle.pascal_tree.specs.declared.statements.Stmt.{Stmt}
use Rattle.pascal_tree.specs.declared.declarations.Declaration.{Declaration}
use Rattle.pascal_tree.specs.declared.files.Uses.{Uses}
use Rattle.pascal_tree.specs.declared.files.Public.{Public}
use Rattle.pascal_tree.specs.declared.files.Public.TheVariants as item
use Rattle.pascal_tree.specs.declared.files.UnitNode.{UnitNode}
use Rattle.pascal_tree.specs.declared.files.Module.{Module}
use Rattle.pascal_tree.specs.declared.files.SourceFile.{SourceFile}
use Rattle.pascal_tree.specs.declared.files.SourceFile.TheVariants as text
use Rattle.token_parsing.specs.Parser.{Outcome, Parser, and_then, begins}
use Rattle.token_parsing.proofs.Fair.{reads, fair_then, fair_either}
use Rattle.expr_parser.specs.Tokens.{Token, Placed, plain, Word}
use Rattle.expr_parser.specs.Spans.{span_between}
use Rattle.expr_parser.specs.Layout.{Layout, Done, ◌&◌, word, symbol, spanned, in_row, tokens_of, height_of, IsWritten}
use Rattle.expr_parser.specs.Semicolons.{with_semicolons}
use Rattle.expr_parser.specs.Writing.{identifier}
use Rattle.expr_parser.specs.Grammar.{AreTokens, IsToken, all, optional}
use Rattle.expr_parser.specs.Classes.{words, symbols, expect}
use Rattle.expr_parser.specs.Expressions.{expr}
use Rattle.expr_parser.proofs.Layouts.{height_join, join_assoc, written_join}
use Rattle.expr_parser.proofs.FollowedParts.{and_in, and_out}
use Rattle.expr_parser.proofs.KnownTokens.{semicolon_known, end_known}
use Rattle.expr_parser.proofs.Openings.{Opening, within, in_spanned, behind, before, Filled, filled_as, Hole}
use Rattle.expr_parser.proofs.Spots.{Answer, Spot, Reads, Good, are_last, are_joined, spot_behind, spot_within, begins_at}
use Rattle.expr_parser.proofs.SoundTokens.{written_node, answer_symbol, answer_word}
use Rattle.expr_parser.proofs.SoundTerms.{reads_as}
use Rattle.expr_parser.proofs.SoundLists.{listed, Pushed, row_sound}
use Rattle.expr_parser.proofs.SoundFactors.{expr_sound}
use Rattle.type_parser.specs.Levels.{type_node, formals}
use Rattle.type_parser.proofs.SoundFields.{type_sound}
use Rattle.type_parser.proofs.SoundFormals.{formals_sound}
use Rattle.type_parser.proofs.SoundNames.{answer_wanted, answer_name}
use Rattle.stmt_parser.specs.Writing.{write_stmt}
use Rattle.stmt_parser.specs.Grammar.{some_alone, formed_stmt}
use Rattle.stmt_parser.specs.Levels.{stmt}
use Rattle.stmt_parser.proofs.SoundStatements.{stmts_sound}
use Rattle.stmt_parser.proofs.SoundLevels.{stmt_sound}
use Rattle.unit_parser.specs.Writing.{write_heading, write_declaration, write_stmts, write_public, optional_uses as write_optional_uses, optional_initial as write_initial, write_implementation, write_unit, write_module, write_file}
use Rattle.unit_parser.specs.Grammar.{formed_heading, formed_declarations, judged_declaration, formed_stmts, formed_uses, formed_public, formed_interface, formed_implementation, formed_unit, formed_module, formed_file}
use Rattle.unit_parser.specs.Blocks.{block}
use Rattle.unit_parser.specs.Files.{constants_public, types_public, variables_public, heading_public, public, next_public, public_words, publics, name_after, interface, exports, implementation, optional_initial, last_end, unit_of, unit, module_of, module_text, source_file}
use Rattle.unit_parser.proofs.UnitWords.{dot_known, interface_known, implementation_known, export_known, implement_known}
use Rattle.unit_parser.proofs.Order.{declarations_formed}
use Rattle.unit_parser.proofs.FollowedFiles.{public_routine_is}
use Rattle.unit_parser.proofs.SoundRows.{any, alone}
use Rattle.unit_parser.proofs.SoundParts.{const_part_sound, type_part_sound, var_part_sound}
use Rattle.unit_parser.proofs.SoundHeadings.{heading_sound}
use Rattle.unit_parser.proofs.SoundDeclarations.{on_word_is, declarations_sound}
use Rattle.unit_parser.proofs.SoundBlocks.{block_sound}
use Rattle.unit_parser.proofs.SoundPrograms.{optional_uses_sound, program_sound}

abbrev Exported : Type 0
Exported = Option Uses × List Public

abbrev Implemented : Type 0
Implemented = Option Uses × List Declaration

-- a word that is next is one of the dialect
begun_known : (d : Dialect) (w : WordSymbol) (s : List Placed) → begins (words w) s ≡ true → AreTokens d (plain s) → IsToken d (Word w)
unfolding begins
begun_known d w [] test h = absurd cc
begun_known d w (t ∷ s) test h = subst (IsToken d) (on_word_is w t.token test) h.0

module _ (d : Dialect) {C : Type 0} (layout : C → Layout) (form : C → Bool) (end : Span) (outer levels : ℕ) (tokens : List Placed) (known : AreTokens d (plain tokens)) (k : ℕ) where
  abbrev AnswerT : {A : Type 0} → (A → List Placed → Type 0) → Outcome Placed A → Type 0
  AnswerT P o = Answer d layout form end outer levels tokens P o

  abbrev SpotT : Opening → List Placed → Type 0
  SpotT o s = Spot d layout form end outer levels tokens o s

  abbrev ReadsT : {A : Type 0} → (A → Layout) → (A → Bool) → List Placed → A → List Placed → Type 0
  ReadsT write formed s a r = Reads d layout form end outer levels tokens write formed k s a r

  abbrev GoodT : {A : Type 0} → (A → Layout) → (A → Bool) → Parser Placed A → Type 0
  GoodT write formed p = Good d layout form end outer levels tokens write formed k p

  abbrev HoleT : {A : Type 0} → (A → Layout) → (A → Bool) → Opening → Type 0
  HoleT write formed o = Hole d layout form write formed o

  abbrev moved : {o : Opening} {s r : List Placed} (l : Layout) → SpotT o s → IsWritten end l s r → SpotT (within o (behind l)) r
  moved l spot w = spot_behind d layout form end outer levels tokens known l spot w

  abbrev entered : {o : Opening} {s : List Placed} (p : Opening) → SpotT o s → p.left ≡ [] → AreTokens d p.right → SpotT (within o p) s
  entered p spot none closing = spot_within d layout form end outer levels tokens p spot none closing

  answer_plain : {A : Type 0} {P : A → List Placed → Type 0} (o : Outcome Placed A) → AnswerT P (and_then o (λ a s. Ok (a, s))) → AnswerT P o
  answer_plain (Ok p) h = h
  answer_plain (Err e) h = h

  -- ---- what is public

  public_sound : (o : Opening) (s : List Placed) → SpotT o s → HoleT write_public (formed_public d) o → o.depth + k ≡ levels → begins public_words s ≡ true → AnswerT (ReadsT write_public (formed_public d) s) (public d end k s)
  unfolding public constants_public types_public variables_public heading_public
  public_sound o s spot hole deep test =
      fair_either (begins (words word_.KwConst) s)
      (λ e. fair_then (const_part_sound d layout form end outer levels tokens known k (expr d end k) (expr_sound d layout form end outer levels tokens known k) o s spot (record { at = λ p ok. hole.at (item.Constants p) ok }) deep e)
      (λ p r h. let w = h.written in let formed = h.formed in let fits = h.fits in reads (item.Constants p) r (record { written = w; formed = formed; fits = fits })))
      (λ a. fair_either (begins (words word_.KwType) s)
      (λ e. fair_then (type_part_sound d layout form end outer levels tokens known k (type_node d end k) (type_sound d layout form end outer levels tokens known k) o s spot (record { at = λ p ok. hole.at (item.Types p) ok }) deep e)
      (λ p r h. let w = h.written in let formed = h.formed in let fits = h.fits in reads (item.Types p) r (record { written = w; formed = formed; fits = fits })))
      (λ b. fair_either (begins (words word_.KwVar) s)
      (λ e. fair_then (var_part_sound d layout form end outer levels tokens known k (type_node d end k) (type_sound d layout form end outer levels tokens known k) o s spot (record { at = λ p ok. hole.at (item.Variables p) ok }) deep e)
      (λ p r h. let w = h.written in let formed = h.formed in let fits = h.fits in reads (item.Variables p) r (record { written = w; formed = formed; fits = fits })))
      (λ c.
      let inside = within o (in_spanned end) in
      let spot0 = entered (in_spanned end) spot refl tt in
      let hole0 : HoleT write_heading formed_heading (within inside (before (symbol mark.Semicolon))) = record { at = λ x ok. hole.at (item.Heading x end) ok } in
      fair_then (heading_sound d layout form end outer levels tokens known k (formals end k) (formals_sound d layout form end outer levels tokens known k) (within inside (before (symbol mark.Semicolon))) s (entered (before (symbol mark.Semicolon)) spot0 refl (semicolon_known d, tt)) hole0 (omega (arith, deep)) (public_routine_is s test a b c)) (λ x r1 h.
      let top = write_heading x in
      let spot1 = moved top spot0 h.written in
      let hole1 : HoleT (alone (symbol mark.Semicolon)) any (within inside (behind top)) = record { at = λ _ ok. hole.at (item.Heading x end) h.formed } in
      answer_symbol d layout form end outer levels tokens mark.Semicolon r1 spot1 (begins_at d layout form end outer levels tokens spot1 hole1 tt refl (semicolon_known d, tt)) (λ _ r2 w2.
      let span = span_between end s r2 in let fits = h.fits in let formed = h.formed in
      reads (item.Heading x span) r2 (record { written = written_node end (top & symbol mark.Semicolon) _ _ (written_join end top (symbol mark.Semicolon) s r1 r2 h.written w2); formed = formed; fits = omega (arith, height_join top (symbol mark.Semicolon), fits) }))))))

  abbrev shown : List Public → Layout
  shown xs = in_row (map write_public xs)

  abbrev formed_shown : List Public → Bool
  formed_shown xs = all (map (formed_public d) xs)

  next_public_sound : (found : List Public) (o : Opening) (s : List Placed) → SpotT o s → HoleT write_public (formed_public d) o → o.depth + k ≡ levels → begins public_words s ≡ true
      → AnswerT (Pushed d layout form end outer levels tokens known write_public (formed_public d) k found s) (next_public d end k found s)
  unfolding next_public
  next_public_sound found o s spot hole deep test = fair_then (public_sound o s spot hole deep test) (λ x r h. reads (found ++ x ∷ []) r (x, refl, h))

  publics_sound : GoodT shown formed_shown (publics d end k [])
  unfolding publics
  publics_sound o s spot hole deep = row_sound d layout form end outer levels tokens known write_public (formed_public d) k (begins public_words) (next_public d end k) next_public_sound o s spot hole deep

  -- ---- parts of units and modules

  abbrev write_interface : Exported → Layout
  write_interface p = word word_.KwInterface & write_optional_uses d p.0 & shown p.1

  abbrev write_exports : Exported → Layout
  write_exports p = write_optional_uses d p.0 & word word_.KwExport & shown p.1

  abbrev formed_exported : Exported → Bool
  formed_exported p = formed_interface d p.0 p.1

  abbrev write_implemented : WordSymbol → Implemented → Layout
  write_implemented w p = word w & write_implementation d p.0 p.1

  abbrev formed_implemented : Implemented → Bool
  formed_implemented p = formed_implementation d p.0 p.1

  abbrev formed_initial : Option (List Stmt) → Bool
  formed_initial x = optional (option_map (formed_stmts d) x)

  abbrev no_exports : Exported
  no_exports = (None, [])

  abbrev nothing : Implemented
  nothing = (None, [])

  nothing_formed : IsTrue (formed_implemented nothing)
  nothing_formed = declarations_formed d [] refl (λ _. refl)

  interface_sound : IsToken d (Word word_.KwInterface) → GoodT write_interface formed_exported (interface d end k)
  unfolding interface
  interface_sound is_word o s spot hole deep =
      answer_wanted d layout form end outer levels tokens known word_.KwInterface s spot (begins_at d layout form end outer levels tokens spot hole no_exports refl (is_word, tt)) (λ _ r1 w1.
      let o1 = within o (behind (word word_.KwInterface)) in
      let spot1 = moved (word word_.KwInterface) spot w1 in
      let hole1 : HoleT (write_optional_uses d) formed_uses (within o1 (before Done)) = record { at = λ u ok. hole.at (u, []) (and_in (formed_uses u) true ok refl) } in
      fair_then (optional_uses_sound d layout form end outer levels tokens known k (within o1 (before Done)) r1 (entered (before Done) spot1 refl tt) hole1 (omega (arith, deep))) (λ u r2 h.
      let used = write_optional_uses d u in
      let hole2 : HoleT shown formed_shown (within o1 (behind used)) = record { at = λ xs ok. hole.at (u, xs) (and_in (formed_uses u) (formed_shown xs) h.formed ok) } in
      fair_then (publics_sound (within o1 (behind used)) r2 (moved used spot1 h.written) hole2 (omega (arith, deep))) (λ xs r3 g.
      let f1 = h.fits in let f2 = g.fits in
      reads (u, xs) r3 (record {
        written = written_join end (word word_.KwInterface) (used & shown xs) s r1 r3 w1 (written_join end used (shown xs) r1 r2 r3 h.written g.written);
        formed = and_in (formed_uses u) (formed_shown xs) h.formed g.formed;
        fits = omega (arith, height_join used (shown xs), f1, f2);
      }))))

  exports_sound : IsToken d (Word word_.KwExport) → GoodT write_exports formed_exported (exports d end k)
  unfolding exports
  exports_sound is_word o s spot hole deep =
      let hole0 : HoleT (write_optional_uses d) formed_uses (within o (before (word word_.KwExport))) = record { at = λ u ok. hole.at (u, []) (and_in (formed_uses u) true ok refl) } in
      fair_then (optional_uses_sound d layout form end outer levels tokens known k (within o (before (word word_.KwExport))) s (entered (before (word word_.KwExport)) spot refl (is_word, tt)) hole0 (omega (arith, deep))) (λ u r1 h.
      let used = write_optional_uses d u in
      let o1 = within o (behind used) in
      let spot1 = moved used spot h.written in
      let hole1 : HoleT (alone (word word_.KwExport)) any o1 = record { at = λ _ ok. hole.at (u, []) (and_in (formed_uses u) true h.formed refl) } in
      answer_wanted d layout form end outer levels tokens known word_.KwExport r1 spot1 (begins_at d layout form end outer levels tokens spot1 hole1 tt refl (is_word, tt)) (λ _ r2 w2.
      let hole2 : HoleT shown formed_shown (within o1 (behind (word word_.KwExport))) = record { at = λ xs ok. hole.at (u, xs) (and_in (formed_uses u) (formed_shown xs) h.formed ok) } in
      fair_then (publics_sound (within o1 (behind (word word_.KwExport))) r2 (moved (word word_.KwExport) spot1 w2) hole2 (omega (arith, deep))) (λ xs r3 g.
      let f1 = h.fits in let f2 = g.fits in
      reads (u, xs) r3 (record {
        written = written_join end used (word word_.KwExport & shown xs) s r1 r3 h.written (written_join end (word word_.KwExport) (shown xs) r1 r2 r3 w2 g.written);
        formed = and_in (formed_uses u) (formed_shown xs) h.formed g.formed;
        fits = omega (arith, height_join used (word word_.KwExport & shown xs), f1, f2);
      }))))

  implementation_sound : (w : WordSymbol) → IsToken d (Word w) → GoodT (write_implemented w) formed_implemented (implementation w d end k)
  unfolding implementation
  implementation_sound w is_word o s spot hole deep =
      answer_wanted d layout form end outer levels tokens known w s spot (begins_at d layout form end outer levels tokens spot hole nothing nothing_formed (is_word, tt)) (λ _ r1 w1.
      let o1 = within o (behind (word w)) in
      let spot1 = moved (word w) spot w1 in
      let hole1 : HoleT (write_optional_uses d) formed_uses (within o1 (before Done)) = record { at = λ u ok. hole.at (u, []) (and_in (formed_uses u) (formed_declarations d []) ok nothing_formed) } in
      fair_then (optional_uses_sound d layout form end outer levels tokens known k (within o1 (before Done)) r1 (entered (before Done) spot1 refl tt) hole1 (omega (arith, deep))) (λ u r2 h.
      let used = write_optional_uses d u in
      let hole2 : HoleT (λ xs. in_row (map (write_declaration d) xs)) (λ xs. formed_declarations d (map (judged_declaration d) xs)) (within o1 (behind used)) =
      record { at = λ xs ok. hole.at (u, xs) (and_in (formed_uses u) (formed_declarations d (map (judged_declaration d) xs)) h.formed ok) } in
      fair_then (declarations_sound d layout form end outer levels tokens known k (block d end k) (block_sound d layout form end outer levels tokens known k) (within o1 (behind used)) r2 (moved used spot1 h.written) hole2 (omega (arith, deep))) (λ xs r3 g.
      let f1 = h.fits in let f2 = g.fits in let hidden = in_row (map (write_declaration d) xs) in
      reads (u, xs) r3 (record {
        written = written_join end (word w) (used & hidden) s r1 r3 w1 (written_join end used hidden r1 r2 r3 h.written g.written);
        formed = and_in (formed_uses u) (formed_declarations d (map (judged_declaration d) xs)) h.formed g.formed;
        fits = omega (arith, height_join used hidden, f1, f2);
      }))))

  initial_sound : GoodT (write_initial d) formed_initial (optional_initial d end k)
  unfolding optional_initial
  initial_sound o s spot hole deep = fair_either (begins (words word_.KwBegin) s)
      (λ test. answer_word d layout form end outer levels tokens word_.KwBegin s test (λ _ r1 w1.
      let o1 = within o (behind (word word_.KwBegin)) in
      let hole1 : HoleT (λ p. with_semicolons (map (write_stmt d) (listed p))) (λ p. some_alone (map (formed_stmt d) (listed p))) o1 = record { at = λ p ok. hole.at (Some (listed p)) ok } in
      fair_then (stmts_sound d layout form end outer levels tokens known k (expr d end k) (expr_sound d layout form end outer levels tokens known k) (stmt d end k) (stmt_sound d layout form end outer levels tokens known k) o1 r1 (moved (word word_.KwBegin) spot w1) hole1 (omega (arith, deep))) (λ ys r2 h.
      let xs = h.first ∷ h.others in let fits = h.fits in
      reads (Some ys) r2 (subst (λ z. ReadsT (write_initial d) formed_initial s (Some z) r2) (sym h.is) (record {
        written = written_join end (word word_.KwBegin) (write_stmts d xs) s r1 r2 w1 h.written;
        formed = h.formed_alone;
        fits = omega (arith, fits);
      })))))
      (λ none. reads None s (record { written = refl; formed = refl; fits = omega arith }))

  abbrev last : Layout
  last = word word_.KwEnd & symbol mark.Dot

  last_known : AreTokens d (tokens_of last)
  last_known = (end_known d, (dot_known d, tt))

  last_sound : (o : Opening) (s : List Placed) → SpotT o s → HoleT (alone last) any o → AnswerT (λ _ r. IsWritten end last s r) (last_end s)
  unfolding last_end
  last_sound o s spot hole =
      answer_wanted d layout form end outer levels tokens known word_.KwEnd s spot (begins_at d layout form end outer levels tokens spot hole tt refl last_known) (λ _ r1 w1.
      let spot1 = moved (word word_.KwEnd) spot w1 in
      let hole1 : HoleT (alone (symbol mark.Dot)) any (within o (behind (word word_.KwEnd))) = record { at = λ _ ok. hole.at tt refl } in
      answer_plain (expect mark.Dot r1) (answer_symbol d layout form end outer levels tokens mark.Dot r1 spot1 (begins_at d layout form end outer levels tokens spot1 hole1 tt refl (dot_known d, tt)) (λ u r2 w2.
      reads u r2 (written_join end (word word_.KwEnd) (symbol mark.Dot) s r1 r2 w1 w2))))

  abbrev front : WordSymbol → Identifier → Layout
  front w i = word w & identifier i & symbol mark.Semicolon

  name_after_sound : (w : WordSymbol) (tail : Layout) → AreTokens d (tokens_of tail) → (o : Opening) (s : List Placed) → SpotT o s → ((i : Identifier) → Filled layout form (o.plug (front w i & tail))) → begins (words w) s ≡ true
      → AnswerT (λ i r. IsWritten end (front w i) s r) (name_after w s)
  unfolding name_after
  name_after_sound w tail tail_known o s spot filled test = answer_word d layout form end outer levels tokens w s test (λ _ r1 w1.
      let more = symbol mark.Semicolon & tail in
      let o1 = within o (behind (word w)) in
      let spot1 = moved (word w) spot w1 in
      let hole1 : HoleT identifier any (within o1 (before more)) = record { at = λ i ok. filled i } in
      answer_name d layout form end outer levels tokens known r1 (entered (before more) spot1 refl (semicolon_known d, tail_known)) hole1 (λ i r2 w2.
      let spot2 = moved (identifier i) spot1 w2 in
      let hole2 : HoleT (alone more) any (within o1 (behind (identifier i))) = record { at = λ _ ok. filled i } in
      answer_symbol d layout form end outer levels tokens mark.Semicolon r2 spot2 (begins_at d layout form end outer levels tokens spot2 hole2 tt refl (semicolon_known d, tail_known)) (λ _ r3 w3.
      reads i r3 (written_join end (word w) (identifier i & symbol mark.Semicolon) s r1 r3 w1 (written_join end (identifier i) (symbol mark.Semicolon) r1 r2 r3 w2 w3)))))

  -- ---- units

  abbrev unit_parts : Identifier → Exported → Implemented → Option (List Stmt) → Layout
  unit_parts x i m b = front word_.KwUnit x & write_interface i & write_implemented word_.KwImplementation m & write_initial d b & last

  unit_written : (x : Identifier) (i : Exported) (m : Implemented) (b : Option (List Stmt)) (span : Span) → write_unit d (unit_of x i m b span) ≡ spanned span (unit_parts x i m b)
  unit_written x i m b span =
      ap (λ z. spanned span (word word_.KwUnit & identifier x & symbol mark.Semicolon & word word_.KwInterface & z)) (sym (join_assoc (write_optional_uses d i.0) (shown i.1) (write_implemented word_.KwImplementation m & write_initial d b & last)))

  abbrev formed_parts : Exported → Implemented → Option (List Stmt) → Bool
  formed_parts i m b = formed_exported i && formed_implemented m && formed_initial b

  formed_all : (i : Exported) (m : Implemented) (b : Option (List Stmt)) → IsTrue (formed_exported i) → IsTrue (formed_implemented m) → IsTrue (formed_initial b) → IsTrue (formed_parts i m b)
  formed_all i m b h g f = and_in (formed_exported i && formed_implemented m) (formed_initial b) (and_in (formed_exported i) (formed_implemented m) h g) f

  unit_sound : (o : Opening) (s : List Placed) → SpotT o s → HoleT (write_unit d) (formed_unit d) o → o.depth + k ≡ levels → IsToken d (Word word_.KwUnit) → begins (words word_.KwUnit) s ≡ true → AnswerT (ReadsT (write_unit d) (formed_unit d) s) (unit d end k s)
  unfolding unit
  unit_sound o s spot hole deep is_unit test =
      let filled : (x : Identifier) (i : Exported) (m : Implemented) (b : Option (List Stmt)) → IsTrue (formed_parts i m b) → Filled layout form (o.plug (spanned end (unit_parts x i m b))) =
      λ x i m b ok. filled_as layout form (ap o.plug (unit_written x i m b end)) (hole.at (unit_of x i m b end) ok) in
      let inside = within o (in_spanned end) in
      let spot0 = entered (in_spanned end) spot refl tt in
      let below = write_implemented word_.KwImplementation nothing & last in
      let below_known : AreTokens d (tokens_of below) = (implementation_known d is_unit, last_known) in
      let nothing_more : IsTrue (formed_parts no_exports nothing None) = formed_all no_exports nothing None refl nothing_formed refl in
      fair_then (name_after_sound word_.KwUnit (write_interface no_exports & below) (interface_known d is_unit, below_known) inside s spot0 (λ x. filled x no_exports nothing None nothing_more) test) (λ x r1 w1.
      let o1 = within inside (behind (front word_.KwUnit x)) in
      let spot1 = moved (front word_.KwUnit x) spot0 w1 in
      let hole1 : HoleT write_interface formed_exported (within o1 (before below)) = record { at = λ i ok. filled x i nothing None (formed_all i nothing None ok nothing_formed refl) } in
      fair_then (interface_sound (interface_known d is_unit) (within o1 (before below)) r1 (entered (before below) spot1 refl below_known) hole1 (omega (arith, deep))) (λ i r2 h.
      let o2 = within o1 (behind (write_interface i)) in
      let spot2 = moved (write_interface i) spot1 h.written in
      let hole2 : HoleT (write_implemented word_.KwImplementation) formed_implemented (within o2 (before last)) = record { at = λ m ok. filled x i m None (formed_all i m None h.formed ok refl) } in
      fair_then (implementation_sound word_.KwImplementation (implementation_known d is_unit) (within o2 (before last)) r2 (entered (before last) spot2 refl last_known) hole2 (omega (arith, deep))) (λ m r3 g.
      let o3 = within o2 (behind (write_implemented word_.KwImplementation m)) in
      let spot3 = moved (write_implemented word_.KwImplementation m) spot2 g.written in
      let hole3 : HoleT (write_initial d) formed_initial (within o3 (before last)) = record { at = λ b ok. filled x i m b (formed_all i m b h.formed g.formed ok) } in
      fair_then (initial_sound (within o3 (before last)) r3 (entered (before last) spot3 refl last_known) hole3 (omega (arith, deep))) (λ b r4 q.
      let o4 = within o3 (behind (write_initial d b)) in
      let hole4 : HoleT (alone last) any o4 = record { at = λ _ ok. filled x i m b (formed_all i m b h.formed g.formed q.formed) } in
      fair_then (last_sound o4 r4 (moved (write_initial d b) spot3 q.written) hole4) (λ _ r5 w5.
      let span = span_between end s r5 in let f1 = h.fits in let f2 = g.fits in let f3 = q.fits in
      let c = write_initial d b & last in let e = write_implemented word_.KwImplementation m & c in
      reads (unit_of x i m b span) r5 (reads_as d layout form end outer levels tokens known (unit_written x i m b span) refl
      (written_node end (front word_.KwUnit x & write_interface i & e) _ _ (written_join end (front word_.KwUnit x) (write_interface i & e) s r1 r5 w1
      (written_join end (write_interface i) e r1 r2 r5 h.written (written_join end (write_implemented word_.KwImplementation m) c r2 r3 r5 g.written (written_join end (write_initial d b) last r3 r4 r5 q.written w5)))))
      (formed_all i m b h.formed g.formed q.formed) (omega (arith, height_join (write_interface i) e, height_join (write_implemented word_.KwImplementation m) c, height_join (write_initial d b) last, f1, f2, f3))))))))

  -- ---- modules

  abbrev module_parts : Identifier → Exported → Implemented → Layout
  module_parts x i m = front word_.KwModule x & write_exports i & write_implemented word_.KwImplement m & last

  module_written : (x : Identifier) (i : Exported) (m : Implemented) (span : Span) → write_module d (module_of x i m span) ≡ spanned span (module_parts x i m)
  module_written x i m span =
      ap (λ z. spanned span (word word_.KwModule & identifier x & symbol mark.Semicolon & z))
      (ap (λ z. write_optional_uses d i.0 & word word_.KwExport & z) refl ∙ sym (join_assoc (write_optional_uses d i.0) (word word_.KwExport & shown i.1) (write_implemented word_.KwImplement m & last)))

  module_sound : (o : Opening) (s : List Placed) → SpotT o s → HoleT (write_module d) (formed_module d) o → o.depth + k ≡ levels → IsToken d (Word word_.KwModule) → begins (words word_.KwModule) s ≡ true → AnswerT (ReadsT (write_module d) (formed_module d) s) (module_text d end k s)
  unfolding module_text
  module_sound o s spot hole deep is_module test =
      let filled : (x : Identifier) (i : Exported) (m : Implemented) → IsTrue (formed_exported i) → IsTrue (formed_implemented m) → Filled layout form (o.plug (spanned end (module_parts x i m))) =
      λ x i m ok ok2. filled_as layout form (ap o.plug (module_written x i m end)) (hole.at (module_of x i m end) (and_in (formed_exported i) (formed_implemented m) ok ok2)) in
      let inside = within o (in_spanned end) in
      let spot0 = entered (in_spanned end) spot refl tt in
      let below = write_implemented word_.KwImplement nothing & last in
      let below_known : AreTokens d (tokens_of below) = (implement_known d is_module, last_known) in
      fair_then (name_after_sound word_.KwModule (write_exports no_exports & below) (export_known d is_module, below_known) inside s spot0 (λ x. filled x no_exports nothing refl nothing_formed) test) (λ x r1 w1.
      let o1 = within inside (behind (front word_.KwModule x)) in
      let spot1 = moved (front word_.KwModule x) spot0 w1 in
      let hole1 : HoleT write_exports formed_exported (within o1 (before below)) = record { at = λ i ok. filled x i nothing ok nothing_formed } in
      fair_then (exports_sound (export_known d is_module) (within o1 (before below)) r1 (entered (before below) spot1 refl below_known) hole1 (omega (arith, deep))) (λ i r2 h.
      let o2 = within o1 (behind (write_exports i)) in
      let spot2 = moved (write_exports i) spot1 h.written in
      let hole2 : HoleT (write_implemented word_.KwImplement) formed_implemented (within o2 (before last)) = record { at = λ m ok. filled x i m h.formed ok } in
      fair_then (implementation_sound word_.KwImplement (implement_known d is_module) (within o2 (before last)) r2 (entered (before last) spot2 refl last_known) hole2 (omega (arith, deep))) (λ m r3 g.
      let o3 = within o2 (behind (write_implemented word_.KwImplement m)) in
      let hole3 : HoleT (alone last) any o3 = record { at = λ _ ok. filled x i m h.formed g.formed } in
      fair_then (last_sound o3 r3 (moved (write_implemented word_.KwImplement m) spot2 g.written) hole3) (λ _ r4 w4.
      let span = span_between end s r4 in let f1 = h.fits in let f2 = g.fits in
      let e = write_implemented word_.KwImplement m & last in
      reads (module_of x i m span) r4 (reads_as d layout form end outer levels tokens known (module_written x i m span) refl
      (written_node end (front word_.KwModule x & write_exports i & e) _ _ (written_join end (front word_.KwModule x) (write_exports i & e) s r1 r4 w1
      (written_join end (write_exports i) e r1 r2 r4 h.written (written_join end (write_implemented word_.KwImplement m) last r2 r3 r4 g.written w4))))
      (and_in (formed_exported i) (formed_implemented m) h.formed g.formed) (omega (arith, height_join (write_exports i) e, height_join (write_implemented word_.KwImplement m) last, f1, f2)))))))

  -- ---- whole texts

  pub source_file_sound : GoodT (write_file d) (formed_file d) (source_file d end k)
  unfolding source_file
  source_file_sound o s spot hole deep =
      let here : AreTokens d (plain s) = are_last d (plain spot.front) (plain s) (subst (AreTokens d) (ap plain spot.is ∙ map-append (λ (t : Placed). t.token) spot.front s) known) in
      fair_either (begins (words word_.KwUnit) s)
      (λ e. fair_then (unit_sound o s spot (record { at = λ x ok. hole.at (text.UnitText x) ok }) deep (begun_known d word_.KwUnit s e here) e) (λ x r h. let w = h.written in let formed = h.formed in let fits = h.fits in reads (text.UnitText x) r (record { written = w; formed = formed; fits = fits })))
      (λ _. fair_either (begins (words word_.KwModule) s)
      (λ e. fair_then (module_sound o s spot (record { at = λ x ok. hole.at (text.Module x) ok }) deep (begun_known d word_.KwModule s e here) e) (λ x r h. let w = h.written in let formed = h.formed in let fits = h.fits in reads (text.Module x) r (record { written = w; formed = formed; fits = fits })))
      (λ _. fair_then (program_sound d layout form end outer levels tokens known k o s spot (record { at = λ x ok. hole.at (text.Program x) ok }) deep) (λ x r h. let w = h.written in let formed = h.formed in let fits = h.fits in reads (text.Program x) r (record { written = w; formed = formed; fits = fits }))))
