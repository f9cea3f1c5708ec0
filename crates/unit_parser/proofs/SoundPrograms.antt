-- Used units, and programs, that are read.
use Rattle.std.proofs.Common.{◌≡◌, ℕ, ◌+◌, ◌≤◌, Bool, true, false, ◌&&◌, not, List, [], ◌∷◌, map, Option, Some, None, Ok, Err, refl, sym, ap, subst, ◌∙◌, arith}
use Rattle.std.specs.Prelude.{IsTrue}
use Rattle.std.specs.Option.{option_map}
use Rattle.p2c_text.specs.declared.dialect.Dialect.{Dialect}
use Rattle.p2c_text.specs.declared.place.Span.{Span}
use Rattle.dialect_lexer.specs.Dialects.{is_turbo}
use Rattle.dialect_lexer.specs.declared.token.Word.{Word as WordSymbol}
use Rattle.dialect_lexer.specs.declared.token.Word.TheVariants as word_
use Rattle.dialect_lexer.specs.declared.token.Symbol.TheVariants as mark
use Rattle.pascal_tree.specs.declared.names.Identifier.{Identifier}
use Rattle.pascal_tree.specs.declared.declarations.Block.{Block}
use Rattle.pascal_tree.specs.declared.files.Head.{Head}
use Rattle.pascal_tree.specs.declared.files.Uses.{Uses}
use Rattle.token_parsing.specs.Parser.{Outcome, Parser, and_then, begins}
use Rattle.token_parsing.proofs.Fair.{reads, fair_then, fair_either}
use Rattle.expr_parser.specs.Tokens.{Placed, plain}
use Rattle.expr_parser.specs.Spans.{span_between}
use Rattle.expr_parser.specs.Layout.{Layout, Done, ◌&◌, word, symbol, spanned, tokens_of, height_of, IsWritten}
use Rattle.expr_parser.specs.Semicolons.{optional_part}
use Rattle.expr_parser.specs.Writing.{identifier}
use Rattle.expr_parser.specs.Grammar.{AreTokens, optional}
use Rattle.expr_parser.specs.Classes.{words, symbols}
use Rattle.expr_parser.proofs.Layouts.{height_join, written_join}
use Rattle.expr_parser.proofs.FollowedParts.{and_in, and_out}
use Rattle.expr_parser.proofs.KnownTokens.{name_known, semicolon_known, close_known}
use Rattle.expr_parser.proofs.Openings.{Opening, within, in_spanned, behind, before, Filled, Hole}
use Rattle.expr_parser.proofs.Spots.{Answer, Spot, Reads, Good, are_joined, spot_behind, spot_within, begins_at}
use Rattle.expr_parser.proofs.SoundTokens.{written_node, answer_symbol, answer_word, answer_mark}
use Rattle.type_parser.specs.Writing.{write_names}
use Rattle.type_parser.specs.Grammar.{some_names}
use Rattle.type_parser.proofs.Fillers.{no_span, a_name}
use Rattle.type_parser.proofs.SoundNames.{answer_wanted, answer_name, names_sound}
use Rattle.unit_parser.specs.Dialects.{uses_word}
use Rattle.unit_parser.specs.Writing.{write_block, optional_parameters as write_parameters, write_head, write_uses, optional_uses as write_optional_uses, write_program}
use Rattle.unit_parser.specs.Grammar.{formed_block, formed_head, formed_uses, formed_program}
use Rattle.unit_parser.specs.Blocks.{block}
use Rattle.unit_parser.specs.Files.{uses_of, uses, optional_uses, optional_parameters, head_of, head, is_headless, optional_head, program_of, program}
use Rattle.unit_parser.proofs.UnitWords.{dot_known, program_known}
use Rattle.unit_parser.proofs.SoundRows.{any, alone}
use Rattle.unit_parser.proofs.SoundBlocks.{a_block, a_block_formed, a_block_known, block_sound}

abbrev pub formed_parameters : Option (List Identifier) → Bool
formed_parameters p = optional (option_map some_names p)

abbrev formed_some_head : Head → Bool
formed_some_head x = formed_parameters x.parameters

module _ (d : Dialect) {C : Type 0} (layout : C → Layout) (form : C → Bool) (end : Span) (outer levels : ℕ) (tokens : List Placed) (known : AreTokens d (plain tokens)) (k : ℕ) where
  abbrev AnswerT : {A : Type 0} → (A → List Placed → Type 0) → Outcome Placed A → Type 0
  AnswerT P o = Answer d layout form end outer levels tokens P o

  abbrev SpotT : Opening → List Placed → Type 0
  SpotT o s = Spot d layout form end outer levels tokens o s

  abbrev ReadsT : {A : Type 0} → (A → Layout) → (A → Bool) → List Placed → A → List Placed → Type 0
  ReadsT write formed s a r = Reads d layout form end outer levels tokens write formed k s a r

  abbrev GoodT : {A : Type 0} → (A → Layout) → (A → Bool) → Parser Placed A → Type 0
  GoodT write formed p = Good d layout form end outer levels tokens write formed k p

  abbrev HoleT : {A : Type 0} → (A → Layout) → (A → Bool) → Opening → Type 0
  HoleT write formed o = Hole d layout form write formed o

  abbrev moved : {o : Opening} {s r : List Placed} (l : Layout) → SpotT o s → IsWritten end l s r → SpotT (within o (behind l)) r
  moved l spot w = spot_behind d layout form end outer levels tokens known l spot w

  abbrev entered : {o : Opening} {s : List Placed} (p : Opening) → SpotT o s → p.left ≡ [] → AreTokens d p.right → SpotT (within o p) s
  entered p spot none closing = spot_within d layout form end outer levels tokens p spot none closing

  -- ---- used units

  uses_sound : (o : Opening) (s : List Placed) → SpotT o s → HoleT (write_uses d) (λ u. some_names u.names) o → o.depth + k ≡ levels → begins (words (uses_word d)) s ≡ true → AnswerT (ReadsT (write_uses d) (λ u. some_names u.names) s) (uses d end s)
  unfolding uses
  uses_sound o s spot hole deep test = answer_word d layout form end outer levels tokens (uses_word d) s test (λ _ r1 w1.
      let opened = within (within o (in_spanned end)) (behind (word (uses_word d))) in
      let spot1 = moved (word (uses_word d)) (entered (in_spanned end) spot refl tt) w1 in
      let hole1 : HoleT write_names some_names (within opened (before (symbol mark.Semicolon))) = record { at = λ ns ok. hole.at (uses_of ns end) ok } in
      fair_then (names_sound d layout form end outer levels tokens known k (within opened (before (symbol mark.Semicolon))) r1 (entered (before (symbol mark.Semicolon)) spot1 refl (semicolon_known d, tt)) hole1 (omega (arith, deep))) (λ ns r2 h.
      let list = write_names ns in
      let spot2 = moved list spot1 h.written in
      let hole2 : HoleT (alone (symbol mark.Semicolon)) any (within opened (behind list)) = record { at = λ _ ok. hole1.at ns h.formed } in
      answer_symbol d layout form end outer levels tokens mark.Semicolon r2 spot2 (begins_at d layout form end outer levels tokens spot2 hole2 tt refl (semicolon_known d, tt)) (λ _ r3 w3.
      let span = span_between end s r3 in let fits = h.fits in let formed = h.formed in
      reads (uses_of ns span) r3 (record {
        written = written_node end (word (uses_word d) & list & symbol mark.Semicolon) _ _ (written_join end (word (uses_word d)) (list & symbol mark.Semicolon) s r1 r3 w1 (written_join end list (symbol mark.Semicolon) r1 r2 r3 h.written w3));
        formed = formed;
        fits = omega (arith, height_join list (symbol mark.Semicolon), fits);
      }))))

  pub optional_uses_sound : GoodT (write_optional_uses d) formed_uses (optional_uses d end)
  unfolding optional_uses
  optional_uses_sound o s spot hole deep = fair_either (begins (words (uses_word d)) s)
      (λ test. fair_then (uses_sound o s spot (record { at = λ u ok. hole.at (Some u) ok }) deep test) (λ u r h. let w = h.written in let formed = h.formed in let fits = h.fits in reads (Some u) r (record { written = w; formed = formed; fits = fits })))
      (λ none. reads None s (record { written = refl; formed = refl; fits = omega arith }))

  -- ---- heads

  parameters_sound : GoodT write_parameters formed_parameters optional_parameters
  unfolding optional_parameters
  parameters_sound o s spot hole deep = fair_either (begins (symbols mark.Open) s)
      (λ test. answer_mark d layout form end outer levels tokens mark.Open s test (λ _ r1 w1.
      let opened = within o (behind (symbol mark.Open)) in
      let spot1 = moved (symbol mark.Open) spot w1 in
      let hole1 : HoleT write_names some_names (within opened (before (symbol mark.Close))) = record { at = λ ns ok. hole.at (Some ns) ok } in
      fair_then (names_sound d layout form end outer levels tokens known k (within opened (before (symbol mark.Close))) r1 (entered (before (symbol mark.Close)) spot1 refl (close_known d, tt)) hole1 (omega (arith, deep))) (λ ns r2 h.
      let list = write_names ns in
      let spot2 = moved list spot1 h.written in
      let hole2 : HoleT (alone (symbol mark.Close)) any (within opened (behind list)) = record { at = λ _ ok. hole1.at ns h.formed } in
      answer_symbol d layout form end outer levels tokens mark.Close r2 spot2 (begins_at d layout form end outer levels tokens spot2 hole2 tt refl (close_known d, tt)) (λ _ r3 w3.
      let fits = h.fits in let formed = h.formed in
      reads (Some ns) r3 (record {
        written = written_join end (symbol mark.Open) (list & symbol mark.Close) s r1 r3 w1 (written_join end list (symbol mark.Close) r1 r2 r3 h.written w3);
        formed = formed;
        fits = omega (arith, height_join list (symbol mark.Close), fits);
      })))))
      (λ none. reads None s (record { written = refl; formed = refl; fits = omega arith }))

  abbrev a_head : Head
  a_head = head_of a_name None no_span

  head_sound : GoodT write_head formed_some_head (head end)
  unfolding head
  head_sound o s spot hole deep =
      answer_wanted d layout form end outer levels tokens known word_.KwProgram s spot (begins_at d layout form end outer levels tokens spot hole a_head refl (program_known d, (name_known d, (semicolon_known d, tt)))) (λ _ r1 w1.
      let opened = within (within o (in_spanned end)) (behind (word word_.KwProgram)) in
      let spot1 = moved (word word_.KwProgram) (entered (in_spanned end) spot refl tt) w1 in
      let hole1 : HoleT identifier any (within opened (before (symbol mark.Semicolon))) = record { at = λ i ok. hole.at (head_of i None end) refl } in
      answer_name d layout form end outer levels tokens known r1 (entered (before (symbol mark.Semicolon)) spot1 refl (semicolon_known d, tt)) hole1 (λ i r2 w2.
      let o2 = within opened (behind (identifier i)) in
      let spot2 = moved (identifier i) spot1 w2 in
      let hole2 : HoleT write_parameters formed_parameters (within o2 (before (symbol mark.Semicolon))) = record { at = λ ns ok. hole.at (head_of i ns end) ok } in
      fair_then (parameters_sound (within o2 (before (symbol mark.Semicolon))) r2 (entered (before (symbol mark.Semicolon)) spot2 refl (semicolon_known d, tt)) hole2 (omega (arith, deep))) (λ ns r3 h.
      let list = write_parameters ns in
      let spot3 = moved list spot2 h.written in
      let hole3 : HoleT (alone (symbol mark.Semicolon)) any (within o2 (behind list)) = record { at = λ _ ok. hole.at (head_of i ns end) h.formed } in
      answer_symbol d layout form end outer levels tokens mark.Semicolon r3 spot3 (begins_at d layout form end outer levels tokens spot3 hole3 tt refl (semicolon_known d, tt)) (λ _ r4 w4.
      let span = span_between end s r4 in let fits = h.fits in let formed = h.formed in
      reads (head_of i ns span) r4 (record {
        written = written_node end (word word_.KwProgram & identifier i & list & symbol mark.Semicolon) _ _
            (written_join end (word word_.KwProgram) (identifier i & list & symbol mark.Semicolon) s r1 r4 w1 (written_join end (identifier i) (list & symbol mark.Semicolon) r1 r2 r4 w2 (written_join end list (symbol mark.Semicolon) r2 r3 r4 h.written w4)));
        formed = formed;
        fits = omega (arith, height_join list (symbol mark.Semicolon), fits);
      })))))

  abbrev write_optional_head : Option Head → Layout
  write_optional_head x = optional_part (option_map write_head x)

  optional_head_sound : GoodT write_optional_head (formed_head d) (optional_head d end)
  unfolding optional_head
  optional_head_sound o s spot hole deep = fair_either (is_headless d s)
      (λ test. reads None s (record { written = refl; formed = (and_out (is_turbo d) (not (begins (words word_.KwProgram) s)) test).0; fits = omega arith }))
      (λ other. fair_then (head_sound o s spot (record { at = λ x ok. hole.at (Some x) ok }) deep) (λ x r h. let w = h.written in let formed = h.formed in let fits = h.fits in reads (Some x) r (record { written = w; formed = formed; fits = fits })))

  -- ---- programs

  abbrev tail : Block → Layout
  tail b = write_block d b & symbol mark.Dot

  tail_known : AreTokens d (tokens_of (tail a_block))
  tail_known = are_joined d (write_block d a_block) (symbol mark.Dot) (a_block_known d) (dot_known d, tt)

  pub program_sound : GoodT (write_program d) (formed_program d) (program d end k)
  unfolding program
  program_sound o s spot hole deep =
      let filled : (h : Option Head) (u : Option Uses) (b : Block) → IsTrue (formed_head d h) → IsTrue (formed_uses u) → IsTrue (formed_block d b) → Filled layout form (o.plug (spanned end (write_optional_head h & write_optional_uses d u & tail b))) =
      λ h u b ok ok2 ok3. hole.at (program_of h u b end) (and_in (formed_head d h && formed_uses u) (formed_block d b) (and_in (formed_head d h) (formed_uses u) ok ok2) ok3) in
      let inside = within o (in_spanned end) in
      let spot0 = entered (in_spanned end) spot refl tt in
      let hole0 : HoleT write_optional_head (formed_head d) (within inside (before (tail a_block))) = record { at = λ h ok. filled h None a_block ok refl (a_block_formed d) } in
      fair_then (optional_head_sound (within inside (before (tail a_block))) s (entered (before (tail a_block)) spot0 refl tail_known) hole0 (omega (arith, deep))) (λ x r1 h.
      let top = write_optional_head x in
      let o1 = within inside (behind top) in
      let spot1 = moved top spot0 h.written in
      let hole1 : HoleT (write_optional_uses d) formed_uses (within o1 (before (tail a_block))) = record { at = λ u ok. filled x u a_block h.formed ok (a_block_formed d) } in
      fair_then (optional_uses_sound (within o1 (before (tail a_block))) r1 (entered (before (tail a_block)) spot1 refl tail_known) hole1 (omega (arith, deep))) (λ u r2 g.
      let used = write_optional_uses d u in
      let o2 = within o1 (behind used) in
      let spot2 = moved used spot1 g.written in
      let hole2 : HoleT (write_block d) (formed_block d) (within o2 (before (symbol mark.Dot))) = record { at = λ b ok. filled x u b h.formed g.formed ok } in
      fair_then (block_sound d layout form end outer levels tokens known k (within o2 (before (symbol mark.Dot))) r2 (entered (before (symbol mark.Dot)) spot2 refl (dot_known d, tt)) hole2 (omega (arith, deep))) (λ b r3 q.
      let low = write_block d b in
      let spot3 = moved low spot2 q.written in
      let hole3 : HoleT (alone (symbol mark.Dot)) any (within o2 (behind low)) = record { at = λ _ ok. filled x u b h.formed g.formed q.formed } in
      answer_symbol d layout form end outer levels tokens mark.Dot r3 spot3 (begins_at d layout form end outer levels tokens spot3 hole3 tt refl (dot_known d, tt)) (λ _ r4 w4.
      let span = span_between end s r4 in let f1 = h.fits in let f2 = g.fits in let f3 = q.fits in
      reads (program_of x u b span) r4 (record {
        written = written_node end (top & used & tail b) _ _ (written_join end top (used & tail b) s r1 r4 h.written (written_join end used (tail b) r1 r2 r4 g.written (written_join end low (symbol mark.Dot) r2 r3 r4 q.written w4)));
        formed = and_in (formed_head d x && formed_uses u) (formed_block d b) (and_in (formed_head d x) (formed_uses u) h.formed g.formed) q.formed;
        fits = omega (arith, height_join top (used & tail b), height_join used (tail b), height_join low (symbol mark.Dot), f1, f2, f3);
      })))))
