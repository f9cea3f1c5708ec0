-- Blocks that are read.
use Rattle.std.proofs.Common.{◌≡◌, ℕ, zero, suc, ◌+◌, ◌≤◌, Bool, true, false, ◌&&◌, List, [], ◌∷◌, length, map, refl, sym, ap, subst, ◌∙◌, arith}
use Rattle.std.specs.Prelude.{IsTrue}
use Rattle.std.specs.List.{Contains}
use Rattle.p2c_text.specs.declared.dialect.Dialect.{Dialect}
use Rattle.p2c_text.specs.declared.place.Span.{Span}
use Rattle.dialect_lexer.specs.declared.token.Word.TheVariants as word_
use Rattle.pascal_tree.specs.declared.statements.Stmt.{Stmt}
use Rattle.pascal_tree.specs.declared.declarations.Declaration.{Declaration}
use Rattle.pascal_tree.specs.declared.declarations.Block.{Block}
use Rattle.token_parsing.specs.Parser.{Outcome, Parser}
use Rattle.token_parsing.proofs.Fair.{reads, fair_then}
use Rattle.expr_parser.specs.Tokens.{Placed, plain}
use Rattle.expr_parser.specs.Spans.{span_between}
use Rattle.expr_parser.specs.Layout.{Layout, Done, ◌&◌, word, spanned, counted, tokens_of, height_of, levels_of, IsWritten}
use Rattle.expr_parser.specs.Grammar.{AreTokens}
use Rattle.expr_parser.specs.Expressions.{expr}
use Rattle.expr_parser.proofs.Layouts.{height_join, written_join}
use Rattle.expr_parser.proofs.FollowedParts.{and_in}
use Rattle.expr_parser.proofs.KnownTokens.{begin_known, end_known}
use Rattle.expr_parser.proofs.Openings.{Opening, within, in_counted, in_spanned, behind, before, Filled, filled_as, Hole}
use Rattle.expr_parser.proofs.Spots.{Answer, Spot, Reads, Good, are_joined, spot_behind, spot_within, begins_at, deep_at}
use Rattle.expr_parser.proofs.SoundTokens.{written_both}
use Rattle.expr_parser.proofs.SoundTerms.{reads_as}
use Rattle.expr_parser.proofs.SoundLists.{listed}
use Rattle.expr_parser.proofs.SoundFactors.{expr_sound}
use Rattle.expr_parser.specs.Semicolons.{with_semicolons}
use Rattle.type_parser.proofs.Fillers.{no_span}
use Rattle.type_parser.proofs.SoundNames.{answer_wanted}
use Rattle.stmt_parser.specs.Writing.{write_stmt}
use Rattle.stmt_parser.specs.Grammar.{alone as formed_alone, some_alone, formed_stmt}
use Rattle.stmt_parser.specs.Levels.{stmt}
use Rattle.stmt_parser.proofs.SoundStatements.{empty, empty_written, empty_formed, empty_more, stmts_sound}
use Rattle.stmt_parser.proofs.SoundLevels.{stmt_sound}
use Rattle.unit_parser.specs.Writing.{write_stmts, write_block}
use Rattle.unit_parser.specs.Grammar.{judged_declaration, formed_declarations, formed_stmts, formed_block}
use Rattle.unit_parser.specs.Blocks.{block_of, block_by, block}
use Rattle.unit_parser.proofs.WrittenNodes.{write_block_of}
use Rattle.unit_parser.proofs.FormedNodes.{formed_block_of}
use Rattle.unit_parser.proofs.Order.{declarations_formed}
use Rattle.unit_parser.proofs.SoundRows.{any, alone}
use Rattle.unit_parser.proofs.SoundDeclarations.{row, formed_row, declarations_sound}

-- ---- the block of one empty statement, which may stand where one is wanted

abbrev pub a_block : Block
a_block = block_of [] (empty ∷ []) no_span

a_block_written : (d : Dialect) → write_block d a_block ≡ counted (spanned no_span (word word_.KwBegin & (counted (spanned no_span (spanned no_span Done)) & Done) & word word_.KwEnd))
a_block_written d = write_block_of d [] (empty ∷ []) no_span ∙ ap (λ l. counted (spanned no_span (word word_.KwBegin & (l & Done) & word word_.KwEnd))) (empty_written d)

empty_statements : (d : Dialect) → IsTrue (formed_stmts d (empty ∷ []))
empty_statements d = and_in (formed_alone (formed_stmt d empty)) true (empty_formed d false) refl

pub a_block_formed : (d : Dialect) → IsTrue (formed_block d a_block)
a_block_formed d = formed_block_of d [] (empty ∷ []) no_span ∙ and_in (formed_declarations d (map (judged_declaration d) [])) (formed_stmts d (empty ∷ [])) (declarations_formed d [] refl (λ _. refl)) (empty_statements d)

pub a_block_known : (d : Dialect) → AreTokens d (tokens_of (write_block d a_block))
a_block_known d = subst (λ l. AreTokens d (tokens_of l)) (sym (a_block_written d)) (begin_known d, (end_known d, tt))

module _ (d : Dialect) {C : Type 0} (layout : C → Layout) (form : C → Bool) (end : Span) (outer levels : ℕ) (tokens : List Placed) (known : AreTokens d (plain tokens)) where
  abbrev AnswerT : {A : Type 0} → (A → List Placed → Type 0) → Outcome Placed A → Type 0
  AnswerT P o = Answer d layout form end outer levels tokens P o

  abbrev SpotT : Opening → List Placed → Type 0
  SpotT o s = Spot d layout form end outer levels tokens o s

  abbrev GoodT : {A : Type 0} → (A → Layout) → (A → Bool) → ℕ → Parser Placed A → Type 0
  GoodT write formed k p = Good d layout form end outer levels tokens write formed k p

  abbrev HoleT : {A : Type 0} → (A → Layout) → (A → Bool) → Opening → Type 0
  HoleT write formed o = Hole d layout form write formed o

  abbrev moved : {o : Opening} {s r : List Placed} (l : Layout) → SpotT o s → IsWritten end l s r → SpotT (within o (behind l)) r
  moved l spot w = spot_behind d layout form end outer levels tokens known l spot w

  abbrev entered : {o : Opening} {s : List Placed} (p : Opening) → SpotT o s → p.left ≡ [] → AreTokens d p.right → SpotT (within o p) s
  entered p spot none closing = spot_within d layout form end outer levels tokens p spot none closing

  abbrev node : Opening
  node = within in_counted (in_spanned end)

  abbrev tail : List Stmt → Layout
  tail b = word word_.KwBegin & write_stmts d b & word word_.KwEnd

  tail_known : AreTokens d (tokens_of (tail (empty ∷ [])))
  tail_known = (begin_known d, are_joined d (write_stmt d empty & Done) (word word_.KwEnd) (empty_more d) (end_known d, tt))

  module _ (k : ℕ) (inner : Parser Placed Block) (inner_good : GoodT (write_block d) (formed_block d) k inner) where
    abbrev rows : List Declaration → Layout
    rows xs = row d layout form end outer levels tokens known k inner inner_good xs

    abbrev formed_rows : List Declaration → Bool
    formed_rows xs = formed_row d layout form end outer levels tokens known k inner inner_good xs

    block_by_sound : GoodT (write_block d) (formed_block d) (suc k) (block_by d end k inner)
    unfolding block_by
    block_by_sound o s spot hole deep =
        let filled : (xs : List Declaration) (b : List Stmt) → IsTrue (formed_rows xs) → IsTrue (formed_stmts d b) → Filled layout form (o.plug (counted (spanned end (rows xs & tail b)))) =
        λ xs b ok ok2. filled_as layout form (ap o.plug (write_block_of d xs b end)) (hole.at (block_of xs b end) (formed_block_of d xs b end ∙ and_in (formed_rows xs) (formed_stmts d b) ok ok2)) in
        let inside = within o node in
        let spot0 = entered node spot refl tt in
        let hole0 : HoleT rows formed_rows (within inside (before (tail (empty ∷ [])))) = record { at = λ xs ok. filled xs (empty ∷ []) ok (empty_statements d) } in
        fair_then (declarations_sound d layout form end outer levels tokens known k inner inner_good (within inside (before (tail (empty ∷ [])))) s (entered (before (tail (empty ∷ []))) spot0 refl tail_known) hole0 (omega (arith, deep))) (λ xs r1 g.
        let top = rows xs in
        let o1 = within inside (behind top) in
        let spot1 = moved top spot0 g.written in
        let hole1 : HoleT (alone (tail (empty ∷ []))) any o1 = record { at = λ _ ok. filled xs (empty ∷ []) g.formed (empty_statements d) } in
        answer_wanted d layout form end outer levels tokens known word_.KwBegin r1 spot1 (begins_at d layout form end outer levels tokens spot1 hole1 tt refl tail_known) (λ _ r2 w2.
        let o2 = within o1 (behind (word word_.KwBegin)) in
        let spot2 = moved (word word_.KwBegin) spot1 w2 in
        let hole2 : HoleT (λ p. with_semicolons (map (write_stmt d) (listed p))) (λ p. some_alone (map (formed_stmt d) (listed p))) (within o2 (before (word word_.KwEnd))) = record { at = λ p ok. filled xs (listed p) g.formed ok } in
        fair_then (stmts_sound d layout form end outer levels tokens known k (expr d end k) (expr_sound d layout form end outer levels tokens known k) (stmt d end k) (stmt_sound d layout form end outer levels tokens known k)
        (within o2 (before (word word_.KwEnd))) r2 (entered (before (word word_.KwEnd)) spot2 refl (end_known d, tt)) hole2 (omega (arith, deep))) (λ ys r3 h.
        let all = h.first ∷ h.others in let low = write_stmts d all in
        let spot3 = moved low spot2 h.written in
        let hole3 : HoleT (alone (word word_.KwEnd)) any (within o2 (behind low)) = record { at = λ _ ok. filled xs all g.formed h.formed_alone } in
        answer_wanted d layout form end outer levels tokens known word_.KwEnd r3 spot3 (begins_at d layout form end outer levels tokens spot3 hole3 tt refl (end_known d, tt)) (λ _ r4 w4.
        let span = span_between end s r4 in let f1 = g.fits in let f2 = h.fits in
        reads (block_of xs ys span) r4 (subst (λ z. Reads d layout form end outer levels tokens (write_block d) (formed_block d) (suc k) s (block_of xs z span) r4) (sym h.is)
        (reads_as d layout form end outer levels tokens known (write_block_of d xs all span) (formed_block_of d xs all span)
        (written_both end (top & tail all) _ _ (written_join end top (tail all) s r1 r4 g.written (written_join end (word word_.KwBegin) (low & word word_.KwEnd) r1 r2 r4 w2 (written_join end low (word word_.KwEnd) r2 r3 r4 h.written w4))))
        (and_in (formed_rows xs) (formed_stmts d all) g.formed h.formed_alone) (omega (arith, height_join top (tail all), height_join low (word word_.KwEnd), f1, f2))))))))

  block_stops : GoodT (write_block d) (formed_block d) 0 (block d end 0)
  unfolding block
  block_stops o s spot hole deep =
      deep_at d layout form end outer levels tokens spot hole deep a_block (a_block_formed d) (a_block_known d)
      (subst (λ l. Contains (levels_of (outer + o.depth) (0 + length o.left) l) (0 + length o.left, outer + o.depth)) (sym (a_block_written d)) (0, omega arith, refl))

  pub block_sound : (k : ℕ) → GoodT (write_block d) (formed_block d) k (block d end k)
  unfolding block
  block_sound zero = block_stops
  block_sound (suc k) = block_by_sound k (block d end k) (block_sound k)
