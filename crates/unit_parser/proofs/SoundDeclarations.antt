-- Declarations, and rows of them in each order, that are read.
use Rattle.std.proofs.Common.{◌≡◌, ℕ, suc, ◌+◌, ◌<◌, ◌≤◌, inl, inr, Bool, true, false, List, [], ◌∷◌, ◌++◌, map, Option, Some, None, refl, sym, ap, subst, ◌∙◌, arith}
use Rattle.std.specs.Prelude.{IsTrue}
use Rattle.p2c_text.specs.declared.dialect.Dialect.{Dialect}
use Rattle.p2c_text.specs.declared.place.Span.{Span}
use Rattle.dialect_lexer.specs.Dialects.{is_iso}
use Rattle.dialect_lexer.specs.declared.token.Word.{Word as WordSymbol}
use Rattle.dialect_lexer.specs.declared.token.Word.TheVariants as word_
use Rattle.pascal_tree.specs.declared.declarations.Block.{Block}
use Rattle.pascal_tree.specs.declared.declarations.Declaration.{Declaration}
use Rattle.pascal_tree.specs.declared.declarations.Declaration.TheVariants as declaration_
use Rattle.token_parsing.specs.Parser.{Outcome, Parser, is_some, begins, repeat}
use Rattle.token_parsing.proofs.Fair.{reads, fair_then, fair_either, fair_repeat, fair_so}
use Rattle.expr_parser.specs.Tokens.{Token, Placed, plain, Word}
use Rattle.expr_parser.specs.Layout.{Layout, Done, ◌&◌, in_row, height_of, IsWritten}
use Rattle.expr_parser.specs.Grammar.{AreTokens, all}
use Rattle.expr_parser.specs.Classes.{words, word_of}
use Rattle.expr_parser.specs.Expressions.{expr}
use Rattle.expr_parser.proofs.Layouts.{height_join, written_join}
use Rattle.expr_parser.proofs.ClassTokens.{word_is}
use Rattle.expr_parser.proofs.Lookahead.{on_word}
use Rattle.expr_parser.proofs.Openings.{Opening, within, behind, Filled, filled_as, Hole}
use Rattle.expr_parser.proofs.Spots.{Answer, Spot, Reads, Good, spot_behind}
use Rattle.expr_parser.proofs.SoundTerms.{reads_as}
use Rattle.expr_parser.proofs.SoundLists.{Pushed, row_sound}
use Rattle.expr_parser.proofs.SoundFactors.{expr_sound}
use Rattle.type_parser.specs.Levels.{type_node}
use Rattle.type_parser.proofs.SoundFields.{type_sound}
use Rattle.unit_parser.specs.Writing.{write_declaration, write_block}
use Rattle.unit_parser.specs.Grammar.{Judged, judged_declaration, formed_declarations, formed_block}
use Rattle.unit_parser.specs.Blocks.{routine_words, declaration_words, labels_declared, constants_declared, types_declared, variables_declared, routine_declared, declaration, next_declaration, routines, any_declarations, optional_declaration, ordered_declarations, declarations}
use Rattle.unit_parser.proofs.WrittenNodes.{write_declaration_labels, write_declaration_constants, write_declaration_types, write_declaration_variables, write_declaration_routine}
use Rattle.unit_parser.proofs.FormedNodes.{judged_declaration_labels, judged_declaration_constants, judged_declaration_types, judged_declaration_variables, judged_declaration_routine}
use Rattle.unit_parser.proofs.Beginnings.{on_routine, PlaceOf, place_of_labels, place_of_constants, place_of_types, place_of_variables, place_within, one_place, no_routine}
use Rattle.unit_parser.proofs.Order.{place, formed_one, InOrder, LastBelow, below_more, below_push, order_push, declarations_formed}
use Rattle.unit_parser.proofs.FollowedDeclarations.{last_is}
use Rattle.unit_parser.proofs.SoundRows.{row_push, all_push}
use Rattle.unit_parser.proofs.SoundParts.{label_part_sound, const_part_sound, type_part_sound, var_part_sound}
use Rattle.unit_parser.proofs.SoundHeadings.{routine_sound}

-- ---- which declaration begins here

-- the places of the kinds that may begin here
pub record Ways (s : List Placed) (Allowed : ℕ → Type 0) : Type 0 where
  pub by_word : {w : WordSymbol} {i : ℕ} → PlaceOf w i → begins (words w) s ≡ true → Allowed i
  pub otherwise : begins (words word_.KwLabel) s ≡ false → begins (words word_.KwConst) s ≡ false → begins (words word_.KwType) s ≡ false → begins (words word_.KwVar) s ≡ false → (begins routine_words s ≡ true) × Allowed 4

any_ways : (s : List Placed) → begins declaration_words s ≡ true → Ways s (λ _. Unit {0})
any_ways s test = record { by_word = λ p e. tt; otherwise = λ a b c f. (last_is s test a b c f, tt) }

pub on_word_is : (w : WordSymbol) (x : Token) → on_word w x ≡ true → x ≡ Word w
on_word_is w x e = by (word_of w x) refl e
  where
    by : (o : Option (Unit {0})) → word_of w x ≡ o → is_some o ≡ true → x ≡ Word w
    by None e f = absurd cc
    by (Some u) e f = word_is w x u e

two_words : {w v : WordSymbol} {i j : ℕ} → PlaceOf w i → PlaceOf v j → (s : List Placed) → begins (words w) s ≡ true → begins (words v) s ≡ true → j ≡ i
unfolding begins
two_words p q [] e f = absurd cc
two_words {w} {v} p q (t ∷ s) e f = one_place p q (subst (λ x. on_word v x ≡ true) (on_word_is w t.token e) f)

word_or_routine : {w : WordSymbol} {i : ℕ} → PlaceOf w i → (s : List Placed) → begins (words w) s ≡ true → begins routine_words s ≡ true → ⊥
unfolding begins
word_or_routine p [] e f = absurd cc
word_or_routine {w} p (t ∷ s) e f = let on = subst (λ x. on_routine x ≡ true) (on_word_is w t.token e) f in let off = no_routine p in absurd cc

routine_ways : (s : List Placed) → begins routine_words s ≡ true → Ways s (λ p. p ≡ 4)
routine_ways s test = record { by_word = λ p e. absurd (word_or_routine p s e test); otherwise = λ a b c f. (test, refl) }

none_of : {w : WordSymbol} {i : ℕ} → PlaceOf w i → (s : List Placed) → begins (words w) s ≡ true → begins (words word_.KwLabel) s ≡ false → begins (words word_.KwConst) s ≡ false → begins (words word_.KwType) s ≡ false → begins (words word_.KwVar) s ≡ false → ⊥
none_of place_of_labels s e a b c f = absurd cc
none_of place_of_constants s e a b c f = absurd cc
none_of place_of_types s e a b c f = absurd cc
none_of place_of_variables s e a b c f = absurd cc

word_ways : {w : WordSymbol} {i : ℕ} → PlaceOf w i → (s : List Placed) → begins (words w) s ≡ true → Ways s (λ p. p ≡ i)
word_ways p s test = record { by_word = λ q e. two_words p q s test e; otherwise = λ a b c f. absurd (none_of p s test a b c f) }

module _ (d : Dialect) {C : Type 0} (layout : C → Layout) (form : C → Bool) (end : Span) (outer levels : ℕ) (tokens : List Placed) (known : AreTokens d (plain tokens)) (k : ℕ)
    (inner : Parser Placed Block) (inner_good : Good d layout form end outer levels tokens (write_block d) (formed_block d) k inner) where
  abbrev AnswerT : {A : Type 0} → (A → List Placed → Type 0) → Outcome Placed A → Type 0
  AnswerT P o = Answer d layout form end outer levels tokens P o

  abbrev SpotT : Opening → List Placed → Type 0
  SpotT o s = Spot d layout form end outer levels tokens o s

  abbrev ReadsT : {A : Type 0} → (A → Layout) → (A → Bool) → List Placed → A → List Placed → Type 0
  ReadsT write formed s a r = Reads d layout form end outer levels tokens write formed k s a r

  abbrev GoodT : {A : Type 0} → (A → Layout) → (A → Bool) → Parser Placed A → Type 0
  GoodT write formed p = Good d layout form end outer levels tokens write formed k p

  abbrev HoleT : {A : Type 0} → (A → Layout) → (A → Bool) → Opening → Type 0
  HoleT write formed o = Hole d layout form write formed o

  abbrev moved : {o : Opening} {s r : List Placed} (l : Layout) → SpotT o s → IsWritten end l s r → SpotT (within o (behind l)) r
  moved l spot w = spot_behind d layout form end outer levels tokens known l spot w

  -- any declaration at an allowed place may stand here
  abbrev DeclarationHole : (ℕ → Type 0) → Opening → Type 0
  DeclarationHole Allowed o = (x : Declaration) → IsTrue (formed_one d x) → Allowed (place d x) → Filled layout form (o.plug (write_declaration d x))

  abbrev ReadsOne : (ℕ → Type 0) → List Placed → Declaration → List Placed → Type 0
  ReadsOne Allowed s x r = ReadsT (write_declaration d) (formed_one d) s x r × Allowed (place d x)

  declaration_sound : (Allowed : ℕ → Type 0) (o : Opening) (s : List Placed) → SpotT o s → DeclarationHole Allowed o → o.depth + k ≡ levels → Ways s Allowed → AnswerT (ReadsOne Allowed s) (declaration d end k inner s)
  unfolding declaration labels_declared constants_declared types_declared variables_declared routine_declared
  declaration_sound Allowed o s spot hole deep ways =
      fair_either (begins (words word_.KwLabel) s)
      (λ e. fair_then (label_part_sound d layout form end outer levels tokens known k o s spot
      (record { at = λ p ok. filled_as layout form (ap o.plug (write_declaration_labels d p)) (hole (declaration_.Labels p) (ap (λ (j : Judged). j.formed) (judged_declaration_labels d p) ∙ ok) (subst Allowed (sym (ap (λ (j : Judged). j.place) (judged_declaration_labels d p))) (ways.by_word place_of_labels e))) }) deep e)
      (λ p r h. let fits = h.fits in reads (declaration_.Labels p) r (reads_as d layout form end outer levels tokens known (write_declaration_labels d p) (ap (λ (j : Judged). j.formed) (judged_declaration_labels d p)) h.written h.formed fits, subst Allowed (sym (ap (λ (j : Judged). j.place) (judged_declaration_labels d p))) (ways.by_word place_of_labels e))))
      (λ a. fair_either (begins (words word_.KwConst) s)
      (λ e. fair_then (const_part_sound d layout form end outer levels tokens known k (expr d end k) (expr_sound d layout form end outer levels tokens known k) o s spot
      (record { at = λ p ok. filled_as layout form (ap o.plug (write_declaration_constants d p)) (hole (declaration_.Constants p) (ap (λ (j : Judged). j.formed) (judged_declaration_constants d p) ∙ ok) (subst Allowed (sym (ap (λ (j : Judged). j.place) (judged_declaration_constants d p))) (ways.by_word place_of_constants e))) }) deep e)
      (λ p r h. let fits = h.fits in reads (declaration_.Constants p) r (reads_as d layout form end outer levels tokens known (write_declaration_constants d p) (ap (λ (j : Judged). j.formed) (judged_declaration_constants d p)) h.written h.formed fits, subst Allowed (sym (ap (λ (j : Judged). j.place) (judged_declaration_constants d p))) (ways.by_word place_of_constants e))))
      (λ b. fair_either (begins (words word_.KwType) s)
      (λ e. fair_then (type_part_sound d layout form end outer levels tokens known k (type_node d end k) (type_sound d layout form end outer levels tokens known k) o s spot
      (record { at = λ p ok. filled_as layout form (ap o.plug (write_declaration_types d p)) (hole (declaration_.Types p) (ap (λ (j : Judged). j.formed) (judged_declaration_types d p) ∙ ok) (subst Allowed (sym (ap (λ (j : Judged). j.place) (judged_declaration_types d p))) (ways.by_word place_of_types e))) }) deep e)
      (λ p r h. let fits = h.fits in reads (declaration_.Types p) r (reads_as d layout form end outer levels tokens known (write_declaration_types d p) (ap (λ (j : Judged). j.formed) (judged_declaration_types d p)) h.written h.formed fits, subst Allowed (sym (ap (λ (j : Judged). j.place) (judged_declaration_types d p))) (ways.by_word place_of_types e))))
      (λ c. fair_either (begins (words word_.KwVar) s)
      (λ e. fair_then (var_part_sound d layout form end outer levels tokens known k (type_node d end k) (type_sound d layout form end outer levels tokens known k) o s spot
      (record { at = λ p ok. filled_as layout form (ap o.plug (write_declaration_variables d p)) (hole (declaration_.Variables p) (ap (λ (j : Judged). j.formed) (judged_declaration_variables d p) ∙ ok) (subst Allowed (sym (ap (λ (j : Judged). j.place) (judged_declaration_variables d p))) (ways.by_word place_of_variables e))) }) deep e)
      (λ p r h. let fits = h.fits in reads (declaration_.Variables p) r (reads_as d layout form end outer levels tokens known (write_declaration_variables d p) (ap (λ (j : Judged). j.formed) (judged_declaration_variables d p)) h.written h.formed fits, subst Allowed (sym (ap (λ (j : Judged). j.place) (judged_declaration_variables d p))) (ways.by_word place_of_variables e))))
      (λ f. let last = ways.otherwise a b c f in
      fair_then (routine_sound d layout form end outer levels tokens known k inner inner_good o s spot
      (record { at = λ p ok. filled_as layout form (ap o.plug (write_declaration_routine d p)) (hole (declaration_.Routine p) (ap (λ (j : Judged). j.formed) (judged_declaration_routine d p) ∙ ok) (subst Allowed (sym (ap (λ (j : Judged). j.place) (judged_declaration_routine d p))) last.1)) }) deep last.0)
      (λ p r h. let fits = h.fits in reads (declaration_.Routine p) r (reads_as d layout form end outer levels tokens known (write_declaration_routine d p) (ap (λ (j : Judged). j.formed) (judged_declaration_routine d p)) h.written h.formed fits, subst Allowed (sym (ap (λ (j : Judged). j.place) (judged_declaration_routine d p))) last.1))))))

  -- ---- rows in any order

  abbrev pub row : List Declaration → Layout
  row xs = in_row (map (write_declaration d) xs)

  abbrev pub formed_row : List Declaration → Bool
  formed_row xs = formed_declarations d (map (judged_declaration d) xs)

  any_sound : is_iso d ≡ false → GoodT row formed_row (any_declarations d end k inner [])
  unfolding any_declarations next_declaration
  any_sound other o s spot hole deep =
      fair_so (row_sound d layout form end outer levels tokens known (write_declaration d) (formed_one d) k (begins declaration_words) (next_declaration d end k inner) item o s spot
      (record { at = λ xs ok. hole.at xs (declarations_formed d xs ok (λ e. absurd cc)) }) deep)
      (λ xs r h. let w = h.written in let fits = h.fits in record { written = w; formed = declarations_formed d xs h.formed (λ e. absurd cc); fits = fits })
    where
      item : (found : List Declaration) (o : Opening) (s : List Placed) → SpotT o s → HoleT (write_declaration d) (formed_one d) o → o.depth + k ≡ levels → begins declaration_words s ≡ true
          → AnswerT (Pushed d layout form end outer levels tokens known (write_declaration d) (formed_one d) k found s) (next_declaration d end k inner found s)
      item found o s spot hole deep test = fair_then (declaration_sound (λ _. Unit {0}) o s spot (λ x ok _. hole.at x ok) deep (any_ways s test)) (λ x r h. reads (found ++ x ∷ []) r (x, refl, h.0))

  -- ---- rows in the order of Iso

  -- declarations in order, the last of an earlier place
  record UpTo (i : ℕ) (s : List Placed) (xs : List Declaration) (r : List Placed) : Type 0 where
    written : IsWritten end (row xs) s r
    formed : IsTrue (all (map (formed_one d) xs))
    order : InOrder d xs
    below : LastBelow d i xs
    fits : height_of (row xs) ≤ k

  pushed : (i j : ℕ) (s : List Placed) (xs : List Declaration) (r : List Placed) → UpTo i s xs r → (x : Declaration) (r2 : List Placed) → ReadsT (write_declaration d) (formed_one d) r x r2 → InOrder d (xs ++ x ∷ []) → place d x < j → UpTo j s (xs ++ x ∷ []) r2
  pushed i j s xs r h x r2 g order below =
      let a = h.fits in let b = g.fits in record {
        written = subst (λ l. IsWritten end l s r2) (sym (row_push (write_declaration d) xs x)) (written_join end (row xs) (write_declaration d x) s r r2 h.written g.written);
        formed = all_push (formed_one d) xs x h.formed g.formed;
        order = order;
        below = below_push d j xs x below;
        fits = subst (λ l. height_of l ≤ k) (sym (row_push (write_declaration d) xs x)) (omega (arith, height_join (row xs) (write_declaration d x), a, b));
      }

  module _ (o : Opening) (s : List Placed) (spot : SpotT o s) (hole : HoleT row formed_row o) (deep : o.depth + k ≡ levels) where
    -- one more may stand behind those before
    one_more : (xs : List Declaration) (r : List Placed) → IsTrue (all (map (formed_one d) xs)) → (Allowed : ℕ → Type 0) → ((x : Declaration) → Allowed (place d x) → InOrder d (xs ++ x ∷ [])) → DeclarationHole Allowed (within o (behind (row xs)))
    one_more xs r formed Allowed order x ok allowed =
        filled_as layout form (ap o.plug (row_push (write_declaration d) xs x)) (hole.at (xs ++ x ∷ []) (declarations_formed d (xs ++ x ∷ []) (all_push (formed_one d) xs x formed ok) (λ _. order x allowed)))

    optional_sound : {w : WordSymbol} {i : ℕ} → PlaceOf w i → (xs : List Declaration) (r : List Placed) → UpTo i s xs r → AnswerT (UpTo (suc i) s) (optional_declaration w d end k inner xs r)
    unfolding optional_declaration next_declaration
    optional_sound {w} {i} p xs r h =
        let order : (x : Declaration) → place d x ≡ i → InOrder d (xs ++ x ∷ []) = λ x e. order_push d xs x h.order (inl (subst (λ n. LastBelow d n xs) (sym e) h.below)) in
        fair_either (begins (words w) r)
        (λ test. fair_then (declaration_sound (λ n. n ≡ i) (within o (behind (row xs))) r (moved (row xs) spot h.written) (one_more xs r h.formed (λ n. n ≡ i) order) (omega (arith, deep)) (word_ways p r test)) (λ x r2 g.
        let e = g.1 in reads (xs ++ x ∷ []) r2 (pushed i (suc i) s xs r h x r2 g.0 (order x e) (omega (arith, e)))))
        (λ none. let a = h.written in let b = h.fits in reads xs r (record { written = a; formed = h.formed; order = h.order; below = below_more d i xs h.below; fits = b }))

    routines_sound : (xs : List Declaration) (r : List Placed) → UpTo 4 s xs r → AnswerT (UpTo 5 s) (routines d end k inner xs r)
    unfolding routines next_declaration
    routines_sound xs r h =
        let a = h.written in let b = h.fits in
        fair_repeat (begins routine_words) (next_declaration d end k inner) step xs r (record { written = a; formed = h.formed; order = h.order; below = below_more d 4 xs h.below; fits = b })
      where
        step : (found : List Declaration) (r : List Placed) → UpTo 5 s found r → begins routine_words r ≡ true → AnswerT (UpTo 5 s) (next_declaration d end k inner found r)
        step found r h test =
            let order : (x : Declaration) → place d x ≡ 4 → InOrder d (found ++ x ∷ []) = λ x e. order_push d found x h.order (inr e) in
            fair_then (declaration_sound (λ n. n ≡ 4) (within o (behind (row found))) r (moved (row found) spot h.written) (one_more found r h.formed (λ n. n ≡ 4) order) (omega (arith, deep)) (routine_ways r test)) (λ x r2 g.
            let e = g.1 in reads (found ++ x ∷ []) r2 (pushed 5 5 s found r h x r2 g.0 (order x e) (omega (arith, e))))

    ordered_sound : AnswerT (ReadsT row formed_row s) (ordered_declarations d end k inner s)
    unfolding ordered_declarations
    ordered_sound =
        fair_then (optional_sound place_of_labels [] s (record { written = refl; formed = refl; order = refl; below = tt; fits = omega arith })) (λ l r1 h1.
        fair_then (optional_sound place_of_constants l r1 h1) (λ c r2 h2.
        fair_then (optional_sound place_of_types c r2 h2) (λ t r3 h3.
        fair_then (optional_sound place_of_variables t r3 h3) (λ v r4 h4.
        fair_so (routines_sound v r4 h4) (λ xs r h. let w = h.written in let fits = h.fits in record { written = w; formed = declarations_formed d xs h.formed (λ _. h.order); fits = fits })))))

  pub declarations_sound : GoodT row formed_row (declarations d end k inner)
  unfolding declarations
  declarations_sound o s spot hole deep = fair_either (is_iso d) (λ e. ordered_sound o s spot hole deep) (λ e. any_sound e o s spot hole deep)
