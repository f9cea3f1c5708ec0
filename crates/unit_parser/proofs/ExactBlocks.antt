-- Rows of declarations, and blocks, that are written are read.
use Rattle.std.proofs.Common.{◌≡◌, ℕ, zero, suc, ◌≤◌, ◌⊎◌, inl, inr, Bool, true, false, ◌&&◌, List, [], ◌∷◌, ◌++◌, map, Ok, refl, sym, ap, subst, ◌∙◌, append_assoc, arith}
use Rattle.p2c_text.specs.declared.dialect.Dialect.{Dialect}
use Rattle.p2c_text.specs.declared.place.Span.{Span}
use Rattle.dialect_lexer.specs.Dialects.{is_iso}
use Rattle.dialect_lexer.specs.declared.token.Word.{Word as WordSymbol}
use Rattle.dialect_lexer.specs.declared.token.Word.TheVariants as word_
use Rattle.dialect_lexer.specs.declared.token.Symbol.TheVariants as mark
use Rattle.pascal_tree.specs.declared.declarations.Declaration.{Declaration}
use Rattle.pascal_tree.specs.declared.declarations.Block.{Block, out-Block}
use Rattle.token_parsing.specs.Parser.{Outcome, Parser, and_then, begins}
use Rattle.expr_parser.specs.Tokens.{Token, Placed, plain}
use Rattle.expr_parser.specs.Layout.{Done, ◌&◌, word, spanned, IsWritten, height_of}
use Rattle.expr_parser.specs.Grammar.{all}
use Rattle.expr_parser.specs.Classes.{words}
use Rattle.expr_parser.proofs.Layouts.{spell, spell_join}
use Rattle.expr_parser.proofs.Followed.{on_first}
use Rattle.expr_parser.proofs.FollowedParts.{Part, part_as, part_first, part_second, part_left, part_right, part_inside, part_counted}
use Rattle.expr_parser.proofs.Lookahead.{looks_word, on_word, on_symbol, says_word}
use Rattle.expr_parser.proofs.Exact.{written_as, written_split, written_inside_both, written_plain, ends_plain, exact_then, exact_part, exact_token, exact_made, exact_first, exact_second, looks_written}
use Rattle.stmt_parser.proofs.Ends.{StmtEnds, end_ends}
use Rattle.stmt_parser.proofs.ExactLevels.{statements_exact}
use Rattle.unit_parser.specs.Writing.{write_stmts, write_declaration, write_block}
use Rattle.unit_parser.specs.Grammar.{judged_declaration, formed_declarations}
use Rattle.unit_parser.specs.Blocks.{next_declaration, routines, any_declarations, optional_declaration, ordered_declarations, declarations, declaration, block_of, block_by, block}
use Rattle.unit_parser.proofs.Views.{block_is}
use Rattle.unit_parser.proofs.Beginnings.{Start, Closed, at_begin, closed_name, PlaceOf, place_of_labels, place_of_constants, place_of_types, place_of_variables, closed_word, other_word, same_place, place_within, declaration_start}
use Rattle.unit_parser.proofs.Order.{same_or_less, place, formed_one, InOrder, From, from_first, order_tail, from_next, all_routines, declarations_all, declarations_in_order}
use Rattle.unit_parser.proofs.FollowedDeclarations.{block_written, block_formed}
use Rattle.unit_parser.proofs.FollowedBlocks.{block_deep}
use Rattle.unit_parser.proofs.ExactDeclarations.{BlockExact, declaration_exact, row, row_no_name, any_exact, routines_exact}

module _ (d : Dialect) (end : Span) (k : ℕ) (inner : Parser Placed Block) (inner_good : BlockExact d end k inner) where
  abbrev written : List Declaration → List Placed → List Placed → Type 0
  written xs s r = IsWritten end (row d end k inner inner_good xs) s r

  abbrev Row : List Declaration → Type 0
  Row xs = Part (Unit {0}) k (row d end k inner inner_good xs) (all (map (formed_one d) xs))

  -- ---- the order of Iso

  -- what is to be shown behind the declarations up to this place
  abbrev Behind : (i : ℕ) (r : List Placed) → (List Declaration → Parser Placed (List Declaration)) → Type 0
  Behind i r f = (xs : List Declaration) → Row xs → InOrder d xs → From d i xs → (found : List Declaration) (s : List Placed) → written xs s r → f found s ≡ Ok (found ++ xs, r)

  abbrev then_optional : WordSymbol → (List Declaration → Parser Placed (List Declaration)) → List Declaration → Parser Placed (List Declaration)
  then_optional w f found s = and_then (optional_declaration w d end k inner found s) f

  step : {w : WordSymbol} {i : ℕ} → PlaceOf w i → (r : List Placed) → Closed (plain r) → (f : List Declaration → Parser Placed (List Declaration)) → Behind (suc i) r f → Behind i r (then_optional w f)
  unfolding optional_declaration next_declaration
  step {w} {i} p r closed f more [] part order from found s h = exact_then f (exact_second (begins (words w) s) _ _ (looks_written (looks_word w) end Done s r h ∙ closed_word p closed) refl) (more [] part order tt found s h)
  step {w} {i} p r closed f more (x ∷ xs) part order from found s h = by (same_or_less i (place d x) from)
    where
      start : Start (place d x) (spell (write_declaration d x) (spell (row d end k inner inner_good xs) (plain r)))
      start = declaration_start d x _

      looks : begins (words w) s ≡ on_word w start.token
      looks = looks_written (looks_word w) end (row d end k inner inner_good (x ∷ xs)) s r h ∙ ap (on_first (on_word w)) (spell_join (write_declaration d x) (row d end k inner inner_good xs) (plain r) ∙ start.is)

      by : (place d x ≡ i) ⊎ (suc i ≤ place d x) → then_optional w f found s ≡ Ok (found ++ x ∷ xs, r)
      by (inl e) =
          let (m, one, others) = written_split end (write_declaration d x) (row d end k inner inner_good xs) s r h in
          exact_then f (exact_first (begins (words w) s) _ _ (looks ∙ same_place p start.opens e)
          (exact_then _ (declaration_exact d end k inner inner_good x (part_first (write_declaration d x) (row d end k inner inner_good xs) _ _ part) s m one (row_no_name d end k inner inner_good xs m r others (closed_name closed))) refl))
          (more xs (part_second (write_declaration d x) (row d end k inner inner_good xs) _ _ part) (order_tail d x xs order) (from_next d i x xs order e (place_within p)) (found ++ x ∷ []) m others ∙ ap (λ z. Ok (z, r)) (append_assoc found (x ∷ []) xs))
      by (inr l) = exact_then f (exact_second (begins (words w) s) _ _ (looks ∙ other_word p start.opens (λ e. absurd (omega (arith, e, l)))) refl) (more (x ∷ xs) part order l found s h)

  routines_behind : (r : List Placed) → Closed (plain r) → Behind 4 r (routines d end k inner)
  routines_behind r closed xs part order from found s h =
      let fits = part.fits in routines_exact d end k inner inner_good xs (record { formed = all_routines d xs order from part.formed; fits = fits }) found s r h closed

  ordered_exact : (xs : List Declaration) → Row xs → InOrder d xs → (s r : List Placed) → written xs s r → Closed (plain r) → ordered_declarations d end k inner s ≡ Ok (xs, r)
  unfolding ordered_declarations
  ordered_exact xs part order s r h closed =
      step place_of_labels r closed (then_optional word_.KwConst (then_optional word_.KwType (then_optional word_.KwVar (routines d end k inner))))
      (step place_of_constants r closed (then_optional word_.KwType (then_optional word_.KwVar (routines d end k inner)))
      (step place_of_types r closed (then_optional word_.KwVar (routines d end k inner))
      (step place_of_variables r closed (routines d end k inner) (routines_behind r closed)))) xs part order (from_first d xs) [] s h

  pub declarations_exact : (xs : List Declaration) → Part (Unit {0}) k (row d end k inner inner_good xs) (formed_declarations d (map (judged_declaration d) xs)) → (s r : List Placed) → written xs s r → Closed (plain r) → declarations d end k inner s ≡ Ok (xs, r)
  unfolding declarations
  declarations_exact xs part s r h closed = by (is_iso d) refl
    where
      all_formed : Row xs
      all_formed = let fits = part.fits in record { formed = declarations_all d xs part.formed; fits = fits }

      by : (b : Bool) → is_iso d ≡ b → ◌≡◌ {A = Outcome Placed (List Declaration)} (elim b [ true ↦ ordered_declarations d end k inner s | false ↦ any_declarations d end k inner [] s ]) (Ok (xs, r))
      by true e = ordered_exact xs all_formed (declarations_in_order d xs e part.formed) s r h closed
      by false e = any_exact d end k inner inner_good xs all_formed s r h closed

  -- ---- blocks

  pub block_by_exact : BlockExact d end (suc k) (block_by d end k inner)
  unfolding block_by
  block_by_exact x part s r h =
      let top = row d end k inner inner_good (out-Block x).declarations in let low = write_stmts d (out-Block x).body in let close = word word_.KwEnd in
      let tail = word word_.KwBegin & low & close in
      let p = part_inside (top & tail) (part_counted (spanned (out-Block x).span (top & tail)) (part_as (block_written d x) (block_formed d x) part)) in
      let q = part_left low close (part_right (word word_.KwBegin) (low & close) (part_second top tail _ _ p)) in
      let (place, inside) = written_inside_both end (out-Block x).span (top & tail) s r (written_as end s r (block_written d x) h) in
      exact_part _ (out-Block x).declarations end top tail s r inside (λ m left right. declarations_exact (out-Block x).declarations (part_first top tail _ _ p) s m left (ends_plain Closed end tail m r right (at_begin _))) (λ m h.
      exact_token _ (words word_.KwBegin) (says_word word_.KwBegin) end (low & close) m r h (λ m h.
      exact_part _ (out-Block x).body end low close m r h
      (λ m' left right. statements_exact d end k (out-Block x).body q m m' left (ends_plain (λ w. StmtEnds false w) end close m' r right (end_ends _)) (ap (on_first (on_symbol mark.Semicolon)) (written_plain end close m' r right))) (λ m h.
      exact_token _ (words word_.KwEnd) (says_word word_.KwEnd) end Done m r h (λ m h. exact_made end (out-Block x).span (block_of (out-Block x).declarations (out-Block x).body) s m r h (block_is x) place))))

pub block_exact : (d : Dialect) (end : Span) (k : ℕ) → BlockExact d end k (block d end k)
unfolding block
block_exact d end zero x part s r h = let fits = part.fits tt in absurd (omega (arith, fits, block_deep d x))
block_exact d end (suc k) x part s r h = block_by_exact d end k (block d end k) (block_exact d end k) x part s r h
