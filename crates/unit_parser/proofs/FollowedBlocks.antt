-- Rows of declarations, and blocks, of a text are followed.
use Rattle.std.proofs.Common.{◌≡◌, ℕ, zero, suc, ◌≤◌, ◌⊎◌, inl, inr, Bool, true, false, ◌&&◌, List, [], ◌∷◌, ◌++◌, length, map, refl, sym, ap, subst, ◌∙◌, arith}
use Rattle.std.specs.Prelude.{IsTrue, ◌==◌}
use Rattle.p2c_text.specs.declared.dialect.Dialect.{Dialect}
use Rattle.p2c_text.specs.declared.place.Span.{Span}
use Rattle.dialect_lexer.specs.Dialects.{is_iso}
use Rattle.dialect_lexer.specs.declared.token.Word.{Word as WordSymbol}
use Rattle.dialect_lexer.specs.declared.token.Word.TheVariants as word_
use Rattle.pascal_tree.specs.declared.statements.Stmt.{Stmt}
use Rattle.pascal_tree.specs.declared.declarations.Declaration.{Declaration}
use Rattle.pascal_tree.specs.declared.declarations.Block.{Block, out-Block}
use Rattle.token_parsing.specs.Parser.{Parser, and_then, begins}
use Rattle.token_parsing.proofs.Tracked.{Shrinks, one_shrinks, then_shrinks, pure_shrinks}
use Rattle.expr_parser.specs.Tokens.{Token, Placed, Word}
use Rattle.expr_parser.specs.Layout.{Layout, ◌&◌, word, spanned, counted, in_row, height_of}
use Rattle.expr_parser.specs.Grammar.{all}
use Rattle.expr_parser.specs.Classes.{words}
use Rattle.expr_parser.specs.Expressions.{expr}
use Rattle.expr_parser.proofs.Layouts.{spell, spell_join}
use Rattle.expr_parser.proofs.Shrinks.{expr_shrinks}
use Rattle.expr_parser.proofs.Followed.{Until, Along, Followed, too_deep, on_first, follow_then, follow_pure, follow_token, follow_first, follow_second, looks_at}
use Rattle.expr_parser.proofs.FollowedParts.{and_out, Part, part_as, part_first, part_second, part_left, part_right, part_inside, part_counted, along_as}
use Rattle.expr_parser.proofs.FollowedFactors.{expr_followed}
use Rattle.expr_parser.proofs.Lookahead.{looks_word, on_name, on_word, accepts_word}
use Rattle.stmt_parser.specs.Statements.{stmts}
use Rattle.stmt_parser.specs.Levels.{stmt}
use Rattle.stmt_parser.proofs.Shrinks.{stmt_shrinks}
use Rattle.stmt_parser.proofs.Ends.{StmtEnds, end_ends}
use Rattle.stmt_parser.proofs.FollowedStatements.{stmts_followed}
use Rattle.stmt_parser.proofs.FollowedLevels.{stmt_followed}
use Rattle.unit_parser.specs.Writing.{write_stmts, write_declaration, write_block}
use Rattle.unit_parser.specs.Grammar.{judged_declaration, formed_declarations, formed_stmts, formed_block}
use Rattle.unit_parser.specs.Blocks.{next_declaration, routine_words, routines, any_declarations, optional_declaration, ordered_declarations, declarations, declaration, block_by, block}
use Rattle.unit_parser.proofs.Shrinks.{body_shrinks, declaration_shrinks, routines_shrinks, optional_declaration_shrinks, block_shrinks}
use Rattle.unit_parser.proofs.FollowedRows.{row_followed}
use Rattle.unit_parser.proofs.Beginnings.{Start, on_routine, looks_routine, opens_name, opens_routine, Closed, at_begin, at_end, closed_name, closed_routine, PlaceOf, place_of_labels, place_of_constants, place_of_types, place_of_variables, closed_word, other_word, same_place, place_within, declaration_start}
use Rattle.unit_parser.proofs.Order.{same_or_less, place, formed_one, formed_routine_one, InOrder, From, from_first, order_tail, from_next, all_routines, routine_place, declarations_all, declarations_in_order}
use Rattle.unit_parser.proofs.FollowedDeclarations.{declaration_takes, routine_begun, block_written, block_formed, BlockFollowed, declaration_followed, any_followed}

closed_test : {w : WordSymbol} {i : ℕ} → PlaceOf w i → {n : Until} {v : List Token} {s : List Placed} → Closed v → Along n v s → begins (words w) s ≡ false
closed_test {w} p (at_begin v) h = looks_at (looks_word w) h ∙ closed_word p (at_begin v)
closed_test {w} p (at_end v) h = looks_at (looks_word w) h ∙ closed_word p (at_end v)

module _ (n : Until) (W : Type 0) (d : Dialect) (end : Span) (k : ℕ) (inner : Parser Placed Block) (inner_shrinks : Shrinks inner) (inner_good : BlockFollowed n W d k inner) where
  abbrev row : List Declaration → List Token → List Token
  row xs rest = spell (in_row (map (write_declaration d) xs)) rest

  abbrev Row : List Declaration → Type 0
  Row xs = Part W k (in_row (map (write_declaration d) xs)) (all (map (formed_one d) xs))

  row_closed : (xs : List Declaration) (rest : List Token) → Closed rest → on_first on_name (row xs rest) ≡ false
  row_closed [] rest closed = closed_name closed
  row_closed (x ∷ xs) rest closed =
      let start = declaration_start d x (row xs rest) in
      subst (λ w. on_first on_name w ≡ false) (sym (spell_join (write_declaration d x) (in_row (map (write_declaration d) xs)) rest ∙ start.is)) (opens_name start.opens)

  -- ---- the order of Iso

  -- what is to be shown behind the declarations up to this place
  abbrev Behind : (i : ℕ) (rest rest' : List Token) {B : Type 0} → (List Declaration → Parser Placed B) → Type 0
  Behind i rest rest' f = (xs : List Declaration) → Row xs → InOrder d xs → From d i xs → (found : List Declaration) (s : List Placed) → Along n (row xs rest) s → Followed n W rest' (f found s)

  abbrev then_optional : WordSymbol → {B : Type 0} → (List Declaration → Parser Placed B) → List Declaration → Parser Placed B
  then_optional w f found s = and_then (optional_declaration w d end k inner found s) f

  step : {w : WordSymbol} {i : ℕ} → PlaceOf w i → {rest rest' : List Token} → Closed rest → {B : Type 0} (f : List Declaration → Parser Placed B) → ((a : List Declaration) → Shrinks (f a))
      → Behind (suc i) rest rest' f → Behind i rest rest' (then_optional w f)
  unfolding optional_declaration next_declaration
  step {w} {i} p closed f shrinks more [] part order from found s h = follow_then (follow_second (begins (words w) s) _ _ (closed_test p closed h) (follow_pure found h)) shrinks (λ a r h. more [] part order tt a r h)
  step {w} {i} p {rest} {rest'} closed f shrinks more (x ∷ xs) part order from found s h = by (same_or_less i (place d x) from)
    where
      others : List Token
      others = row xs rest

      start : Start (place d x) (spell (write_declaration d x) others)
      start = declaration_start d x others

      here : Along n (spell (write_declaration d x) others) s
      here = along_as (spell_join (write_declaration d x) (in_row (map (write_declaration d) xs)) rest) h

      by : (place d x ≡ i) ⊎ (suc i ≤ place d x) → Followed n W rest' (then_optional w f found s)
      by (inl e) =
          follow_then (follow_first (begins (words w) s) _ _ (looks_at (looks_word w) (along_as start.is here) ∙ same_place p start.opens e)
          (follow_then (declaration_followed n W d end k inner inner_shrinks inner_good x (part_first (write_declaration d x) (in_row (map (write_declaration d) xs)) _ _ part) others (row_closed xs rest closed) s here) (λ y. pure_shrinks _) (λ y r h. follow_pure _ h)))
          shrinks (λ a r h. more xs (part_second (write_declaration d x) (in_row (map (write_declaration d) xs)) _ _ part) (order_tail d x xs order) (from_next d i x xs order e (place_within p)) a r h)
      by (inr l) =
          follow_then (follow_second (begins (words w) s) _ _ (looks_at (looks_word w) (along_as start.is here) ∙ other_word p start.opens (λ e. absurd (omega (arith, e, l)))) (follow_pure found h)) shrinks (λ a r h. more (x ∷ xs) part order l a r h)

  routines_followed : (rest : List Token) → Closed rest → Behind 4 rest rest (routines d end k inner)
  unfolding routines next_declaration
  routines_followed rest closed xs part order from found s h =
      let fits = part.fits in
      row_followed n W k (write_declaration d) (formed_routine_one d) (declaration d end k inner) (declaration_shrinks d end k inner inner_shrinks) (declaration_takes d end k inner inner_shrinks) (begins routine_words) on_routine looks_routine
      (routine_begun d end k inner inner_shrinks) (λ x ok rest. let start = declaration_start d x rest in (start.token, start.more, start.is, opens_routine start.opens (routine_place d x ok)))
      (λ w. on_first on_name w ≡ false) (λ x ok rest. let start = declaration_start d x rest in subst (λ w. on_first on_name w ≡ false) (sym start.is) (opens_name start.opens))
      (λ x q rest ends s h. declaration_followed n W d end k inner inner_shrinks inner_good x (record { formed = (and_out (formed_one d x) (place d x == 4) q.formed).0; fits = q.fits }) rest ends s h)
      xs (record { formed = all_routines d xs order from part.formed; fits = fits }) rest (closed_name closed) (closed_routine closed) found s h

  ordered_followed : (xs : List Declaration) → Row xs → InOrder d xs → (rest : List Token) → Closed rest → (s : List Placed) → Along n (row xs rest) s → Followed n W rest (ordered_declarations d end k inner s)
  unfolding ordered_declarations
  ordered_followed xs part order rest closed s h =
      step place_of_labels closed (then_optional word_.KwConst (then_optional word_.KwType (then_optional word_.KwVar (routines d end k inner)))) after_labels
      (step place_of_constants closed (then_optional word_.KwType (then_optional word_.KwVar (routines d end k inner))) after_constants
      (step place_of_types closed (then_optional word_.KwVar (routines d end k inner)) after_types
      (step place_of_variables closed (routines d end k inner) after_variables (routines_followed rest closed)))) xs part order (from_first d xs) [] s h
    where
      after_variables : (a : List Declaration) → Shrinks (routines d end k inner a)
      after_variables a = routines_shrinks d end k inner inner_shrinks a

      after_types : (a : List Declaration) → Shrinks (then_optional word_.KwVar (routines d end k inner) a)
      after_types a = then_shrinks (optional_declaration_shrinks d end k inner inner_shrinks word_.KwVar a) after_variables

      after_constants : (a : List Declaration) → Shrinks (then_optional word_.KwType (then_optional word_.KwVar (routines d end k inner)) a)
      after_constants a = then_shrinks (optional_declaration_shrinks d end k inner inner_shrinks word_.KwType a) after_types

      after_labels : (a : List Declaration) → Shrinks (then_optional word_.KwConst (then_optional word_.KwType (then_optional word_.KwVar (routines d end k inner))) a)
      after_labels a = then_shrinks (optional_declaration_shrinks d end k inner inner_shrinks word_.KwConst a) after_constants

  pub declarations_followed : (xs : List Declaration) → Part W k (in_row (map (write_declaration d) xs)) (formed_declarations d (map (judged_declaration d) xs)) → (rest : List Token) → Closed rest → (s : List Placed) → Along n (row xs rest) s
      → Followed n W rest (declarations d end k inner s)
  unfolding declarations
  declarations_followed xs part rest closed s h = by (is_iso d) refl
    where
      all_formed : Row xs
      all_formed = let fits = part.fits in record { formed = declarations_all d xs part.formed; fits = fits }

      by : (b : Bool) → is_iso d ≡ b → Followed n W rest (elim b [ true ↦ ordered_declarations d end k inner s | false ↦ any_declarations d end k inner [] s ])
      by true e = ordered_followed xs all_formed (declarations_in_order d xs e part.formed) rest closed s h
      by false e = any_followed n W d end k inner inner_shrinks inner_good xs all_formed rest closed s h

  -- ---- blocks

  pub body_followed : (xs : List Stmt) → Part W k (write_stmts d xs) (formed_stmts d xs) → (rest : List Token) (s : List Placed) → Along n (spell (write_stmts d xs) (Word word_.KwEnd ∷ rest)) s → Followed n W (Word word_.KwEnd ∷ rest) (stmts (stmt d end k) s)
  body_followed xs part rest s h =
      stmts_followed n W d end k (expr d end k) (expr_shrinks d end k) (expr_followed n W d end k) (stmt d end k) (stmt_shrinks d end k) (stmt_followed n W d end k) xs part (Word word_.KwEnd ∷ rest) (end_ends rest) refl s h

  block_by_followed : BlockFollowed n W d (suc k) (block_by d end k inner)
  unfolding block_by
  block_by_followed x part rest s h =
      let top = in_row (map (write_declaration d) (out-Block x).declarations) in let low = write_stmts d (out-Block x).body in
      let tail = word word_.KwBegin & low & word word_.KwEnd in
      let p = part_inside (top & tail) (part_counted (spanned (out-Block x).span (top & tail)) (part_as (block_written d x) (block_formed d x) part)) in
      let q = part_left low (word word_.KwEnd) (part_right (word word_.KwBegin) (low & word word_.KwEnd) (part_second top tail _ _ p)) in
      follow_then (declarations_followed (out-Block x).declarations (part_first top tail _ _ p) (Word word_.KwBegin ∷ spell low (Word word_.KwEnd ∷ rest)) (at_begin _) s
      (along_as (ap (λ l. spell l rest) (block_written d x) ∙ spell_join top tail rest ∙ ap (λ w. spell top (Word word_.KwBegin ∷ w)) (spell_join low (word word_.KwEnd) rest)) h))
      (λ all. then_shrinks (one_shrinks _) (λ _. then_shrinks (body_shrinks d end k) (λ b. then_shrinks (one_shrinks _) (λ u. λ m r k. pure_shrinks _ m r k)))) (λ all r h.
      follow_token (words word_.KwBegin) (accepts_word word_.KwBegin) h (λ _. then_shrinks (body_shrinks d end k) (λ b. then_shrinks (one_shrinks _) (λ u. λ m r k. pure_shrinks _ m r k))) (λ _ r h.
      follow_then (body_followed (out-Block x).body q rest r h) (λ b. then_shrinks (one_shrinks _) (λ u. λ m r k. pure_shrinks _ m r k)) (λ b r h.
      follow_token (words word_.KwEnd) (accepts_word word_.KwEnd) h (λ u. λ m r k. pure_shrinks _ m r k) (λ _ r h. follow_pure _ h))))

pub block_deep : (d : Dialect) (x : Block) → 1 ≤ height_of (write_block d x)
block_deep d x = subst (λ l. 1 ≤ height_of l) (sym (block_written d x)) (omega arith)

pub block_followed : (n : Until) (W : Type 0) (d : Dialect) (end : Span) (k : ℕ) → BlockFollowed n W d k (block d end k)
unfolding block
block_followed n W d end zero x part rest s h = too_deep (length s) (λ w. let fits = part.fits w in absurd (omega (arith, fits, block_deep d x)))
block_followed n W d end (suc k) x part rest s h = block_by_followed n W d end k (block d end k) (block_shrinks d end k) (block_followed n W d end k) x part rest s h
