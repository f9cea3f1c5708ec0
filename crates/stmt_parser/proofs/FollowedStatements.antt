-- Statements of a text are followed.
use Rattle.std.proofs.Common.{◌≡◌, ℕ, Bool, true, false, ◌&&◌, List, [], ◌∷◌, map, Option, Some, None, Ok, refl, ap, ◌∙◌}
use Rattle.std.proofs.lemmas.Simd.{map-map}
use Rattle.p2c_text.specs.declared.dialect.Dialect.{Dialect}
use Rattle.p2c_text.specs.declared.place.Span.{Span}
use Rattle.dialect_lexer.specs.declared.token.Word.TheVariants as word_
use Rattle.dialect_lexer.specs.declared.token.Symbol.TheVariants as mark
use Rattle.pascal_tree.specs.declared.names.Identifier.{Identifier}
use Rattle.pascal_tree.specs.declared.names.Label.{Label}
use Rattle.pascal_tree.specs.declared.expressions.Args.{Args}
use Rattle.pascal_tree.specs.declared.expressions.Expr.{Expr}
use Rattle.pascal_tree.specs.declared.expressions.Place.{Place, out-Place}
use Rattle.pascal_tree.specs.declared.statements.Direction.{Direction}
use Rattle.pascal_tree.specs.declared.statements.Plain.{Plain}
use Rattle.pascal_tree.specs.declared.statements.Plain.TheVariants as plain_
use Rattle.pascal_tree.specs.declared.statements.Stmt.{Stmt}
use Rattle.token_parsing.specs.Parser.{Parser, and_then, begins, either}
use Rattle.token_parsing.proofs.Tracked.{Shrinks, one_shrinks, then_shrinks, pure_shrinks}
use Rattle.expr_parser.specs.Tokens.{Token, Placed, Name, Word, Symbol}
use Rattle.expr_parser.specs.Layout.{Done, ◌&◌, word, symbol, with_commas}
use Rattle.expr_parser.specs.Writing.{identifier, write_expr, write_place}
use Rattle.expr_parser.specs.Grammar.{some_all, formed_expr}
use Rattle.expr_parser.specs.Classes.{identifiers, words, expect_word, same_word}
use Rattle.expr_parser.specs.Places.{made}
use Rattle.expr_parser.proofs.Layouts.{spell, spell_join}
use Rattle.expr_parser.proofs.Spelled.{place_spelled}
use Rattle.expr_parser.proofs.Followed.{Until, Along, Followed, on_first, follow_then, follow_pure, follow_token, follow_first, follow_second, follow_not, looks_at}
use Rattle.expr_parser.proofs.FollowedParts.{Part, part_as, part_first, part_second, part_left, part_right, part_inside, along_as, ExprFollowed}
use Rattle.expr_parser.proofs.Lookahead.{looks_name, looks_word, on_symbol, accepts_name, accepts_word}
use Rattle.expr_parser.specs.Semicolons.{with_semicolons}
use Rattle.stmt_parser.specs.Writing.{optional_args, direction_word, write_plain, write_stmt}
use Rattle.stmt_parser.specs.Grammar.{alone, some_alone, branches, formed_optional_args, formed_plain, formed_stmt}
use Rattle.stmt_parser.specs.Statements.{next_stmt, more_stmts, stmts, nothing, goto, named, compound, optional_else, conditional, while_loop, repeat_loop, for_loop, with_places, try_block}
use Rattle.stmt_parser.specs.Cases.{case_of}
use Rattle.stmt_parser.specs.Levels.{structured, plain_by}
use Rattle.stmt_parser.proofs.WrittenStatements.{write_else, write_nothing_of, write_assign_of, write_call_of, write_goto_of, write_compound_of, write_if_of, write_while_of, write_repeat_of, write_for_of, write_with_of, write_try_of}
use Rattle.stmt_parser.proofs.FormedStatements.{formed_else, formed_assign_of, formed_call_of, formed_goto_of, formed_compound_of, formed_if_of, formed_while_of, formed_repeat_of, formed_for_of, formed_with_of, formed_try_of}
use Rattle.expr_parser.proofs.ConstantShrinks.{label_shrinks}
use Rattle.stmt_parser.proofs.Shrinks.{after_name_shrinks, limits_shrinks, places_shrinks, stmts_shrinks, optional_else_shrinks}
use Rattle.stmt_parser.proofs.Ends.{StmtEnds, semicolon_ends, end_ends, until_ends, recover_ends, else_ends, then_ends, do_ends}
use Rattle.stmt_parser.proofs.Begun.{named_begun, goto_begun, compound_begun, else_begun, conditional_begun, case_begun, while_begun, repeat_begun, for_begun, with_begun, try_begun}
use Rattle.stmt_parser.proofs.FollowedRows.{semicolons_followed}
use Rattle.expr_parser.proofs.FollowedConstants.{label_followed}
use Rattle.stmt_parser.proofs.FollowedSimple.{between_followed, limits_followed, places_followed, assignment_followed, call_followed}

and_right : (x y z : Bool) → (x && y && z) ≡ (x && (y && z))
and_right true y z = refl
and_right false y z = refl

module _ (n : Until) (W : Type 0) (d : Dialect) (k : ℕ) where
  abbrev pub StmtFollowed : Parser Placed Stmt → Type 0
  StmtFollowed p = (x : Stmt) (follows : Bool) → Part W k (write_stmt d x) (formed_stmt d x follows) → (rest : List Token) → StmtEnds follows rest → (s : List Placed) → Along n (spell (write_stmt d x) rest) s → Followed n W rest (p s)

module _ (n : Until) (W : Type 0) (d : Dialect) (end : Span) (k : ℕ) (child : Parser Placed Expr) (shrinks : Shrinks child) (good : ExprFollowed n W d k child)
    (inner : Parser Placed Stmt) (inner_shrinks : Shrinks inner) (inner_good : StmtFollowed n W d k inner) where
  -- ---- statements in a row

  pub stmts_followed : (xs : List Stmt) → Part W k (with_semicolons (map (write_stmt d) xs)) (some_alone (map (formed_stmt d) xs)) → (rest : List Token) → StmtEnds false rest → on_first (on_symbol mark.Semicolon) rest ≡ false → (s : List Placed)
      → Along n (spell (with_semicolons (map (write_stmt d) xs)) rest) s → Followed n W rest (stmts inner s)
  unfolding stmts more_stmts next_stmt
  stmts_followed [] part rest ends closed s h = let none = part.formed in absurd cc
  stmts_followed (x ∷ xs) part rest ends closed s h =
      semicolons_followed n W k (write_stmt d) (λ y. alone (formed_stmt d y)) inner inner_shrinks (λ w. StmtEnds false w) semicolon_ends (λ y p rest ends s h. inner_good y false p rest ends s h) x xs
      (part_as refl (ap some_all (map-map alone (formed_stmt d) (x ∷ xs))) part) rest ends closed s h

  -- ---- each statement

  abbrev pub PlainRead : Plain → Type 0
  PlainRead x = (follows : Bool) → Part W k (write_plain d x) (formed_plain d x follows) → (rest : List Token) → StmtEnds follows rest → (s : List Placed)
      → Along n (spell (write_plain d x) rest) s → Followed n W rest (plain_by d end child inner s)

  abbrev from_try : Parser Placed Plain
  from_try = either (begins (words word_.KwTry)) (try_block end inner) (nothing end)

  abbrev from_with : Parser Placed Plain
  from_with = either (begins (words word_.KwWith)) (with_places end child inner) from_try

  abbrev from_for : Parser Placed Plain
  from_for = either (begins (words word_.KwFor)) (for_loop end child inner) from_with

  abbrev from_repeat : Parser Placed Plain
  from_repeat = either (begins (words word_.KwRepeat)) (repeat_loop end child inner) from_for

  abbrev from_while : Parser Placed Plain
  from_while = either (begins (words word_.KwWhile)) (while_loop end child inner) from_repeat

  abbrev from_case : Parser Placed Plain
  from_case = either (begins (words word_.KwCase)) (case_of d end child inner) from_while

  abbrev from_if : Parser Placed Plain
  from_if = either (begins (words word_.KwIf)) (conditional end child inner) from_case

  abbrev from_begin : Parser Placed Plain
  from_begin = either (begins (words word_.KwBegin)) (compound end inner) from_if

  abbrev from_goto : Parser Placed Plain
  from_goto = either (begins (words word_.KwGoto)) (goto d end) from_begin

  pub nothing_read : (span : Span) → PlainRead (plain_.Nothing span)
  unfolding plain_by structured nothing
  nothing_read span follows part rest ends s h0 =
      let h = along_as (ap (λ l. spell l rest) (write_nothing_of d span)) h0 in
      follow_not looks_name (named d end child) from_goto ends.name h (named_begun d end child shrinks) (follow_not (looks_word word_.KwGoto) (goto d end) from_begin ends.no_words.no_goto h (goto_begun d end child shrinks) (follow_not (looks_word word_.KwBegin) (compound end inner) from_if ends.no_words.no_begin h (compound_begun d end child shrinks inner inner_shrinks) (follow_not (looks_word word_.KwIf) (conditional end child inner) from_case ends.no_words.no_if h (conditional_begun d end child shrinks inner inner_shrinks) (follow_not (looks_word word_.KwCase) (case_of d end child inner) from_while ends.no_words.no_case h (case_begun d end child shrinks inner inner_shrinks) (follow_not (looks_word word_.KwWhile) (while_loop end child inner) from_repeat ends.no_words.no_while h (while_begun d end child shrinks inner inner_shrinks) (follow_not (looks_word word_.KwRepeat) (repeat_loop end child inner) from_for ends.no_words.no_repeat h (repeat_begun d end child shrinks inner inner_shrinks) (follow_not (looks_word word_.KwFor) (for_loop end child inner) from_with ends.no_words.no_for h (for_begun d end child shrinks inner inner_shrinks) (follow_not (looks_word word_.KwWith) (with_places end child inner) from_try ends.no_words.no_with h (with_begun d end child shrinks inner inner_shrinks) (follow_not (looks_word word_.KwTry) (try_block end inner) (nothing end) ends.no_words.no_try h (try_begun d end child shrinks inner inner_shrinks) (follow_pure _ h))))))))))

  pub assign_read : (target : Place) (value : Expr) (span : Span) → PlainRead (plain_.Assign target value span)
  unfolding plain_by named
  assign_read target value span follows part rest ends s h0 =
      let written = write_assign_of d target value span in
      let h' = along_as (ap (λ l. spell l rest) written ∙ spell_join (write_place target) (symbol mark.Assign & write_expr value) rest ∙ place_spelled target (Symbol mark.Assign ∷ spell (write_expr value) rest)) h0 in
      let p = part_inside (write_place target & symbol mark.Assign & write_expr value) (part_as written (formed_assign_of d target value span follows) part) in
      follow_first _ _ _ (looks_at looks_name h') (follow_token identifiers (accepts_name (out-Place target).name.name) h' (λ i. after_name_shrinks d end child shrinks s i) (λ i r h.
      assignment_followed n W d end k child shrinks good target value (part_first (write_place target) (symbol mark.Assign & write_expr value) _ _ p)
      (part_right (symbol mark.Assign) (write_expr value) (part_second (write_place target) (symbol mark.Assign & write_expr value) _ _ p)) rest ends.expr s i r h))

  pub call_read : (name : Identifier) (args : Option Args) (span : Span) → PlainRead (plain_.Call name args span)
  unfolding plain_by named
  call_read name args span follows part rest ends s h0 =
      let written = write_call_of d name args span in
      let h' = along_as (ap (λ l. spell l rest) written) h0 in
      let p = part_right (identifier name) (optional_args args) (part_inside (identifier name & optional_args args) (part_as written (formed_call_of d name args span follows) part)) in
      follow_first _ _ _ (looks_at looks_name h') (follow_token identifiers (accepts_name name.name) h' (λ i. after_name_shrinks d end child shrinks s i) (λ i r h.
      call_followed n W d end k child shrinks good args (λ x e. part_as (ap optional_args e) (ap (formed_optional_args d) e) p) rest ends.expr ends.assign s i r h))

  pub goto_read : (label : Label) (span : Span) → PlainRead (plain_.Goto label span)
  unfolding plain_by goto same_word
  goto_read label span follows part rest ends s h0 =
      let written = write_goto_of d label span in
      let h' = along_as (ap (λ l. spell l rest) written) h0 in
      let p = part_as written (formed_goto_of d label span follows) part in
      (follow_second _ _ _ (looks_at looks_name h') (follow_first _ _ _ (looks_at (looks_word word_.KwGoto) h') (follow_token (words word_.KwGoto) (accepts_word word_.KwGoto) h' (λ _. then_shrinks (label_shrinks d end) (λ x. λ n r k. pure_shrinks _ n r k)) (λ _ r h.
      follow_then (label_followed n W d end label p.formed rest r h) (λ x. λ n r k. pure_shrinks _ n r k) (λ x r h. follow_pure _ h)))))

  pub compound_read : (body : List Stmt) (span : Span) → PlainRead (plain_.Compound body span)
  unfolding plain_by structured compound same_word
  compound_read body span follows part rest ends s h0 =
      let list = with_semicolons (map (write_stmt d) body) in
      let written = write_compound_of d body span in
      let h' = along_as (ap (λ l. spell l rest) written ∙ ap (λ w. Word word_.KwBegin ∷ w) (spell_join list (word word_.KwEnd) rest)) h0 in
      let p = part_left list (word word_.KwEnd) (part_right (word word_.KwBegin) (list & word word_.KwEnd) (part_inside _ (part_as written (formed_compound_of d body span follows) part))) in
      (follow_second _ _ _ (looks_at looks_name h') (follow_second _ _ _ (looks_at (looks_word word_.KwGoto) h') (follow_first _ _ _ (looks_at (looks_word word_.KwBegin) h') (follow_token (words word_.KwBegin) (accepts_word word_.KwBegin) h' (λ _. then_shrinks (stmts_shrinks d end child shrinks inner inner_shrinks) (λ all. then_shrinks (one_shrinks _) (λ u. λ n r k. pure_shrinks _ n r k))) (λ _ r h.
      follow_then (stmts_followed body p (Word word_.KwEnd ∷ rest) (end_ends rest) refl r h) (λ all. then_shrinks (one_shrinks _) (λ u. λ n r k. pure_shrinks _ n r k)) (λ all r h.
      follow_token (words word_.KwEnd) (accepts_word word_.KwEnd) h (λ u. λ n r k. pure_shrinks _ n r k) (λ _ r h. follow_pure _ h)))))))

  -- the `then` part and the `else` part
  branches_read : (then_part : Stmt) (else_part : Option Stmt) (follows : Bool) → Part W k (write_stmt d then_part & write_else d else_part) (branches (formed_stmt d then_part) (formed_else d else_part) follows)
      → (rest : List Token) → StmtEnds follows rest → {B : Type 0} (node : Stmt → Option Stmt → Span → B) (from s : List Placed) → Along n (spell (write_stmt d then_part) (spell (write_else d else_part) rest)) s
      → Followed n W rest (and_then (inner s) (λ a s. and_then (optional_else inner s) (λ b s. made end from (node a b) s)))
  unfolding optional_else same_word
  branches_read then_part None true part rest ends node from s h = let none = part.formed in absurd cc
  branches_read then_part None false part rest ends node from s h =
      follow_then (inner_good then_part false (part_left (write_stmt d then_part) Done part) rest ends s h) (λ a. then_shrinks (optional_else_shrinks d end child shrinks inner inner_shrinks) (λ b. λ n r k. pure_shrinks _ n r k)) (λ a r h.
      follow_then (follow_not (looks_word word_.KwElse) (λ s. and_then (expect_word word_.KwElse s) (λ _ s. and_then (inner s) (λ x s. Ok (Some x, s)))) (λ s. Ok (None, s)) ends.on_else h (else_begun d end child shrinks inner inner_shrinks) (follow_pure _ h)) (λ b. λ n r k. pure_shrinks _ n r k) (λ b r h. follow_pure _ h))
  branches_read then_part (Some else_part) follows part rest ends node from s h =
      let t = write_stmt d then_part in let e = word word_.KwElse & write_stmt d else_part in
      follow_then (inner_good then_part true (part_first t e _ _ part) (Word word_.KwElse ∷ spell (write_stmt d else_part) rest) (else_ends _) s h) (λ a. then_shrinks (optional_else_shrinks d end child shrinks inner inner_shrinks) (λ b. λ n r k. pure_shrinks _ n r k)) (λ a r h.
      follow_then (follow_first _ _ _ (looks_at (looks_word word_.KwElse) h) (follow_token (words word_.KwElse) (accepts_word word_.KwElse) h (λ _. then_shrinks inner_shrinks (λ x. pure_shrinks _)) (λ _ r h.
      follow_then (inner_good else_part follows (part_right (word word_.KwElse) (write_stmt d else_part) (part_second t e _ _ part)) rest ends r h) (λ x. pure_shrinks _) (λ x r h. follow_pure _ h)))) (λ b. λ n r k. pure_shrinks _ n r k) (λ b r h. follow_pure _ h))

  pub conditional_read : (condition : Expr) (then_part : Stmt) (else_part : Option Stmt) (span : Span) → PlainRead (plain_.If condition then_part else_part span)
  unfolding plain_by structured conditional same_word
  conditional_read condition then_part else_part span follows part rest ends s h0 =
      let written = write_if_of d condition then_part else_part span in
      let c = write_expr condition in let t = write_stmt d then_part in let e = write_else d else_part in
      let h' = along_as (ap (λ l. spell l rest) written ∙ ap (λ w. Word word_.KwIf ∷ w) (spell_join c (word word_.KwThen & t & e) rest ∙ ap (λ w. spell c (Word word_.KwThen ∷ w)) (spell_join t e rest))) h0 in
      let p = part_right (word word_.KwIf) (c & word word_.KwThen & t & e) (part_inside _ (part_as written (formed_if_of d condition then_part else_part span follows) part)) in
      let q = part_right (word word_.KwThen) (t & e) (part_second c (word word_.KwThen & t & e) _ _ p) in
      (follow_second _ _ _ (looks_at looks_name h') (follow_second _ _ _ (looks_at (looks_word word_.KwGoto) h') (follow_second _ _ _ (looks_at (looks_word word_.KwBegin) h') (follow_first _ _ _ (looks_at (looks_word word_.KwIf) h') (follow_then (between_followed n W d end k child shrinks good word_.KwIf word_.KwThen condition (part_first c (word word_.KwThen & t & e) _ _ p) (spell t (spell e rest)) (then_ends _) s h')
      (λ c. then_shrinks inner_shrinks (λ a. then_shrinks (optional_else_shrinks d end child shrinks inner inner_shrinks) (λ b. λ n r k. pure_shrinks _ n r k))) (λ c r h. branches_read then_part else_part follows q rest ends (λ a b. plain_.If c a b) s r h))))))

  pub while_read : (condition : Expr) (body : Stmt) (span : Span) → PlainRead (plain_.While condition body span)
  unfolding plain_by structured while_loop same_word
  while_read condition body span follows part rest ends s h0 =
      let written = write_while_of d condition body span in
      let c = write_expr condition in let b = write_stmt d body in
      let h' = along_as (ap (λ l. spell l rest) written ∙ ap (λ w. Word word_.KwWhile ∷ w) (spell_join c (word word_.KwDo & b) rest)) h0 in
      let p = part_right (word word_.KwWhile) (c & word word_.KwDo & b) (part_inside _ (part_as written (formed_while_of d condition body span follows) part)) in
      (follow_second _ _ _ (looks_at looks_name h') (follow_second _ _ _ (looks_at (looks_word word_.KwGoto) h') (follow_second _ _ _ (looks_at (looks_word word_.KwBegin) h') (follow_second _ _ _ (looks_at (looks_word word_.KwIf) h') (follow_second _ _ _ (looks_at (looks_word word_.KwCase) h') (follow_first _ _ _ (looks_at (looks_word word_.KwWhile) h') (follow_then (between_followed n W d end k child shrinks good word_.KwWhile word_.KwDo condition (part_first c (word word_.KwDo & b) _ _ p) (spell b rest) (do_ends _) s h') (λ c. then_shrinks inner_shrinks (λ a. λ n r k. pure_shrinks _ n r k)) (λ c r h.
      follow_then (inner_good body follows (part_right (word word_.KwDo) b (part_second (write_expr condition) (word word_.KwDo & b) _ _ p)) rest ends r h) (λ a. λ n r k. pure_shrinks _ n r k) (λ a r h. follow_pure _ h)))))))))

  pub repeat_read : (body : List Stmt) (until : Expr) (span : Span) → PlainRead (plain_.Repeat body until span)
  unfolding plain_by structured repeat_loop same_word
  repeat_read body until span follows part rest ends s h0 =
      let list = with_semicolons (map (write_stmt d) body) in let u = write_expr until in
      let written = write_repeat_of d body until span in
      let h' = along_as (ap (λ l. spell l rest) written ∙ ap (λ w. Word word_.KwRepeat ∷ w) (spell_join list (word word_.KwUntil & u) rest)) h0 in
      let p = part_right (word word_.KwRepeat) (list & word word_.KwUntil & u) (part_inside _ (part_as written (formed_repeat_of d body until span follows) part)) in
      (follow_second _ _ _ (looks_at looks_name h') (follow_second _ _ _ (looks_at (looks_word word_.KwGoto) h') (follow_second _ _ _ (looks_at (looks_word word_.KwBegin) h') (follow_second _ _ _ (looks_at (looks_word word_.KwIf) h') (follow_second _ _ _ (looks_at (looks_word word_.KwCase) h') (follow_second _ _ _ (looks_at (looks_word word_.KwWhile) h') (follow_first _ _ _ (looks_at (looks_word word_.KwRepeat) h') (follow_token (words word_.KwRepeat) (accepts_word word_.KwRepeat) h' (λ _. then_shrinks (stmts_shrinks d end child shrinks inner inner_shrinks) (λ all. then_shrinks (one_shrinks _) (λ u. then_shrinks shrinks (λ e. λ n r k. pure_shrinks _ n r k)))) (λ _ r h.
      follow_then (stmts_followed body (part_first list (word word_.KwUntil & u) _ _ p) (Word word_.KwUntil ∷ spell u rest) (until_ends _) refl r h) (λ all. then_shrinks (one_shrinks _) (λ u. then_shrinks shrinks (λ e. λ n r k. pure_shrinks _ n r k))) (λ all r h.
      follow_token (words word_.KwUntil) (accepts_word word_.KwUntil) h (λ u. then_shrinks shrinks (λ e. λ n r k. pure_shrinks _ n r k)) (λ _ r h.
      follow_then (good until (part_right (word word_.KwUntil) u (part_second list (word word_.KwUntil & u) _ _ p)) rest ends.expr r h) (λ e. λ n r k. pure_shrinks _ n r k) (λ e r h. follow_pure _ h))))))))))))

  pub for_read : (variable : Identifier) (first : Expr) (direction : Direction) (last : Expr) (body : Stmt) (span : Span) → PlainRead (plain_.For variable first direction last body span)
  unfolding plain_by structured for_loop same_word
  for_read variable first direction last body span follows part rest ends s h0 =
      let written = write_for_of d variable first direction last body span in
      let a = write_expr first in let z = write_expr last in let b = write_stmt d body in let way = word (direction_word direction) in
      let h' = along_as (ap (λ l. spell l rest) written ∙ ap (λ w. Word word_.KwFor ∷ Name variable.name ∷ Symbol mark.Assign ∷ w)
      (spell_join a (way & z & word word_.KwDo & b) rest ∙ ap (λ w. spell a (Word (direction_word direction) ∷ w)) (spell_join z (word word_.KwDo & b) rest))) h0 in
      let p : Part W k (a & way & z & word word_.KwDo & b) (formed_expr d first && (formed_expr d last && formed_stmt d body follows)) = part_right (symbol mark.Assign) (a & way & z & word word_.KwDo & b) (part_right (identifier variable) (symbol mark.Assign & a & way & z & word word_.KwDo & b) (part_right (word word_.KwFor) (identifier variable & symbol mark.Assign & a & way & z & word word_.KwDo & b)
      (part_inside _ (part_as written (formed_for_of d variable first direction last body span follows ∙ and_right (formed_expr d first) (formed_expr d last) (formed_stmt d body follows)) part)))) in
      let q : Part W k (z & word word_.KwDo & b) (formed_expr d last && formed_stmt d body follows) = part_right way (z & word word_.KwDo & b) (part_second a (way & z & word word_.KwDo & b) _ _ p) in
      (follow_second _ _ _ (looks_at looks_name h') (follow_second _ _ _ (looks_at (looks_word word_.KwGoto) h') (follow_second _ _ _ (looks_at (looks_word word_.KwBegin) h') (follow_second _ _ _ (looks_at (looks_word word_.KwIf) h') (follow_second _ _ _ (looks_at (looks_word word_.KwCase) h') (follow_second _ _ _ (looks_at (looks_word word_.KwWhile) h') (follow_second _ _ _ (looks_at (looks_word word_.KwRepeat) h') (follow_first _ _ _ (looks_at (looks_word word_.KwFor) h') (follow_token (words word_.KwFor) (accepts_word word_.KwFor) h' (λ _. then_shrinks (one_shrinks _) (λ i. then_shrinks (limits_shrinks d end child shrinks) (λ x. then_shrinks inner_shrinks (λ y. λ n r k. pure_shrinks _ n r k)))) (λ _ r h.
      follow_token identifiers (accepts_name variable.name) h (λ i. then_shrinks (limits_shrinks d end child shrinks) (λ x. then_shrinks inner_shrinks (λ y. λ n r k. pure_shrinks _ n r k))) (λ i r h.
      follow_then (limits_followed n W d end k child shrinks good first last direction (part_first a (way & z & word word_.KwDo & b) _ _ p) (part_first z (word word_.KwDo & b) _ _ q) (spell b rest) r h) (λ x. then_shrinks inner_shrinks (λ y. λ n r k. pure_shrinks _ n r k)) (λ x r h.
      follow_then (inner_good body follows (part_right (word word_.KwDo) b (part_second z (word word_.KwDo & b) _ _ q)) rest ends r h) (λ y. λ n r k. pure_shrinks _ n r k) (λ y r h. follow_pure _ h)))))))))))))

  pub with_read : (places : List Place) (body : Stmt) (span : Span) → PlainRead (plain_.With places body span)
  unfolding plain_by structured with_places same_word
  with_read places body span follows part rest ends s h0 =
      let list = with_commas (map write_place places) in let b = write_stmt d body in
      let written = write_with_of d places body span in
      let h' = along_as (ap (λ l. spell l rest) written ∙ ap (λ w. Word word_.KwWith ∷ w) (spell_join list (word word_.KwDo & b) rest)) h0 in
      let p = part_right (word word_.KwWith) (list & word word_.KwDo & b) (part_inside _ (part_as written (formed_with_of d places body span follows) part)) in
      (follow_second _ _ _ (looks_at looks_name h') (follow_second _ _ _ (looks_at (looks_word word_.KwGoto) h') (follow_second _ _ _ (looks_at (looks_word word_.KwBegin) h') (follow_second _ _ _ (looks_at (looks_word word_.KwIf) h') (follow_second _ _ _ (looks_at (looks_word word_.KwCase) h') (follow_second _ _ _ (looks_at (looks_word word_.KwWhile) h') (follow_second _ _ _ (looks_at (looks_word word_.KwRepeat) h') (follow_second _ _ _ (looks_at (looks_word word_.KwFor) h') (follow_first _ _ _ (looks_at (looks_word word_.KwWith) h') (follow_token (words word_.KwWith) (accepts_word word_.KwWith) h' (λ _. then_shrinks (places_shrinks d end child shrinks) (λ all. then_shrinks (one_shrinks _) (λ u. then_shrinks inner_shrinks (λ y. λ n r k. pure_shrinks _ n r k)))) (λ _ r h.
      follow_then (places_followed n W d end k child shrinks good places (part_first list (word word_.KwDo & b) _ _ p) (Word word_.KwDo ∷ spell b rest) refl refl r h) (λ all. then_shrinks (one_shrinks _) (λ u. then_shrinks inner_shrinks (λ y. λ n r k. pure_shrinks _ n r k))) (λ all r h.
      follow_token (words word_.KwDo) (accepts_word word_.KwDo) h (λ u. then_shrinks inner_shrinks (λ y. λ n r k. pure_shrinks _ n r k)) (λ _ r h.
      follow_then (inner_good body follows (part_right (word word_.KwDo) b (part_second list (word word_.KwDo & b) _ _ p)) rest ends r h) (λ y. λ n r k. pure_shrinks _ n r k) (λ y r h. follow_pure _ h))))))))))))))

  pub try_read : (body : List Stmt) (recover : Stmt) (span : Span) → PlainRead (plain_.Try body recover span)
  unfolding plain_by structured try_block same_word
  try_read body recover span follows part rest ends s h0 =
      let list = with_semicolons (map (write_stmt d) body) in let b = write_stmt d recover in
      let written = write_try_of d body recover span in
      let h' = along_as (ap (λ l. spell l rest) written ∙ ap (λ w. Word word_.KwTry ∷ w) (spell_join list (word word_.KwRecover & b) rest)) h0 in
      let p = part_right (word word_.KwTry) (list & word word_.KwRecover & b) (part_inside _ (part_as written (formed_try_of d body recover span follows) part)) in
      (follow_second _ _ _ (looks_at looks_name h') (follow_second _ _ _ (looks_at (looks_word word_.KwGoto) h') (follow_second _ _ _ (looks_at (looks_word word_.KwBegin) h') (follow_second _ _ _ (looks_at (looks_word word_.KwIf) h') (follow_second _ _ _ (looks_at (looks_word word_.KwCase) h') (follow_second _ _ _ (looks_at (looks_word word_.KwWhile) h') (follow_second _ _ _ (looks_at (looks_word word_.KwRepeat) h') (follow_second _ _ _ (looks_at (looks_word word_.KwFor) h') (follow_second _ _ _ (looks_at (looks_word word_.KwWith) h') (follow_first _ _ _ (looks_at (looks_word word_.KwTry) h') (follow_token (words word_.KwTry) (accepts_word word_.KwTry) h' (λ _. then_shrinks (stmts_shrinks d end child shrinks inner inner_shrinks) (λ all. then_shrinks (one_shrinks _) (λ u. then_shrinks inner_shrinks (λ y. λ n r k. pure_shrinks _ n r k)))) (λ _ r h.
      follow_then (stmts_followed body (part_first list (word word_.KwRecover & b) _ _ p) (Word word_.KwRecover ∷ spell b rest) (recover_ends _) refl r h) (λ all. then_shrinks (one_shrinks _) (λ u. then_shrinks inner_shrinks (λ y. λ n r k. pure_shrinks _ n r k))) (λ all r h.
      follow_token (words word_.KwRecover) (accepts_word word_.KwRecover) h (λ u. then_shrinks inner_shrinks (λ y. λ n r k. pure_shrinks _ n r k)) (λ _ r h.
      follow_then (inner_good recover follows (part_right (word word_.KwRecover) b (part_second list (word word_.KwRecover & b) _ _ p)) rest ends r h) (λ y. λ n r k. pure_shrinks _ n r k) (λ y r h. follow_pure _ h)))))))))))))))
