-- Statements that are written are read.
use Rattle.std.proofs.Common.{◌≡◌, ℕ, Bool, true, false, ◌&&◌, List, [], ◌∷◌, map, Option, Some, None, Ok, refl, ap, ◌∙◌}
use Rattle.std.proofs.lemmas.Simd.{map-map}
use Rattle.p2c_text.specs.declared.dialect.Dialect.{Dialect}
use Rattle.p2c_text.specs.declared.place.Span.{Span}
use Rattle.dialect_lexer.specs.declared.token.Word.TheVariants as word_
use Rattle.dialect_lexer.specs.declared.token.Symbol.TheVariants as mark
use Rattle.pascal_tree.specs.declared.names.Identifier.{Identifier}
use Rattle.pascal_tree.specs.declared.names.Label.{Label}
use Rattle.pascal_tree.specs.declared.expressions.Args.{Args}
use Rattle.pascal_tree.specs.declared.expressions.Expr.{Expr}
use Rattle.pascal_tree.specs.declared.expressions.Place.{Place, out-Place}
use Rattle.pascal_tree.specs.declared.statements.Direction.{Direction}
use Rattle.pascal_tree.specs.declared.statements.Plain.{Plain}
use Rattle.pascal_tree.specs.declared.statements.Plain.TheVariants as plain_
use Rattle.pascal_tree.specs.declared.statements.Stmt.{Stmt}
use Rattle.token_parsing.specs.Parser.{Parser, and_then}
use Rattle.expr_parser.specs.Tokens.{Placed, plain}
use Rattle.expr_parser.specs.Spans.{span_between}
use Rattle.expr_parser.specs.Layout.{Done, ◌&◌, word, symbol, in_row, with_commas, IsWritten}
use Rattle.expr_parser.specs.Writing.{identifier, write_expr, write_place, write_selector}
use Rattle.expr_parser.specs.Grammar.{some_all, formed_expr}
use Rattle.expr_parser.specs.Classes.{words, same_word}
use Rattle.expr_parser.specs.Places.{made}
use Rattle.expr_parser.specs.ConstantNodes.{write_label}
use Rattle.expr_parser.specs.Semicolons.{with_semicolons}
use Rattle.expr_parser.proofs.Spelled.{place_written}
use Rattle.expr_parser.proofs.Followed.{on_first}
use Rattle.expr_parser.proofs.FollowedParts.{Part, part_as, part_first, part_second, part_left, part_right, part_inside}
use Rattle.expr_parser.proofs.Lookahead.{looks_name, looks_word, on_selector, on_symbol, says_word}
use Rattle.expr_parser.proofs.Exact.{written_as, written_split, written_inside, written_plain, ends_plain, exact_then, exact_part, exact_token, exact_name, exact_made, exact_first, exact_second, looks_written}
use Rattle.expr_parser.proofs.ExactLists.{semicolons_exact}
use Rattle.expr_parser.proofs.ExactTerms.{ExprExact}
use Rattle.expr_parser.proofs.ExactConstants.{label_exact}
use Rattle.stmt_parser.specs.Writing.{optional_args, direction_word, write_plain, write_stmt}
use Rattle.stmt_parser.specs.Grammar.{alone, some_alone, branches, formed_plain, formed_stmt}
use Rattle.stmt_parser.specs.Statements.{next_stmt, more_stmts, stmts, nothing, goto, named, compound, optional_else, conditional, while_loop, repeat_loop, for_loop, with_places, try_block}
use Rattle.stmt_parser.specs.Levels.{structured, plain_by}
use Rattle.stmt_parser.proofs.WrittenStatements.{write_else, write_nothing_of, write_assign_of, write_call_of, write_goto_of, write_compound_of, write_if_of, write_while_of, write_repeat_of, write_for_of, write_with_of, write_try_of}
use Rattle.stmt_parser.proofs.FormedStatements.{formed_else, formed_assign_of, formed_call_of, formed_goto_of, formed_compound_of, formed_if_of, formed_while_of, formed_repeat_of, formed_for_of, formed_with_of, formed_try_of}
use Rattle.stmt_parser.proofs.Ends.{StmtEnds, semicolon_ends, end_ends, until_ends, recover_ends, else_ends, then_ends, do_ends}
use Rattle.stmt_parser.proofs.ExactSimple.{exact_between, exact_limits, places_exact, assignment_exact, call_exact}

and_right : (x y z : Bool) → (x && y && z) ≡ (x && (y && z))
and_right true y z = refl
and_right false y z = refl

module _ (d : Dialect) (end : Span) (k : ℕ) where
  abbrev pub StmtExact : Parser Placed Stmt → Type 0
  StmtExact p = (x : Stmt) (follows : Bool) → Part (Unit {0}) k (write_stmt d x) (formed_stmt d x follows) → (s r : List Placed) → IsWritten end (write_stmt d x) s r → StmtEnds follows (plain r) → p s ≡ Ok (x, r)

module _ (d : Dialect) (end : Span) (k : ℕ) (inner : Parser Placed Stmt) (inner_good : StmtExact d end k inner) where
  -- statements in a row
  pub stmts_exact : (xs : List Stmt) → Part (Unit {0}) k (with_semicolons (map (write_stmt d) xs)) (some_alone (map (formed_stmt d) xs)) → (s r : List Placed) → IsWritten end (with_semicolons (map (write_stmt d) xs)) s r
      → StmtEnds false (plain r) → on_first (on_symbol mark.Semicolon) (plain r) ≡ false → stmts inner s ≡ Ok (xs, r)
  unfolding stmts more_stmts next_stmt
  stmts_exact [] part s r h ends closed = let none = part.formed in absurd cc
  stmts_exact (x ∷ xs) part s r h ends closed =
      semicolons_exact end k (write_stmt d) (λ y. alone (formed_stmt d y)) inner (λ w. StmtEnds false w) semicolon_ends (λ y p s r h ends. inner_good y false p s r h ends) x xs
      (part_as refl (ap some_all (map-map alone (formed_stmt d) (x ∷ xs))) part) s r h ends closed

module _ (d : Dialect) (end : Span) (k : ℕ) (child : Parser Placed Expr) (good : ExprExact d end k child) (inner : Parser Placed Stmt) (inner_good : StmtExact d end k inner) where
  abbrev pub PlainExact : Plain → Type 0
  PlainExact x = (follows : Bool) → Part (Unit {0}) k (write_plain d x) (formed_plain d x follows) → (s r : List Placed) → IsWritten end (write_plain d x) s r → StmtEnds follows (plain r) → plain_by d end child inner s ≡ Ok (x, r)

  pub nothing_exact : (span : Span) → PlainExact (plain_.Nothing span)
  unfolding plain_by structured nothing
  nothing_exact span follows part s r h ends =
      let (place, inside) = written_inside end span Done s r (written_as end s r (write_nothing_of d span) h) in let w = ends.no_words in
      exact_second _ _ _ (looks_written looks_name end Done s r inside ∙ ends.name) (exact_second _ _ _ (looks_written (looks_word word_.KwGoto) end Done s r inside ∙ w.no_goto)
      (exact_second _ _ _ (looks_written (looks_word word_.KwBegin) end Done s r inside ∙ w.no_begin) (exact_second _ _ _ (looks_written (looks_word word_.KwIf) end Done s r inside ∙ w.no_if)
      (exact_second _ _ _ (looks_written (looks_word word_.KwCase) end Done s r inside ∙ w.no_case) (exact_second _ _ _ (looks_written (looks_word word_.KwWhile) end Done s r inside ∙ w.no_while)
      (exact_second _ _ _ (looks_written (looks_word word_.KwRepeat) end Done s r inside ∙ w.no_repeat) (exact_second _ _ _ (looks_written (looks_word word_.KwFor) end Done s r inside ∙ w.no_for)
      (exact_second _ _ _ (looks_written (looks_word word_.KwWith) end Done s r inside ∙ w.no_with) (exact_second _ _ _ (looks_written (looks_word word_.KwTry) end Done s r inside ∙ w.no_try)
      (exact_made end span plain_.Nothing s s r inside refl place))))))))))

  pub assign_exact : (target : Place) (value : Expr) (span : Span) → PlainExact (plain_.Assign target value span)
  unfolding plain_by named
  assign_exact target value span follows part s r h ends =
      let t = write_place target in let v = symbol mark.Assign & write_expr value in
      let row = in_row (map write_selector (out-Place target).selectors) in let name = (out-Place target).name in
      let written = write_assign_of d target value span in
      let p = part_inside (t & v) (part_as written (formed_assign_of d target value span follows) part) in
      let (place, inside) = written_inside end span (t & v) s r (written_as end s r written h) in
      let (m, left, right) = written_split end t v s r inside in
      let (target_place, of_target) = written_inside end (out-Place target).span (identifier name & row) s m (written_as end s m (place_written target) left) in
      exact_first _ _ _ (looks_written looks_name end (identifier name & row) s m of_target) (exact_name _ name end row s m of_target (λ n h.
      assignment_exact d end k child good target value span (part_first t v _ _ p) (part_right (symbol mark.Assign) (write_expr value) (part_second t v _ _ p)) s n m r h right target_place place ends.expr))

  pub call_statement_exact : (name : Identifier) (args : Option Args) (span : Span) → PlainExact (plain_.Call name args span)
  unfolding plain_by named
  call_statement_exact name args span follows part s r h ends =
      let l = identifier name & optional_args args in
      let written = write_call_of d name args span in
      let p = part_right (identifier name) (optional_args args) (part_inside l (part_as written (formed_call_of d name args span follows) part)) in
      let (place, inside) = written_inside end span l s r (written_as end s r written h) in
      exact_first _ _ _ (looks_written looks_name end l s r inside) (exact_name _ name end (optional_args args) s r inside (λ m h. call_exact d end k child good name args span p s m r h place ends.expr ends.assign))

  pub goto_exact : (label : Label) (span : Span) → PlainExact (plain_.Goto label span)
  unfolding plain_by goto same_word
  goto_exact label span follows part s r h ends =
      let l = word word_.KwGoto & write_label label in
      let written = write_goto_of d label span in
      let p = part_as written (formed_goto_of d label span follows) part in
      let (place, inside) = written_inside end span l s r (written_as end s r written h) in
      exact_second _ _ _ (looks_written looks_name end l s r inside) (exact_first _ _ _ (looks_written (looks_word word_.KwGoto) end l s r inside)
      (exact_token _ (words word_.KwGoto) (says_word word_.KwGoto) end (write_label label) s r inside (λ m h.
      exact_then _ (label_exact d end label p.formed m r h) (exact_made end span (plain_.Goto label) s r r refl refl place))))

  pub compound_exact : (body : List Stmt) (span : Span) → PlainExact (plain_.Compound body span)
  unfolding plain_by structured compound same_word
  compound_exact body span follows part s r h ends =
      let list = with_semicolons (map (write_stmt d) body) in let close = word word_.KwEnd in let l = word word_.KwBegin & list & close in
      let written = write_compound_of d body span in
      let p = part_left list close (part_right (word word_.KwBegin) (list & close) (part_inside l (part_as written (formed_compound_of d body span follows) part))) in
      let (place, inside) = written_inside end span l s r (written_as end s r written h) in
      exact_second _ _ _ (looks_written looks_name end l s r inside) (exact_second _ _ _ (looks_written (looks_word word_.KwGoto) end l s r inside)
      (exact_first _ _ _ (looks_written (looks_word word_.KwBegin) end l s r inside)
      (exact_token _ (words word_.KwBegin) (says_word word_.KwBegin) end (list & close) s r inside (λ m h.
      exact_part _ body end list close m r h (λ m' left right. stmts_exact d end k inner inner_good body p m m' left (ends_plain (λ w. StmtEnds false w) end close m' r right (end_ends _)) (ap (on_first (on_symbol mark.Semicolon)) (written_plain end close m' r right))) (λ m h.
      exact_token _ (words word_.KwEnd) (says_word word_.KwEnd) end Done m r h (λ m h. exact_made end span (plain_.Compound body) s m r h refl place))))))

  -- the `then` part and the `else` part
  branches_exact : (then_part : Stmt) (else_part : Option Stmt) (follows : Bool) → Part (Unit {0}) k (write_stmt d then_part & write_else d else_part) (branches (formed_stmt d then_part) (formed_else d else_part) follows)
      → {B : Type 0} (node : Stmt → Option Stmt → Span → B) (span : Span) (from s r : List Placed) → IsWritten end (write_stmt d then_part & write_else d else_part) s r → StmtEnds follows (plain r) → span ≡ span_between end from r
      → and_then (inner s) (λ a s. and_then (optional_else inner s) (λ b s. made end from (node a b) s)) ≡ Ok (node then_part else_part span, r)
  unfolding optional_else same_word
  branches_exact then_part None true part node span from s r h ends place = let none = part.formed in absurd cc
  branches_exact then_part None false part node span from s r h ends place =
      let t = write_stmt d then_part in
      exact_part _ then_part end t Done s r h (λ m left right. inner_good then_part false (part_left t Done part) s m left (ends_plain (λ w. StmtEnds false w) end Done m r right ends)) (λ m h.
      exact_then _ (exact_second _ _ _ (looks_written (looks_word word_.KwElse) end Done m r h ∙ ends.on_else) (ap (λ z. Ok (None, z)) h)) (exact_made end span (node then_part None) from r r refl refl place))
  branches_exact then_part (Some else_part) follows part node span from s r h ends place =
      let t = write_stmt d then_part in let e = word word_.KwElse & write_stmt d else_part in
      exact_part _ then_part end t e s r h (λ m left right. inner_good then_part true (part_first t e _ _ part) s m left (ends_plain (λ w. StmtEnds true w) end e m r right (else_ends _))) (λ m h.
      exact_then _ (exact_first _ _ _ (looks_written (looks_word word_.KwElse) end e m r h) (exact_token _ (words word_.KwElse) (says_word word_.KwElse) end (write_stmt d else_part) m r h (λ m h.
      exact_then _ (inner_good else_part follows (part_right (word word_.KwElse) (write_stmt d else_part) (part_second t e _ _ part)) m r h ends) refl)))
      (exact_made end span (node then_part (Some else_part)) from r r refl refl place))

  pub conditional_exact : (condition : Expr) (then_part : Stmt) (else_part : Option Stmt) (span : Span) → PlainExact (plain_.If condition then_part else_part span)
  unfolding plain_by structured conditional same_word
  conditional_exact condition then_part else_part span follows part s r h ends =
      let c = write_expr condition in let parts = write_stmt d then_part & write_else d else_part in let branch = word word_.KwThen & parts in let l = word word_.KwIf & c & branch in
      let written = write_if_of d condition then_part else_part span in
      let p = part_right (word word_.KwIf) (c & branch) (part_inside l (part_as written (formed_if_of d condition then_part else_part span follows) part)) in
      let (place, inside) = written_inside end span l s r (written_as end s r written h) in
      exact_second _ _ _ (looks_written looks_name end l s r inside) (exact_second _ _ _ (looks_written (looks_word word_.KwGoto) end l s r inside)
      (exact_second _ _ _ (looks_written (looks_word word_.KwBegin) end l s r inside) (exact_first _ _ _ (looks_written (looks_word word_.KwIf) end l s r inside)
      (exact_between d end k child good _ word_.KwIf word_.KwThen condition (part_first c branch _ _ p) then_ends parts s r inside (λ m h.
      branches_exact then_part else_part follows (part_right (word word_.KwThen) parts (part_second c branch _ _ p)) (plain_.If condition) span s m r h ends place)))))

  pub while_exact : (condition : Expr) (body : Stmt) (span : Span) → PlainExact (plain_.While condition body span)
  unfolding plain_by structured while_loop same_word
  while_exact condition body span follows part s r h ends =
      let c = write_expr condition in let b = write_stmt d body in let doing = word word_.KwDo & b in let l = word word_.KwWhile & c & doing in
      let written = write_while_of d condition body span in
      let p = part_right (word word_.KwWhile) (c & doing) (part_inside l (part_as written (formed_while_of d condition body span follows) part)) in
      let (place, inside) = written_inside end span l s r (written_as end s r written h) in
      exact_second _ _ _ (looks_written looks_name end l s r inside) (exact_second _ _ _ (looks_written (looks_word word_.KwGoto) end l s r inside)
      (exact_second _ _ _ (looks_written (looks_word word_.KwBegin) end l s r inside) (exact_second _ _ _ (looks_written (looks_word word_.KwIf) end l s r inside)
      (exact_second _ _ _ (looks_written (looks_word word_.KwCase) end l s r inside) (exact_first _ _ _ (looks_written (looks_word word_.KwWhile) end l s r inside)
      (exact_between d end k child good _ word_.KwWhile word_.KwDo condition (part_first c doing _ _ p) do_ends b s r inside (λ m h.
      exact_then _ (inner_good body follows (part_right (word word_.KwDo) b (part_second c doing _ _ p)) m r h ends) (exact_made end span (plain_.While condition body) s r r refl refl place))))))))

  pub repeat_exact : (body : List Stmt) (until : Expr) (span : Span) → PlainExact (plain_.Repeat body until span)
  unfolding plain_by structured repeat_loop same_word
  repeat_exact body until span follows part s r h ends =
      let list = with_semicolons (map (write_stmt d) body) in let u = write_expr until in let last = word word_.KwUntil & u in let l = word word_.KwRepeat & list & last in
      let written = write_repeat_of d body until span in
      let p = part_right (word word_.KwRepeat) (list & last) (part_inside l (part_as written (formed_repeat_of d body until span follows) part)) in
      let (place, inside) = written_inside end span l s r (written_as end s r written h) in
      exact_second _ _ _ (looks_written looks_name end l s r inside) (exact_second _ _ _ (looks_written (looks_word word_.KwGoto) end l s r inside)
      (exact_second _ _ _ (looks_written (looks_word word_.KwBegin) end l s r inside) (exact_second _ _ _ (looks_written (looks_word word_.KwIf) end l s r inside)
      (exact_second _ _ _ (looks_written (looks_word word_.KwCase) end l s r inside) (exact_second _ _ _ (looks_written (looks_word word_.KwWhile) end l s r inside)
      (exact_first _ _ _ (looks_written (looks_word word_.KwRepeat) end l s r inside)
      (exact_token _ (words word_.KwRepeat) (says_word word_.KwRepeat) end (list & last) s r inside (λ m h.
      exact_part _ body end list last m r h (λ m' left right.
      stmts_exact d end k inner inner_good body (part_first list last _ _ p) m m' left (ends_plain (λ w. StmtEnds false w) end last m' r right (until_ends _)) (ap (on_first (on_symbol mark.Semicolon)) (written_plain end last m' r right))) (λ m h.
      exact_token _ (words word_.KwUntil) (says_word word_.KwUntil) end u m r h (λ m h.
      exact_then _ (good until (part_right (word word_.KwUntil) u (part_second list last _ _ p)) m r h ends.expr) (exact_made end span (plain_.Repeat body until) s r r refl refl place)))))))))))

  pub for_exact : (variable : Identifier) (first : Expr) (direction : Direction) (last : Expr) (body : Stmt) (span : Span) → PlainExact (plain_.For variable first direction last body span)
  unfolding plain_by structured for_loop same_word
  for_exact variable first direction last body span follows part s r h ends =
      let a = write_expr first in let z = write_expr last in let b = write_stmt d body in let way = word (direction_word direction) in let doing = word word_.KwDo & b in
      let limits = symbol mark.Assign & a & way & z & doing in let name = identifier variable & limits in let l = word word_.KwFor & name in
      let written = write_for_of d variable first direction last body span in
      let formed = formed_for_of d variable first direction last body span follows ∙ and_right (formed_expr d first) (formed_expr d last) (formed_stmt d body follows) in
      let p : Part (Unit {0}) k (a & way & z & doing) (formed_expr d first && (formed_expr d last && formed_stmt d body follows)) =
      part_right (symbol mark.Assign) (a & way & z & doing) (part_right (identifier variable) limits (part_right (word word_.KwFor) name (part_inside l (part_as written formed part)))) in
      let q : Part (Unit {0}) k (z & doing) (formed_expr d last && formed_stmt d body follows) = part_right way (z & doing) (part_second a (way & z & doing) _ _ p) in
      let (place, inside) = written_inside end span l s r (written_as end s r written h) in
      exact_second _ _ _ (looks_written looks_name end l s r inside) (exact_second _ _ _ (looks_written (looks_word word_.KwGoto) end l s r inside)
      (exact_second _ _ _ (looks_written (looks_word word_.KwBegin) end l s r inside) (exact_second _ _ _ (looks_written (looks_word word_.KwIf) end l s r inside)
      (exact_second _ _ _ (looks_written (looks_word word_.KwCase) end l s r inside) (exact_second _ _ _ (looks_written (looks_word word_.KwWhile) end l s r inside)
      (exact_second _ _ _ (looks_written (looks_word word_.KwRepeat) end l s r inside) (exact_first _ _ _ (looks_written (looks_word word_.KwFor) end l s r inside)
      (exact_token _ (words word_.KwFor) (says_word word_.KwFor) end name s r inside (λ m h. exact_name _ variable end limits m r h (λ m h.
      exact_limits d end k child good _ first last direction (part_first a (way & z & doing) _ _ p) (part_first z doing _ _ q) b m r h (λ m h.
      exact_then _ (inner_good body follows (part_right (word word_.KwDo) b (part_second z doing _ _ q)) m r h ends) (exact_made end span (plain_.For variable first direction last body) s r r refl refl place))))))))))))

  pub with_exact : (places : List Place) (body : Stmt) (span : Span) → PlainExact (plain_.With places body span)
  unfolding plain_by structured with_places same_word
  with_exact places body span follows part s r h ends =
      let list = with_commas (map write_place places) in let b = write_stmt d body in let doing = word word_.KwDo & b in let l = word word_.KwWith & list & doing in
      let written = write_with_of d places body span in
      let p = part_right (word word_.KwWith) (list & doing) (part_inside l (part_as written (formed_with_of d places body span follows) part)) in
      let (place, inside) = written_inside end span l s r (written_as end s r written h) in
      exact_second _ _ _ (looks_written looks_name end l s r inside) (exact_second _ _ _ (looks_written (looks_word word_.KwGoto) end l s r inside)
      (exact_second _ _ _ (looks_written (looks_word word_.KwBegin) end l s r inside) (exact_second _ _ _ (looks_written (looks_word word_.KwIf) end l s r inside)
      (exact_second _ _ _ (looks_written (looks_word word_.KwCase) end l s r inside) (exact_second _ _ _ (looks_written (looks_word word_.KwWhile) end l s r inside)
      (exact_second _ _ _ (looks_written (looks_word word_.KwRepeat) end l s r inside) (exact_second _ _ _ (looks_written (looks_word word_.KwFor) end l s r inside)
      (exact_first _ _ _ (looks_written (looks_word word_.KwWith) end l s r inside)
      (exact_token _ (words word_.KwWith) (says_word word_.KwWith) end (list & doing) s r inside (λ m h.
      exact_part _ places end list doing m r h (λ m' left right.
      places_exact d end k child good places (part_first list doing _ _ p) m m' left (ap (on_first on_selector) (written_plain end doing m' r right)) (ap (on_first (on_symbol mark.Comma)) (written_plain end doing m' r right))) (λ m h.
      exact_token _ (words word_.KwDo) (says_word word_.KwDo) end b m r h (λ m h.
      exact_then _ (inner_good body follows (part_right (word word_.KwDo) b (part_second list doing _ _ p)) m r h ends) (exact_made end span (plain_.With places body) s r r refl refl place)))))))))))))

  pub try_exact : (body : List Stmt) (recover : Stmt) (span : Span) → PlainExact (plain_.Try body recover span)
  unfolding plain_by structured try_block same_word
  try_exact body recover span follows part s r h ends =
      let list = with_semicolons (map (write_stmt d) body) in let b = write_stmt d recover in let last = word word_.KwRecover & b in let l = word word_.KwTry & list & last in
      let written = write_try_of d body recover span in
      let p = part_right (word word_.KwTry) (list & last) (part_inside l (part_as written (formed_try_of d body recover span follows) part)) in
      let (place, inside) = written_inside end span l s r (written_as end s r written h) in
      exact_second _ _ _ (looks_written looks_name end l s r inside) (exact_second _ _ _ (looks_written (looks_word word_.KwGoto) end l s r inside)
      (exact_second _ _ _ (looks_written (looks_word word_.KwBegin) end l s r inside) (exact_second _ _ _ (looks_written (looks_word word_.KwIf) end l s r inside)
      (exact_second _ _ _ (looks_written (looks_word word_.KwCase) end l s r inside) (exact_second _ _ _ (looks_written (looks_word word_.KwWhile) end l s r inside)
      (exact_second _ _ _ (looks_written (looks_word word_.KwRepeat) end l s r inside) (exact_second _ _ _ (looks_written (looks_word word_.KwFor) end l s r inside)
      (exact_second _ _ _ (looks_written (looks_word word_.KwWith) end l s r inside) (exact_first _ _ _ (looks_written (looks_word word_.KwTry) end l s r inside)
      (exact_token _ (words word_.KwTry) (says_word word_.KwTry) end (list & last) s r inside (λ m h.
      exact_part _ body end list last m r h (λ m' left right.
      stmts_exact d end k inner inner_good body (part_first list last _ _ p) m m' left (ends_plain (λ w. StmtEnds false w) end last m' r right (recover_ends _)) (ap (on_first (on_symbol mark.Semicolon)) (written_plain end last m' r right))) (λ m h.
      exact_token _ (words word_.KwRecover) (says_word word_.KwRecover) end b m r h (λ m h.
      exact_then _ (inner_good recover follows (part_right (word word_.KwRecover) b (part_second list last _ _ p)) m r h ends) (exact_made end span (plain_.Try body recover) s r r refl refl place))))))))))))))
