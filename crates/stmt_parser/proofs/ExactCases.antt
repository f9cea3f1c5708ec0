-- The statement `case` that is written is read.
use Rattle.std.proofs.Common.{◌≡◌, ℕ, Bool, true, false, ◌&&◌, List, ◌∷◌, map, Option, Some, None, Ok, refl, sym, ap, subst, ◌∙◌, true≢false}
use Rattle.std.specs.Prelude.{IsTrue}
use Rattle.p2c_text.specs.declared.dialect.Dialect.{Dialect}
use Rattle.p2c_text.specs.declared.dialect.Dialect.TheVariants as dialect
use Rattle.p2c_text.specs.declared.place.Span.{Span}
use Rattle.dialect_lexer.specs.Dialects.{is_turbo}
use Rattle.dialect_lexer.specs.declared.token.Word.TheVariants as word_
use Rattle.dialect_lexer.specs.declared.token.Symbol.TheVariants as mark
use Rattle.pascal_tree.specs.declared.expressions.Expr.{Expr}
use Rattle.pascal_tree.specs.declared.statements.Plain.{Plain}
use Rattle.pascal_tree.specs.declared.statements.Plain.TheVariants as plain_
use Rattle.pascal_tree.specs.declared.statements.Arm.{Arm}
use Rattle.pascal_tree.specs.declared.statements.Rest.{Rest, out-Rest}
use Rattle.pascal_tree.specs.declared.statements.Stmt.{Stmt}
use Rattle.token_parsing.specs.Parser.{Parser, and_then, begins}
use Rattle.expr_parser.specs.Tokens.{Token, Placed, Word, Symbol, plain}
use Rattle.expr_parser.specs.Spans.{span_between}
use Rattle.expr_parser.specs.Layout.{Done, ◌&◌, word, symbol, spanned, IsWritten}
use Rattle.expr_parser.specs.Writing.{write_expr}
use Rattle.expr_parser.specs.Classes.{words, symbols, expect_word, same_word, same_symbol}
use Rattle.expr_parser.specs.Dialects.{has_rest}
use Rattle.expr_parser.specs.Places.{made}
use Rattle.expr_parser.specs.Semicolons.{optional_semicolon as write_semicolon, with_semicolons}
use Rattle.expr_parser.proofs.Layouts.{spell, spell_join}
use Rattle.expr_parser.proofs.Followed.{on_first}
use Rattle.expr_parser.proofs.FollowedParts.{and_in, and_out, Part, part_as, part_first, part_second, part_left, part_right, part_inside}
use Rattle.expr_parser.proofs.Lookahead.{looks_name, looks_word, looks_symbol, on_word, on_symbol, on_word_here, says_word, says_symbol}
use Rattle.expr_parser.proofs.Exact.{written_as, written_inside, written_plain, ends_plain, exact_then, exact_part, exact_token, exact_made, exact_first, exact_second, looks_written}
use Rattle.expr_parser.proofs.ExactTerms.{ExprExact}
use Rattle.stmt_parser.specs.Writing.{rest_word, write_arm, write_rest, write_stmt}
use Rattle.stmt_parser.specs.Grammar.{Formed, alone, some_alone, some_up_to, cases, formed_arm, formed_rest, formed_stmt}
use Rattle.stmt_parser.specs.Cases.{optional_semicolon, rest_of, rest_part, begins_rest, optional_rest, case_of}
use Rattle.stmt_parser.specs.Levels.{structured, plain_by}
use Rattle.stmt_parser.proofs.WrittenStatements.{write_rest_part, write_rest_of, write_case_of}
use Rattle.stmt_parser.proofs.FormedStatements.{formed_rest_part, formed_rest_of, formed_case_of}
use Rattle.stmt_parser.proofs.StatementViews.{rest_is}
use Rattle.stmt_parser.proofs.Ends.{StmtEnds, semicolon_ends, end_ends, otherwise_ends, else_ends, of_ends}
use Rattle.stmt_parser.proofs.FollowedArms.{NoArm, other, closing}
use Rattle.stmt_parser.proofs.FollowedCases.{after_arms, Tail}
use Rattle.stmt_parser.proofs.ExactSimple.{exact_between}
use Rattle.stmt_parser.proofs.ExactStatements.{StmtExact, PlainExact, stmts_exact}
use Rattle.stmt_parser.proofs.ExactArms.{no_arm_goes_on, arms_exact}

-- ---- without a matching label

written_rest : (d : Dialect) (r : Rest) → write_rest d r ≡ spanned (out-Rest r).span (word (rest_word d) & with_semicolons (map (write_stmt d) (out-Rest r).body))
written_rest d r = ap (λ y. write_rest d y) (rest_is r) ∙ write_rest_of d (out-Rest r).body (out-Rest r).span

formed_body : (d : Dialect) (r : Rest) → alone (formed_rest d r) ≡ some_alone (map (formed_stmt d) (out-Rest r).body)
formed_body d r = ap (λ y. formed_rest d y false) (rest_is r) ∙ formed_rest_of d (out-Rest r).body (out-Rest r).span false

spelled_rest : (d : Dialect) (r : Rest) (w : List Token) → spell (write_rest d r) w ≡ Word (rest_word d) ∷ spell (with_semicolons (map (write_stmt d) (out-Rest r).body)) w
spelled_rest d r w = ap (λ l. spell l w) (written_rest d r)

-- whether the other part is formed, where there is one
abbrev formed_where_there : Dialect → Option Rest → Bool
formed_where_there d None = true
formed_where_there d (Some r) = has_rest d && alone (formed_rest d r)

no_rest_at_end : (d : Dialect) → (has_rest d && on_word (rest_word d) (Word word_.KwEnd)) ≡ false
unfolding same_word
no_rest_at_end dialect.Iso = refl
no_rest_at_end dialect.Turbo = refl
no_rest_at_end dialect.Ucsd = refl
no_rest_at_end dialect.Hp = refl

-- ---- what follows the arms

module _ (arms : List Formed) where
  at_word : (d : Dialect) (w : List Token) → IsTrue (has_rest d) → IsTrue (some_up_to arms (is_turbo d && true)) → Tail arms (is_turbo d && true) (Word (rest_word d) ∷ w)
  at_word dialect.Iso w has formed = absurd (true≢false (sym has))
  at_word dialect.Turbo w has formed = record { ends = else_ends w; no_arm = other _ w refl; formed = formed }
  at_word dialect.Ucsd w has formed = absurd (true≢false (sym has))
  at_word dialect.Hp w has formed = record { ends = otherwise_ends w; no_arm = other _ w refl; formed = formed }

  at_semicolon : (d : Dialect) (w : List Token) → IsTrue (some_up_to arms (is_turbo d && false)) → Tail arms false (Symbol mark.Semicolon ∷ Word (rest_word d) ∷ w)
  at_semicolon dialect.Iso w formed = record { ends = semicolon_ends _; no_arm = closing _ w refl; formed = formed }
  at_semicolon dialect.Turbo w formed = record { ends = semicolon_ends _; no_arm = closing _ w refl; formed = formed }
  at_semicolon dialect.Ucsd w formed = record { ends = semicolon_ends _; no_arm = closing _ w refl; formed = formed }
  at_semicolon dialect.Hp w formed = record { ends = semicolon_ends _; no_arm = closing _ w refl; formed = formed }

  record Parts (d : Dialect) (closed : Bool) (rest : Option Rest) (w : List Token) : Type 0 where
    follows : Bool
    of_arms : Tail arms follows (after_arms d closed rest w)
    of_rest : IsTrue (formed_where_there d rest)

  parts : (d : Dialect) (closed : Bool) (rest : Option Rest) (w : List Token) → IsTrue (cases d arms closed (formed_rest_part d rest)) → Parts d closed rest w
  parts d true None w formed = record { follows = false; of_arms = record { ends = semicolon_ends _; no_arm = closing _ w refl; formed = formed }; of_rest = refl }
  parts d false None w formed = record { follows = false; of_arms = record { ends = end_ends w; no_arm = other _ w refl; formed = formed }; of_rest = refl }
  parts d true (Some r) w formed =
      let (has_all, of_body) = and_out (has_rest d && some_up_to arms (is_turbo d && false)) (alone (formed_rest d r)) formed in
      let (has, up_to) = and_out (has_rest d) (some_up_to arms (is_turbo d && false)) has_all in
      record { follows = false; of_arms = subst (λ v. Tail arms false (Symbol mark.Semicolon ∷ v)) (sym (spelled_rest d r (Word word_.KwEnd ∷ w))) (at_semicolon d _ up_to); of_rest = and_in (has_rest d) _ has of_body }
  parts d false (Some r) w formed =
      let (has_all, of_body) = and_out (has_rest d && some_up_to arms (is_turbo d && true)) (alone (formed_rest d r)) formed in
      let (has, up_to) = and_out (has_rest d) (some_up_to arms (is_turbo d && true)) has_all in
      record { follows = is_turbo d && true; of_arms = subst (λ v. Tail arms (is_turbo d && true) v) (sym (spelled_rest d r (Word word_.KwEnd ∷ w))) (at_word d _ has up_to); of_rest = and_in (has_rest d) _ has of_body }

-- ---- the statement

semicolon_exact : (end : Span) (closed : Bool) (s r : List Placed) → IsWritten end (write_semicolon closed) s r → on_first (on_symbol mark.Semicolon) (plain r) ≡ false → optional_semicolon s ≡ Ok (closed, r)
unfolding optional_semicolon same_symbol
semicolon_exact end true s r h none =
    exact_first (begins (symbols mark.Semicolon) s) _ _ (looks_written (looks_symbol mark.Semicolon) end (symbol mark.Semicolon) s r h)
    (exact_token _ (symbols mark.Semicolon) (says_symbol mark.Semicolon) end Done s r h (λ m h. ap (λ z. Ok (true, z)) h))
semicolon_exact end false s r h none = exact_second (begins (symbols mark.Semicolon) s) _ _ (looks_written (looks_symbol mark.Semicolon) end Done s r h ∙ none) (ap (λ z. Ok (false, z)) h)

module _ (d : Dialect) (end : Span) (k : ℕ) (inner : Parser Placed Stmt) (inner_good : StmtExact d end k inner) where
  -- up to the word that ends the statement
  rest_exact : (r : Rest) → Part (Unit {0}) k (write_rest d r) (alone (formed_rest d r)) → (s m w : List Placed) → IsWritten end (write_rest d r) s m → IsWritten end (word word_.KwEnd) m w → rest_part d end inner s ≡ Ok (r, m)
  unfolding rest_part
  rest_exact r part s m w h ending =
      let list = with_semicolons (map (write_stmt d) (out-Rest r).body) in let l = word (rest_word d) & list in
      let p = part_right (word (rest_word d)) list (part_inside l (part_as (written_rest d r) (formed_body d r) part)) in
      let (place, inside) = written_inside end (out-Rest r).span l s m (written_as end s m (written_rest d r) h) in
      exact_token _ (words (rest_word d)) (says_word (rest_word d)) end list s m inside (λ n h.
      exact_then _ (stmts_exact d end k inner inner_good (out-Rest r).body p n m h (ends_plain (λ v. StmtEnds false v) end (word word_.KwEnd) m w ending (end_ends _)) (ap (on_first (on_symbol mark.Semicolon)) (written_plain end (word word_.KwEnd) m w ending)))
      (exact_made end (out-Rest r).span (rest_of (out-Rest r).body) s m m refl (rest_is r) place))

  optional_rest_exact : (r : Option Rest) → Part (Unit {0}) k (write_rest_part d r) (formed_where_there d r) → (s m w : List Placed) → IsWritten end (write_rest_part d r) s m → IsWritten end (word word_.KwEnd) m w → optional_rest d end inner s ≡ Ok (r, m)
  unfolding optional_rest
  optional_rest_exact None part s m w h ending =
      exact_second (begins_rest d s) _ _ (ap (begins_rest d) h ∙ ap (λ b. has_rest d && b) (looks_written (looks_word (rest_word d)) end (word word_.KwEnd) m w ending) ∙ no_rest_at_end d) (ap (λ z. Ok (None, z)) h)
  optional_rest_exact (Some r) part s m w h ending =
      let (has, of_body) = and_out (has_rest d) (alone (formed_rest d r)) part.formed in
      let at_word = looks_written (looks_word (rest_word d)) end (write_rest d r) s m h ∙ ap (on_first (on_word (rest_word d))) (spelled_rest d r (plain m)) ∙ on_word_here (rest_word d) in
      exact_first (begins_rest d s) _ _ (and_in (has_rest d) _ has at_word) (exact_then _ (rest_exact r (record { formed = of_body; fits = part.fits }) s m w h ending) refl)

  no_semicolon : (r : Option Rest) (w : List Token) → on_first (on_symbol mark.Semicolon) (spell (write_rest_part d r) (Word word_.KwEnd ∷ w)) ≡ false
  no_semicolon None w = refl
  no_semicolon (Some r) w = ap (on_first (on_symbol mark.Semicolon)) (spelled_rest d r (Word word_.KwEnd ∷ w))

  -- what is read after the arms
  ending_exact : (closed : Bool) (r : Option Rest) → Part (Unit {0}) k (write_rest_part d r) (formed_where_there d r) → (node : Bool → Option Rest → Span → Plain) (span : Span) (from s w : List Placed)
      → IsWritten end (write_semicolon closed & write_rest_part d r & word word_.KwEnd) s w → span ≡ span_between end from w
      → and_then (optional_semicolon s) (λ closed s. and_then (optional_rest d end inner s) (λ r s. and_then (expect_word word_.KwEnd s) (λ _ s. made end from (node closed r) s))) ≡ Ok (node closed r span, w)
  ending_exact closed r part node span from s w h place =
      let others = write_rest_part d r in let close = word word_.KwEnd in
      exact_part _ closed end (write_semicolon closed) (others & close) s w h (λ m left right.
      semicolon_exact end closed s m left (ap (on_first (on_symbol mark.Semicolon)) (written_plain end (others & close) m w right ∙ spell_join others close (plain w)) ∙ no_semicolon r (plain w))) (λ m h.
      exact_part _ r end others close m w h (λ n left right. optional_rest_exact r part m n w left right) (λ n h.
      exact_token _ (words word_.KwEnd) (says_word word_.KwEnd) end Done n w h (λ m h. exact_made end span (node closed r) from m w h refl place)))

module _ (d : Dialect) (end : Span) (k : ℕ) (child : Parser Placed Expr) (good : ExprExact d end k child) (inner : Parser Placed Stmt) (inner_good : StmtExact d end k inner) where
  pub case_exact : (selector : Expr) (arms : List Arm) (closed : Bool) (rest : Option Rest) (span : Span) → PlainExact d end k child good inner inner_good (plain_.Case selector arms closed rest span)
  unfolding plain_by structured case_of same_word
  case_exact selector arms closed r span follows part s w h ends =
      let e = write_expr selector in let list = with_semicolons (map (write_arm d) arms) in let last = write_semicolon closed & write_rest_part d r & word word_.KwEnd in
      let of = word word_.KwOf & list & last in let l = word word_.KwCase & e & of in
      let written = write_case_of d selector arms closed r span in
      let p = part_right (word word_.KwCase) (e & of) (part_inside l (part_as written (formed_case_of d selector arms closed r span follows) part)) in
      let q = part_right (word word_.KwOf) (list & last) (part_second e of _ _ p) in
      let t = parts (map (formed_arm d) arms) d closed r (plain w) q.formed in
      let q_arms : Part (Unit {0}) k list (some_up_to (map (formed_arm d) arms) t.follows) = record { formed = t.of_arms.formed; fits = (part_left list last q).fits } in
      let q_rest : Part (Unit {0}) k (write_rest_part d r) (formed_where_there d r) =
      record { formed = t.of_rest; fits = (part_left (write_rest_part d r) (word word_.KwEnd) (part_right (write_semicolon closed) (write_rest_part d r & word word_.KwEnd) (part_right list last q))).fits } in
      let spelled = spell_join (write_semicolon closed) (write_rest_part d r & word word_.KwEnd) (plain w) ∙ ap (λ v. spell (write_semicolon closed) v) (spell_join (write_rest_part d r) (word word_.KwEnd) (plain w)) in
      let (place, inside) = written_inside end span l s w (written_as end s w written h) in
      exact_second _ _ _ (looks_written looks_name end l s w inside) (exact_second _ _ _ (looks_written (looks_word word_.KwGoto) end l s w inside)
      (exact_second _ _ _ (looks_written (looks_word word_.KwBegin) end l s w inside) (exact_second _ _ _ (looks_written (looks_word word_.KwIf) end l s w inside)
      (exact_first _ _ _ (looks_written (looks_word word_.KwCase) end l s w inside)
      (exact_between d end k child good _ word_.KwCase word_.KwOf selector (part_first e of _ _ p) of_ends (list & last) s w inside (λ m h.
      exact_part _ arms end list last m w h (λ n left right.
      let after : plain n ≡ after_arms d closed r (plain w) = written_plain end last n w right ∙ spelled in
      arms_exact d end k inner inner_good t.follows arms q_arms m n left (subst (λ v. StmtEnds t.follows v) (sym after) t.of_arms.ends) (no_arm_goes_on (plain n) (subst NoArm (sym after) t.of_arms.no_arm))) (λ n h.
      ending_exact d end k inner inner_good closed r q_rest (plain_.Case selector arms) span s n w h place)))))))
