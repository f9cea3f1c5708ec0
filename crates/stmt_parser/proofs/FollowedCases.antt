-- The statement `case` of a text is followed.
use Rattle.std.proofs.Common.{◌≡◌, ℕ, Bool, true, false, ◌&&◌, not, List, ◌∷◌, length, map, Option, Some, None, Ok, refl, sym, ap, subst, ◌∙◌, true≢false}
use Rattle.std.specs.Prelude.{IsTrue}
use Rattle.p2c_text.specs.declared.dialect.Dialect.{Dialect}
use Rattle.p2c_text.specs.declared.dialect.Dialect.TheVariants as dialect
use Rattle.p2c_text.specs.declared.place.Span.{Span}
use Rattle.dialect_lexer.specs.Dialects.{is_turbo}
use Rattle.dialect_lexer.specs.declared.token.Word.TheVariants as word_
use Rattle.dialect_lexer.specs.declared.token.Symbol.TheVariants as mark
use Rattle.pascal_tree.specs.declared.expressions.Expr.{Expr}
use Rattle.pascal_tree.specs.declared.statements.Plain.{Plain}
use Rattle.pascal_tree.specs.declared.statements.Plain.TheVariants as plain_
use Rattle.pascal_tree.specs.declared.statements.Arm.{Arm}
use Rattle.pascal_tree.specs.declared.statements.Rest.{Rest, out-Rest}
use Rattle.pascal_tree.specs.declared.statements.Stmt.{Stmt}
use Rattle.token_parsing.specs.Parser.{Parser, and_then, begins}
use Rattle.token_parsing.proofs.Tracked.{Shorter, Shrinks, short_then, one_shrinks, then_shrinks, pure_shrinks}
use Rattle.expr_parser.specs.Tokens.{Token, Placed, Word, Symbol}
use Rattle.expr_parser.specs.Layout.{◌&◌, word, spanned}
use Rattle.expr_parser.specs.Writing.{write_expr}
use Rattle.expr_parser.specs.Classes.{words, symbols, expect, expect_word, same_word, same_symbol}
use Rattle.expr_parser.specs.Places.{made}
use Rattle.expr_parser.proofs.Layouts.{spell, spell_join}
use Rattle.expr_parser.proofs.Followed.{Until, Along, Followed, Begun, Looks, follow_then, follow_pure, follow_token, follow_first, follow_second, begun_token, looks_at}
use Rattle.expr_parser.proofs.FollowedParts.{and_out, Part, part_as, part_first, part_second, part_right, part_left, part_inside, along_as, ExprFollowed, and_in}
use Rattle.expr_parser.proofs.Lookahead.{looks_name, looks_word, looks_symbol, on_word, on_word_here, accepts_word, accepts_symbol}
use Rattle.expr_parser.specs.Dialects.{has_rest}
use Rattle.expr_parser.specs.Semicolons.{optional_semicolon as write_semicolon, with_semicolons}
use Rattle.stmt_parser.specs.Writing.{rest_word, write_arm, write_rest, write_stmt}
use Rattle.stmt_parser.specs.Grammar.{Formed, alone, some_alone, some_up_to, cases, formed_arm, formed_rest, formed_stmt}
use Rattle.stmt_parser.specs.Cases.{optional_semicolon, rest_part, begins_rest, optional_rest, case_of}
use Rattle.stmt_parser.specs.Levels.{structured, plain_by}
use Rattle.stmt_parser.proofs.WrittenStatements.{write_rest_part, write_rest_of, write_case_of}
use Rattle.stmt_parser.proofs.FormedStatements.{formed_rest_part, formed_rest_of, formed_case_of}
use Rattle.stmt_parser.proofs.StatementViews.{rest_is}
use Rattle.stmt_parser.proofs.Shrinks.{stmts_shrinks, arms_shrinks, semicolon_shrinks, optional_rest_shrinks}
use Rattle.stmt_parser.proofs.Ends.{StmtEnds, semicolon_ends, end_ends, otherwise_ends, else_ends, of_ends}
use Rattle.stmt_parser.proofs.FollowedStatements.{StmtFollowed, PlainRead, stmts_followed}
use Rattle.stmt_parser.proofs.FollowedSimple.{between_followed}
use Rattle.stmt_parser.proofs.FollowedArms.{NoArm, other, closing, arms_followed}

-- ---- what follows the arms

abbrev pub after_arms : Dialect → Bool → Option Rest → List Token → List Token
after_arms d closed rest w = spell (write_semicolon closed) (spell (write_rest_part d rest) (Word word_.KwEnd ∷ w))

rest_written : (d : Dialect) (r : Rest) → write_rest d r ≡ spanned (out-Rest r).span (word (rest_word d) & with_semicolons (map (write_stmt d) (out-Rest r).body))
rest_written d r = ap (λ y. write_rest d y) (rest_is r) ∙ write_rest_of d (out-Rest r).body (out-Rest r).span

rest_formed : (d : Dialect) (r : Rest) → alone (formed_rest d r) ≡ some_alone (map (formed_stmt d) (out-Rest r).body)
rest_formed d r = ap (λ y. formed_rest d y false) (rest_is r) ∙ formed_rest_of d (out-Rest r).body (out-Rest r).span false

rest_spelled : (d : Dialect) (r : Rest) (w : List Token) → spell (write_rest d r) w ≡ Word (rest_word d) ∷ spell (with_semicolons (map (write_stmt d) (out-Rest r).body)) w
rest_spelled d r w = ap (λ l. spell l w) (rest_written d r)

-- the word of the other part is there only in Turbo and HP, and an `else` only in Turbo
module _ (arms : List Formed) where
  pub record Tail (follows : Bool) (w : List Token) : Type 0 where
    pub ends : StmtEnds follows w
    pub no_arm : NoArm w
    pub formed : IsTrue (some_up_to arms follows)

  word_tail : (d : Dialect) (w : List Token) → IsTrue (has_rest d) → IsTrue (some_up_to arms (is_turbo d && true)) → Tail (is_turbo d && true) (Word (rest_word d) ∷ w)
  word_tail dialect.Iso w has formed = absurd (true≢false (sym has))
  word_tail dialect.Turbo w has formed = record { ends = else_ends w; no_arm = other _ w refl; formed = formed }
  word_tail dialect.Ucsd w has formed = absurd (true≢false (sym has))
  word_tail dialect.Hp w has formed = record { ends = otherwise_ends w; no_arm = other _ w refl; formed = formed }

  never : (d : Dialect) → (is_turbo d && false) ≡ false
  never dialect.Iso = refl
  never dialect.Turbo = refl
  never dialect.Ucsd = refl
  never dialect.Hp = refl

  closed_tail : (d : Dialect) (w : List Token) → IsTrue (some_up_to arms false) → Tail false (Symbol mark.Semicolon ∷ Word (rest_word d) ∷ w)
  closed_tail dialect.Iso w formed = record { ends = semicolon_ends _; no_arm = closing _ w refl; formed = formed }
  closed_tail dialect.Turbo w formed = record { ends = semicolon_ends _; no_arm = closing _ w refl; formed = formed }
  closed_tail dialect.Ucsd w formed = record { ends = semicolon_ends _; no_arm = closing _ w refl; formed = formed }
  closed_tail dialect.Hp w formed = record { ends = semicolon_ends _; no_arm = closing _ w refl; formed = formed }

  tail : (d : Dialect) (closed : Bool) (rest : Option Rest) (w : List Token) → IsTrue (cases d arms closed (formed_rest_part d rest)) → (follows : Bool) × Tail follows (after_arms d closed rest w)
  tail d true None w formed = (false, record { ends = semicolon_ends _; no_arm = closing _ w refl; formed = formed })
  tail d false None w formed = (false, record { ends = end_ends w; no_arm = other _ w refl; formed = formed })
  tail d true (Some r) w formed =
      let both = and_out (has_rest d && some_up_to arms (is_turbo d && false)) (alone (formed_rest d r)) formed in
      let up_to = and_out (has_rest d) (some_up_to arms (is_turbo d && false)) both.0 in
      (false, subst (λ v. Tail false (Symbol mark.Semicolon ∷ v)) (sym (rest_spelled d r (Word word_.KwEnd ∷ w))) (closed_tail d _ (subst (λ b. IsTrue (some_up_to arms b)) (never d) up_to.1)))
  tail d false (Some r) w formed =
      let both = and_out (has_rest d && some_up_to arms (is_turbo d && true)) (alone (formed_rest d r)) formed in
      let up_to = and_out (has_rest d) (some_up_to arms (is_turbo d && true)) both.0 in
      (is_turbo d && true, subst (λ v. Tail (is_turbo d && true) v) (sym (rest_spelled d r (Word word_.KwEnd ∷ w))) (word_tail d _ up_to.0 up_to.1))

-- ---- tests

no_rest_at_end : (d : Dialect) → (has_rest d && on_word (rest_word d) (Word word_.KwEnd)) ≡ false
unfolding same_word
no_rest_at_end dialect.Iso = refl
no_rest_at_end dialect.Turbo = refl
no_rest_at_end dialect.Ucsd = refl
no_rest_at_end dialect.Hp = refl

no_rest : (d : Dialect) → (has_rest d && false) ≡ false
no_rest dialect.Iso = refl
no_rest dialect.Turbo = refl
no_rest dialect.Ucsd = refl
no_rest dialect.Hp = refl

looks_rest : (d : Dialect) → Looks (begins_rest d) (λ x. has_rest d && on_word (rest_word d) x)
looks_rest d = record { none = ap (λ b. has_rest d && b) (looks_word (rest_word d)).none ∙ no_rest d; some = λ t s. ap (λ b. has_rest d && b) ((looks_word (rest_word d)).some t s) }

-- whether the other part is formed, where there is one
abbrev rest_is_formed : Dialect → Option Rest → Bool
rest_is_formed d None = true
rest_is_formed d (Some r) = has_rest d && alone (formed_rest d r)

both_in : (x y : Bool) → IsTrue x → IsTrue y → IsTrue (x && y)
both_in true y s t = t
both_in false y s t = s

rest_of_cases : (d : Dialect) (arms : List Formed) (closed : Bool) (r : Option Rest) → IsTrue (cases d arms closed (formed_rest_part d r)) → IsTrue (rest_is_formed d r)
rest_of_cases d arms closed None formed = refl
rest_of_cases d arms closed (Some r) formed =
    let both = and_out (has_rest d && some_up_to arms (is_turbo d && not closed)) (alone (formed_rest d r)) formed in both_in (has_rest d) (alone (formed_rest d r)) (and_out (has_rest d) (some_up_to arms (is_turbo d && not closed)) both.0).0 both.1

-- ---- the statement

module _ (n : Until) (W : Type 0) (d : Dialect) (end : Span) (k : ℕ) (child : Parser Placed Expr) (shrinks : Shrinks child) (good : ExprFollowed n W d k child)
    (inner : Parser Placed Stmt) (inner_shrinks : Shrinks inner) (inner_good : StmtFollowed n W d k inner) where
  rest_read : (r : Rest) → Part W k (write_rest d r) (alone (formed_rest d r)) → (w : List Token) (s : List Placed) → Along n (spell (write_rest d r) (Word word_.KwEnd ∷ w)) s → Followed n W (Word word_.KwEnd ∷ w) (rest_part d end inner s)
  unfolding rest_part same_word
  rest_read r part w s h =
      let list = with_semicolons (map (write_stmt d) (out-Rest r).body) in
      let p = part_right (word (rest_word d)) list (part_inside _ (part_as (rest_written d r) (rest_formed d r) part)) in
      follow_token (words (rest_word d)) (accepts_word (rest_word d)) (along_as (rest_spelled d r (Word word_.KwEnd ∷ w)) h) (λ _. then_shrinks (stmts_shrinks d end child shrinks inner inner_shrinks) (λ all. λ n r k. pure_shrinks _ n r k)) (λ _ r h.
      follow_then (stmts_followed n W d end k child shrinks good inner inner_shrinks inner_good _ p (Word word_.KwEnd ∷ w) (end_ends w) refl r h) (λ all. λ n r k. pure_shrinks _ n r k) (λ all r h. follow_pure _ h))

  optional_read : (r : Option Rest) → Part W k (write_rest_part d r) (rest_is_formed d r) → (w : List Token) (s : List Placed) → Along n (spell (write_rest_part d r) (Word word_.KwEnd ∷ w)) s
      → Followed n W (Word word_.KwEnd ∷ w) (optional_rest d end inner s)
  unfolding optional_rest
  optional_read None part w s h = follow_second (begins_rest d s) _ _ (looks_at (looks_rest d) h ∙ no_rest_at_end d) (follow_pure _ h)
  optional_read (Some r) part w s h =
      follow_first (begins_rest d s) _ _ (looks_at (looks_rest d) (along_as (rest_spelled d r (Word word_.KwEnd ∷ w)) h) ∙ and_in (has_rest d) _ (and_out (has_rest d) (alone (formed_rest d r)) part.formed).0 (on_word_here (rest_word d)))
      (follow_then (rest_read r (record { formed = (and_out (has_rest d) (alone (formed_rest d r)) part.formed).1; fits = part.fits }) w s h) (λ x. pure_shrinks _) (λ x r h. follow_pure _ h))

  -- what is read after the arms
  abbrev closes : List Placed → Expr → List Arm → Parser Placed Plain
  closes from e all = λ s. and_then (optional_semicolon s) (λ closed s. and_then (optional_rest d end inner s) (λ r s. and_then (expect_word word_.KwEnd s) (λ _ s. made end from (plain_.Case e all closed r) s)))

  closes_shrinks : (from : List Placed) (e : Expr) (all : List Arm) → Shrinks (closes from e all)
  closes_shrinks from e all =
      then_shrinks (semicolon_shrinks d end child shrinks inner inner_shrinks) (λ closed. then_shrinks (optional_rest_shrinks d end child shrinks inner inner_shrinks) (λ r. then_shrinks (one_shrinks _) (λ _. λ n r k. pure_shrinks _ n r k)))

  semicolon_begun : Begun (begins (symbols mark.Semicolon)) optional_semicolon
  unfolding optional_semicolon
  semicolon_begun s e = subst (λ b. Shorter (length s) 0 (elim b [ true ↦ and_then (expect mark.Semicolon s) (λ _ s. Ok (true, s)) | false ↦ Ok (false, s) ])) (sym e) (begun_token (symbols mark.Semicolon) s e (λ _. pure_shrinks _))

  closes_begun : (from : List Placed) (e : Expr) (all : List Arm) → Begun (begins (symbols mark.Semicolon)) (closes from e all)
  closes_begun from e all s begins =
      short_then (semicolon_begun s begins) (λ closed. then_shrinks (optional_rest_shrinks d end child shrinks inner inner_shrinks) (λ r. then_shrinks (one_shrinks _) (λ _. λ n r k. pure_shrinks _ n r k)))

  ending_read : (r : Option Rest) → Part W k (write_rest_part d r) (rest_is_formed d r) → (w : List Token) (node : Option Rest → Span → Plain) (from s : List Placed) → Along n (spell (write_rest_part d r) (Word word_.KwEnd ∷ w)) s
      → Followed n W w (and_then (optional_rest d end inner s) (λ r s. and_then (expect_word word_.KwEnd s) (λ _ s. made end from (node r) s)))
  ending_read r part w node from s h =
      follow_then (optional_read r part w s h) (λ r. then_shrinks (one_shrinks _) (λ _. λ n r k. pure_shrinks _ n r k)) (λ r s h.
      follow_token (words word_.KwEnd) (accepts_word word_.KwEnd) h (λ _. λ n r k. pure_shrinks _ n r k) (λ _ r h. follow_pure _ h))

  no_semicolon : (r : Option Rest) (w : List Token) (s : List Placed) → Along n (spell (write_rest_part d r) (Word word_.KwEnd ∷ w)) s → begins (symbols mark.Semicolon) s ≡ false
  no_semicolon None w s h = looks_at (looks_symbol mark.Semicolon) h
  no_semicolon (Some r) w s h = looks_at (looks_symbol mark.Semicolon) (along_as (rest_spelled d r (Word word_.KwEnd ∷ w)) h)

  closes_read : (closed : Bool) (r : Option Rest) → Part W k (write_rest_part d r) (rest_is_formed d r) → (w : List Token) (from : List Placed) (e : Expr) (all : List Arm) (s : List Placed) → Along n (after_arms d closed r w) s → Followed n W w (closes from e all s)
  unfolding optional_semicolon same_symbol
  closes_read true r part w from e all s h =
      follow_then (follow_first (begins (symbols mark.Semicolon) s) _ _ (looks_at (looks_symbol mark.Semicolon) h) (follow_token (symbols mark.Semicolon) (accepts_symbol mark.Semicolon) h (λ _. pure_shrinks _) (λ _ r h. follow_pure _ h)))
      (λ closed. then_shrinks (optional_rest_shrinks d end child shrinks inner inner_shrinks) (λ r. then_shrinks (one_shrinks _) (λ _. λ n r k. pure_shrinks _ n r k))) (λ closed s h. ending_read r part w (λ r. plain_.Case e all closed r) from s h)
  closes_read false r part w from e all s h =
      follow_then (follow_second (begins (symbols mark.Semicolon) s) _ _ (no_semicolon r w s h) (follow_pure _ h))
      (λ closed. then_shrinks (optional_rest_shrinks d end child shrinks inner inner_shrinks) (λ r. then_shrinks (one_shrinks _) (λ _. λ n r k. pure_shrinks _ n r k))) (λ closed s h. ending_read r part w (λ r. plain_.Case e all closed r) from s h)

  pub case_read : (selector : Expr) (arms : List Arm) (closed : Bool) (rest : Option Rest) (span : Span) → PlainRead n W d end k child shrinks good inner inner_shrinks inner_good (plain_.Case selector arms closed rest span)
  unfolding plain_by structured case_of same_word
  case_read selector arms closed r span follows part w ends s h0 =
      let written = write_case_of d selector arms closed r span in
      let e = write_expr selector in let list = with_semicolons (map (write_arm d) arms) in let last = write_semicolon closed & write_rest_part d r & word word_.KwEnd in
      let h' = along_as (ap (λ l. spell l w) written ∙ ap (λ z. Word word_.KwCase ∷ z) (spell_join e (word word_.KwOf & list & last) w
      ∙ ap (λ z. spell e (Word word_.KwOf ∷ z)) (spell_join list last w ∙ ap (λ z. spell list z) (spell_join (write_semicolon closed) (write_rest_part d r & word word_.KwEnd) w ∙ ap (λ z. spell (write_semicolon closed) z) (spell_join (write_rest_part d r) (word word_.KwEnd) w))))) h0 in
      let p = part_right (word word_.KwCase) (e & word word_.KwOf & list & last) (part_inside _ (part_as written (formed_case_of d selector arms closed r span follows) part)) in
      let q = part_right (word word_.KwOf) (list & last) (part_second e (word word_.KwOf & list & last) _ _ p) in
      let (up_to, t) = tail (map (formed_arm d) arms) d closed r w q.formed in
      let q_arms : Part W k list (some_up_to (map (formed_arm d) arms) up_to) = record { formed = t.formed; fits = (part_left list last q).fits } in
      let q_rest : Part W k (write_rest_part d r) (rest_is_formed d r) = record { formed = rest_of_cases d (map (formed_arm d) arms) closed r q.formed; fits = (part_left (write_rest_part d r) (word word_.KwEnd) (part_right (write_semicolon closed) (write_rest_part d r & word word_.KwEnd) (part_right list last q))).fits } in
      follow_second _ _ _ (looks_at looks_name h') (follow_second _ _ _ (looks_at (looks_word word_.KwGoto) h') (follow_second _ _ _ (looks_at (looks_word word_.KwBegin) h') (follow_second _ _ _ (looks_at (looks_word word_.KwIf) h') (follow_first _ _ _ (looks_at (looks_word word_.KwCase) h')
      (follow_then (between_followed n W d end k child shrinks good word_.KwCase word_.KwOf selector (part_first e (word word_.KwOf & list & last) _ _ p) (spell list (after_arms d closed r w)) (of_ends _) s h')
      (λ e. then_shrinks (arms_shrinks d end child shrinks inner inner_shrinks) (λ all. closes_shrinks s e all)) (λ e r2 h.
      arms_followed n W d end k child shrinks inner inner_shrinks inner_good (λ all s2. closes s e all s2) (λ all. closes_shrinks s e all) (λ all. closes_begun s e all) (after_arms d closed r w) w t.no_arm (λ all s2 h. closes_read closed r q_rest w s e all s2 h) up_to t.ends arms q_arms r2 h))))))
