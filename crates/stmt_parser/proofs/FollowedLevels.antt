-- A statement of a text is followed, within the levels that it needs.
use Rattle.std.proofs.Common.{◌≡◌, ℕ, zero, suc, ◌≤◌, Bool, true, false, ◌&&◌, List, [], ◌∷◌, length, map, Option, Some, None, refl, sym, ap, subst, ◌∙◌, arith}
use Rattle.std.specs.Prelude.{IsTrue}
use Rattle.p2c_text.specs.declared.dialect.Dialect.{Dialect}
use Rattle.p2c_text.specs.declared.place.Span.{Span}
use Rattle.dialect_lexer.specs.declared.token.Symbol.TheVariants as mark
use Rattle.pascal_tree.specs.declared.names.Label.{Label}
use Rattle.pascal_tree.specs.declared.expressions.Args.{Args}
use Rattle.pascal_tree.specs.declared.expressions.Expr.{Expr}
use Rattle.pascal_tree.specs.declared.expressions.Place.{out-Place}
use Rattle.pascal_tree.specs.declared.expressions.Selector.{Selector}
use Rattle.pascal_tree.specs.declared.statements.Plain.{Plain}
use Rattle.pascal_tree.specs.declared.statements.Stmt.{Stmt, out-Stmt}
use Rattle.token_parsing.specs.Parser.{Parser, Outcome, and_then, begins}
use Rattle.token_parsing.proofs.Tracked.{Shorter, Shrinks, short_then, then_shrinks, pure_shrinks}
use Rattle.expr_parser.specs.Tokens.{Token, Placed, Name, Number, Text, Word, Symbol}
use Rattle.expr_parser.specs.Layout.{Layout, ◌&◌, symbol, spanned, counted, in_row, height_of}
use Rattle.expr_parser.specs.Writing.{write_expr, write_place, write_selector}
use Rattle.expr_parser.specs.Classes.{identifiers, same_word, same_symbol}
use Rattle.expr_parser.specs.Places.{made}
use Rattle.expr_parser.specs.Expressions.{expr}
use Rattle.expr_parser.proofs.Layouts.{spell, spell_join}
use Rattle.expr_parser.proofs.Spelled.{place_spelled, args_spelled}
use Rattle.expr_parser.proofs.Shrinks.{expr_shrinks}
use Rattle.expr_parser.proofs.Followed.{Until, Along, Followed, too_deep, follow_then, follow_pure}
use Rattle.expr_parser.proofs.FollowedParts.{Part, part_as, part_first, part_second, part_inside, part_counted, along_as, ExprFollowed}
use Rattle.expr_parser.proofs.FollowedPlaces.{selector_starts}
use Rattle.expr_parser.proofs.FollowedFactors.{expr_followed}
use Rattle.expr_parser.proofs.Lookahead.{on_symbol, on_selector}
use Rattle.expr_parser.specs.ConstantNodes.{write_label}
use Rattle.stmt_parser.specs.Writing.{optional_args, optional_label as write_label_part, write_plain, write_stmt}
use Rattle.stmt_parser.specs.Grammar.{formed_optional_label, formed_plain, formed_stmt}
use Rattle.stmt_parser.specs.Statements.{stmt_of}
use Rattle.stmt_parser.specs.Levels.{plain_by, stmt_by, stmt}
use Rattle.stmt_parser.proofs.WrittenStatements.{write_stmt_of, write_nothing_of, write_assign_of, write_call_of, write_goto_of, write_compound_of, write_if_of, write_case_of, write_while_of, write_repeat_of, write_for_of, write_with_of, write_try_of}
use Rattle.stmt_parser.proofs.FormedStatements.{formed_stmt_of}
use Rattle.stmt_parser.proofs.StatementViews.{stmt_is, plain_cases}
use Rattle.stmt_parser.proofs.Shrinks.{plain_shrinks, stmt_shrinks}
use Rattle.stmt_parser.proofs.Ends.{StmtEnds}
use Rattle.stmt_parser.proofs.Begun.{named_begun}
use Rattle.stmt_parser.proofs.FollowedStatements.{StmtFollowed, PlainRead, nothing_read, assign_read, call_read, goto_read, compound_read, conditional_read, while_read, repeat_read, for_read, with_read, try_read}
use Rattle.stmt_parser.proofs.FollowedCases.{case_read}
use Rattle.stmt_parser.proofs.FollowedLabels.{NoLabel, nothing, no_name, alone, name, no_label_followed, label_read}

-- ---- what a statement without its label begins with

not_colon : (x : Token) → on_selector x ≡ true → on_symbol mark.Colon x ≡ false
unfolding same_symbol same_word
not_colon (Name i) e = refl
not_colon (Number v) e = refl
not_colon (Text bs) e = refl
not_colon (Word w) e = refl
not_colon (Symbol mark.Dot) e = refl
not_colon (Symbol mark.Caret) e = refl
not_colon (Symbol mark.OpenBracket) e = refl
not_colon (Symbol _) e = absurd cc

abbrev NoLabelLaw : (d : Dialect) (rest : List Token) → Plain → Type 0
NoLabelLaw d rest x = (follows : Bool) → StmtEnds follows rest → NoLabel (spell (write_plain d x) rest)

without_label : {l m : Layout} (rest : List Token) → l ≡ m → NoLabel (spell m rest) → NoLabel (spell l rest)
without_label rest e h = subst (λ z. NoLabel (spell z rest)) (sym e) h

rest_no_label : (follows : Bool) (rest : List Token) → StmtEnds follows rest → NoLabel rest
rest_no_label follows [] ends = nothing
rest_no_label follows (x ∷ w) ends = no_name x w ends.number ends.name

target_no_label : (i : List ℕ) (xs : List Selector) (w : List Token) → NoLabel (Name i ∷ spell (in_row (map write_selector xs)) (Symbol mark.Assign ∷ w))
unfolding same_symbol
target_no_label i [] w = name (Name i) (Symbol mark.Assign) w refl refl
target_no_label i (x ∷ xs) w =
    let row = in_row (map write_selector xs) in
    let start = selector_starts x (spell row (Symbol mark.Assign ∷ w)) in
    subst (λ z. NoLabel (Name i ∷ z)) (sym (spell_join (write_selector x) row (Symbol mark.Assign ∷ w) ∙ start.is)) (name (Name i) start.token start.more refl (not_colon start.token start.selector))

call_no_label : (i : List ℕ) (a : Option Args) (follows : Bool) (rest : List Token) → StmtEnds follows rest → NoLabel (Name i ∷ spell (optional_args a) rest)
unfolding same_symbol
call_no_label i None follows [] ends = alone (Name i) refl
call_no_label i None follows (y ∷ w) ends = name (Name i) y w refl ends.colon
call_no_label i (Some a) follows rest ends = subst (λ z. NoLabel (Name i ∷ z)) (sym (args_spelled a rest)) (name (Name i) (Symbol mark.Open) _ refl refl)

pub plain_no_label : (d : Dialect) (rest : List Token) (x : Plain) → NoLabelLaw d rest x
plain_no_label d rest x = plain_cases (NoLabelLaw d rest) (record {
  nothing = λ span follows ends. without_label rest (write_nothing_of d span) (rest_no_label follows rest ends);
  assign = λ p e span follows ends. without_label rest (write_assign_of d p e span)
      (subst NoLabel (sym (spell_join (write_place p) (symbol mark.Assign & write_expr e) rest ∙ place_spelled p (Symbol mark.Assign ∷ spell (write_expr e) rest))) (target_no_label (out-Place p).name.name (out-Place p).selectors (spell (write_expr e) rest)));
  call = λ i a span follows ends. without_label rest (write_call_of d i a span) (call_no_label i.name a follows rest ends);
  goto = λ l span follows ends. without_label rest (write_goto_of d l span) (no_name _ _ refl refl);
  compound = λ all span follows ends. without_label rest (write_compound_of d all span) (no_name _ _ refl refl);
  conditional = λ c a b span follows ends. without_label rest (write_if_of d c a b span) (no_name _ _ refl refl);
  cases = λ e all closed r span follows ends. without_label rest (write_case_of d e all closed r span) (no_name _ _ refl refl);
  while_loop = λ c b span follows ends. without_label rest (write_while_of d c b span) (no_name _ _ refl refl);
  repeat_loop = λ all c span follows ends. without_label rest (write_repeat_of d all c span) (no_name _ _ refl refl);
  for_loop = λ i a w z b span follows ends. without_label rest (write_for_of d i a w z b span) (no_name _ _ refl refl);
  with_places = λ all b span follows ends. without_label rest (write_with_of d all b span) (no_name _ _ refl refl);
  try_block = λ all b span follows ends. without_label rest (write_try_of d all b span) (no_name _ _ refl refl);
}) x

chosen : {A : Type 0} {m : ℕ} (b : Bool) (o o' : Outcome Placed A) → b ≡ true → Shorter m 0 o → Shorter m 0 (elim b [ true ↦ o | false ↦ o' ])
chosen true o o' e h = h
chosen false o o' e h = absurd cc

-- ---- the statement

pub stmt_written : (d : Dialect) (x : Stmt) → write_stmt d x ≡ counted (spanned (out-Stmt x).span (write_label_part (out-Stmt x).label & write_plain d (out-Stmt x).plain))
stmt_written d x = ap (λ y. write_stmt d y) (stmt_is x) ∙ write_stmt_of d (out-Stmt x).label (out-Stmt x).plain (out-Stmt x).span

pub stmt_formed : (d : Dialect) (x : Stmt) (follows : Bool) → formed_stmt d x follows ≡ (formed_optional_label d (out-Stmt x).label && formed_plain d (out-Stmt x).plain follows)
stmt_formed d x follows = ap (λ y. formed_stmt d y follows) (stmt_is x) ∙ formed_stmt_of d (out-Stmt x).label (out-Stmt x).plain (out-Stmt x).span follows

stmt_deep : (d : Dialect) (x : Stmt) → 1 ≤ height_of (write_stmt d x)
stmt_deep d x = subst (λ l. 1 ≤ height_of l) (sym (stmt_written d x)) (omega arith)

module _ (n : Until) (W : Type 0) (d : Dialect) (end : Span) (k : ℕ) (child : Parser Placed Expr) (shrinks : Shrinks child) (good : ExprFollowed n W d k child)
    (inner : Parser Placed Stmt) (inner_shrinks : Shrinks inner) (inner_good : StmtFollowed n W d k inner) where
  abbrev Read : Plain → Type 0
  Read x = PlainRead n W d end k child shrinks good inner inner_shrinks inner_good x

  plain_read : (x : Plain) → Read x
  plain_read x = plain_cases Read (record {
    nothing = nothing_read n W d end k child shrinks good inner inner_shrinks inner_good;
    assign = assign_read n W d end k child shrinks good inner inner_shrinks inner_good;
    call = call_read n W d end k child shrinks good inner inner_shrinks inner_good;
    goto = goto_read n W d end k child shrinks good inner inner_shrinks inner_good;
    compound = compound_read n W d end k child shrinks good inner inner_shrinks inner_good;
    conditional = conditional_read n W d end k child shrinks good inner inner_shrinks inner_good;
    cases = case_read n W d end k child shrinks good inner inner_shrinks inner_good;
    while_loop = while_read n W d end k child shrinks good inner inner_shrinks inner_good;
    repeat_loop = repeat_read n W d end k child shrinks good inner inner_shrinks inner_good;
    for_loop = for_read n W d end k child shrinks good inner inner_shrinks inner_good;
    with_places = with_read n W d end k child shrinks good inner inner_shrinks inner_good;
    try_block = try_read n W d end k child shrinks good inner inner_shrinks inner_good;
  }) x

  -- what begins with a name takes it
  plain_begun : (s : List Placed) → begins identifiers s ≡ true → Shorter (length s) 0 (plain_by d end child inner s)
  unfolding plain_by
  plain_begun s e = chosen (begins identifiers s) _ _ e (named_begun d end child shrinks s e)

  abbrev behind_label : List Placed → Option Label → Parser Placed Stmt
  behind_label from l = λ s. and_then (plain_by d end child inner s) (λ p s. made end from (stmt_of l p) s)

  behind_shrinks : (from : List Placed) (l : Option Label) → Shrinks (behind_label from l)
  behind_shrinks from l = then_shrinks (plain_shrinks d end child shrinks inner inner_shrinks) (λ p. λ n r k. pure_shrinks _ n r k)

  by_label : (l : Option Label) (p : Plain) (follows : Bool) → IsTrue (formed_optional_label d l) → Part W k (write_plain d p) (formed_plain d p follows) → (rest : List Token) → StmtEnds follows rest → (s : List Placed)
      → Along n (spell (write_label_part l) (spell (write_plain d p) rest)) s → Followed n W rest (stmt_by d end child inner s)
  unfolding stmt_by
  by_label None p follows formed part rest ends s h =
      no_label_followed n W d end rest (behind_label s) (behind_shrinks s) (spell (write_plain d p) rest) (plain_no_label d rest p follows ends) s h
      (follow_then (plain_read p follows part rest ends s h) (λ p. λ n r k. pure_shrinks _ n r k) (λ p r h. follow_pure _ h))
  by_label (Some l) p follows formed part rest ends s h =
      label_read n W d end rest (behind_label s) (behind_shrinks s) l formed (spell (write_plain d p) rest) s (along_as (spell_join (write_label l) (symbol mark.Colon) (spell (write_plain d p) rest)) h)
      (λ e. short_then (plain_begun s e) (λ p. λ n r k. pure_shrinks _ n r k))
      (λ l r h. follow_then (plain_read p follows part rest ends r h) (λ p. λ n r k. pure_shrinks _ n r k) (λ p r h. follow_pure _ h))

  pub stmt_by_followed : StmtFollowed n W d (suc k) (stmt_by d end child inner)
  stmt_by_followed x follows part rest ends s h =
      let l = write_label_part (out-Stmt x).label in let p = write_plain d (out-Stmt x).plain in
      let q = part_inside (l & p) (part_counted (spanned (out-Stmt x).span (l & p)) (part_as (stmt_written d x) (stmt_formed d x follows) part)) in
      by_label (out-Stmt x).label (out-Stmt x).plain follows (part_first l p _ _ q).formed (part_second l p _ _ q) rest ends s (along_as (ap (λ z. spell z rest) (stmt_written d x) ∙ spell_join l p rest) h)

pub stmt_followed : (n : Until) (W : Type 0) (d : Dialect) (end : Span) (k : ℕ) → StmtFollowed n W d k (stmt d end k)
unfolding stmt
stmt_followed n W d end zero x follows part rest ends s h = too_deep (length s) (λ w. let fits = part.fits w in absurd (omega (arith, fits, stmt_deep d x)))
stmt_followed n W d end (suc k) x follows part rest ends s h =
    stmt_by_followed n W d end k (expr d end k) (expr_shrinks d end k) (expr_followed n W d end k) (stmt d end k) (stmt_shrinks d end k) (stmt_followed n W d end k) x follows part rest ends s h
