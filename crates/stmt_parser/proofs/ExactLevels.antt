-- A statement that is written is read, within the levels that it needs.
use Rattle.std.proofs.Common.{◌≡◌, ℕ, zero, suc, ◌≤◌, Bool, true, false, ◌&&◌, ◌||◌, List, ◌∷◌, map, Option, Some, None, Ok, refl, sym, ap, subst, ◌∙◌, arith}
use Rattle.std.specs.Prelude.{IsTrue}
use Rattle.p2c_text.specs.declared.dialect.Dialect.{Dialect}
use Rattle.p2c_text.specs.declared.place.Span.{Span}
use Rattle.dialect_lexer.specs.declared.token.Symbol.TheVariants as mark
use Rattle.pascal_tree.specs.declared.names.Label.{Label}
use Rattle.pascal_tree.specs.declared.names.Label.TheVariants as a_label
use Rattle.pascal_tree.specs.declared.expressions.Expr.{Expr}
use Rattle.pascal_tree.specs.declared.statements.Plain.{Plain}
use Rattle.pascal_tree.specs.declared.statements.Stmt.{Stmt, out-Stmt}
use Rattle.token_parsing.specs.Parser.{Parser, begins, rest}
use Rattle.expr_parser.specs.Tokens.{Token, Placed, Symbol, plain}
use Rattle.expr_parser.specs.Layout.{Done, ◌&◌, symbol, spanned, IsWritten, height_of}
use Rattle.expr_parser.specs.Classes.{symbols}
use Rattle.expr_parser.specs.Dialects.{has_named_labels}
use Rattle.expr_parser.specs.Expressions.{expr}
use Rattle.expr_parser.specs.ConstantNodes.{write_label, formed_label}
use Rattle.expr_parser.specs.Constants.{begins_named_label, begins_label, optional_label}
use Rattle.expr_parser.specs.Semicolons.{with_semicolons}
use Rattle.expr_parser.proofs.Layouts.{spell, spell_join}
use Rattle.expr_parser.proofs.Followed.{on_first}
use Rattle.expr_parser.proofs.FollowedParts.{and_in, Part, part_as, part_first, part_second, part_inside, part_counted}
use Rattle.expr_parser.proofs.Lookahead.{looks_name, looks_number, looks_symbol, on_name, on_number, on_symbol, on_symbol_here, says_symbol}
use Rattle.expr_parser.proofs.Exact.{written_as, written_inside_both, written_plain, exact_then, exact_part, exact_token, exact_made, exact_first, exact_second, looks_plain}
use Rattle.expr_parser.proofs.ExactTerms.{ExprExact}
use Rattle.expr_parser.proofs.ExactFactors.{expr_exact}
use Rattle.expr_parser.proofs.ExactConstants.{label_exact}
use Rattle.stmt_parser.specs.Writing.{optional_label as write_label_part, write_plain, write_stmt}
use Rattle.stmt_parser.specs.Grammar.{some_alone, formed_optional_label, formed_stmt}
use Rattle.stmt_parser.specs.Statements.{stmts, stmt_of}
use Rattle.stmt_parser.specs.Levels.{stmt_by, stmt}
use Rattle.stmt_parser.proofs.StatementViews.{stmt_is, plain_cases}
use Rattle.stmt_parser.proofs.Ends.{StmtEnds}
use Rattle.stmt_parser.proofs.FollowedLabels.{NoLabel, nothing, no_name, alone, name}
use Rattle.stmt_parser.proofs.FollowedLevels.{plain_no_label, stmt_written, stmt_formed}
use Rattle.stmt_parser.proofs.ExactStatements.{StmtExact, PlainExact, stmts_exact, nothing_exact, assign_exact, call_statement_exact, goto_exact, compound_exact, conditional_exact, while_exact, repeat_exact, for_exact, with_exact, try_exact}
use Rattle.stmt_parser.proofs.ExactArms.{plain_rest}
use Rattle.stmt_parser.proofs.ExactCases.{case_exact}

-- ---- labels

-- whether a label is next, of the tokens without their places
abbrev labelled : Dialect → List Token → Bool
labelled d w = on_first on_number w || ((has_named_labels d && on_first on_name w) && on_first (on_symbol mark.Colon) (rest w))

labelled_plain : (d : Dialect) (s : List Placed) → begins_label d s ≡ labelled d (plain s)
labelled_plain d s =
    let named = ap (λ b. has_named_labels d && b) (looks_plain looks_name s) in let colon = looks_plain (looks_symbol mark.Colon) (rest s) ∙ ap (on_first (on_symbol mark.Colon)) (plain_rest s) in
    ap (λ b. b || (begins_named_label d s && begins (symbols mark.Colon) (rest s))) (looks_plain looks_number s) ∙ ap (λ b. on_first on_number (plain s) || (b && begins (symbols mark.Colon) (rest s))) named
    ∙ ap (λ b. on_first on_number (plain s) || ((has_named_labels d && on_first on_name (plain s)) && b)) colon

neither_and : (a b c d : Bool) → a ≡ false → b ≡ false → (a || ((d && b) && c)) ≡ false
neither_and true b c d e f = absurd cc
neither_and false true c d e f = absurd cc
neither_and false false c true e f = refl
neither_and false false c false e f = refl

no_colon : (a b c : Bool) → a ≡ false → c ≡ false → (a || (b && c)) ≡ false
no_colon true b c e f = absurd cc
no_colon false b true e f = absurd cc
no_colon false true false e f = refl
no_colon false false false e f = refl

not_labelled : (d : Dialect) (w : List Token) → NoLabel w → labelled d w ≡ false
not_labelled d _ nothing = no_colon false (has_named_labels d && false) false refl refl
not_labelled d _ (no_name x w number other) = neither_and (on_number x) (on_name x) (on_first (on_symbol mark.Colon) w) (has_named_labels d) number other
not_labelled d _ (alone x number) = no_colon (on_number x) (has_named_labels d && on_name x) false number refl
not_labelled d _ (name x y w number colon) = no_colon (on_number x) (has_named_labels d && on_name x) (on_symbol mark.Colon y) number colon

is_labelled : (d : Dialect) (l : Label) → IsTrue (formed_label d l) → (w : List Token) → labelled d (spell (write_label l) (Symbol mark.Colon ∷ w)) ≡ true
is_labelled d (a_label.Number v span) formed w = refl
is_labelled d (a_label.Name i) formed w = and_in (has_named_labels d && true) _ (and_in (has_named_labels d) true formed refl) (on_symbol_here mark.Colon)

module _ (d : Dialect) (end : Span) where
  -- where no token that goes on with a label follows
  no_label_exact : (s r : List Placed) → s ≡ r → NoLabel (plain r) → optional_label d end s ≡ Ok (None, r)
  unfolding optional_label
  no_label_exact s r h none = exact_second (begins_label d s) _ _ (ap (begins_label d) h ∙ labelled_plain d r ∙ not_labelled d (plain r) none) (ap (λ z. Ok (None, z)) h)

  some_label_exact : (l : Label) → IsTrue (formed_label d l) → (s r : List Placed) → IsWritten end (write_label l & symbol mark.Colon) s r → optional_label d end s ≡ Ok (Some l, r)
  unfolding optional_label
  some_label_exact l formed s r h =
      let colon = symbol mark.Colon in
      let begun = labelled_plain d s ∙ ap (labelled d) (written_plain end (write_label l & colon) s r h ∙ spell_join (write_label l) colon (plain r)) ∙ is_labelled d l formed (plain r) in
      exact_first (begins_label d s) _ _ begun (exact_part _ l end (write_label l) colon s r h (λ m left right. label_exact d end l formed s m left) (λ m h.
      exact_token _ (symbols mark.Colon) (says_symbol mark.Colon) end Done m r h (λ m h. ap (λ z. Ok (Some l, z)) h)))

-- ---- the statement

stmt_deep : (d : Dialect) (x : Stmt) → 1 ≤ height_of (write_stmt d x)
stmt_deep d x = subst (λ l. 1 ≤ height_of l) (sym (stmt_written d x)) (omega arith)

module _ (d : Dialect) (end : Span) (k : ℕ) (child : Parser Placed Expr) (good : ExprExact d end k child) (inner : Parser Placed Stmt) (inner_good : StmtExact d end k inner) where
  abbrev Read : Plain → Type 0
  Read x = PlainExact d end k child good inner inner_good x

  plain_exact : (x : Plain) → Read x
  plain_exact x = plain_cases Read (record {
    nothing = nothing_exact d end k child good inner inner_good;
    assign = assign_exact d end k child good inner inner_good;
    call = call_statement_exact d end k child good inner inner_good;
    goto = goto_exact d end k child good inner inner_good;
    compound = compound_exact d end k child good inner inner_good;
    conditional = conditional_exact d end k child good inner inner_good;
    cases = case_exact d end k child good inner inner_good;
    while_loop = while_exact d end k child good inner inner_good;
    repeat_loop = repeat_exact d end k child good inner inner_good;
    for_loop = for_exact d end k child good inner inner_good;
    with_places = with_exact d end k child good inner inner_good;
    try_block = try_exact d end k child good inner inner_good;
  }) x

  label_part_exact : (l : Option Label) → IsTrue (formed_optional_label d l) → (s m : List Placed) → IsWritten end (write_label_part l) s m → NoLabel (plain m) → optional_label d end s ≡ Ok (l, m)
  label_part_exact None formed s m h none = no_label_exact d end s m h none
  label_part_exact (Some l) formed s m h none = some_label_exact d end l formed s m h

  pub stmt_by_exact : StmtExact d end (suc k) (stmt_by d end child inner)
  unfolding stmt_by
  stmt_by_exact x follows part s r h ends =
      let l = write_label_part (out-Stmt x).label in let p = write_plain d (out-Stmt x).plain in
      let q = part_inside (l & p) (part_counted (spanned (out-Stmt x).span (l & p)) (part_as (stmt_written d x) (stmt_formed d x follows) part)) in
      let (place, inside) = written_inside_both end (out-Stmt x).span (l & p) s r (written_as end s r (stmt_written d x) h) in
      exact_part _ (out-Stmt x).label end l p s r inside (λ m left right.
      label_part_exact (out-Stmt x).label (part_first l p _ _ q).formed s m left (subst NoLabel (sym (written_plain end p m r right)) (plain_no_label d (plain r) (out-Stmt x).plain follows ends))) (λ m h.
      exact_then _ (plain_exact (out-Stmt x).plain follows (part_second l p _ _ q) m r h ends) (exact_made end (out-Stmt x).span (stmt_of (out-Stmt x).label (out-Stmt x).plain) s r r refl (stmt_is x) place))

pub stmt_exact : (d : Dialect) (end : Span) (k : ℕ) → StmtExact d end k (stmt d end k)
unfolding stmt
stmt_exact d end zero x follows part s r h ends = let fits = part.fits tt in absurd (omega (arith, fits, stmt_deep d x))
stmt_exact d end (suc k) x follows part s r h ends = stmt_by_exact d end k (expr d end k) (expr_exact d end k) (stmt d end k) (stmt_exact d end k) x follows part s r h ends

-- statements in a row, up to what ends them
pub statements_exact : (d : Dialect) (end : Span) (k : ℕ) (xs : List Stmt) → Part (Unit {0}) k (with_semicolons (map (write_stmt d) xs)) (some_alone (map (formed_stmt d) xs)) → (s r : List Placed) → IsWritten end (with_semicolons (map (write_stmt d) xs)) s r
    → StmtEnds false (plain r) → on_first (on_symbol mark.Semicolon) (plain r) ≡ false → stmts (stmt d end k) s ≡ Ok (xs, r)
statements_exact d end k xs part s r h ends closed = stmts_exact d end k (stmt d end k) (stmt_exact d end k) xs part s r h ends closed
