-- No parser gives tokens back.
use Rattle.std.proofs.Common.{ℕ, zero, suc, List, [], ◌∷◌}
use Rattle.p2c_text.specs.declared.dialect.Dialect.{Dialect}
use Rattle.p2c_text.specs.declared.place.Span.{Span}
use Rattle.dialect_lexer.specs.declared.token.Word.{Word as WordSymbol}
use Rattle.dialect_lexer.specs.declared.token.Word.TheVariants as word_
use Rattle.dialect_lexer.specs.declared.token.Symbol.TheVariants as mark
use Rattle.pascal_tree.specs.declared.names.Identifier.{Identifier}
use Rattle.pascal_tree.specs.declared.expressions.Expr.{Expr}
use Rattle.pascal_tree.specs.declared.expressions.Place.{Place}
use Rattle.pascal_tree.specs.declared.statements.Arm.{Arm}
use Rattle.pascal_tree.specs.declared.statements.Stmt.{Stmt}
use Rattle.token_parsing.specs.Parser.{Parser, begins}
use Rattle.token_parsing.proofs.Tracked.{Shrinks, one_shrinks, then_shrinks, pure_shrinks, stop_shrinks, either_shrinks, repeat_shrinks}
use Rattle.expr_parser.specs.Tokens.{Placed}
use Rattle.expr_parser.specs.Classes.{identifiers, words, symbols}
use Rattle.expr_parser.specs.Places.{place}
use Rattle.expr_parser.specs.Expressions.{expr}
use Rattle.expr_parser.proofs.Shrinks.{place_from_shrinks, args_shrinks, expr_shrinks}
use Rattle.expr_parser.proofs.ConstantShrinks.{label_shrinks, optional_label_shrinks, case_labels_shrinks}
use Rattle.stmt_parser.specs.Statements.{between, next_stmt, more_stmts, stmts, nothing, goto, assignment, call_with, begins_target, after_name, named, compound, optional_else, conditional, while_loop, repeat_loop, limits, for_loop, next_place, more_places, places, with_places, try_block}
use Rattle.stmt_parser.specs.Cases.{arm, next_arm, begins_next_arm, more_arms, arms, optional_semicolon, rest_part, begins_rest, optional_rest, case_of}
use Rattle.stmt_parser.specs.Levels.{structured, plain_by, stmt_by, stmt}

-- ---- statements

pub nothing_shrinks : (end : Span) → Shrinks (nothing end)
unfolding nothing
nothing_shrinks end n from l = pure_shrinks _ n from l

module _ (d : Dialect) (end : Span) (child : Parser Placed Expr) (h : Shrinks child) where
  pub between_shrinks : (opening closing : WordSymbol) → Shrinks (between opening closing child)
  unfolding between
  between_shrinks opening closing = then_shrinks (one_shrinks _) (λ _. then_shrinks h (λ e. then_shrinks (one_shrinks _) (λ _. pure_shrinks _)))

  pub goto_shrinks : Shrinks (goto d end)
  unfolding goto
  goto_shrinks n from l = then_shrinks (one_shrinks _) (λ _. then_shrinks (label_shrinks d end) (λ x. λ n r k. pure_shrinks _ n r k)) n from l

  pub assignment_shrinks : (from : List Placed) (i : Identifier) → Shrinks (assignment end child from i)
  unfolding assignment
  assignment_shrinks from i = then_shrinks (place_from_shrinks d end child h from i) (λ p. then_shrinks (one_shrinks _) (λ _. then_shrinks h (λ e. λ n r k. pure_shrinks _ n r k)))

  pub call_with_shrinks : (from : List Placed) (i : Identifier) → Shrinks (call_with d end child from i)
  unfolding call_with
  call_with_shrinks from i = then_shrinks (args_shrinks d end child h) (λ a. λ n r k. pure_shrinks _ n r k)

  pub after_name_shrinks : (from : List Placed) (i : Identifier) → Shrinks (after_name d end child from i)
  unfolding after_name
  after_name_shrinks from i = either_shrinks (begins (symbols mark.Open)) (call_with_shrinks from i) (either_shrinks begins_target (assignment_shrinks from i) (λ n r k. pure_shrinks _ n r k))

  pub named_shrinks : Shrinks (named d end child)
  unfolding named
  named_shrinks n from l = then_shrinks (one_shrinks _) (λ i. after_name_shrinks from i) n from l

  pub limits_shrinks : Shrinks (limits child)
  unfolding limits
  limits_shrinks = then_shrinks (one_shrinks _) (λ _. then_shrinks h (λ a. then_shrinks (one_shrinks _) (λ w. then_shrinks h (λ b. then_shrinks (one_shrinks _) (λ _. pure_shrinks _)))))

  pub place_shrinks : Shrinks (place end child)
  unfolding place
  place_shrinks n from l = then_shrinks (one_shrinks _) (λ i. place_from_shrinks d end child h from i) n from l

  next_place_shrinks : (all : List Place) → Shrinks (next_place end child all)
  unfolding next_place
  next_place_shrinks all = then_shrinks (one_shrinks _) (λ _. then_shrinks place_shrinks (λ p. pure_shrinks _))

  pub places_shrinks : Shrinks (places end child)
  unfolding places more_places
  places_shrinks = then_shrinks place_shrinks (λ p. repeat_shrinks (begins (symbols mark.Comma)) (next_place end child) next_place_shrinks (p ∷ []))

  module _ (inner : Parser Placed Stmt) (g : Shrinks inner) where
    pub next_stmt_shrinks : (all : List Stmt) → Shrinks (next_stmt inner all)
    unfolding next_stmt
    next_stmt_shrinks all = then_shrinks (one_shrinks _) (λ _. then_shrinks g (λ s. pure_shrinks _))

    pub stmts_shrinks : Shrinks (stmts inner)
    unfolding stmts more_stmts
    stmts_shrinks = then_shrinks g (λ s. repeat_shrinks (begins (symbols mark.Semicolon)) (next_stmt inner) next_stmt_shrinks (s ∷ []))

    pub compound_shrinks : Shrinks (compound end inner)
    unfolding compound
    compound_shrinks n from l = then_shrinks (one_shrinks _) (λ _. then_shrinks stmts_shrinks (λ all. then_shrinks (one_shrinks _) (λ _. λ n r k. pure_shrinks _ n r k))) n from l

    pub optional_else_shrinks : Shrinks (optional_else inner)
    unfolding optional_else
    optional_else_shrinks = either_shrinks (begins (words word_.KwElse)) (then_shrinks (one_shrinks _) (λ _. then_shrinks g (λ s. pure_shrinks _))) (pure_shrinks _)

    pub conditional_shrinks : Shrinks (conditional end child inner)
    unfolding conditional
    conditional_shrinks n from l = then_shrinks (between_shrinks word_.KwIf word_.KwThen) (λ c. then_shrinks g (λ a. then_shrinks optional_else_shrinks (λ b. λ n r k. pure_shrinks _ n r k))) n from l

    pub while_shrinks : Shrinks (while_loop end child inner)
    unfolding while_loop
    while_shrinks n from l = then_shrinks (between_shrinks word_.KwWhile word_.KwDo) (λ c. then_shrinks g (λ s. λ n r k. pure_shrinks _ n r k)) n from l

    pub repeat_loop_shrinks : Shrinks (repeat_loop end child inner)
    unfolding repeat_loop
    repeat_loop_shrinks n from l = then_shrinks (one_shrinks _) (λ _. then_shrinks stmts_shrinks (λ all. then_shrinks (one_shrinks _) (λ _. then_shrinks h (λ c. λ n r k. pure_shrinks _ n r k)))) n from l

    pub for_shrinks : Shrinks (for_loop end child inner)
    unfolding for_loop
    for_shrinks n from l = then_shrinks (one_shrinks _) (λ _. then_shrinks (one_shrinks _) (λ i. then_shrinks limits_shrinks (λ x. then_shrinks g (λ s. λ n r k. pure_shrinks _ n r k)))) n from l

    pub with_shrinks : Shrinks (with_places end child inner)
    unfolding with_places
    with_shrinks n from l = then_shrinks (one_shrinks _) (λ _. then_shrinks places_shrinks (λ all. then_shrinks (one_shrinks _) (λ _. then_shrinks g (λ s. λ n r k. pure_shrinks _ n r k)))) n from l

    pub try_shrinks : Shrinks (try_block end inner)
    unfolding try_block
    try_shrinks n from l = then_shrinks (one_shrinks _) (λ _. then_shrinks stmts_shrinks (λ all. then_shrinks (one_shrinks _) (λ _. then_shrinks g (λ s. λ n r k. pure_shrinks _ n r k)))) n from l

    -- ---- `case`

    pub arm_shrinks : Shrinks (arm d end inner)
    unfolding arm
    arm_shrinks n from l = then_shrinks (case_labels_shrinks d end) (λ ls. then_shrinks (one_shrinks _) (λ _. then_shrinks g (λ s. λ n r k. pure_shrinks _ n r k))) n from l

    pub next_arm_shrinks : (all : List Arm) → Shrinks (next_arm d end inner all)
    unfolding next_arm
    next_arm_shrinks all = then_shrinks (one_shrinks _) (λ _. then_shrinks arm_shrinks (λ a. pure_shrinks _))

    pub arms_shrinks : Shrinks (arms d end inner)
    unfolding arms more_arms
    arms_shrinks = then_shrinks arm_shrinks (λ a. repeat_shrinks begins_next_arm (next_arm d end inner) next_arm_shrinks (a ∷ []))

    pub semicolon_shrinks : Shrinks optional_semicolon
    unfolding optional_semicolon
    semicolon_shrinks = either_shrinks (begins (symbols mark.Semicolon)) (then_shrinks (one_shrinks _) (λ _. pure_shrinks _)) (pure_shrinks _)

    pub rest_shrinks : Shrinks (rest_part d end inner)
    unfolding rest_part
    rest_shrinks n from l = then_shrinks (one_shrinks _) (λ _. then_shrinks stmts_shrinks (λ all. λ n r k. pure_shrinks _ n r k)) n from l

    pub optional_rest_shrinks : Shrinks (optional_rest d end inner)
    unfolding optional_rest
    optional_rest_shrinks = either_shrinks (begins_rest d) (then_shrinks rest_shrinks (λ r. pure_shrinks _)) (pure_shrinks _)

    pub case_shrinks : Shrinks (case_of d end child inner)
    unfolding case_of
    case_shrinks n from l = then_shrinks (between_shrinks word_.KwCase word_.KwOf) (λ e. then_shrinks arms_shrinks (λ all. then_shrinks semicolon_shrinks (λ closed. then_shrinks optional_rest_shrinks (λ r. then_shrinks (one_shrinks _) (λ _. λ n r k. pure_shrinks _ n r k))))) n from l

    -- ---- all statements

    structured_shrinks : Shrinks (structured d end child inner)
    unfolding structured
    structured_shrinks =
        either_shrinks (begins (words word_.KwBegin)) compound_shrinks
        (either_shrinks (begins (words word_.KwIf)) conditional_shrinks
        (either_shrinks (begins (words word_.KwCase)) case_shrinks
        (either_shrinks (begins (words word_.KwWhile)) while_shrinks
        (either_shrinks (begins (words word_.KwRepeat)) repeat_loop_shrinks
        (either_shrinks (begins (words word_.KwFor)) for_shrinks
        (either_shrinks (begins (words word_.KwWith)) with_shrinks
        (either_shrinks (begins (words word_.KwTry)) try_shrinks (nothing_shrinks end))))))))

    pub plain_shrinks : Shrinks (plain_by d end child inner)
    unfolding plain_by
    plain_shrinks = either_shrinks (begins identifiers) named_shrinks (either_shrinks (begins (words word_.KwGoto)) goto_shrinks structured_shrinks)

    pub stmt_by_shrinks : Shrinks (stmt_by d end child inner)
    unfolding stmt_by
    stmt_by_shrinks n from l = then_shrinks (optional_label_shrinks d end) (λ x. then_shrinks plain_shrinks (λ p. λ n r k. pure_shrinks _ n r k)) n from l

pub stmt_shrinks : (d : Dialect) (end : Span) (k : ℕ) → Shrinks (stmt d end k)
unfolding stmt
stmt_shrinks d end zero = stop_shrinks
stmt_shrinks d end (suc k) = stmt_by_shrinks d end (expr d end k) (expr_shrinks d end k) (stmt d end k) (stmt_shrinks d end k)
