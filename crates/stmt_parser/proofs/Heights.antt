-- The greatest number of counted nodes on one path of what a statement is written as is its height.
use Rattle.std.proofs.Common.{◌≡◌, ℕ, max, Bool, true, false, List, map, Option, Some, None, ap, subst, arith}
use Rattle.p2c_text.specs.declared.dialect.Dialect.{Dialect}
use Rattle.p2c_text.specs.declared.place.Span.{Span}
use Rattle.dialect_lexer.specs.declared.token.Word.TheVariants as word_
use Rattle.dialect_lexer.specs.declared.token.Symbol.TheVariants as mark
use Rattle.pascal_tree.specs.declared.names.Label.{Label}
use Rattle.pascal_tree.specs.declared.expressions.Expr.{Expr}
use Rattle.pascal_tree.specs.declared.statements.Plain.TheOpen as part
use Rattle.pascal_tree.specs.declared.statements.Plain.TheOpen.{Plain-F, Arm-F, Rest-F, Stmt-F}
use Rattle.pascal_tree.specs.declared.statements.Plain.{Plain, roll-Plain, map-Plain, fold-roll-Plain}
use Rattle.pascal_tree.specs.declared.statements.Arm.{Arm, roll-Arm, map-Arm, fold-roll-Arm}
use Rattle.pascal_tree.specs.declared.statements.Rest.{Rest, roll-Rest, map-Rest, fold-roll-Rest}
use Rattle.pascal_tree.specs.declared.statements.Stmt.{Stmt, roll-Stmt, map-Stmt, fold-roll-Stmt, ind-Stmt}
use Rattle.pascal_tree.specs.ExpressionHeights.{expr_height, place_height}
use Rattle.pascal_tree.specs.StatementHeights as heights
use Rattle.pascal_tree.specs.StatementHeights.{stmts_height, plain_height, arm_height, rest_height, stmt_height}
use Rattle.expr_parser.specs.Layout.{Layout, Done, ◌&◌, word, symbol, height_of, with_commas}
use Rattle.expr_parser.specs.Semicolons.{with_semicolons}
use Rattle.expr_parser.specs.Writing.{write_expr, write_place}
use Rattle.expr_parser.specs.ConstantNodes.{write_label, write_case_label}
use Rattle.expr_parser.proofs.Layouts.{height_join}
use Rattle.expr_parser.proofs.Heights.{HasHeight, Known, with_parts, nodes, semicolons_height, commas_levels, semicolons_levels, commas_flat, label_flat, case_label_flat, args_levels, expr_levels, place_levels}
use Rattle.stmt_parser.specs.Writing as writing
use Rattle.stmt_parser.specs.Writing.{direction_word, write_plain, write_arm, write_rest, write_stmt}

module _ (d : Dialect) where
  -- ---- nodes of which the heights of the parts are known

  abbrev Known-Plain : Type 0
  Known-Plain = Known (write_plain d) plain_height

  abbrev Known-Arm : Type 0
  Known-Arm = Known (write_arm d) arm_height

  abbrev Known-Rest : Type 0
  Known-Rest = Known (write_rest d) rest_height

  abbrev Known-Stmt : Type 0
  Known-Stmt = Known (write_stmt d) stmt_height

  abbrev WithKnown : (Type 0 → Type 0 → Type 0 → Type 0 → Type 0) → Type 0
  WithKnown F = F Known-Plain Known-Arm Known-Rest Known-Stmt

  abbrev WithNodes : (Type 0 → Type 0 → Type 0 → Type 0 → Type 0) → Type 0
  WithNodes F = F Plain Arm Rest Stmt

  abbrev bare_plain : WithKnown Plain-F → WithNodes Plain-F
  bare_plain y = map-Plain Known-Plain Known-Arm Known-Rest Known-Stmt Plain Arm Rest Stmt (λ x. x.0) (λ x. x.0) (λ x. x.0) (λ x. x.0) y

  abbrev bare_arm : WithKnown Arm-F → WithNodes Arm-F
  bare_arm y = map-Arm Known-Plain Known-Arm Known-Rest Known-Stmt Plain Arm Rest Stmt (λ x. x.0) (λ x. x.0) (λ x. x.0) (λ x. x.0) y

  abbrev bare_rest : WithKnown Rest-F → WithNodes Rest-F
  bare_rest y = map-Rest Known-Plain Known-Arm Known-Rest Known-Stmt Plain Arm Rest Stmt (λ x. x.0) (λ x. x.0) (λ x. x.0) (λ x. x.0) y

  abbrev bare_stmt : WithKnown Stmt-F → WithNodes Stmt-F
  bare_stmt y = map-Stmt Known-Plain Known-Arm Known-Rest Known-Stmt Plain Arm Rest Stmt (λ x. x.0) (λ x. x.0) (λ x. x.0) (λ x. x.0) y

  -- ---- what is written of a node by its parts has the height that it has by its parts

  abbrev Meets-Plain : WithKnown Plain-F → Type 0
  Meets-Plain y = height_of (writing.of_plain (map-Plain Plain Arm Rest Stmt Layout Layout Layout Layout (write_plain d) (write_arm d) (write_rest d) (write_stmt d) (bare_plain y))) ≡ heights.of_plain (map-Plain Plain Arm Rest Stmt ℕ ℕ ℕ ℕ plain_height arm_height rest_height stmt_height (bare_plain y))

  abbrev Meets-Arm : WithKnown Arm-F → Type 0
  Meets-Arm y = height_of (writing.of_arm (map-Arm Plain Arm Rest Stmt Layout Layout Layout Layout (write_plain d) (write_arm d) (write_rest d) (write_stmt d) (bare_arm y))) ≡ heights.of_arm (map-Arm Plain Arm Rest Stmt ℕ ℕ ℕ ℕ plain_height arm_height rest_height stmt_height (bare_arm y))

  abbrev Meets-Rest : WithKnown Rest-F → Type 0
  Meets-Rest y = height_of ((writing.of_rest d) (map-Rest Plain Arm Rest Stmt Layout Layout Layout Layout (write_plain d) (write_arm d) (write_rest d) (write_stmt d) (bare_rest y))) ≡ heights.of_rest (map-Rest Plain Arm Rest Stmt ℕ ℕ ℕ ℕ plain_height arm_height rest_height stmt_height (bare_rest y))

  abbrev Meets-Stmt : WithKnown Stmt-F → Type 0
  Meets-Stmt y = height_of (writing.of_stmt (map-Stmt Plain Arm Rest Stmt Layout Layout Layout Layout (write_plain d) (write_arm d) (write_rest d) (write_stmt d) (bare_stmt y))) ≡ heights.of_stmt (map-Stmt Plain Arm Rest Stmt ℕ ℕ ℕ ℕ plain_height arm_height rest_height stmt_height (bare_stmt y))

  abbrev known_stmts : List Known-Stmt → Layout
  known_stmts all = with_semicolons (map (write_stmt d) (nodes (write_stmt d) stmt_height all))

  abbrev known_arms : List Known-Arm → Layout
  known_arms all = with_semicolons (map (write_arm d) (nodes (write_arm d) arm_height all))

  case_height : (selector : Expr) (arms tail : Layout) → height_of (write_expr selector & word word_.KwOf & arms & tail) ≡ max (expr_height selector) (max (height_of arms) (height_of tail))
  case_height selector arms tail = omega (arith, height_join (write_expr selector) (word word_.KwOf & arms & tail), height_join arms tail, expr_levels selector)

  meets_case : (selector : Expr) (arms : List Known-Arm) (closed : Bool) (rest : Option Known-Rest) (span : Span) → Meets-Plain (part.Case selector arms closed rest span)
  meets_case selector arms closed rest span = by closed rest
    where
      by : (closed : Bool) (rest : Option Known-Rest) → Meets-Plain (part.Case selector arms closed rest span)
      by true None = omega (arith, case_height selector (known_arms arms) (symbol mark.Semicolon & word word_.KwEnd), semicolons_height (write_arm d) arm_height arms)
      by false None = omega (arith, case_height selector (known_arms arms) (word word_.KwEnd), semicolons_height (write_arm d) arm_height arms)
      by true (Some r) =
          omega (arith, case_height selector (known_arms arms) (symbol mark.Semicolon & write_rest d r.0 & word word_.KwEnd), semicolons_height (write_arm d) arm_height arms, height_join (write_rest d r.0) (word word_.KwEnd), r.1)
      by false (Some r) = omega (arith, case_height selector (known_arms arms) (write_rest d r.0 & word word_.KwEnd), semicolons_height (write_arm d) arm_height arms, height_join (write_rest d r.0) (word word_.KwEnd), r.1)

  meets_plain : (y : WithKnown Plain-F) → Meets-Plain y
  meets_plain (part.Nothing span) = omega arith
  meets_plain (part.Assign target value span) = omega (arith, height_join (write_place target) (symbol mark.Assign & write_expr value), place_levels target, expr_levels value)
  meets_plain (part.Call name None span) = omega arith
  meets_plain (part.Call name (Some args) span) = omega (arith, args_levels args)
  meets_plain (part.Goto label span) = omega (arith, label_flat label)
  meets_plain (part.Compound body span) = omega (arith, height_join (known_stmts body) (word word_.KwEnd), semicolons_height (write_stmt d) stmt_height body)
  meets_plain (part.If condition kept None span) =
      omega (arith, height_join (write_expr condition) (word word_.KwThen & write_stmt d kept.0 & Done), height_join (write_stmt d kept.0) Done, expr_levels condition, kept.1)
  meets_plain (part.If condition kept (Some other) span) =
      omega (arith, height_join (write_expr condition) (word word_.KwThen & write_stmt d kept.0 & word word_.KwElse & write_stmt d other.0), height_join (write_stmt d kept.0) (word word_.KwElse & write_stmt d other.0), expr_levels condition, kept.1, other.1)
  meets_plain (part.Case selector arms closed rest span) = meets_case selector arms closed rest span
  meets_plain (part.While condition body span) = omega (arith, height_join (write_expr condition) (word word_.KwDo & write_stmt d body.0), expr_levels condition, body.1)
  meets_plain (part.Repeat body until span) = omega (arith, height_join (known_stmts body) (word word_.KwUntil & write_expr until), semicolons_height (write_stmt d) stmt_height body, expr_levels until)
  meets_plain (part.For variable first direction last body span) =
      omega (arith, height_join (write_expr first) (word (direction_word direction) & write_expr last & word word_.KwDo & write_stmt d body.0), height_join (write_expr last) (word word_.KwDo & write_stmt d body.0), expr_levels first, expr_levels last, body.1)
  meets_plain (part.With places body span) =
      omega (arith, height_join (with_commas (map write_place places)) (word word_.KwDo & write_stmt d body.0), commas_levels write_place place_height place_levels places, body.1)
  meets_plain (part.Try body recover span) =
      omega (arith, height_join (known_stmts body) (word word_.KwRecover & write_stmt d recover.0), semicolons_height (write_stmt d) stmt_height body, recover.1)

  meets_arm : (y : WithKnown Arm-F) → Meets-Arm y
  meets_arm y = omega (arith, height_join (with_commas (map write_case_label y.labels)) (symbol mark.Colon & write_stmt d y.body.0), commas_flat write_case_label case_label_flat y.labels, y.body.1)

  meets_rest : (y : WithKnown Rest-F) → Meets-Rest y
  meets_rest y = omega (arith, semicolons_height (write_stmt d) stmt_height y.body)

  meets_stmt : (y : WithKnown Stmt-F) → Meets-Stmt y
  meets_stmt y = by y.label y.plain y.span
    where
      by : (label : Option Label) (plain : Known-Plain) (span : Span) → Meets-Stmt (record { label = label; plain = plain; span = span })
      by None plain span = omega (arith, plain.1)
      by (Some l) plain span = omega (arith, height_join (write_label l & symbol mark.Colon) (write_plain d plain.0), height_join (write_label l) (symbol mark.Colon), label_flat l, plain.1)

  -- ---- so it has the height of the node

  step_plain : (x : WithNodes Plain-F) (y : WithKnown Plain-F) → bare_plain y ≡ x → HasHeight (write_plain d) plain_height (roll-Plain x)
  unfolding write_plain write_arm write_rest write_stmt plain_height arm_height rest_height stmt_height
  step_plain x y is = subst (λ z. HasHeight (write_plain d) plain_height (roll-Plain z)) is (with_parts (ap (λ l. height_of l) (fold-roll-Plain Layout Layout Layout Layout writing.of_plain writing.of_arm (writing.of_rest d) writing.of_stmt (bare_plain y))) (fold-roll-Plain ℕ ℕ ℕ ℕ heights.of_plain heights.of_arm heights.of_rest heights.of_stmt (bare_plain y)) (meets_plain y))

  step_arm : (x : WithNodes Arm-F) (y : WithKnown Arm-F) → bare_arm y ≡ x → HasHeight (write_arm d) arm_height (roll-Arm x)
  unfolding write_plain write_arm write_rest write_stmt plain_height arm_height rest_height stmt_height
  step_arm x y is = subst (λ z. HasHeight (write_arm d) arm_height (roll-Arm z)) is (with_parts (ap (λ l. height_of l) (fold-roll-Arm Layout Layout Layout Layout writing.of_plain writing.of_arm (writing.of_rest d) writing.of_stmt (bare_arm y))) (fold-roll-Arm ℕ ℕ ℕ ℕ heights.of_plain heights.of_arm heights.of_rest heights.of_stmt (bare_arm y)) (meets_arm y))

  step_rest : (x : WithNodes Rest-F) (y : WithKnown Rest-F) → bare_rest y ≡ x → HasHeight (write_rest d) rest_height (roll-Rest x)
  unfolding write_plain write_arm write_rest write_stmt plain_height arm_height rest_height stmt_height
  step_rest x y is = subst (λ z. HasHeight (write_rest d) rest_height (roll-Rest z)) is (with_parts (ap (λ l. height_of l) (fold-roll-Rest Layout Layout Layout Layout writing.of_plain writing.of_arm (writing.of_rest d) writing.of_stmt (bare_rest y))) (fold-roll-Rest ℕ ℕ ℕ ℕ heights.of_plain heights.of_arm heights.of_rest heights.of_stmt (bare_rest y)) (meets_rest y))

  step_stmt : (x : WithNodes Stmt-F) (y : WithKnown Stmt-F) → bare_stmt y ≡ x → HasHeight (write_stmt d) stmt_height (roll-Stmt x)
  unfolding write_plain write_arm write_rest write_stmt plain_height arm_height rest_height stmt_height
  step_stmt x y is = subst (λ z. HasHeight (write_stmt d) stmt_height (roll-Stmt z)) is (with_parts (ap (λ l. height_of l) (fold-roll-Stmt Layout Layout Layout Layout writing.of_plain writing.of_arm (writing.of_rest d) writing.of_stmt (bare_stmt y))) (fold-roll-Stmt ℕ ℕ ℕ ℕ heights.of_plain heights.of_arm heights.of_rest heights.of_stmt (bare_stmt y)) (meets_stmt y))

  pub stmt_levels : (x : Stmt) → height_of (write_stmt d x) ≡ stmt_height x
  stmt_levels = ind-Stmt (HasHeight (write_plain d) plain_height) (HasHeight (write_arm d) arm_height) (HasHeight (write_rest d) rest_height) (HasHeight (write_stmt d) stmt_height) step_plain step_arm step_rest step_stmt

  pub stmts_levels : (all : List Stmt) → height_of (with_semicolons (map (write_stmt d) all)) ≡ stmts_height all
  stmts_levels all = semicolons_levels (write_stmt d) stmt_height stmt_levels all
