-- The height of each node of a statement, by those of its parts as programs see them.
use Rattle.std.proofs.Common.{◌≡◌, ℕ, Bool, suc, max, List, map, Option, Some, None, sym, ap, ◌∙◌}
use Rattle.p2c_text.specs.declared.place.Span.{Span}
use Rattle.pascal_tree.specs.declared.names.Identifier.{Identifier}
use Rattle.pascal_tree.specs.declared.names.Label.{Label}
use Rattle.pascal_tree.specs.declared.expressions.Args.{Args}
use Rattle.pascal_tree.specs.declared.expressions.Expr.{Expr}
use Rattle.pascal_tree.specs.declared.expressions.Place.{Place}
use Rattle.pascal_tree.specs.declared.statements.Direction.{Direction}
use Rattle.pascal_tree.specs.declared.statements.Plain.TheOpen as part
use Rattle.pascal_tree.specs.declared.statements.Plain.{roll-Plain, fold-roll-Plain}
use Rattle.pascal_tree.specs.declared.statements.Plain.TheVariants as plain
use Rattle.pascal_tree.specs.declared.statements.Arm.{Arm, out-Arm, fold_out-Arm}
use Rattle.pascal_tree.specs.declared.statements.Rest.{Rest, out-Rest, fold_out-Rest}
use Rattle.pascal_tree.specs.declared.statements.Stmt.{Stmt, out-Stmt, fold_out-Stmt}
use Rattle.pascal_tree.specs.ExpressionHeights.{greatest, expr_height, place_height}
use Rattle.pascal_tree.specs.StatementHeights.{of_plain, of_arm, of_rest, of_stmt, given_height, plain_height, arm_height, rest_height, stmt_height, stmts_height, else_height, rest_part_height}

pub stmt_open : (x : Stmt) → stmt_height x ≡ suc (plain_height (out-Stmt x).plain)
unfolding plain_height arm_height rest_height stmt_height
stmt_open x = fold_out-Stmt ℕ ℕ ℕ ℕ of_plain of_arm of_rest of_stmt x

pub arm_open : (x : Arm) → arm_height x ≡ stmt_height (out-Arm x).body
unfolding plain_height arm_height rest_height stmt_height
arm_open x = fold_out-Arm ℕ ℕ ℕ ℕ of_plain of_arm of_rest of_stmt x

pub rest_open : (x : Rest) → rest_height x ≡ stmts_height (out-Rest x).body
unfolding plain_height arm_height rest_height stmt_height
rest_open x = fold_out-Rest ℕ ℕ ℕ ℕ of_plain of_arm of_rest of_stmt x

pub plain_nothing : (span : Span) → plain_height (plain.Nothing span) ≡ 0
unfolding plain_height arm_height rest_height stmt_height
plain_nothing span = ap plain_height (sym (plain.rolls-Nothing span)) ∙ fold-roll-Plain ℕ ℕ ℕ ℕ of_plain of_arm of_rest of_stmt (part.Nothing span)

pub plain_assign : (target : Place) (value : Expr) (span : Span) → plain_height (plain.Assign target value span) ≡ max (place_height target) (expr_height value)
unfolding plain_height arm_height rest_height stmt_height
plain_assign target value span = ap plain_height (sym (plain.rolls-Assign target value span)) ∙ fold-roll-Plain ℕ ℕ ℕ ℕ of_plain of_arm of_rest of_stmt (part.Assign target value span)

pub plain_call : (name : Identifier) (args : Option Args) (span : Span) → plain_height (plain.Call name args span) ≡ given_height args
unfolding plain_height arm_height rest_height stmt_height
plain_call name args span = ap plain_height (sym (plain.rolls-Call name args span)) ∙ fold-roll-Plain ℕ ℕ ℕ ℕ of_plain of_arm of_rest of_stmt (part.Call name args span)

pub plain_goto : (label : Label) (span : Span) → plain_height (plain.Goto label span) ≡ 0
unfolding plain_height arm_height rest_height stmt_height
plain_goto label span = ap plain_height (sym (plain.rolls-Goto label span)) ∙ fold-roll-Plain ℕ ℕ ℕ ℕ of_plain of_arm of_rest of_stmt (part.Goto label span)

pub plain_compound : (body : List Stmt) (span : Span) → plain_height (plain.Compound body span) ≡ stmts_height body
unfolding plain_height arm_height rest_height stmt_height
plain_compound body span = ap plain_height (sym (plain.rolls-Compound body span)) ∙ fold-roll-Plain ℕ ℕ ℕ ℕ of_plain of_arm of_rest of_stmt (part.Compound body span)

pub plain_while : (condition : Expr) (body : Stmt) (span : Span) → plain_height (plain.While condition body span) ≡ max (expr_height condition) (stmt_height body)
unfolding plain_height arm_height rest_height stmt_height
plain_while condition body span = ap plain_height (sym (plain.rolls-While condition body span)) ∙ fold-roll-Plain ℕ ℕ ℕ ℕ of_plain of_arm of_rest of_stmt (part.While condition body span)

pub plain_repeat : (body : List Stmt) (until : Expr) (span : Span) → plain_height (plain.Repeat body until span) ≡ max (stmts_height body) (expr_height until)
unfolding plain_height arm_height rest_height stmt_height
plain_repeat body until span = ap plain_height (sym (plain.rolls-Repeat body until span)) ∙ fold-roll-Plain ℕ ℕ ℕ ℕ of_plain of_arm of_rest of_stmt (part.Repeat body until span)

pub plain_for : (variable : Identifier) (first : Expr) (direction : Direction) (last : Expr) (body : Stmt) (span : Span) → plain_height (plain.For variable first direction last body span) ≡ max (expr_height first) (max (expr_height last) (stmt_height body))
unfolding plain_height arm_height rest_height stmt_height
plain_for variable first direction last body span = ap plain_height (sym (plain.rolls-For variable first direction last body span)) ∙ fold-roll-Plain ℕ ℕ ℕ ℕ of_plain of_arm of_rest of_stmt (part.For variable first direction last body span)

pub plain_with : (places : List Place) (body : Stmt) (span : Span) → plain_height (plain.With places body span) ≡ max (greatest (map place_height places)) (stmt_height body)
unfolding plain_height arm_height rest_height stmt_height
plain_with places body span = ap plain_height (sym (plain.rolls-With places body span)) ∙ fold-roll-Plain ℕ ℕ ℕ ℕ of_plain of_arm of_rest of_stmt (part.With places body span)

pub plain_try : (body : List Stmt) (recover : Stmt) (span : Span) → plain_height (plain.Try body recover span) ≡ max (stmts_height body) (stmt_height recover)
unfolding plain_height arm_height rest_height stmt_height
plain_try body recover span = ap plain_height (sym (plain.rolls-Try body recover span)) ∙ fold-roll-Plain ℕ ℕ ℕ ℕ of_plain of_arm of_rest of_stmt (part.Try body recover span)

if_made : (condition : Expr) (then_part : Stmt) (else_part : Option Stmt) (span : Span) → plain_height (roll-Plain (part.If condition then_part else_part span)) ≡ max (expr_height condition) (max (stmt_height then_part) (else_height else_part))
unfolding plain_height arm_height rest_height stmt_height
if_made condition then_part None span = fold-roll-Plain ℕ ℕ ℕ ℕ of_plain of_arm of_rest of_stmt (part.If condition then_part None span)
if_made condition then_part (Some s) span = fold-roll-Plain ℕ ℕ ℕ ℕ of_plain of_arm of_rest of_stmt (part.If condition then_part (Some s) span)

pub plain_if : (condition : Expr) (then_part : Stmt) (else_part : Option Stmt) (span : Span) → plain_height (plain.If condition then_part else_part span) ≡ max (expr_height condition) (max (stmt_height then_part) (else_height else_part))
plain_if condition then_part else_part span = ap plain_height (sym (plain.rolls-If condition then_part else_part span)) ∙ if_made condition then_part else_part span

case_made : (selector : Expr) (arms : List Arm) (closed : Bool) (rest : Option Rest) (span : Span) → plain_height (roll-Plain (part.Case selector arms closed rest span)) ≡ max (expr_height selector) (max (greatest (map arm_height arms)) (rest_part_height rest))
unfolding plain_height arm_height rest_height stmt_height
case_made selector arms closed None span = fold-roll-Plain ℕ ℕ ℕ ℕ of_plain of_arm of_rest of_stmt (part.Case selector arms closed None span)
case_made selector arms closed (Some s) span = fold-roll-Plain ℕ ℕ ℕ ℕ of_plain of_arm of_rest of_stmt (part.Case selector arms closed (Some s) span)

pub plain_case : (selector : Expr) (arms : List Arm) (closed : Bool) (rest : Option Rest) (span : Span) → plain_height (plain.Case selector arms closed rest span) ≡ max (expr_height selector) (max (greatest (map arm_height arms)) (rest_part_height rest))
plain_case selector arms closed rest span = ap plain_height (sym (plain.rolls-Case selector arms closed rest span)) ∙ case_made selector arms closed rest span

pub ruleset plain_heights = (plain_nothing, plain_assign, plain_call, plain_goto, plain_compound, plain_while, plain_repeat, plain_for, plain_with, plain_try, plain_if, plain_case)
