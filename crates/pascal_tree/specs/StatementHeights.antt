-- How many statements, expressions and factors stand on one path of a statement. Each line gives the height of a node by those of its parts.
use Rattle.std.specs.Prelude.{ℕ, suc, max, List, map, Option, Some, None}
use Rattle.pascal_tree.specs.declared.expressions.Args.{Args}
use Rattle.pascal_tree.specs.declared.statements.Plain.TheOpen as part
use Rattle.pascal_tree.specs.declared.statements.Plain.TheOpen.{Plain-F, Arm-F, Rest-F, Stmt-F}
use Rattle.pascal_tree.specs.declared.statements.Plain.{Plain, fold-Plain}
use Rattle.pascal_tree.specs.declared.statements.Arm.{Arm, fold-Arm}
use Rattle.pascal_tree.specs.declared.statements.Rest.{Rest, fold-Rest}
use Rattle.pascal_tree.specs.declared.statements.Stmt.{Stmt, fold-Stmt}
use Rattle.pascal_tree.specs.ExpressionHeights.{greatest, optional, expr_height, place_height, args_height}

abbrev pub given_height : Option Args → ℕ
given_height None = 0
given_height (Some args) = args_height args

abbrev pub of_plain : Plain-F ℕ ℕ ℕ ℕ → ℕ
of_plain (part.Nothing span) = 0
of_plain (part.Assign target value span) = max (place_height target) (expr_height value)
of_plain (part.Call name args span) = given_height args
of_plain (part.Goto label span) = 0
of_plain (part.Compound body span) = greatest body
of_plain (part.If condition then_part else_part span) = max (expr_height condition) (max then_part (optional else_part))
of_plain (part.Case selector arms closed rest span) = max (expr_height selector) (max (greatest arms) (optional rest))
of_plain (part.While condition body span) = max (expr_height condition) body
of_plain (part.Repeat body until span) = max (greatest body) (expr_height until)
of_plain (part.For variable first direction last body span) = max (expr_height first) (max (expr_height last) body)
of_plain (part.With places body span) = max (greatest (map place_height places)) body
of_plain (part.Try body recover span) = max (greatest body) recover

abbrev pub of_arm : Arm-F ℕ ℕ ℕ ℕ → ℕ
of_arm a = a.body

abbrev pub of_rest : Rest-F ℕ ℕ ℕ ℕ → ℕ
of_rest r = greatest r.body

abbrev pub of_stmt : Stmt-F ℕ ℕ ℕ ℕ → ℕ
of_stmt s = suc s.plain

unfoldable pub plain_height : Plain → ℕ
plain_height = fold-Plain ℕ ℕ ℕ ℕ of_plain of_arm of_rest of_stmt

unfoldable pub arm_height : Arm → ℕ
arm_height = fold-Arm ℕ ℕ ℕ ℕ of_plain of_arm of_rest of_stmt

unfoldable pub rest_height : Rest → ℕ
rest_height = fold-Rest ℕ ℕ ℕ ℕ of_plain of_arm of_rest of_stmt

unfoldable pub stmt_height : Stmt → ℕ
stmt_height = fold-Stmt ℕ ℕ ℕ ℕ of_plain of_arm of_rest of_stmt

abbrev pub stmts_height : List Stmt → ℕ
stmts_height all = greatest (map stmt_height all)

abbrev pub else_height : Option Stmt → ℕ
else_height None = 0
else_height (Some s) = stmt_height s

abbrev pub rest_part_height : Option Rest → ℕ
rest_part_height None = 0
rest_part_height (Some r) = rest_height r
