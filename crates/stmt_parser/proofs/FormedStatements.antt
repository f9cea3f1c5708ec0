-- Which statements are formed as the grammar asks, by their parts as programs see them.
use Rattle.std.proofs.Common.{◌≡◌, Bool, true, ◌&&◌, List, map, Option, Some, None, sym, ap, ◌∙◌}
use Rattle.p2c_text.specs.declared.place.Span.{Span}
use Rattle.p2c_text.specs.declared.dialect.Dialect.{Dialect}
use Rattle.pascal_tree.specs.declared.names.Identifier.{Identifier}
use Rattle.pascal_tree.specs.declared.names.Label.{Label}
use Rattle.pascal_tree.specs.declared.constants.CaseLabel.{CaseLabel}
use Rattle.pascal_tree.specs.declared.expressions.Args.{Args}
use Rattle.pascal_tree.specs.declared.expressions.Expr.{Expr}
use Rattle.pascal_tree.specs.declared.expressions.Place.{Place}
use Rattle.pascal_tree.specs.declared.statements.Direction.{Direction}
use Rattle.pascal_tree.specs.declared.statements.Plain.TheOpen as part
use Rattle.pascal_tree.specs.declared.statements.Plain.{Plain, fold-roll-Plain}
use Rattle.pascal_tree.specs.declared.statements.Plain.TheVariants as plain_
use Rattle.pascal_tree.specs.declared.statements.Arm.{Arm, fold-roll-Arm}
use Rattle.pascal_tree.specs.declared.statements.Rest.{Rest, fold-roll-Rest}
use Rattle.pascal_tree.specs.declared.statements.Stmt.{Stmt, fold-roll-Stmt}
use Rattle.expr_parser.specs.Grammar.{some_all, formed_expr, formed_place}
use Rattle.stmt_parser.specs.Statements.{stmt_of}
use Rattle.stmt_parser.specs.Cases.{arm_of, rest_of}
use Rattle.expr_parser.specs.ConstantNodes.{formed_label, formed_case_label}
use Rattle.stmt_parser.specs.Grammar.{Formed, some_alone, branches, cases, formed_optional_label, formed_optional_args, of_plain, of_arm, of_rest, of_stmt, formed_plain, formed_arm, formed_rest, formed_stmt}

abbrev pub formed_else : Dialect → Option Stmt → Option Formed
formed_else d None = None
formed_else d (Some s) = Some (formed_stmt d s)

abbrev pub formed_rest_part : Dialect → Option Rest → Option Formed
formed_rest_part d None = None
formed_rest_part d (Some r) = Some (formed_rest d r)

pub formed_stmt_of : (d : Dialect) (label : Option Label) (plain : Plain) (span : Span) (else_follows : Bool) → formed_stmt d (stmt_of label plain span) else_follows ≡ (formed_optional_label d label && formed_plain d plain else_follows)
unfolding formed_plain formed_arm formed_rest formed_stmt
formed_stmt_of d label plain span else_follows = ap (λ f. f else_follows) (fold-roll-Stmt Formed Formed Formed Formed (of_plain d) (of_arm d) of_rest (of_stmt d) (record { label = label; plain = plain; span = span }))

pub formed_arm_of : (d : Dialect) (labels : List CaseLabel) (body : Stmt) (span : Span) (else_follows : Bool) → formed_arm d (arm_of labels body span) else_follows ≡ (some_all (map (formed_case_label d) labels) && formed_stmt d body else_follows)
unfolding formed_plain formed_arm formed_rest formed_stmt
formed_arm_of d labels body span else_follows = ap (λ f. f else_follows) (fold-roll-Arm Formed Formed Formed Formed (of_plain d) (of_arm d) of_rest (of_stmt d) (record { labels = labels; body = body; span = span }))

pub formed_rest_of : (d : Dialect) (body : List Stmt) (span : Span) (else_follows : Bool) → formed_rest d (rest_of body span) else_follows ≡ some_alone (map (formed_stmt d) body)
unfolding formed_plain formed_arm formed_rest formed_stmt
formed_rest_of d body span else_follows = ap (λ f. f else_follows) (fold-roll-Rest Formed Formed Formed Formed (of_plain d) (of_arm d) of_rest (of_stmt d) (record { body = body; span = span }))

pub formed_nothing_of : (d : Dialect) (span : Span) (else_follows : Bool) → formed_plain d (plain_.Nothing span) else_follows ≡ true
unfolding formed_plain formed_arm formed_rest formed_stmt
formed_nothing_of d span else_follows = ap (λ x. formed_plain d x else_follows) (sym (plain_.rolls-Nothing span)) ∙ ap (λ f. f else_follows) (fold-roll-Plain Formed Formed Formed Formed (of_plain d) (of_arm d) of_rest (of_stmt d) (part.Nothing span))

pub formed_assign_of : (d : Dialect) (target : Place) (value : Expr) (span : Span) (else_follows : Bool) → formed_plain d (plain_.Assign target value span) else_follows ≡ (formed_place d target && formed_expr d value)
unfolding formed_plain formed_arm formed_rest formed_stmt
formed_assign_of d target value span else_follows = ap (λ x. formed_plain d x else_follows) (sym (plain_.rolls-Assign target value span)) ∙ ap (λ f. f else_follows) (fold-roll-Plain Formed Formed Formed Formed (of_plain d) (of_arm d) of_rest (of_stmt d) (part.Assign target value span))

pub formed_call_of : (d : Dialect) (name : Identifier) (args : Option Args) (span : Span) (else_follows : Bool) → formed_plain d (plain_.Call name args span) else_follows ≡ formed_optional_args d args
unfolding formed_plain formed_arm formed_rest formed_stmt
formed_call_of d name args span else_follows = ap (λ x. formed_plain d x else_follows) (sym (plain_.rolls-Call name args span)) ∙ ap (λ f. f else_follows) (fold-roll-Plain Formed Formed Formed Formed (of_plain d) (of_arm d) of_rest (of_stmt d) (part.Call name args span))

pub formed_goto_of : (d : Dialect) (label : Label) (span : Span) (else_follows : Bool) → formed_plain d (plain_.Goto label span) else_follows ≡ formed_label d label
unfolding formed_plain formed_arm formed_rest formed_stmt
formed_goto_of d label span else_follows = ap (λ x. formed_plain d x else_follows) (sym (plain_.rolls-Goto label span)) ∙ ap (λ f. f else_follows) (fold-roll-Plain Formed Formed Formed Formed (of_plain d) (of_arm d) of_rest (of_stmt d) (part.Goto label span))

pub formed_compound_of : (d : Dialect) (body : List Stmt) (span : Span) (else_follows : Bool) → formed_plain d (plain_.Compound body span) else_follows ≡ some_alone (map (formed_stmt d) body)
unfolding formed_plain formed_arm formed_rest formed_stmt
formed_compound_of d body span else_follows = ap (λ x. formed_plain d x else_follows) (sym (plain_.rolls-Compound body span)) ∙ ap (λ f. f else_follows) (fold-roll-Plain Formed Formed Formed Formed (of_plain d) (of_arm d) of_rest (of_stmt d) (part.Compound body span))

pub formed_if_of : (d : Dialect) (condition : Expr) (then_part : Stmt) (else_part : Option Stmt) (span : Span) (else_follows : Bool) → formed_plain d (plain_.If condition then_part else_part span) else_follows ≡ (formed_expr d condition && branches (formed_stmt d then_part) (formed_else d else_part) else_follows)
unfolding formed_plain formed_arm formed_rest formed_stmt
formed_if_of d condition then_part None span else_follows = ap (λ x. formed_plain d x else_follows) (sym (plain_.rolls-If condition then_part None span)) ∙ ap (λ f. f else_follows) (fold-roll-Plain Formed Formed Formed Formed (of_plain d) (of_arm d) of_rest (of_stmt d) (part.If condition then_part None span))
formed_if_of d condition then_part (Some x) span else_follows = ap (λ x. formed_plain d x else_follows) (sym (plain_.rolls-If condition then_part (Some x) span)) ∙ ap (λ f. f else_follows) (fold-roll-Plain Formed Formed Formed Formed (of_plain d) (of_arm d) of_rest (of_stmt d) (part.If condition then_part (Some x) span))

pub formed_case_of : (d : Dialect) (selector : Expr) (arms : List Arm) (closed : Bool) (rest : Option Rest) (span : Span) (else_follows : Bool) → formed_plain d (plain_.Case selector arms closed rest span) else_follows ≡ (formed_expr d selector && cases d (map (formed_arm d) arms) closed (formed_rest_part d rest))
unfolding formed_plain formed_arm formed_rest formed_stmt
formed_case_of d selector arms closed None span else_follows = ap (λ x. formed_plain d x else_follows) (sym (plain_.rolls-Case selector arms closed None span)) ∙ ap (λ f. f else_follows) (fold-roll-Plain Formed Formed Formed Formed (of_plain d) (of_arm d) of_rest (of_stmt d) (part.Case selector arms closed None span))
formed_case_of d selector arms closed (Some x) span else_follows = ap (λ x. formed_plain d x else_follows) (sym (plain_.rolls-Case selector arms closed (Some x) span)) ∙ ap (λ f. f else_follows) (fold-roll-Plain Formed Formed Formed Formed (of_plain d) (of_arm d) of_rest (of_stmt d) (part.Case selector arms closed (Some x) span))

pub formed_while_of : (d : Dialect) (condition : Expr) (body : Stmt) (span : Span) (else_follows : Bool) → formed_plain d (plain_.While condition body span) else_follows ≡ (formed_expr d condition && formed_stmt d body else_follows)
unfolding formed_plain formed_arm formed_rest formed_stmt
formed_while_of d condition body span else_follows = ap (λ x. formed_plain d x else_follows) (sym (plain_.rolls-While condition body span)) ∙ ap (λ f. f else_follows) (fold-roll-Plain Formed Formed Formed Formed (of_plain d) (of_arm d) of_rest (of_stmt d) (part.While condition body span))

pub formed_repeat_of : (d : Dialect) (body : List Stmt) (until : Expr) (span : Span) (else_follows : Bool) → formed_plain d (plain_.Repeat body until span) else_follows ≡ (some_alone (map (formed_stmt d) body) && formed_expr d until)
unfolding formed_plain formed_arm formed_rest formed_stmt
formed_repeat_of d body until span else_follows = ap (λ x. formed_plain d x else_follows) (sym (plain_.rolls-Repeat body until span)) ∙ ap (λ f. f else_follows) (fold-roll-Plain Formed Formed Formed Formed (of_plain d) (of_arm d) of_rest (of_stmt d) (part.Repeat body until span))

pub formed_for_of : (d : Dialect) (variable : Identifier) (first : Expr) (direction : Direction) (last : Expr) (body : Stmt) (span : Span) (else_follows : Bool) → formed_plain d (plain_.For variable first direction last body span) else_follows ≡ (formed_expr d first && formed_expr d last && formed_stmt d body else_follows)
unfolding formed_plain formed_arm formed_rest formed_stmt
formed_for_of d variable first direction last body span else_follows = ap (λ x. formed_plain d x else_follows) (sym (plain_.rolls-For variable first direction last body span)) ∙ ap (λ f. f else_follows) (fold-roll-Plain Formed Formed Formed Formed (of_plain d) (of_arm d) of_rest (of_stmt d) (part.For variable first direction last body span))

pub formed_with_of : (d : Dialect) (places : List Place) (body : Stmt) (span : Span) (else_follows : Bool) → formed_plain d (plain_.With places body span) else_follows ≡ (some_all (map (formed_place d) places) && formed_stmt d body else_follows)
unfolding formed_plain formed_arm formed_rest formed_stmt
formed_with_of d places body span else_follows = ap (λ x. formed_plain d x else_follows) (sym (plain_.rolls-With places body span)) ∙ ap (λ f. f else_follows) (fold-roll-Plain Formed Formed Formed Formed (of_plain d) (of_arm d) of_rest (of_stmt d) (part.With places body span))

pub formed_try_of : (d : Dialect) (body : List Stmt) (recover : Stmt) (span : Span) (else_follows : Bool) → formed_plain d (plain_.Try body recover span) else_follows ≡ (some_alone (map (formed_stmt d) body) && formed_stmt d recover else_follows)
unfolding formed_plain formed_arm formed_rest formed_stmt
formed_try_of d body recover span else_follows = ap (λ x. formed_plain d x else_follows) (sym (plain_.rolls-Try body recover span)) ∙ ap (λ f. f else_follows) (fold-roll-Plain Formed Formed Formed Formed (of_plain d) (of_arm d) of_rest (of_stmt d) (part.Try body recover span))
