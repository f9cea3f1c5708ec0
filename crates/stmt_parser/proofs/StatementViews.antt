-- Statements by cases.
use Rattle.std.proofs.Common.{◌≡◌, Bool, List, Option, sym, subst}
use Rattle.p2c_text.specs.declared.place.Span.{Span}
use Rattle.pascal_tree.specs.declared.names.Identifier.{Identifier}
use Rattle.pascal_tree.specs.declared.names.Label.{Label}
use Rattle.pascal_tree.specs.declared.expressions.Args.{Args}
use Rattle.pascal_tree.specs.declared.expressions.Expr.{Expr}
use Rattle.pascal_tree.specs.declared.expressions.Place.{Place}
use Rattle.pascal_tree.specs.declared.statements.Direction.{Direction}
use Rattle.pascal_tree.specs.declared.statements.Plain.TheOpen as part
use Rattle.pascal_tree.specs.declared.statements.Plain.TheOpen.{Plain-F}
use Rattle.pascal_tree.specs.declared.statements.Plain.{Plain, out-Plain, roll-Plain, roll-out-Plain}
use Rattle.pascal_tree.specs.declared.statements.Plain.TheVariants as plain_
use Rattle.pascal_tree.specs.declared.statements.Arm.{Arm, out-Arm, roll-out-Arm}
use Rattle.pascal_tree.specs.declared.statements.Rest.{Rest, out-Rest, roll-out-Rest}
use Rattle.pascal_tree.specs.declared.statements.Stmt.{Stmt, out-Stmt, roll-out-Stmt}
use Rattle.stmt_parser.specs.Statements.{stmt_of}
use Rattle.stmt_parser.specs.Cases.{arm_of, rest_of}

pub stmt_is : (x : Stmt) → x ≡ stmt_of (out-Stmt x).label (out-Stmt x).plain (out-Stmt x).span
stmt_is x = sym (roll-out-Stmt x)

pub arm_is : (x : Arm) → x ≡ arm_of (out-Arm x).labels (out-Arm x).body (out-Arm x).span
arm_is x = sym (roll-out-Arm x)

pub rest_is : (x : Rest) → x ≡ rest_of (out-Rest x).body (out-Rest x).span
rest_is x = sym (roll-out-Rest x)

module _ (P : Plain → Type 0) where
  pub record PlainCases : Type 0 where
    pub nothing : (span : Span) → P (plain_.Nothing span)
    pub assign : (target : Place) (value : Expr) (span : Span) → P (plain_.Assign target value span)
    pub call : (name : Identifier) (args : Option Args) (span : Span) → P (plain_.Call name args span)
    pub goto : (label : Label) (span : Span) → P (plain_.Goto label span)
    pub compound : (body : List Stmt) (span : Span) → P (plain_.Compound body span)
    pub conditional : (condition : Expr) (then_part : Stmt) (else_part : Option Stmt) (span : Span) → P (plain_.If condition then_part else_part span)
    pub cases : (selector : Expr) (arms : List Arm) (closed : Bool) (rest : Option Rest) (span : Span) → P (plain_.Case selector arms closed rest span)
    pub while_loop : (condition : Expr) (body : Stmt) (span : Span) → P (plain_.While condition body span)
    pub repeat_loop : (body : List Stmt) (until : Expr) (span : Span) → P (plain_.Repeat body until span)
    pub for_loop : (variable : Identifier) (first : Expr) (direction : Direction) (last : Expr) (body : Stmt) (span : Span) → P (plain_.For variable first direction last body span)
    pub with_places : (places : List Place) (body : Stmt) (span : Span) → P (plain_.With places body span)
    pub try_block : (body : List Stmt) (recover : Stmt) (span : Span) → P (plain_.Try body recover span)

  rolled_plain : PlainCases → (x : Plain-F Plain Arm Rest Stmt) → P (roll-Plain x)
  rolled_plain c (part.Nothing span) = subst P (sym (plain_.rolls-Nothing span)) (c.nothing span)
  rolled_plain c (part.Assign target value span) = subst P (sym (plain_.rolls-Assign target value span)) (c.assign target value span)
  rolled_plain c (part.Call name args span) = subst P (sym (plain_.rolls-Call name args span)) (c.call name args span)
  rolled_plain c (part.Goto label span) = subst P (sym (plain_.rolls-Goto label span)) (c.goto label span)
  rolled_plain c (part.Compound body span) = subst P (sym (plain_.rolls-Compound body span)) (c.compound body span)
  rolled_plain c (part.If condition then_part else_part span) = subst P (sym (plain_.rolls-If condition then_part else_part span)) (c.conditional condition then_part else_part span)
  rolled_plain c (part.Case selector arms closed rest span) = subst P (sym (plain_.rolls-Case selector arms closed rest span)) (c.cases selector arms closed rest span)
  rolled_plain c (part.While condition body span) = subst P (sym (plain_.rolls-While condition body span)) (c.while_loop condition body span)
  rolled_plain c (part.Repeat body until span) = subst P (sym (plain_.rolls-Repeat body until span)) (c.repeat_loop body until span)
  rolled_plain c (part.For variable first direction last body span) = subst P (sym (plain_.rolls-For variable first direction last body span)) (c.for_loop variable first direction last body span)
  rolled_plain c (part.With places body span) = subst P (sym (plain_.rolls-With places body span)) (c.with_places places body span)
  rolled_plain c (part.Try body recover span) = subst P (sym (plain_.rolls-Try body recover span)) (c.try_block body recover span)

  pub plain_cases : PlainCases → (x : Plain) → P x
  plain_cases c x = subst P (roll-out-Plain x) (rolled_plain c (out-Plain x))
