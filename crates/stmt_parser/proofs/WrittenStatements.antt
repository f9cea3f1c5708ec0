-- How each statement is written, by its parts as programs see them.
use Rattle.std.proofs.Common.{◌≡◌, Bool, List, map, Option, Some, None, sym, ap, ◌∙◌}
use Rattle.p2c_text.specs.declared.place.Span.{Span}
use Rattle.p2c_text.specs.declared.dialect.Dialect.{Dialect}
use Rattle.dialect_lexer.specs.declared.token.Word.TheVariants as word_
use Rattle.dialect_lexer.specs.declared.token.Symbol.TheVariants as mark
use Rattle.pascal_tree.specs.declared.names.Identifier.{Identifier}
use Rattle.pascal_tree.specs.declared.names.Label.{Label}
use Rattle.pascal_tree.specs.declared.constants.CaseLabel.{CaseLabel}
use Rattle.pascal_tree.specs.declared.expressions.Args.{Args}
use Rattle.pascal_tree.specs.declared.expressions.Expr.{Expr}
use Rattle.pascal_tree.specs.declared.expressions.Place.{Place}
use Rattle.pascal_tree.specs.declared.statements.Direction.{Direction}
use Rattle.pascal_tree.specs.declared.statements.Plain.TheOpen as part
use Rattle.pascal_tree.specs.declared.statements.Plain.{Plain, fold-roll-Plain}
use Rattle.pascal_tree.specs.declared.statements.Plain.TheVariants as plain_
use Rattle.pascal_tree.specs.declared.statements.Arm.{Arm, fold-roll-Arm}
use Rattle.pascal_tree.specs.declared.statements.Rest.{Rest, fold-roll-Rest}
use Rattle.pascal_tree.specs.declared.statements.Stmt.{Stmt, fold-roll-Stmt}
use Rattle.expr_parser.specs.Layout.{Layout, Done, ◌&◌, word, symbol, spanned, counted, with_commas}
use Rattle.expr_parser.specs.Writing.{identifier, write_expr, write_place}
use Rattle.stmt_parser.specs.Statements.{stmt_of}
use Rattle.stmt_parser.specs.Cases.{arm_of, rest_of}
use Rattle.expr_parser.specs.ConstantNodes.{write_label, write_case_label}
use Rattle.expr_parser.specs.Semicolons.{optional_semicolon, with_semicolons}
use Rattle.stmt_parser.specs.Writing.{optional_args, optional_label, direction_word, rest_word, of_plain, of_arm, of_rest, of_stmt, write_plain, write_arm, write_rest, write_stmt}

abbrev pub write_else : Dialect → Option Stmt → Layout
write_else d None = Done
write_else d (Some s) = word word_.KwElse & write_stmt d s

abbrev pub write_rest_part : Dialect → Option Rest → Layout
write_rest_part d None = Done
write_rest_part d (Some r) = write_rest d r

pub write_stmt_of : (d : Dialect) (label : Option Label) (plain : Plain) (span : Span) → write_stmt d (stmt_of label plain span) ≡ counted (spanned span (optional_label label & write_plain d plain))
unfolding write_plain write_arm write_rest write_stmt
write_stmt_of d label plain span = fold-roll-Stmt Layout Layout Layout Layout of_plain of_arm (of_rest d) of_stmt (record { label = label; plain = plain; span = span })

pub write_arm_of : (d : Dialect) (labels : List CaseLabel) (body : Stmt) (span : Span) → write_arm d (arm_of labels body span) ≡ spanned span (with_commas (map write_case_label labels) & symbol mark.Colon & write_stmt d body)
unfolding write_plain write_arm write_rest write_stmt
write_arm_of d labels body span = fold-roll-Arm Layout Layout Layout Layout of_plain of_arm (of_rest d) of_stmt (record { labels = labels; body = body; span = span })

pub write_rest_of : (d : Dialect) (body : List Stmt) (span : Span) → write_rest d (rest_of body span) ≡ spanned span (word (rest_word d) & with_semicolons (map (write_stmt d) body))
unfolding write_plain write_arm write_rest write_stmt
write_rest_of d body span = fold-roll-Rest Layout Layout Layout Layout of_plain of_arm (of_rest d) of_stmt (record { body = body; span = span })

pub write_nothing_of : (d : Dialect) (span : Span) → write_plain d (plain_.Nothing span) ≡ spanned span Done
unfolding write_plain write_arm write_rest write_stmt
write_nothing_of d span = ap (λ x. write_plain d x) (sym (plain_.rolls-Nothing span)) ∙ fold-roll-Plain Layout Layout Layout Layout of_plain of_arm (of_rest d) of_stmt (part.Nothing span)

pub write_assign_of : (d : Dialect) (target : Place) (value : Expr) (span : Span) → write_plain d (plain_.Assign target value span) ≡ spanned span (write_place target & symbol mark.Assign & write_expr value)
unfolding write_plain write_arm write_rest write_stmt
write_assign_of d target value span = ap (λ x. write_plain d x) (sym (plain_.rolls-Assign target value span)) ∙ fold-roll-Plain Layout Layout Layout Layout of_plain of_arm (of_rest d) of_stmt (part.Assign target value span)

pub write_call_of : (d : Dialect) (name : Identifier) (args : Option Args) (span : Span) → write_plain d (plain_.Call name args span) ≡ spanned span (identifier name & optional_args args)
unfolding write_plain write_arm write_rest write_stmt
write_call_of d name args span = ap (λ x. write_plain d x) (sym (plain_.rolls-Call name args span)) ∙ fold-roll-Plain Layout Layout Layout Layout of_plain of_arm (of_rest d) of_stmt (part.Call name args span)

pub write_goto_of : (d : Dialect) (label : Label) (span : Span) → write_plain d (plain_.Goto label span) ≡ spanned span (word word_.KwGoto & write_label label)
unfolding write_plain write_arm write_rest write_stmt
write_goto_of d label span = ap (λ x. write_plain d x) (sym (plain_.rolls-Goto label span)) ∙ fold-roll-Plain Layout Layout Layout Layout of_plain of_arm (of_rest d) of_stmt (part.Goto label span)

pub write_compound_of : (d : Dialect) (body : List Stmt) (span : Span) → write_plain d (plain_.Compound body span) ≡ spanned span (word word_.KwBegin & with_semicolons (map (write_stmt d) body) & word word_.KwEnd)
unfolding write_plain write_arm write_rest write_stmt
write_compound_of d body span = ap (λ x. write_plain d x) (sym (plain_.rolls-Compound body span)) ∙ fold-roll-Plain Layout Layout Layout Layout of_plain of_arm (of_rest d) of_stmt (part.Compound body span)

pub write_if_of : (d : Dialect) (condition : Expr) (then_part : Stmt) (else_part : Option Stmt) (span : Span) → write_plain d (plain_.If condition then_part else_part span) ≡ spanned span (word word_.KwIf & write_expr condition & word word_.KwThen & write_stmt d then_part & write_else d else_part)
unfolding write_plain write_arm write_rest write_stmt
write_if_of d condition then_part None span = ap (λ x. write_plain d x) (sym (plain_.rolls-If condition then_part None span)) ∙ fold-roll-Plain Layout Layout Layout Layout of_plain of_arm (of_rest d) of_stmt (part.If condition then_part None span)
write_if_of d condition then_part (Some x) span = ap (λ x. write_plain d x) (sym (plain_.rolls-If condition then_part (Some x) span)) ∙ fold-roll-Plain Layout Layout Layout Layout of_plain of_arm (of_rest d) of_stmt (part.If condition then_part (Some x) span)

pub write_case_of : (d : Dialect) (selector : Expr) (arms : List Arm) (closed : Bool) (rest : Option Rest) (span : Span) → write_plain d (plain_.Case selector arms closed rest span) ≡ spanned span (word word_.KwCase & write_expr selector & word word_.KwOf & with_semicolons (map (write_arm d) arms) & optional_semicolon closed & write_rest_part d rest & word word_.KwEnd)
unfolding write_plain write_arm write_rest write_stmt
write_case_of d selector arms closed None span = ap (λ x. write_plain d x) (sym (plain_.rolls-Case selector arms closed None span)) ∙ fold-roll-Plain Layout Layout Layout Layout of_plain of_arm (of_rest d) of_stmt (part.Case selector arms closed None span)
write_case_of d selector arms closed (Some x) span = ap (λ x. write_plain d x) (sym (plain_.rolls-Case selector arms closed (Some x) span)) ∙ fold-roll-Plain Layout Layout Layout Layout of_plain of_arm (of_rest d) of_stmt (part.Case selector arms closed (Some x) span)

pub write_while_of : (d : Dialect) (condition : Expr) (body : Stmt) (span : Span) → write_plain d (plain_.While condition body span) ≡ spanned span (word word_.KwWhile & write_expr condition & word word_.KwDo & write_stmt d body)
unfolding write_plain write_arm write_rest write_stmt
write_while_of d condition body span = ap (λ x. write_plain d x) (sym (plain_.rolls-While condition body span)) ∙ fold-roll-Plain Layout Layout Layout Layout of_plain of_arm (of_rest d) of_stmt (part.While condition body span)

pub write_repeat_of : (d : Dialect) (body : List Stmt) (until : Expr) (span : Span) → write_plain d (plain_.Repeat body until span) ≡ spanned span (word word_.KwRepeat & with_semicolons (map (write_stmt d) body) & word word_.KwUntil & write_expr until)
unfolding write_plain write_arm write_rest write_stmt
write_repeat_of d body until span = ap (λ x. write_plain d x) (sym (plain_.rolls-Repeat body until span)) ∙ fold-roll-Plain Layout Layout Layout Layout of_plain of_arm (of_rest d) of_stmt (part.Repeat body until span)

pub write_for_of : (d : Dialect) (variable : Identifier) (first : Expr) (direction : Direction) (last : Expr) (body : Stmt) (span : Span) → write_plain d (plain_.For variable first direction last body span) ≡ spanned span (word word_.KwFor & identifier variable & symbol mark.Assign & write_expr first & word (direction_word direction) & write_expr last & word word_.KwDo & write_stmt d body)
unfolding write_plain write_arm write_rest write_stmt
write_for_of d variable first direction last body span = ap (λ x. write_plain d x) (sym (plain_.rolls-For variable first direction last body span)) ∙ fold-roll-Plain Layout Layout Layout Layout of_plain of_arm (of_rest d) of_stmt (part.For variable first direction last body span)

pub write_with_of : (d : Dialect) (places : List Place) (body : Stmt) (span : Span) → write_plain d (plain_.With places body span) ≡ spanned span (word word_.KwWith & with_commas (map write_place places) & word word_.KwDo & write_stmt d body)
unfolding write_plain write_arm write_rest write_stmt
write_with_of d places body span = ap (λ x. write_plain d x) (sym (plain_.rolls-With places body span)) ∙ fold-roll-Plain Layout Layout Layout Layout of_plain of_arm (of_rest d) of_stmt (part.With places body span)

pub write_try_of : (d : Dialect) (body : List Stmt) (recover : Stmt) (span : Span) → write_plain d (plain_.Try body recover span) ≡ spanned span (word word_.KwTry & with_semicolons (map (write_stmt d) body) & word word_.KwRecover & write_stmt d recover)
unfolding write_plain write_arm write_rest write_stmt
write_try_of d body recover span = ap (λ x. write_plain d x) (sym (plain_.rolls-Try body recover span)) ∙ fold-roll-Plain Layout Layout Layout Layout of_plain of_arm (of_rest d) of_stmt (part.Try body recover span)
