-- What each node of a tree is, as programs see it.
use Rattle.std.proofs.Common.{◌≡◌, ℕ, ℤ, Bool, List, Option, Some, None, sym, ap, ◌∙◌}
use Rattle.p2c_text.specs.declared.place.Span.{Span}
use Rattle.pascal_tree.specs.declared.declarations.LabelPart.{LabelPart}
use Rattle.pascal_tree.specs.declared.declarations.ConstPart.{ConstPart}
use Rattle.pascal_tree.specs.declared.declarations.TypePart.{TypePart}
use Rattle.pascal_tree.specs.declared.declarations.VarPart.{VarPart}
use Rattle.pascal_tree.specs.declared.declarations.Declaration.TheOpen as part
use Rattle.pascal_tree.specs.declared.declarations.Declaration.{Declaration, out-Declaration, out-roll-Declaration}
use Rattle.pascal_tree.specs.declared.declarations.Declaration.TheVariants as declaration
use Rattle.pascal_tree.specs.declared.declarations.Routine.{Routine, out-Routine}
use Rattle.p2c_text.specs.declared.dialect.Dialect.{Dialect}
use Rattle.pascal_tree.specs.declared.names.Identifier.{Identifier}
use Rattle.pascal_tree.specs.declared.names.Label.{Label}
use Rattle.pascal_tree.specs.declared.expressions.Arg.TheOpen as inner
use Rattle.pascal_tree.specs.declared.expressions.Arg.{out-roll-Arg}
use Rattle.pascal_tree.specs.declared.expressions.Arg.TheVariants as arg
use Rattle.pascal_tree.specs.declared.expressions.Args.{Args}
use Rattle.pascal_tree.specs.declared.expressions.Elem.{Elem}
use Rattle.pascal_tree.specs.declared.expressions.Expr.{Expr}
use Rattle.pascal_tree.specs.declared.expressions.Factor.{Factor, out-roll-Factor}
use Rattle.pascal_tree.specs.declared.expressions.Factor.TheVariants as factor
use Rattle.pascal_tree.specs.declared.expressions.Place.{Place}
use Rattle.pascal_tree.specs.declared.statements.Arm.{Arm}
use Rattle.pascal_tree.specs.declared.statements.Direction.{Direction}
use Rattle.pascal_tree.specs.declared.statements.Plain.TheOpen as plain_part
use Rattle.pascal_tree.specs.declared.statements.Plain.{out-roll-Plain}
use Rattle.pascal_tree.specs.declared.statements.Plain.TheVariants as plain
use Rattle.pascal_tree.specs.declared.statements.Rest.{Rest}
use Rattle.pascal_tree.specs.declared.statements.Stmt.{Stmt}
use Rattle.agreement.specs.Writers.{Nothing}
use Rattle.writer_trees.specs.Files.{text_factor, factor_text, text_arg, arg_text, open_writing, plain_writing, call_writing, without, expr_text}
use Rattle.writer_trees.specs.Unbuilt.{span_in}

abbrev declaration_span : Declaration → Span
declaration_span x = span_in (out-Declaration x)

pub labels_span : (labels : LabelPart) → span_in (out-Declaration (declaration.Labels labels)) ≡ labels.span
labels_span labels = ap declaration_span (sym (declaration.rolls-Labels labels)) ∙ ap span_in (out-roll-Declaration (part.Labels labels))

pub constants_span : (constants : ConstPart) → span_in (out-Declaration (declaration.Constants constants)) ≡ constants.span
constants_span constants = ap declaration_span (sym (declaration.rolls-Constants constants)) ∙ ap span_in (out-roll-Declaration (part.Constants constants))

pub types_span : (types : TypePart) → span_in (out-Declaration (declaration.Types types)) ≡ types.span
types_span types = ap declaration_span (sym (declaration.rolls-Types types)) ∙ ap span_in (out-roll-Declaration (part.Types types))

pub variables_span : (variables : VarPart) → span_in (out-Declaration (declaration.Variables variables)) ≡ variables.span
variables_span variables = ap declaration_span (sym (declaration.rolls-Variables variables)) ∙ ap span_in (out-roll-Declaration (part.Variables variables))

pub routine_span : (routine : Routine) → span_in (out-Declaration (declaration.Routine routine)) ≡ (out-Routine routine).span
routine_span routine = ap declaration_span (sym (declaration.rolls-Routine routine)) ∙ ap span_in (out-roll-Declaration (part.Routine routine))

pub ruleset declaration_spans = (labels_span, constants_span, types_span, variables_span, routine_span)

pub factor_number : (value : ℤ) (span : Span) → factor_text (factor.Number value span) ≡ None
unfolding factor_text
factor_number value span = ap factor_text (sym (factor.rolls-Number value span)) ∙ ap text_factor (out-roll-Factor (inner.Number value span))

pub factor_text_is : (bytes : List ℕ) (span : Span) → factor_text (factor.Text bytes span) ≡ Some bytes
unfolding factor_text
factor_text_is bytes span = ap factor_text (sym (factor.rolls-Text bytes span)) ∙ ap text_factor (out-roll-Factor (inner.Text bytes span))

pub factor_nil : (span : Span) → factor_text (factor.Nil span) ≡ None
unfolding factor_text
factor_nil span = ap factor_text (sym (factor.rolls-Nil span)) ∙ ap text_factor (out-roll-Factor (inner.Nil span))

pub factor_place : (place : Place) → factor_text (factor.Place place) ≡ None
unfolding factor_text
factor_place place = ap factor_text (sym (factor.rolls-Place place)) ∙ ap text_factor (out-roll-Factor (inner.Place place))

pub factor_call : (name : Identifier) (args : Args) (span : Span) → factor_text (factor.Call name args span) ≡ None
unfolding factor_text
factor_call name args span = ap factor_text (sym (factor.rolls-Call name args span)) ∙ ap text_factor (out-roll-Factor (inner.Call name args span))

pub factor_group : (inside : Expr) (span : Span) → factor_text (factor.Group inside span) ≡ None
unfolding factor_text
factor_group inside span = ap factor_text (sym (factor.rolls-Group inside span)) ∙ ap text_factor (out-roll-Factor (inner.Group inside span))

pub factor_not : (operand : Factor) (span : Span) → factor_text (factor.Not operand span) ≡ None
unfolding factor_text
factor_not operand span = ap factor_text (sym (factor.rolls-Not operand span)) ∙ ap text_factor (out-roll-Factor (inner.Not operand span))

pub factor_set : (elements : List Elem) (span : Span) → factor_text (factor.Set elements span) ≡ None
unfolding factor_text
factor_set elements span = ap factor_text (sym (factor.rolls-Set elements span)) ∙ ap text_factor (out-roll-Factor (inner.Set elements span))

pub ruleset factor_texts = (factor_number, factor_text_is, factor_nil, factor_place, factor_call, factor_group, factor_not, factor_set)

pub arg_value : (value : Expr) (width : Option Expr) (decimals : Option Expr) (span : Span) → arg_text (arg.Value value width decimals span) ≡ without width (without decimals (expr_text value))
unfolding arg_text
arg_value value width decimals span = ap arg_text (sym (arg.rolls-Value value width decimals span)) ∙ ap text_arg (out-roll-Arg (inner.Value value width decimals span))

pub arg_program : (span : Span) → arg_text (arg.Program span) ≡ None
unfolding arg_text
arg_program span = ap arg_text (sym (arg.rolls-Program span)) ∙ ap text_arg (out-roll-Arg (inner.Program span))

pub ruleset arg_texts = (arg_value, arg_program)

pub plain_nothing : (d : Dialect) (span : Span) → plain_writing d (plain.Nothing span) ≡ Some Nothing
unfolding plain_writing
plain_nothing d span = ap (plain_writing d) (sym (plain.rolls-Nothing span)) ∙ ap (open_writing d) (out-roll-Plain (plain_part.Nothing span))

pub plain_assign : (d : Dialect) (target : Place) (value : Expr) (span : Span) → plain_writing d (plain.Assign target value span) ≡ None
unfolding plain_writing
plain_assign d target value span = ap (plain_writing d) (sym (plain.rolls-Assign target value span)) ∙ ap (open_writing d) (out-roll-Plain (plain_part.Assign target value span))

pub plain_call : (d : Dialect) (name : Identifier) (args : Option Args) (span : Span) → plain_writing d (plain.Call name args span) ≡ call_writing d name args
unfolding plain_writing
plain_call d name args span = ap (plain_writing d) (sym (plain.rolls-Call name args span)) ∙ ap (open_writing d) (out-roll-Plain (plain_part.Call name args span))

pub plain_goto : (d : Dialect) (label : Label) (span : Span) → plain_writing d (plain.Goto label span) ≡ None
unfolding plain_writing
plain_goto d label span = ap (plain_writing d) (sym (plain.rolls-Goto label span)) ∙ ap (open_writing d) (out-roll-Plain (plain_part.Goto label span))

pub plain_compound : (d : Dialect) (body : List Stmt) (span : Span) → plain_writing d (plain.Compound body span) ≡ None
unfolding plain_writing
plain_compound d body span = ap (plain_writing d) (sym (plain.rolls-Compound body span)) ∙ ap (open_writing d) (out-roll-Plain (plain_part.Compound body span))

pub plain_if : (d : Dialect) (condition : Expr) (then_part : Stmt) (else_part : Option Stmt) (span : Span) → plain_writing d (plain.If condition then_part else_part span) ≡ None
unfolding plain_writing
plain_if d condition then_part else_part span = ap (plain_writing d) (sym (plain.rolls-If condition then_part else_part span)) ∙ ap (open_writing d) (out-roll-Plain (plain_part.If condition then_part else_part span))

pub plain_case : (d : Dialect) (selector : Expr) (arms : List Arm) (closed : Bool) (rest : Option Rest) (span : Span) → plain_writing d (plain.Case selector arms closed rest span) ≡ None
unfolding plain_writing
plain_case d selector arms closed rest span = ap (plain_writing d) (sym (plain.rolls-Case selector arms closed rest span)) ∙ ap (open_writing d) (out-roll-Plain (plain_part.Case selector arms closed rest span))

pub plain_while : (d : Dialect) (condition : Expr) (body : Stmt) (span : Span) → plain_writing d (plain.While condition body span) ≡ None
unfolding plain_writing
plain_while d condition body span = ap (plain_writing d) (sym (plain.rolls-While condition body span)) ∙ ap (open_writing d) (out-roll-Plain (plain_part.While condition body span))

pub plain_repeat : (d : Dialect) (body : List Stmt) (until : Expr) (span : Span) → plain_writing d (plain.Repeat body until span) ≡ None
unfolding plain_writing
plain_repeat d body until span = ap (plain_writing d) (sym (plain.rolls-Repeat body until span)) ∙ ap (open_writing d) (out-roll-Plain (plain_part.Repeat body until span))

pub plain_for : (d : Dialect) (variable : Identifier) (first : Expr) (direction : Direction) (last : Expr) (body : Stmt) (span : Span) → plain_writing d (plain.For variable first direction last body span) ≡ None
unfolding plain_writing
plain_for d variable first direction last body span = ap (plain_writing d) (sym (plain.rolls-For variable first direction last body span)) ∙ ap (open_writing d) (out-roll-Plain (plain_part.For variable first direction last body span))

pub plain_with : (d : Dialect) (places : List Place) (body : Stmt) (span : Span) → plain_writing d (plain.With places body span) ≡ None
unfolding plain_writing
plain_with d places body span = ap (plain_writing d) (sym (plain.rolls-With places body span)) ∙ ap (open_writing d) (out-roll-Plain (plain_part.With places body span))

pub plain_try : (d : Dialect) (body : List Stmt) (recover : Stmt) (span : Span) → plain_writing d (plain.Try body recover span) ≡ None
unfolding plain_writing
plain_try d body recover span = ap (plain_writing d) (sym (plain.rolls-Try body recover span)) ∙ ap (open_writing d) (out-roll-Plain (plain_part.Try body recover span))

pub ruleset plain_writings = (plain_nothing, plain_assign, plain_call, plain_goto, plain_compound, plain_if, plain_case, plain_while, plain_repeat, plain_for, plain_with, plain_try)
