-- What the grammar asks of a statement beyond the way in which it is written.
use Rattle.std.specs.Prelude.{Bool, true, false, ◌&&◌, not, List, [], ◌∷◌, map, Option, Some, None}
use Rattle.p2c_text.specs.declared.dialect.Dialect.{Dialect}
use Rattle.dialect_lexer.specs.Dialects.{is_turbo}
use Rattle.pascal_tree.specs.declared.names.Label.{Label}
use Rattle.pascal_tree.specs.declared.expressions.Args.{Args}
use Rattle.pascal_tree.specs.declared.statements.Plain.TheOpen as part
use Rattle.pascal_tree.specs.declared.statements.Plain.TheOpen.{Plain-F, Arm-F, Rest-F, Stmt-F}
use Rattle.pascal_tree.specs.declared.statements.Plain.{Plain, fold-Plain}
use Rattle.pascal_tree.specs.declared.statements.Arm.{Arm, fold-Arm}
use Rattle.pascal_tree.specs.declared.statements.Rest.{Rest, fold-Rest}
use Rattle.pascal_tree.specs.declared.statements.Stmt.{Stmt, fold-Stmt}
use Rattle.expr_parser.specs.Grammar.{some_all, formed_args, formed_expr, formed_place}
use Rattle.expr_parser.specs.Dialects.{has_rest}
use Rattle.expr_parser.specs.ConstantNodes.{formed_label, formed_case_label}
use Rattle.stmt_parser.specs.Writing.{write_stmt}

-- ---- labels

abbrev pub formed_optional_label : Dialect → Option Label → Bool
formed_optional_label d None = true
formed_optional_label d (Some l) = formed_label d l

-- ---- Whether a node is formed as the grammar asks. It is told whether an `else` is the next token after the node: an `if` that has none would take it, so such an `if` stands at no end before an `else`.

abbrev pub Formed : Type 0
Formed = (else_follows : Bool) → Bool

-- a node that an `else` cannot follow
abbrev pub alone : Formed → Bool
alone part = part false

abbrev pub some_alone : List Formed → Bool
some_alone parts = some_all (map alone parts)

-- some parts, of which the last may be followed by an `else`
abbrev pub some_up_to : List Formed → Formed
some_up_to [] else_follows = false
some_up_to (last ∷ []) else_follows = last else_follows
some_up_to (part ∷ other ∷ more) else_follows = alone part && some_up_to (other ∷ more) else_follows

abbrev pub formed_optional_args : Dialect → Option Args → Bool
formed_optional_args d None = true
formed_optional_args d (Some a) = formed_args d a

-- the `then` part and the `else` part
abbrev pub branches : Formed → Option Formed → Formed
branches then_part None else_follows = not else_follows && alone then_part
branches then_part (Some else_part) else_follows = then_part true && else_part else_follows

-- the arms, the semicolon after them and what is done without a matching label: in Turbo that begins with `else`
abbrev pub cases : Dialect → List Formed → Bool → Option Formed → Bool
cases d arms closed None = some_up_to arms false
cases d arms closed (Some rest) = has_rest d && some_up_to arms (is_turbo d && not closed) && alone rest

abbrev pub of_plain : Dialect → Plain-F Formed Formed Formed Formed → Formed
of_plain d (part.Nothing span) else_follows = true
of_plain d (part.Assign target value span) else_follows = formed_place d target && formed_expr d value
of_plain d (part.Call name args span) else_follows = formed_optional_args d args
of_plain d (part.Goto label span) else_follows = formed_label d label
of_plain d (part.Compound body span) else_follows = some_alone body
of_plain d (part.If condition then_part else_part span) else_follows = formed_expr d condition && branches then_part else_part else_follows
of_plain d (part.Case selector arms closed rest span) else_follows = formed_expr d selector && cases d arms closed rest
of_plain d (part.While condition body span) else_follows = formed_expr d condition && body else_follows
of_plain d (part.Repeat body until span) else_follows = some_alone body && formed_expr d until
of_plain d (part.For variable first direction last body span) else_follows = formed_expr d first && formed_expr d last && body else_follows
of_plain d (part.With places body span) else_follows = some_all (map (formed_place d) places) && body else_follows
of_plain d (part.Try body recover span) else_follows = some_alone body && recover else_follows

abbrev pub of_arm : Dialect → Arm-F Formed Formed Formed Formed → Formed
of_arm d a else_follows = some_all (map (formed_case_label d) a.labels) && a.body else_follows

abbrev pub of_rest : Rest-F Formed Formed Formed Formed → Formed
of_rest r else_follows = some_alone r.body

abbrev pub of_stmt : Dialect → Stmt-F Formed Formed Formed Formed → Formed
of_stmt d s else_follows = formed_optional_label d s.label && s.plain else_follows

unfoldable pub formed_plain : Dialect → Plain → Formed
formed_plain d = fold-Plain Formed Formed Formed Formed (of_plain d) (of_arm d) of_rest (of_stmt d)

unfoldable pub formed_arm : Dialect → Arm → Formed
formed_arm d = fold-Arm Formed Formed Formed Formed (of_plain d) (of_arm d) of_rest (of_stmt d)

unfoldable pub formed_rest : Dialect → Rest → Formed
formed_rest d = fold-Rest Formed Formed Formed Formed (of_plain d) (of_arm d) of_rest (of_stmt d)

unfoldable pub formed_stmt : Dialect → Stmt → Formed
formed_stmt d = fold-Stmt Formed Formed Formed Formed (of_plain d) (of_arm d) of_rest (of_stmt d)

-- ---- trees of the grammar

-- no `else` follows the whole
abbrev pub stands_alone : Dialect → Stmt → Bool
stands_alone d s = alone (formed_stmt d s)
