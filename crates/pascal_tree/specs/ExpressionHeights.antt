-- How many expressions and factors stand on one path of an expression. Each line gives the height of a node by those of its parts.
use Rattle.std.specs.Prelude.{ℕ, suc, max, List, [], ◌∷◌, Option, Some, None}
use Rattle.pascal_tree.specs.declared.expressions.Relation.{Relation}
use Rattle.pascal_tree.specs.declared.expressions.Arg.TheOpen as part
use Rattle.pascal_tree.specs.declared.expressions.Arg.TheOpen.{Arg-F, Factor-F, Selector-F, AddedTerm-F, Args-F, Elem-F, Expr-F, MultipliedFactor-F, Place-F, Simple-F, Term-F}
use Rattle.pascal_tree.specs.declared.expressions.Arg.{Arg, fold-Arg}
use Rattle.pascal_tree.specs.declared.expressions.Factor.{Factor, fold-Factor}
use Rattle.pascal_tree.specs.declared.expressions.Selector.{Selector, fold-Selector}
use Rattle.pascal_tree.specs.declared.expressions.AddedTerm.{AddedTerm, fold-AddedTerm}
use Rattle.pascal_tree.specs.declared.expressions.Args.{Args, fold-Args}
use Rattle.pascal_tree.specs.declared.expressions.Elem.{Elem, fold-Elem}
use Rattle.pascal_tree.specs.declared.expressions.Expr.{Expr, fold-Expr}
use Rattle.pascal_tree.specs.declared.expressions.MultipliedFactor.{MultipliedFactor, fold-MultipliedFactor}
use Rattle.pascal_tree.specs.declared.expressions.Place.{Place, fold-Place}
use Rattle.pascal_tree.specs.declared.expressions.Simple.{Simple, fold-Simple}
use Rattle.pascal_tree.specs.declared.expressions.Term.{Term, fold-Term}

-- the greatest of several heights
abbrev pub greatest : List ℕ → ℕ
greatest [] = 0
greatest (n ∷ more) = max n (greatest more)

-- what is absent has no height
abbrev pub optional : Option ℕ → ℕ
optional None = 0
optional (Some n) = n

abbrev pub compared : Option (Relation × ℕ) → ℕ
compared None = 0
compared (Some r) = r.1

-- a node with heights in place of its parts
abbrev pub Parts : (Type 0 → Type 0 → Type 0 → Type 0 → Type 0 → Type 0 → Type 0 → Type 0 → Type 0 → Type 0 → Type 0 → Type 0) → Type 0
Parts F = F ℕ ℕ ℕ ℕ ℕ ℕ ℕ ℕ ℕ ℕ ℕ

abbrev pub of_arg : Parts Arg-F → ℕ
of_arg (part.Value value width decimals span) = max value (max (optional width) (optional decimals))
of_arg (part.Program span) = 0

abbrev pub of_factor : Parts Factor-F → ℕ
of_factor (part.Number value span) = 1
of_factor (part.Text bytes span) = 1
of_factor (part.Nil span) = 1
of_factor (part.Place place) = suc place
of_factor (part.Call name args span) = suc args
of_factor (part.Group inner span) = suc inner
of_factor (part.Not operand span) = suc operand
of_factor (part.Set elements span) = suc (greatest elements)

abbrev pub of_selector : Parts Selector-F → ℕ
of_selector (part.Index indexes span) = greatest indexes
of_selector (part.Field name span) = 0
of_selector (part.Follow span) = 0

abbrev pub of_added : Parts AddedTerm-F → ℕ
of_added a = a.term

abbrev pub of_args : Parts Args-F → ℕ
of_args a = greatest a.list

abbrev pub of_elem : Parts Elem-F → ℕ
of_elem e = max e.first (optional e.last)

abbrev pub of_expr : Parts Expr-F → ℕ
of_expr e = suc (max e.left (compared e.right))

abbrev pub of_multiplied : Parts MultipliedFactor-F → ℕ
of_multiplied m = m.factor

abbrev pub of_place : Parts Place-F → ℕ
of_place p = greatest p.selectors

abbrev pub of_simple : Parts Simple-F → ℕ
of_simple s = max s.first (greatest s.rest)

abbrev pub of_term : Parts Term-F → ℕ
of_term t = max t.first (greatest t.rest)

-- ---- of each node

unfoldable pub arg_height : Arg → ℕ
arg_height = fold-Arg ℕ ℕ ℕ ℕ ℕ ℕ ℕ ℕ ℕ ℕ ℕ of_arg of_factor of_selector of_added of_args of_elem of_expr of_multiplied of_place of_simple of_term

unfoldable pub factor_height : Factor → ℕ
factor_height = fold-Factor ℕ ℕ ℕ ℕ ℕ ℕ ℕ ℕ ℕ ℕ ℕ of_arg of_factor of_selector of_added of_args of_elem of_expr of_multiplied of_place of_simple of_term

unfoldable pub selector_height : Selector → ℕ
selector_height = fold-Selector ℕ ℕ ℕ ℕ ℕ ℕ ℕ ℕ ℕ ℕ ℕ of_arg of_factor of_selector of_added of_args of_elem of_expr of_multiplied of_place of_simple of_term

unfoldable pub added_height : AddedTerm → ℕ
added_height = fold-AddedTerm ℕ ℕ ℕ ℕ ℕ ℕ ℕ ℕ ℕ ℕ ℕ of_arg of_factor of_selector of_added of_args of_elem of_expr of_multiplied of_place of_simple of_term

unfoldable pub args_height : Args → ℕ
args_height = fold-Args ℕ ℕ ℕ ℕ ℕ ℕ ℕ ℕ ℕ ℕ ℕ of_arg of_factor of_selector of_added of_args of_elem of_expr of_multiplied of_place of_simple of_term

unfoldable pub elem_height : Elem → ℕ
elem_height = fold-Elem ℕ ℕ ℕ ℕ ℕ ℕ ℕ ℕ ℕ ℕ ℕ of_arg of_factor of_selector of_added of_args of_elem of_expr of_multiplied of_place of_simple of_term

unfoldable pub expr_height : Expr → ℕ
expr_height = fold-Expr ℕ ℕ ℕ ℕ ℕ ℕ ℕ ℕ ℕ ℕ ℕ of_arg of_factor of_selector of_added of_args of_elem of_expr of_multiplied of_place of_simple of_term

unfoldable pub multiplied_height : MultipliedFactor → ℕ
multiplied_height = fold-MultipliedFactor ℕ ℕ ℕ ℕ ℕ ℕ ℕ ℕ ℕ ℕ ℕ of_arg of_factor of_selector of_added of_args of_elem of_expr of_multiplied of_place of_simple of_term

unfoldable pub place_height : Place → ℕ
place_height = fold-Place ℕ ℕ ℕ ℕ ℕ ℕ ℕ ℕ ℕ ℕ ℕ of_arg of_factor of_selector of_added of_args of_elem of_expr of_multiplied of_place of_simple of_term

unfoldable pub simple_height : Simple → ℕ
simple_height = fold-Simple ℕ ℕ ℕ ℕ ℕ ℕ ℕ ℕ ℕ ℕ ℕ of_arg of_factor of_selector of_added of_args of_elem of_expr of_multiplied of_place of_simple of_term

unfoldable pub term_height : Term → ℕ
term_height = fold-Term ℕ ℕ ℕ ℕ ℕ ℕ ℕ ℕ ℕ ℕ ℕ of_arg of_factor of_selector of_added of_args of_elem of_expr of_multiplied of_place of_simple of_term

-- what is compared, and what is absent or an expression
abbrev pub right_height : Option (Relation × Simple) → ℕ
right_height None = 0
right_height (Some r) = simple_height r.1

abbrev pub last_height : Option Expr → ℕ
last_height None = 0
last_height (Some e) = expr_height e
