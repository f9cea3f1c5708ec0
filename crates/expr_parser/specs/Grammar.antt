-- What the grammar asks of an expression beyond the way in which it is written.
use Rattle.std.specs.Prelude.{ℕ, Bool, true, false, ◌&&◌, IsTrue, List, [], ◌∷◌, Option, Some, None}
use Rattle.std.specs.List.{AllByRecursion, Contains}
use Rattle.p2c_text.specs.declared.dialect.Dialect.{Dialect}
use Rattle.dialect_lexer.specs.Dialects.{is_ucsd}
use Rattle.dialect_lexer.specs.FileTokens.{FileTokens}
use Rattle.dialect_lexer.specs.Tokens.{Lexes}
use Rattle.pascal_tree.specs.declared.expressions.Relation.{Relation}
use Rattle.pascal_tree.specs.declared.expressions.Arg.TheOpen as part
use Rattle.pascal_tree.specs.declared.expressions.Arg.TheOpen.{Arg-F, Factor-F, Selector-F, AddedTerm-F, Args-F, Elem-F, Expr-F, MultipliedFactor-F, Place-F, Simple-F, Term-F}
use Rattle.pascal_tree.specs.declared.expressions.Arg.{Arg, fold-Arg}
use Rattle.pascal_tree.specs.declared.expressions.Factor.{Factor, fold-Factor}
use Rattle.pascal_tree.specs.declared.expressions.Selector.{Selector, fold-Selector}
use Rattle.pascal_tree.specs.declared.expressions.AddedTerm.{AddedTerm, fold-AddedTerm}
use Rattle.pascal_tree.specs.declared.expressions.Args.{Args, fold-Args}
use Rattle.pascal_tree.specs.declared.expressions.Elem.{Elem, fold-Elem}
use Rattle.pascal_tree.specs.declared.expressions.Expr.{Expr, fold-Expr}
use Rattle.pascal_tree.specs.declared.expressions.MultipliedFactor.{MultipliedFactor, fold-MultipliedFactor}
use Rattle.pascal_tree.specs.declared.expressions.Place.{Place, fold-Place}
use Rattle.pascal_tree.specs.declared.expressions.Simple.{Simple, fold-Simple}
use Rattle.pascal_tree.specs.declared.expressions.Term.{Term, fold-Term}
use Rattle.expr_parser.specs.Tokens.{Token, seen, plain}
use Rattle.expr_parser.specs.Layout.{Layout, tokens_of}
use Rattle.expr_parser.specs.Writing.{write_expr, write_place}

-- some text of the dialect has this token
abbrev pub IsToken : Dialect → Token → Type 0
IsToken d t = (bytes : List ℕ) × (list : FileTokens) × Lexes d bytes list × Contains (plain (seen bytes list.tokens)) t

abbrev pub AreTokens : Dialect → List Token → Type 0
AreTokens d tokens = AllByRecursion (IsToken d) tokens

-- ---- lists are not empty, decimals stand after a width, and `program` is an argument in UCSD alone

abbrev pub all : List Bool → Bool
all [] = true
all (b ∷ more) = b && all more

abbrev pub some_all : List Bool → Bool
some_all [] = false
some_all (b ∷ more) = b && all more

abbrev pub optional : Option Bool → Bool
optional None = true
optional (Some b) = b

abbrev pub compared : Option (Relation × Bool) → Bool
compared None = true
compared (Some r) = r.1

-- a width, and decimals
abbrev pub formatted : Option Bool → Option Bool → Bool
formatted None None = true
formatted None (Some decimals) = false
formatted (Some width) decimals = width && optional decimals

abbrev pub Formed : (Type 0 → Type 0 → Type 0 → Type 0 → Type 0 → Type 0 → Type 0 → Type 0 → Type 0 → Type 0 → Type 0 → Type 0) → Type 0
Formed F = F Bool Bool Bool Bool Bool Bool Bool Bool Bool Bool Bool

abbrev pub of_arg : Dialect → Formed Arg-F → Bool
of_arg d (part.Value value width decimals span) = value && formatted width decimals
of_arg d (part.Program span) = is_ucsd d

abbrev pub of_factor : Formed Factor-F → Bool
of_factor (part.Number value span) = true
of_factor (part.Text bytes span) = true
of_factor (part.Nil span) = true
of_factor (part.Place place) = place
of_factor (part.Call name args span) = args
of_factor (part.Group inner span) = inner
of_factor (part.Not operand span) = operand
of_factor (part.Set elements span) = all elements

abbrev pub of_selector : Formed Selector-F → Bool
of_selector (part.Index indexes span) = some_all indexes
of_selector (part.Field name span) = true
of_selector (part.Follow span) = true

abbrev pub of_added : Formed AddedTerm-F → Bool
of_added a = a.term

abbrev pub of_args : Formed Args-F → Bool
of_args a = some_all a.list

abbrev pub of_elem : Formed Elem-F → Bool
of_elem e = e.first && optional e.last

abbrev pub of_expr : Formed Expr-F → Bool
of_expr e = e.left && compared e.right

abbrev pub of_multiplied : Formed MultipliedFactor-F → Bool
of_multiplied m = m.factor

abbrev pub of_place : Formed Place-F → Bool
of_place p = all p.selectors

abbrev pub of_simple : Formed Simple-F → Bool
of_simple s = s.first && all s.rest

abbrev pub of_term : Formed Term-F → Bool
of_term t = t.first && all t.rest

unfoldable pub formed_arg : Dialect → Arg → Bool
formed_arg d = fold-Arg Bool Bool Bool Bool Bool Bool Bool Bool Bool Bool Bool (of_arg d) of_factor of_selector of_added of_args of_elem of_expr of_multiplied of_place of_simple of_term

unfoldable pub formed_factor : Dialect → Factor → Bool
formed_factor d = fold-Factor Bool Bool Bool Bool Bool Bool Bool Bool Bool Bool Bool (of_arg d) of_factor of_selector of_added of_args of_elem of_expr of_multiplied of_place of_simple of_term

unfoldable pub formed_selector : Dialect → Selector → Bool
formed_selector d = fold-Selector Bool Bool Bool Bool Bool Bool Bool Bool Bool Bool Bool (of_arg d) of_factor of_selector of_added of_args of_elem of_expr of_multiplied of_place of_simple of_term

unfoldable pub formed_added : Dialect → AddedTerm → Bool
formed_added d = fold-AddedTerm Bool Bool Bool Bool Bool Bool Bool Bool Bool Bool Bool (of_arg d) of_factor of_selector of_added of_args of_elem of_expr of_multiplied of_place of_simple of_term

unfoldable pub formed_args : Dialect → Args → Bool
formed_args d = fold-Args Bool Bool Bool Bool Bool Bool Bool Bool Bool Bool Bool (of_arg d) of_factor of_selector of_added of_args of_elem of_expr of_multiplied of_place of_simple of_term

unfoldable pub formed_elem : Dialect → Elem → Bool
formed_elem d = fold-Elem Bool Bool Bool Bool Bool Bool Bool Bool Bool Bool Bool (of_arg d) of_factor of_selector of_added of_args of_elem of_expr of_multiplied of_place of_simple of_term

unfoldable pub formed_expr : Dialect → Expr → Bool
formed_expr d = fold-Expr Bool Bool Bool Bool Bool Bool Bool Bool Bool Bool Bool (of_arg d) of_factor of_selector of_added of_args of_elem of_expr of_multiplied of_place of_simple of_term

unfoldable pub formed_multiplied : Dialect → MultipliedFactor → Bool
formed_multiplied d = fold-MultipliedFactor Bool Bool Bool Bool Bool Bool Bool Bool Bool Bool Bool (of_arg d) of_factor of_selector of_added of_args of_elem of_expr of_multiplied of_place of_simple of_term

unfoldable pub formed_place : Dialect → Place → Bool
formed_place d = fold-Place Bool Bool Bool Bool Bool Bool Bool Bool Bool Bool Bool (of_arg d) of_factor of_selector of_added of_args of_elem of_expr of_multiplied of_place of_simple of_term

unfoldable pub formed_simple : Dialect → Simple → Bool
formed_simple d = fold-Simple Bool Bool Bool Bool Bool Bool Bool Bool Bool Bool Bool (of_arg d) of_factor of_selector of_added of_args of_elem of_expr of_multiplied of_place of_simple of_term

unfoldable pub formed_term : Dialect → Term → Bool
formed_term d = fold-Term Bool Bool Bool Bool Bool Bool Bool Bool Bool Bool Bool (of_arg d) of_factor of_selector of_added of_args of_elem of_expr of_multiplied of_place of_simple of_term

-- ---- trees of the grammar

-- a tree that is laid out so, where it is formed so
pub record IsTree {C : Type 0} (d : Dialect) (layout : C → Layout) (form : C → Bool) (c : C) : Type 0 where
  pub formed : IsTrue (form c)
  pub of_dialect : AreTokens d (tokens_of (layout c))

abbrev pub IsExpr : Dialect → Expr → Type 0
IsExpr d e = IsTree d write_expr (formed_expr d) e

abbrev pub IsPlace : Dialect → Place → Type 0
IsPlace d p = IsTree d write_place (formed_place d) p
