-- Which trees are formed as the grammar asks, by their parts as programs see them.
use Rattle.std.proofs.Common.{◌≡◌, ℕ, ℤ, Bool, true, ◌&&◌, List, map, Option, Some, None, sym, ap, ◌∙◌}
use Rattle.p2c_text.specs.declared.place.Span.{Span}
use Rattle.p2c_text.specs.declared.dialect.Dialect.{Dialect}
use Rattle.dialect_lexer.specs.Dialects.{is_ucsd}
use Rattle.pascal_tree.specs.declared.constants.Sign.{Sign}
use Rattle.pascal_tree.specs.declared.names.Identifier.{Identifier}
use Rattle.pascal_tree.specs.declared.expressions.Relation.{Relation}
use Rattle.pascal_tree.specs.declared.expressions.Adding.{Adding}
use Rattle.pascal_tree.specs.declared.expressions.Multiplying.{Multiplying}
use Rattle.pascal_tree.specs.declared.expressions.Arg.TheOpen as part
use Rattle.pascal_tree.specs.declared.expressions.Arg.{Arg, roll-Arg, fold-roll-Arg}
use Rattle.pascal_tree.specs.declared.expressions.Arg.TheVariants as arg
use Rattle.pascal_tree.specs.declared.expressions.Factor.{Factor, fold-roll-Factor}
use Rattle.pascal_tree.specs.declared.expressions.Factor.TheVariants as factor
use Rattle.pascal_tree.specs.declared.expressions.Selector.{Selector, fold-roll-Selector}
use Rattle.pascal_tree.specs.declared.expressions.Selector.TheVariants as selector
use Rattle.pascal_tree.specs.declared.expressions.AddedTerm.{AddedTerm, fold-roll-AddedTerm}
use Rattle.pascal_tree.specs.declared.expressions.Args.{Args, fold-roll-Args}
use Rattle.pascal_tree.specs.declared.expressions.Elem.{Elem, fold-roll-Elem}
use Rattle.pascal_tree.specs.declared.expressions.Expr.{Expr, fold-roll-Expr}
use Rattle.pascal_tree.specs.declared.expressions.MultipliedFactor.{MultipliedFactor, fold-roll-MultipliedFactor}
use Rattle.pascal_tree.specs.declared.expressions.Place.{Place, fold-roll-Place}
use Rattle.pascal_tree.specs.declared.expressions.Simple.{Simple, fold-roll-Simple}
use Rattle.pascal_tree.specs.declared.expressions.Term.{Term, fold-roll-Term}
use Rattle.expr_parser.specs.Places.{place_of, args_of}
use Rattle.expr_parser.specs.Factors.{elem_of}
use Rattle.expr_parser.specs.Expressions.{multiplied_of, term_of, added_of, simple_of, expr_of}
use Rattle.expr_parser.specs.Grammar.{
  all,
  some_all,
  optional,
  formatted,
  of_arg,
  of_factor,
  of_selector,
  of_added,
  of_args,
  of_elem,
  of_expr,
  of_multiplied,
  of_place,
  of_simple,
  of_term,
  formed_arg,
  formed_factor,
  formed_selector,
  formed_added,
  formed_args,
  formed_elem,
  formed_expr,
  formed_multiplied,
  formed_place,
  formed_simple,
  formed_term,
}

abbrev pub formed_right : Dialect → Option (Relation × Simple) → Bool
formed_right d None = true
formed_right d (Some r) = formed_simple d r.1

abbrev pub formed_optional : Dialect → Option Expr → Option Bool
formed_optional d None = None
formed_optional d (Some e) = Some (formed_expr d e)

pub formed_term_of : (d : Dialect) (first : Factor) (rest : List MultipliedFactor) (span : Span) → formed_term d (term_of first rest span) ≡ (formed_factor d first && all (map (formed_multiplied d) rest))
unfolding formed_arg formed_factor formed_selector formed_added formed_args formed_elem formed_expr formed_multiplied formed_place formed_simple formed_term
formed_term_of d first rest span = fold-roll-Term Bool Bool Bool Bool Bool Bool Bool Bool Bool Bool Bool (of_arg d) of_factor of_selector of_added of_args of_elem of_expr of_multiplied of_place of_simple of_term (record { first = first; rest = rest; span = span })

pub formed_multiplied_of : (d : Dialect) (op : Multiplying) (f : Factor) → formed_multiplied d (multiplied_of op f) ≡ formed_factor d f
unfolding formed_arg formed_factor formed_selector formed_added formed_args formed_elem formed_expr formed_multiplied formed_place formed_simple formed_term
formed_multiplied_of d op f = fold-roll-MultipliedFactor Bool Bool Bool Bool Bool Bool Bool Bool Bool Bool Bool (of_arg d) of_factor of_selector of_added of_args of_elem of_expr of_multiplied of_place of_simple of_term (record { operator = op; factor = f })

pub formed_added_of : (d : Dialect) (op : Adding) (t : Term) → formed_added d (added_of op t) ≡ formed_term d t
unfolding formed_arg formed_factor formed_selector formed_added formed_args formed_elem formed_expr formed_multiplied formed_place formed_simple formed_term
formed_added_of d op t = fold-roll-AddedTerm Bool Bool Bool Bool Bool Bool Bool Bool Bool Bool Bool (of_arg d) of_factor of_selector of_added of_args of_elem of_expr of_multiplied of_place of_simple of_term (record { operator = op; term = t })

pub formed_simple_of : (d : Dialect) (sign : Option Sign) (first : Term) (rest : List AddedTerm) (span : Span) → formed_simple d (simple_of sign first rest span) ≡ (formed_term d first && all (map (formed_added d) rest))
unfolding formed_arg formed_factor formed_selector formed_added formed_args formed_elem formed_expr formed_multiplied formed_place formed_simple formed_term
formed_simple_of d sign first rest span = fold-roll-Simple Bool Bool Bool Bool Bool Bool Bool Bool Bool Bool Bool (of_arg d) of_factor of_selector of_added of_args of_elem of_expr of_multiplied of_place of_simple of_term (record { sign = sign; first = first; rest = rest; span = span })

pub formed_expr_of : (d : Dialect) (left : Simple) (right : Option (Relation × Simple)) (span : Span) → formed_expr d (expr_of left right span) ≡ (formed_simple d left && formed_right d right)
unfolding formed_arg formed_factor formed_selector formed_added formed_args formed_elem formed_expr formed_multiplied formed_place formed_simple formed_term
formed_expr_of d left None span = fold-roll-Expr Bool Bool Bool Bool Bool Bool Bool Bool Bool Bool Bool (of_arg d) of_factor of_selector of_added of_args of_elem of_expr of_multiplied of_place of_simple of_term (record { left = left; right = None; span = span })
formed_expr_of d left (Some x) span = fold-roll-Expr Bool Bool Bool Bool Bool Bool Bool Bool Bool Bool Bool (of_arg d) of_factor of_selector of_added of_args of_elem of_expr of_multiplied of_place of_simple of_term (record { left = left; right = Some x; span = span })

pub formed_elem_of : (d : Dialect) (first : Expr) (last : Option Expr) (span : Span) → formed_elem d (elem_of first last span) ≡ (formed_expr d first && optional (formed_optional d last))
unfolding formed_arg formed_factor formed_selector formed_added formed_args formed_elem formed_expr formed_multiplied formed_place formed_simple formed_term
formed_elem_of d first None span = fold-roll-Elem Bool Bool Bool Bool Bool Bool Bool Bool Bool Bool Bool (of_arg d) of_factor of_selector of_added of_args of_elem of_expr of_multiplied of_place of_simple of_term (record { first = first; last = None; span = span })
formed_elem_of d first (Some x) span = fold-roll-Elem Bool Bool Bool Bool Bool Bool Bool Bool Bool Bool Bool (of_arg d) of_factor of_selector of_added of_args of_elem of_expr of_multiplied of_place of_simple of_term (record { first = first; last = Some x; span = span })

pub formed_place_of : (d : Dialect) (name : Identifier) (selectors : List Selector) (span : Span) → formed_place d (place_of name selectors span) ≡ all (map (formed_selector d) selectors)
unfolding formed_arg formed_factor formed_selector formed_added formed_args formed_elem formed_expr formed_multiplied formed_place formed_simple formed_term
formed_place_of d name selectors span = fold-roll-Place Bool Bool Bool Bool Bool Bool Bool Bool Bool Bool Bool (of_arg d) of_factor of_selector of_added of_args of_elem of_expr of_multiplied of_place of_simple of_term (record { name = name; selectors = selectors; span = span })

pub formed_args_of : (d : Dialect) (list : List Arg) (span : Span) → formed_args d (args_of list span) ≡ some_all (map (formed_arg d) list)
unfolding formed_arg formed_factor formed_selector formed_added formed_args formed_elem formed_expr formed_multiplied formed_place formed_simple formed_term
formed_args_of d list span = fold-roll-Args Bool Bool Bool Bool Bool Bool Bool Bool Bool Bool Bool (of_arg d) of_factor of_selector of_added of_args of_elem of_expr of_multiplied of_place of_simple of_term (record { list = list; span = span })

pub formed_factor_number : (d : Dialect) (value : ℤ) (span : Span) → formed_factor d (factor.Number value span) ≡ true
unfolding formed_arg formed_factor formed_selector formed_added formed_args formed_elem formed_expr formed_multiplied formed_place formed_simple formed_term
formed_factor_number d value span = ap (λ x. formed_factor d x) (sym (factor.rolls-Number value span)) ∙ fold-roll-Factor Bool Bool Bool Bool Bool Bool Bool Bool Bool Bool Bool (of_arg d) of_factor of_selector of_added of_args of_elem of_expr of_multiplied of_place of_simple of_term (part.Number value span)

pub formed_factor_text : (d : Dialect) (bytes : List ℕ) (span : Span) → formed_factor d (factor.Text bytes span) ≡ true
unfolding formed_arg formed_factor formed_selector formed_added formed_args formed_elem formed_expr formed_multiplied formed_place formed_simple formed_term
formed_factor_text d bytes span = ap (λ x. formed_factor d x) (sym (factor.rolls-Text bytes span)) ∙ fold-roll-Factor Bool Bool Bool Bool Bool Bool Bool Bool Bool Bool Bool (of_arg d) of_factor of_selector of_added of_args of_elem of_expr of_multiplied of_place of_simple of_term (part.Text bytes span)

pub formed_factor_nil : (d : Dialect) (span : Span) → formed_factor d (factor.Nil span) ≡ true
unfolding formed_arg formed_factor formed_selector formed_added formed_args formed_elem formed_expr formed_multiplied formed_place formed_simple formed_term
formed_factor_nil d span = ap (λ x. formed_factor d x) (sym (factor.rolls-Nil span)) ∙ fold-roll-Factor Bool Bool Bool Bool Bool Bool Bool Bool Bool Bool Bool (of_arg d) of_factor of_selector of_added of_args of_elem of_expr of_multiplied of_place of_simple of_term (part.Nil span)

pub formed_factor_place : (d : Dialect) (place : Place) → formed_factor d (factor.Place place) ≡ formed_place d place
unfolding formed_arg formed_factor formed_selector formed_added formed_args formed_elem formed_expr formed_multiplied formed_place formed_simple formed_term
formed_factor_place d place = ap (λ x. formed_factor d x) (sym (factor.rolls-Place place)) ∙ fold-roll-Factor Bool Bool Bool Bool Bool Bool Bool Bool Bool Bool Bool (of_arg d) of_factor of_selector of_added of_args of_elem of_expr of_multiplied of_place of_simple of_term (part.Place place)

pub formed_factor_call : (d : Dialect) (name : Identifier) (args : Args) (span : Span) → formed_factor d (factor.Call name args span) ≡ formed_args d args
unfolding formed_arg formed_factor formed_selector formed_added formed_args formed_elem formed_expr formed_multiplied formed_place formed_simple formed_term
formed_factor_call d name args span = ap (λ x. formed_factor d x) (sym (factor.rolls-Call name args span)) ∙ fold-roll-Factor Bool Bool Bool Bool Bool Bool Bool Bool Bool Bool Bool (of_arg d) of_factor of_selector of_added of_args of_elem of_expr of_multiplied of_place of_simple of_term (part.Call name args span)

pub formed_factor_group : (d : Dialect) (inner : Expr) (span : Span) → formed_factor d (factor.Group inner span) ≡ formed_expr d inner
unfolding formed_arg formed_factor formed_selector formed_added formed_args formed_elem formed_expr formed_multiplied formed_place formed_simple formed_term
formed_factor_group d inner span = ap (λ x. formed_factor d x) (sym (factor.rolls-Group inner span)) ∙ fold-roll-Factor Bool Bool Bool Bool Bool Bool Bool Bool Bool Bool Bool (of_arg d) of_factor of_selector of_added of_args of_elem of_expr of_multiplied of_place of_simple of_term (part.Group inner span)

pub formed_factor_not : (d : Dialect) (operand : Factor) (span : Span) → formed_factor d (factor.Not operand span) ≡ formed_factor d operand
unfolding formed_arg formed_factor formed_selector formed_added formed_args formed_elem formed_expr formed_multiplied formed_place formed_simple formed_term
formed_factor_not d operand span = ap (λ x. formed_factor d x) (sym (factor.rolls-Not operand span)) ∙ fold-roll-Factor Bool Bool Bool Bool Bool Bool Bool Bool Bool Bool Bool (of_arg d) of_factor of_selector of_added of_args of_elem of_expr of_multiplied of_place of_simple of_term (part.Not operand span)

pub formed_factor_set : (d : Dialect) (elements : List Elem) (span : Span) → formed_factor d (factor.Set elements span) ≡ all (map (formed_elem d) elements)
unfolding formed_arg formed_factor formed_selector formed_added formed_args formed_elem formed_expr formed_multiplied formed_place formed_simple formed_term
formed_factor_set d elements span = ap (λ x. formed_factor d x) (sym (factor.rolls-Set elements span)) ∙ fold-roll-Factor Bool Bool Bool Bool Bool Bool Bool Bool Bool Bool Bool (of_arg d) of_factor of_selector of_added of_args of_elem of_expr of_multiplied of_place of_simple of_term (part.Set elements span)

pub formed_selector_index : (d : Dialect) (indexes : List Expr) (span : Span) → formed_selector d (selector.Index indexes span) ≡ some_all (map (formed_expr d) indexes)
unfolding formed_arg formed_factor formed_selector formed_added formed_args formed_elem formed_expr formed_multiplied formed_place formed_simple formed_term
formed_selector_index d indexes span = ap (λ x. formed_selector d x) (sym (selector.rolls-Index indexes span)) ∙ fold-roll-Selector Bool Bool Bool Bool Bool Bool Bool Bool Bool Bool Bool (of_arg d) of_factor of_selector of_added of_args of_elem of_expr of_multiplied of_place of_simple of_term (part.Index indexes span)

pub formed_selector_field : (d : Dialect) (name : Identifier) (span : Span) → formed_selector d (selector.Field name span) ≡ true
unfolding formed_arg formed_factor formed_selector formed_added formed_args formed_elem formed_expr formed_multiplied formed_place formed_simple formed_term
formed_selector_field d name span = ap (λ x. formed_selector d x) (sym (selector.rolls-Field name span)) ∙ fold-roll-Selector Bool Bool Bool Bool Bool Bool Bool Bool Bool Bool Bool (of_arg d) of_factor of_selector of_added of_args of_elem of_expr of_multiplied of_place of_simple of_term (part.Field name span)

pub formed_selector_follow : (d : Dialect) (span : Span) → formed_selector d (selector.Follow span) ≡ true
unfolding formed_arg formed_factor formed_selector formed_added formed_args formed_elem formed_expr formed_multiplied formed_place formed_simple formed_term
formed_selector_follow d span = ap (λ x. formed_selector d x) (sym (selector.rolls-Follow span)) ∙ fold-roll-Selector Bool Bool Bool Bool Bool Bool Bool Bool Bool Bool Bool (of_arg d) of_factor of_selector of_added of_args of_elem of_expr of_multiplied of_place of_simple of_term (part.Follow span)

pub formed_arg_program : (d : Dialect) (span : Span) → formed_arg d (arg.Program span) ≡ is_ucsd d
unfolding formed_arg formed_factor formed_selector formed_added formed_args formed_elem formed_expr formed_multiplied formed_place formed_simple formed_term
formed_arg_program d span = ap (λ x. formed_arg d x) (sym (arg.rolls-Program span)) ∙ fold-roll-Arg Bool Bool Bool Bool Bool Bool Bool Bool Bool Bool Bool (of_arg d) of_factor of_selector of_added of_args of_elem of_expr of_multiplied of_place of_simple of_term (part.Program span)

formed_made : (d : Dialect) (value : Expr) (width decimals : Option Expr) (span : Span) → formed_arg d (roll-Arg (part.Value value width decimals span)) ≡ (formed_expr d value && formatted (formed_optional d width) (formed_optional d decimals))
unfolding formed_arg formed_factor formed_selector formed_added formed_args formed_elem formed_expr formed_multiplied formed_place formed_simple formed_term
formed_made d value None None span = fold-roll-Arg Bool Bool Bool Bool Bool Bool Bool Bool Bool Bool Bool (of_arg d) of_factor of_selector of_added of_args of_elem of_expr of_multiplied of_place of_simple of_term (part.Value value None None span)
formed_made d value None (Some y) span = fold-roll-Arg Bool Bool Bool Bool Bool Bool Bool Bool Bool Bool Bool (of_arg d) of_factor of_selector of_added of_args of_elem of_expr of_multiplied of_place of_simple of_term (part.Value value None (Some y) span)
formed_made d value (Some x) None span = fold-roll-Arg Bool Bool Bool Bool Bool Bool Bool Bool Bool Bool Bool (of_arg d) of_factor of_selector of_added of_args of_elem of_expr of_multiplied of_place of_simple of_term (part.Value value (Some x) None span)
formed_made d value (Some x) (Some y) span = fold-roll-Arg Bool Bool Bool Bool Bool Bool Bool Bool Bool Bool Bool (of_arg d) of_factor of_selector of_added of_args of_elem of_expr of_multiplied of_place of_simple of_term (part.Value value (Some x) (Some y) span)

pub formed_arg_value : (d : Dialect) (value : Expr) (width decimals : Option Expr) (span : Span) → formed_arg d (arg.Value value width decimals span) ≡ (formed_expr d value && formatted (formed_optional d width) (formed_optional d decimals))
formed_arg_value d value width decimals span = ap (λ x. formed_arg d x) (sym (arg.rolls-Value value width decimals span)) ∙ formed_made d value width decimals span
