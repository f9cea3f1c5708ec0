-- The height of each node of an expression, by those of its parts as programs see them.
use Rattle.std.proofs.Common.{◌≡◌, ℕ, suc, max, List, map, ℤ, Option, Some, None, sym, ap, ◌∙◌}
use Rattle.p2c_text.specs.declared.place.Span.{Span}
use Rattle.pascal_tree.specs.declared.names.Identifier.{Identifier}
use Rattle.pascal_tree.specs.declared.expressions.Relation.{Relation}
use Rattle.pascal_tree.specs.declared.expressions.Arg.TheOpen as part
use Rattle.pascal_tree.specs.declared.expressions.Arg.{roll-Arg, fold-roll-Arg}
use Rattle.pascal_tree.specs.declared.expressions.Arg.TheVariants as arg
use Rattle.pascal_tree.specs.declared.expressions.Factor.{Factor, fold-roll-Factor}
use Rattle.pascal_tree.specs.declared.expressions.Factor.TheVariants as factor
use Rattle.pascal_tree.specs.declared.expressions.Selector.{fold-roll-Selector}
use Rattle.pascal_tree.specs.declared.expressions.Selector.TheVariants as selector
use Rattle.pascal_tree.specs.declared.expressions.AddedTerm.{AddedTerm, out-AddedTerm, fold_out-AddedTerm}
use Rattle.pascal_tree.specs.declared.expressions.Args.{Args, out-Args, fold_out-Args}
use Rattle.pascal_tree.specs.declared.expressions.Elem.{Elem, out-Elem, roll-Elem, roll-out-Elem, fold-roll-Elem}
use Rattle.pascal_tree.specs.declared.expressions.Expr.{Expr, out-Expr, roll-Expr, roll-out-Expr, fold-roll-Expr}
use Rattle.pascal_tree.specs.declared.expressions.MultipliedFactor.{MultipliedFactor, out-MultipliedFactor, fold_out-MultipliedFactor}
use Rattle.pascal_tree.specs.declared.expressions.Place.{Place, out-Place, fold_out-Place}
use Rattle.pascal_tree.specs.declared.expressions.Simple.{Simple, out-Simple, fold_out-Simple}
use Rattle.pascal_tree.specs.declared.expressions.Term.{Term, out-Term, fold_out-Term}
use Rattle.pascal_tree.specs.ExpressionHeights.{
  greatest,
  right_height,
  last_height,
  of_arg,
  of_factor,
  of_selector,
  of_added,
  of_args,
  of_elem,
  of_expr,
  of_multiplied,
  of_place,
  of_simple,
  of_term,
  arg_height,
  factor_height,
  selector_height,
  added_height,
  args_height,
  elem_height,
  expr_height,
  multiplied_height,
  place_height,
  simple_height,
  term_height,
}

pub term_open : (x : Term) → term_height x ≡ max (factor_height (out-Term x).first) (greatest (map multiplied_height (out-Term x).rest))
unfolding arg_height factor_height selector_height added_height args_height elem_height expr_height multiplied_height place_height simple_height term_height
term_open x = fold_out-Term ℕ ℕ ℕ ℕ ℕ ℕ ℕ ℕ ℕ ℕ ℕ of_arg of_factor of_selector of_added of_args of_elem of_expr of_multiplied of_place of_simple of_term x

pub multiplied_open : (x : MultipliedFactor) → multiplied_height x ≡ factor_height (out-MultipliedFactor x).factor
unfolding arg_height factor_height selector_height added_height args_height elem_height expr_height multiplied_height place_height simple_height term_height
multiplied_open x = fold_out-MultipliedFactor ℕ ℕ ℕ ℕ ℕ ℕ ℕ ℕ ℕ ℕ ℕ of_arg of_factor of_selector of_added of_args of_elem of_expr of_multiplied of_place of_simple of_term x

pub simple_open : (x : Simple) → simple_height x ≡ max (term_height (out-Simple x).first) (greatest (map added_height (out-Simple x).rest))
unfolding arg_height factor_height selector_height added_height args_height elem_height expr_height multiplied_height place_height simple_height term_height
simple_open x = fold_out-Simple ℕ ℕ ℕ ℕ ℕ ℕ ℕ ℕ ℕ ℕ ℕ of_arg of_factor of_selector of_added of_args of_elem of_expr of_multiplied of_place of_simple of_term x

pub added_open : (x : AddedTerm) → added_height x ≡ term_height (out-AddedTerm x).term
unfolding arg_height factor_height selector_height added_height args_height elem_height expr_height multiplied_height place_height simple_height term_height
added_open x = fold_out-AddedTerm ℕ ℕ ℕ ℕ ℕ ℕ ℕ ℕ ℕ ℕ ℕ of_arg of_factor of_selector of_added of_args of_elem of_expr of_multiplied of_place of_simple of_term x

pub place_open : (x : Place) → place_height x ≡ greatest (map selector_height (out-Place x).selectors)
unfolding arg_height factor_height selector_height added_height args_height elem_height expr_height multiplied_height place_height simple_height term_height
place_open x = fold_out-Place ℕ ℕ ℕ ℕ ℕ ℕ ℕ ℕ ℕ ℕ ℕ of_arg of_factor of_selector of_added of_args of_elem of_expr of_multiplied of_place of_simple of_term x

pub args_open : (x : Args) → args_height x ≡ greatest (map arg_height (out-Args x).list)
unfolding arg_height factor_height selector_height added_height args_height elem_height expr_height multiplied_height place_height simple_height term_height
args_open x = fold_out-Args ℕ ℕ ℕ ℕ ℕ ℕ ℕ ℕ ℕ ℕ ℕ of_arg of_factor of_selector of_added of_args of_elem of_expr of_multiplied of_place of_simple of_term x

expr_made : (left : Simple) (right : Option (Relation × Simple)) (span : Span) → expr_height (roll-Expr (record { left = left; right = right; span = span })) ≡ suc (max (simple_height left) (right_height right))
unfolding arg_height factor_height selector_height added_height args_height elem_height expr_height multiplied_height place_height simple_height term_height
expr_made left None span = fold-roll-Expr ℕ ℕ ℕ ℕ ℕ ℕ ℕ ℕ ℕ ℕ ℕ of_arg of_factor of_selector of_added of_args of_elem of_expr of_multiplied of_place of_simple of_term (record { left = left; right = None; span = span })
expr_made left (Some r) span = fold-roll-Expr ℕ ℕ ℕ ℕ ℕ ℕ ℕ ℕ ℕ ℕ ℕ of_arg of_factor of_selector of_added of_args of_elem of_expr of_multiplied of_place of_simple of_term (record { left = left; right = Some r; span = span })

pub expr_open : (x : Expr) → expr_height x ≡ suc (max (simple_height (out-Expr x).left) (right_height (out-Expr x).right))
expr_open x = ap expr_height (sym (roll-out-Expr x)) ∙ expr_made (out-Expr x).left (out-Expr x).right (out-Expr x).span

elem_made : (first : Expr) (last : Option Expr) (span : Span) → elem_height (roll-Elem (record { first = first; last = last; span = span })) ≡ max (expr_height first) (last_height last)
unfolding arg_height factor_height selector_height added_height args_height elem_height expr_height multiplied_height place_height simple_height term_height
elem_made first None span = fold-roll-Elem ℕ ℕ ℕ ℕ ℕ ℕ ℕ ℕ ℕ ℕ ℕ of_arg of_factor of_selector of_added of_args of_elem of_expr of_multiplied of_place of_simple of_term (record { first = first; last = None; span = span })
elem_made first (Some e) span = fold-roll-Elem ℕ ℕ ℕ ℕ ℕ ℕ ℕ ℕ ℕ ℕ ℕ of_arg of_factor of_selector of_added of_args of_elem of_expr of_multiplied of_place of_simple of_term (record { first = first; last = Some e; span = span })

pub elem_open : (x : Elem) → elem_height x ≡ max (expr_height (out-Elem x).first) (last_height (out-Elem x).last)
elem_open x = ap elem_height (sym (roll-out-Elem x)) ∙ elem_made (out-Elem x).first (out-Elem x).last (out-Elem x).span

-- ---- factors, selectors and arguments

pub factor_place : (place : Place) → factor_height (factor.Place place) ≡ suc (place_height place)
unfolding arg_height factor_height selector_height added_height args_height elem_height expr_height multiplied_height place_height simple_height term_height
factor_place place = ap factor_height (sym (factor.rolls-Place place)) ∙ fold-roll-Factor ℕ ℕ ℕ ℕ ℕ ℕ ℕ ℕ ℕ ℕ ℕ of_arg of_factor of_selector of_added of_args of_elem of_expr of_multiplied of_place of_simple of_term (part.Place place)

pub factor_call : (name : Identifier) (args : Args) (span : Span) → factor_height (factor.Call name args span) ≡ suc (args_height args)
unfolding arg_height factor_height selector_height added_height args_height elem_height expr_height multiplied_height place_height simple_height term_height
factor_call name args span = ap factor_height (sym (factor.rolls-Call name args span)) ∙ fold-roll-Factor ℕ ℕ ℕ ℕ ℕ ℕ ℕ ℕ ℕ ℕ ℕ of_arg of_factor of_selector of_added of_args of_elem of_expr of_multiplied of_place of_simple of_term (part.Call name args span)

pub factor_group : (inner : Expr) (span : Span) → factor_height (factor.Group inner span) ≡ suc (expr_height inner)
unfolding arg_height factor_height selector_height added_height args_height elem_height expr_height multiplied_height place_height simple_height term_height
factor_group inner span = ap factor_height (sym (factor.rolls-Group inner span)) ∙ fold-roll-Factor ℕ ℕ ℕ ℕ ℕ ℕ ℕ ℕ ℕ ℕ ℕ of_arg of_factor of_selector of_added of_args of_elem of_expr of_multiplied of_place of_simple of_term (part.Group inner span)

pub factor_not : (operand : Factor) (span : Span) → factor_height (factor.Not operand span) ≡ suc (factor_height operand)
unfolding arg_height factor_height selector_height added_height args_height elem_height expr_height multiplied_height place_height simple_height term_height
factor_not operand span = ap factor_height (sym (factor.rolls-Not operand span)) ∙ fold-roll-Factor ℕ ℕ ℕ ℕ ℕ ℕ ℕ ℕ ℕ ℕ ℕ of_arg of_factor of_selector of_added of_args of_elem of_expr of_multiplied of_place of_simple of_term (part.Not operand span)

pub factor_set : (elements : List Elem) (span : Span) → factor_height (factor.Set elements span) ≡ suc (greatest (map elem_height elements))
unfolding arg_height factor_height selector_height added_height args_height elem_height expr_height multiplied_height place_height simple_height term_height
factor_set elements span = ap factor_height (sym (factor.rolls-Set elements span)) ∙ fold-roll-Factor ℕ ℕ ℕ ℕ ℕ ℕ ℕ ℕ ℕ ℕ ℕ of_arg of_factor of_selector of_added of_args of_elem of_expr of_multiplied of_place of_simple of_term (part.Set elements span)

pub factor_number : (value : ℤ) (span : Span) → factor_height (factor.Number value span) ≡ 1
unfolding arg_height factor_height selector_height added_height args_height elem_height expr_height multiplied_height place_height simple_height term_height
factor_number value span = ap factor_height (sym (factor.rolls-Number value span)) ∙ fold-roll-Factor ℕ ℕ ℕ ℕ ℕ ℕ ℕ ℕ ℕ ℕ ℕ of_arg of_factor of_selector of_added of_args of_elem of_expr of_multiplied of_place of_simple of_term (part.Number value span)

pub factor_text : (bytes : List ℕ) (span : Span) → factor_height (factor.Text bytes span) ≡ 1
unfolding arg_height factor_height selector_height added_height args_height elem_height expr_height multiplied_height place_height simple_height term_height
factor_text bytes span = ap factor_height (sym (factor.rolls-Text bytes span)) ∙ fold-roll-Factor ℕ ℕ ℕ ℕ ℕ ℕ ℕ ℕ ℕ ℕ ℕ of_arg of_factor of_selector of_added of_args of_elem of_expr of_multiplied of_place of_simple of_term (part.Text bytes span)

pub factor_nil : (span : Span) → factor_height (factor.Nil span) ≡ 1
unfolding arg_height factor_height selector_height added_height args_height elem_height expr_height multiplied_height place_height simple_height term_height
factor_nil span = ap factor_height (sym (factor.rolls-Nil span)) ∙ fold-roll-Factor ℕ ℕ ℕ ℕ ℕ ℕ ℕ ℕ ℕ ℕ ℕ of_arg of_factor of_selector of_added of_args of_elem of_expr of_multiplied of_place of_simple of_term (part.Nil span)

pub selector_index : (indexes : List Expr) (span : Span) → selector_height (selector.Index indexes span) ≡ greatest (map expr_height indexes)
unfolding arg_height factor_height selector_height added_height args_height elem_height expr_height multiplied_height place_height simple_height term_height
selector_index indexes span = ap selector_height (sym (selector.rolls-Index indexes span)) ∙ fold-roll-Selector ℕ ℕ ℕ ℕ ℕ ℕ ℕ ℕ ℕ ℕ ℕ of_arg of_factor of_selector of_added of_args of_elem of_expr of_multiplied of_place of_simple of_term (part.Index indexes span)

pub selector_field : (name : Identifier) (span : Span) → selector_height (selector.Field name span) ≡ 0
unfolding arg_height factor_height selector_height added_height args_height elem_height expr_height multiplied_height place_height simple_height term_height
selector_field name span = ap selector_height (sym (selector.rolls-Field name span)) ∙ fold-roll-Selector ℕ ℕ ℕ ℕ ℕ ℕ ℕ ℕ ℕ ℕ ℕ of_arg of_factor of_selector of_added of_args of_elem of_expr of_multiplied of_place of_simple of_term (part.Field name span)

pub selector_follow : (span : Span) → selector_height (selector.Follow span) ≡ 0
unfolding arg_height factor_height selector_height added_height args_height elem_height expr_height multiplied_height place_height simple_height term_height
selector_follow span = ap selector_height (sym (selector.rolls-Follow span)) ∙ fold-roll-Selector ℕ ℕ ℕ ℕ ℕ ℕ ℕ ℕ ℕ ℕ ℕ of_arg of_factor of_selector of_added of_args of_elem of_expr of_multiplied of_place of_simple of_term (part.Follow span)

pub arg_program : (span : Span) → arg_height (arg.Program span) ≡ 0
unfolding arg_height factor_height selector_height added_height args_height elem_height expr_height multiplied_height place_height simple_height term_height
arg_program span = ap arg_height (sym (arg.rolls-Program span)) ∙ fold-roll-Arg ℕ ℕ ℕ ℕ ℕ ℕ ℕ ℕ ℕ ℕ ℕ of_arg of_factor of_selector of_added of_args of_elem of_expr of_multiplied of_place of_simple of_term (part.Program span)

arg_made : (value : Expr) (width decimals : Option Expr) (span : Span) → arg_height (roll-Arg (part.Value value width decimals span)) ≡ max (expr_height value) (max (last_height width) (last_height decimals))
unfolding arg_height factor_height selector_height added_height args_height elem_height expr_height multiplied_height place_height simple_height term_height
arg_made value None None span = fold-roll-Arg ℕ ℕ ℕ ℕ ℕ ℕ ℕ ℕ ℕ ℕ ℕ of_arg of_factor of_selector of_added of_args of_elem of_expr of_multiplied of_place of_simple of_term (part.Value value None None span)
arg_made value None (Some d) span = fold-roll-Arg ℕ ℕ ℕ ℕ ℕ ℕ ℕ ℕ ℕ ℕ ℕ of_arg of_factor of_selector of_added of_args of_elem of_expr of_multiplied of_place of_simple of_term (part.Value value None (Some d) span)
arg_made value (Some w) None span = fold-roll-Arg ℕ ℕ ℕ ℕ ℕ ℕ ℕ ℕ ℕ ℕ ℕ of_arg of_factor of_selector of_added of_args of_elem of_expr of_multiplied of_place of_simple of_term (part.Value value (Some w) None span)
arg_made value (Some w) (Some d) span = fold-roll-Arg ℕ ℕ ℕ ℕ ℕ ℕ ℕ ℕ ℕ ℕ ℕ of_arg of_factor of_selector of_added of_args of_elem of_expr of_multiplied of_place of_simple of_term (part.Value value (Some w) (Some d) span)

pub arg_value : (value : Expr) (width decimals : Option Expr) (span : Span) → arg_height (arg.Value value width decimals span) ≡ max (expr_height value) (max (last_height width) (last_height decimals))
arg_value value width decimals span = ap arg_height (sym (arg.rolls-Value value width decimals span)) ∙ arg_made value width decimals span

pub ruleset factor_heights = (factor_place, factor_call, factor_group, factor_not, factor_set, factor_number, factor_text, factor_nil)

pub ruleset selector_heights = (selector_index, selector_field, selector_follow)

pub ruleset arg_heights = (arg_value, arg_program)
