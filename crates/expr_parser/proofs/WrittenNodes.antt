-- How each tree is written, by its parts as programs see them.
use Rattle.std.proofs.Common.{◌≡◌, ℕ, ℤ, List, map, Option, Some, None, sym, ap, ◌∙◌}
use Rattle.p2c_text.specs.declared.place.Span.{Span}
use Rattle.dialect_lexer.specs.declared.token.Word.TheVariants as word_
use Rattle.dialect_lexer.specs.declared.token.Symbol.TheVariants as mark
use Rattle.pascal_tree.specs.declared.constants.Sign.{Sign}
use Rattle.pascal_tree.specs.declared.names.Identifier.{Identifier}
use Rattle.pascal_tree.specs.declared.expressions.Relation.{Relation}
use Rattle.pascal_tree.specs.declared.expressions.Adding.{Adding}
use Rattle.pascal_tree.specs.declared.expressions.Multiplying.{Multiplying}
use Rattle.pascal_tree.specs.declared.expressions.Arg.TheOpen as part
use Rattle.pascal_tree.specs.declared.expressions.Arg.{Arg, roll-Arg, fold-roll-Arg}
use Rattle.pascal_tree.specs.declared.expressions.Arg.TheVariants as arg
use Rattle.pascal_tree.specs.declared.expressions.Factor.{Factor, fold-roll-Factor}
use Rattle.pascal_tree.specs.declared.expressions.Factor.TheVariants as factor
use Rattle.pascal_tree.specs.declared.expressions.Selector.{Selector, fold-roll-Selector}
use Rattle.pascal_tree.specs.declared.expressions.Selector.TheVariants as selector
use Rattle.pascal_tree.specs.declared.expressions.AddedTerm.{AddedTerm, fold-roll-AddedTerm}
use Rattle.pascal_tree.specs.declared.expressions.Args.{Args, fold-roll-Args}
use Rattle.pascal_tree.specs.declared.expressions.Elem.{Elem, fold-roll-Elem}
use Rattle.pascal_tree.specs.declared.expressions.Expr.{Expr, fold-roll-Expr}
use Rattle.pascal_tree.specs.declared.expressions.MultipliedFactor.{MultipliedFactor, fold-roll-MultipliedFactor}
use Rattle.pascal_tree.specs.declared.expressions.Place.{Place, fold-roll-Place}
use Rattle.pascal_tree.specs.declared.expressions.Simple.{Simple, fold-roll-Simple}
use Rattle.pascal_tree.specs.declared.expressions.Term.{Term, fold-roll-Term}
use Rattle.expr_parser.specs.Places.{place_of, args_of}
use Rattle.expr_parser.specs.Factors.{elem_of}
use Rattle.expr_parser.specs.Expressions.{multiplied_of, term_of, added_of, simple_of, expr_of}
use Rattle.expr_parser.specs.Tokens.{Number, Text}
use Rattle.expr_parser.specs.Layout.{Layout, Done, ◌&◌, token, word, symbol, spanned, counted, in_row, with_commas}
use Rattle.expr_parser.specs.Writing.{
  relation_token,
  adding_token,
  multiplying_token,
  identifier,
  optional_sign,
  optional_after,
  of_arg,
  of_factor,
  of_selector,
  of_added,
  of_args,
  of_elem,
  of_expr,
  of_multiplied,
  of_place,
  of_simple,
  of_term,
  write_arg,
  write_factor,
  write_selector,
  write_added,
  write_args,
  write_elem,
  write_expr,
  write_multiplied,
  write_place,
  write_simple,
  write_term,
}

abbrev pub write_right : Option (Relation × Simple) → Layout
write_right None = Done
write_right (Some r) = token (relation_token r.0) & write_simple r.1

abbrev pub write_optional : Option Expr → Option Layout
write_optional None = None
write_optional (Some e) = Some (write_expr e)

pub write_term_of : (first : Factor) (rest : List MultipliedFactor) (span : Span) → write_term (term_of first rest span) ≡ spanned span (write_factor first & in_row (map write_multiplied rest))
unfolding write_arg write_factor write_selector write_added write_args write_elem write_expr write_multiplied write_place write_simple write_term
write_term_of first rest span = fold-roll-Term Layout Layout Layout Layout Layout Layout Layout Layout Layout Layout Layout of_arg of_factor of_selector of_added of_args of_elem of_expr of_multiplied of_place of_simple of_term (record { first = first; rest = rest; span = span })

pub write_multiplied_of : (op : Multiplying) (f : Factor) → write_multiplied (multiplied_of op f) ≡ (token (multiplying_token op) & write_factor f)
unfolding write_arg write_factor write_selector write_added write_args write_elem write_expr write_multiplied write_place write_simple write_term
write_multiplied_of op f = fold-roll-MultipliedFactor Layout Layout Layout Layout Layout Layout Layout Layout Layout Layout Layout of_arg of_factor of_selector of_added of_args of_elem of_expr of_multiplied of_place of_simple of_term (record { operator = op; factor = f })

pub write_added_of : (op : Adding) (t : Term) → write_added (added_of op t) ≡ (token (adding_token op) & write_term t)
unfolding write_arg write_factor write_selector write_added write_args write_elem write_expr write_multiplied write_place write_simple write_term
write_added_of op t = fold-roll-AddedTerm Layout Layout Layout Layout Layout Layout Layout Layout Layout Layout Layout of_arg of_factor of_selector of_added of_args of_elem of_expr of_multiplied of_place of_simple of_term (record { operator = op; term = t })

pub write_simple_of : (sign : Option Sign) (first : Term) (rest : List AddedTerm) (span : Span) → write_simple (simple_of sign first rest span) ≡ spanned span (optional_sign sign & write_term first & in_row (map write_added rest))
unfolding write_arg write_factor write_selector write_added write_args write_elem write_expr write_multiplied write_place write_simple write_term
write_simple_of sign first rest span = fold-roll-Simple Layout Layout Layout Layout Layout Layout Layout Layout Layout Layout Layout of_arg of_factor of_selector of_added of_args of_elem of_expr of_multiplied of_place of_simple of_term (record { sign = sign; first = first; rest = rest; span = span })

pub write_expr_of : (left : Simple) (right : Option (Relation × Simple)) (span : Span) → write_expr (expr_of left right span) ≡ counted (spanned span (write_simple left & write_right right))
unfolding write_arg write_factor write_selector write_added write_args write_elem write_expr write_multiplied write_place write_simple write_term
write_expr_of left None span = fold-roll-Expr Layout Layout Layout Layout Layout Layout Layout Layout Layout Layout Layout of_arg of_factor of_selector of_added of_args of_elem of_expr of_multiplied of_place of_simple of_term (record { left = left; right = None; span = span })
write_expr_of left (Some x) span = fold-roll-Expr Layout Layout Layout Layout Layout Layout Layout Layout Layout Layout Layout of_arg of_factor of_selector of_added of_args of_elem of_expr of_multiplied of_place of_simple of_term (record { left = left; right = Some x; span = span })

pub write_elem_of : (first : Expr) (last : Option Expr) (span : Span) → write_elem (elem_of first last span) ≡ spanned span (write_expr first & optional_after mark.DotDot (write_optional last))
unfolding write_arg write_factor write_selector write_added write_args write_elem write_expr write_multiplied write_place write_simple write_term
write_elem_of first None span = fold-roll-Elem Layout Layout Layout Layout Layout Layout Layout Layout Layout Layout Layout of_arg of_factor of_selector of_added of_args of_elem of_expr of_multiplied of_place of_simple of_term (record { first = first; last = None; span = span })
write_elem_of first (Some x) span = fold-roll-Elem Layout Layout Layout Layout Layout Layout Layout Layout Layout Layout Layout of_arg of_factor of_selector of_added of_args of_elem of_expr of_multiplied of_place of_simple of_term (record { first = first; last = Some x; span = span })

pub write_place_of : (name : Identifier) (selectors : List Selector) (span : Span) → write_place (place_of name selectors span) ≡ spanned span (identifier name & in_row (map write_selector selectors))
unfolding write_arg write_factor write_selector write_added write_args write_elem write_expr write_multiplied write_place write_simple write_term
write_place_of name selectors span = fold-roll-Place Layout Layout Layout Layout Layout Layout Layout Layout Layout Layout Layout of_arg of_factor of_selector of_added of_args of_elem of_expr of_multiplied of_place of_simple of_term (record { name = name; selectors = selectors; span = span })

pub write_args_of : (list : List Arg) (span : Span) → write_args (args_of list span) ≡ spanned span (symbol mark.Open & with_commas (map write_arg list) & symbol mark.Close)
unfolding write_arg write_factor write_selector write_added write_args write_elem write_expr write_multiplied write_place write_simple write_term
write_args_of list span = fold-roll-Args Layout Layout Layout Layout Layout Layout Layout Layout Layout Layout Layout of_arg of_factor of_selector of_added of_args of_elem of_expr of_multiplied of_place of_simple of_term (record { list = list; span = span })

pub write_factor_number : (value : ℤ) (span : Span) → write_factor (factor.Number value span) ≡ counted (spanned span (token (Number value)))
unfolding write_arg write_factor write_selector write_added write_args write_elem write_expr write_multiplied write_place write_simple write_term
write_factor_number value span = ap (λ x. write_factor x) (sym (factor.rolls-Number value span)) ∙ fold-roll-Factor Layout Layout Layout Layout Layout Layout Layout Layout Layout Layout Layout of_arg of_factor of_selector of_added of_args of_elem of_expr of_multiplied of_place of_simple of_term (part.Number value span)

pub write_factor_text : (bytes : List ℕ) (span : Span) → write_factor (factor.Text bytes span) ≡ counted (spanned span (token (Text bytes)))
unfolding write_arg write_factor write_selector write_added write_args write_elem write_expr write_multiplied write_place write_simple write_term
write_factor_text bytes span = ap (λ x. write_factor x) (sym (factor.rolls-Text bytes span)) ∙ fold-roll-Factor Layout Layout Layout Layout Layout Layout Layout Layout Layout Layout Layout of_arg of_factor of_selector of_added of_args of_elem of_expr of_multiplied of_place of_simple of_term (part.Text bytes span)

pub write_factor_nil : (span : Span) → write_factor (factor.Nil span) ≡ counted (spanned span (word word_.KwNil))
unfolding write_arg write_factor write_selector write_added write_args write_elem write_expr write_multiplied write_place write_simple write_term
write_factor_nil span = ap (λ x. write_factor x) (sym (factor.rolls-Nil span)) ∙ fold-roll-Factor Layout Layout Layout Layout Layout Layout Layout Layout Layout Layout Layout of_arg of_factor of_selector of_added of_args of_elem of_expr of_multiplied of_place of_simple of_term (part.Nil span)

pub write_factor_place : (place : Place) → write_factor (factor.Place place) ≡ counted (write_place place)
unfolding write_arg write_factor write_selector write_added write_args write_elem write_expr write_multiplied write_place write_simple write_term
write_factor_place place = ap (λ x. write_factor x) (sym (factor.rolls-Place place)) ∙ fold-roll-Factor Layout Layout Layout Layout Layout Layout Layout Layout Layout Layout Layout of_arg of_factor of_selector of_added of_args of_elem of_expr of_multiplied of_place of_simple of_term (part.Place place)

pub write_factor_call : (name : Identifier) (args : Args) (span : Span) → write_factor (factor.Call name args span) ≡ counted (spanned span (identifier name & write_args args))
unfolding write_arg write_factor write_selector write_added write_args write_elem write_expr write_multiplied write_place write_simple write_term
write_factor_call name args span = ap (λ x. write_factor x) (sym (factor.rolls-Call name args span)) ∙ fold-roll-Factor Layout Layout Layout Layout Layout Layout Layout Layout Layout Layout Layout of_arg of_factor of_selector of_added of_args of_elem of_expr of_multiplied of_place of_simple of_term (part.Call name args span)

pub write_factor_group : (inner : Expr) (span : Span) → write_factor (factor.Group inner span) ≡ counted (spanned span (symbol mark.Open & write_expr inner & symbol mark.Close))
unfolding write_arg write_factor write_selector write_added write_args write_elem write_expr write_multiplied write_place write_simple write_term
write_factor_group inner span = ap (λ x. write_factor x) (sym (factor.rolls-Group inner span)) ∙ fold-roll-Factor Layout Layout Layout Layout Layout Layout Layout Layout Layout Layout Layout of_arg of_factor of_selector of_added of_args of_elem of_expr of_multiplied of_place of_simple of_term (part.Group inner span)

pub write_factor_not : (operand : Factor) (span : Span) → write_factor (factor.Not operand span) ≡ counted (spanned span (word word_.KwNot & write_factor operand))
unfolding write_arg write_factor write_selector write_added write_args write_elem write_expr write_multiplied write_place write_simple write_term
write_factor_not operand span = ap (λ x. write_factor x) (sym (factor.rolls-Not operand span)) ∙ fold-roll-Factor Layout Layout Layout Layout Layout Layout Layout Layout Layout Layout Layout of_arg of_factor of_selector of_added of_args of_elem of_expr of_multiplied of_place of_simple of_term (part.Not operand span)

pub write_factor_set : (elements : List Elem) (span : Span) → write_factor (factor.Set elements span) ≡ counted (spanned span (symbol mark.OpenBracket & with_commas (map write_elem elements) & symbol mark.CloseBracket))
unfolding write_arg write_factor write_selector write_added write_args write_elem write_expr write_multiplied write_place write_simple write_term
write_factor_set elements span = ap (λ x. write_factor x) (sym (factor.rolls-Set elements span)) ∙ fold-roll-Factor Layout Layout Layout Layout Layout Layout Layout Layout Layout Layout Layout of_arg of_factor of_selector of_added of_args of_elem of_expr of_multiplied of_place of_simple of_term (part.Set elements span)

pub write_selector_index : (indexes : List Expr) (span : Span) → write_selector (selector.Index indexes span) ≡ spanned span (symbol mark.OpenBracket & with_commas (map write_expr indexes) & symbol mark.CloseBracket)
unfolding write_arg write_factor write_selector write_added write_args write_elem write_expr write_multiplied write_place write_simple write_term
write_selector_index indexes span = ap (λ x. write_selector x) (sym (selector.rolls-Index indexes span)) ∙ fold-roll-Selector Layout Layout Layout Layout Layout Layout Layout Layout Layout Layout Layout of_arg of_factor of_selector of_added of_args of_elem of_expr of_multiplied of_place of_simple of_term (part.Index indexes span)

pub write_selector_field : (name : Identifier) (span : Span) → write_selector (selector.Field name span) ≡ spanned span (symbol mark.Dot & identifier name)
unfolding write_arg write_factor write_selector write_added write_args write_elem write_expr write_multiplied write_place write_simple write_term
write_selector_field name span = ap (λ x. write_selector x) (sym (selector.rolls-Field name span)) ∙ fold-roll-Selector Layout Layout Layout Layout Layout Layout Layout Layout Layout Layout Layout of_arg of_factor of_selector of_added of_args of_elem of_expr of_multiplied of_place of_simple of_term (part.Field name span)

pub write_selector_follow : (span : Span) → write_selector (selector.Follow span) ≡ spanned span (symbol mark.Caret)
unfolding write_arg write_factor write_selector write_added write_args write_elem write_expr write_multiplied write_place write_simple write_term
write_selector_follow span = ap (λ x. write_selector x) (sym (selector.rolls-Follow span)) ∙ fold-roll-Selector Layout Layout Layout Layout Layout Layout Layout Layout Layout Layout Layout of_arg of_factor of_selector of_added of_args of_elem of_expr of_multiplied of_place of_simple of_term (part.Follow span)

pub write_arg_program : (span : Span) → write_arg (arg.Program span) ≡ spanned span (word word_.KwProgram)
unfolding write_arg write_factor write_selector write_added write_args write_elem write_expr write_multiplied write_place write_simple write_term
write_arg_program span = ap (λ x. write_arg x) (sym (arg.rolls-Program span)) ∙ fold-roll-Arg Layout Layout Layout Layout Layout Layout Layout Layout Layout Layout Layout of_arg of_factor of_selector of_added of_args of_elem of_expr of_multiplied of_place of_simple of_term (part.Program span)

write_made : (value : Expr) (width decimals : Option Expr) (span : Span) → write_arg (roll-Arg (part.Value value width decimals span)) ≡ spanned span (write_expr value & optional_after mark.Colon (write_optional width) & optional_after mark.Colon (write_optional decimals))
unfolding write_arg write_factor write_selector write_added write_args write_elem write_expr write_multiplied write_place write_simple write_term
write_made value None None span = fold-roll-Arg Layout Layout Layout Layout Layout Layout Layout Layout Layout Layout Layout of_arg of_factor of_selector of_added of_args of_elem of_expr of_multiplied of_place of_simple of_term (part.Value value None None span)
write_made value None (Some y) span = fold-roll-Arg Layout Layout Layout Layout Layout Layout Layout Layout Layout Layout Layout of_arg of_factor of_selector of_added of_args of_elem of_expr of_multiplied of_place of_simple of_term (part.Value value None (Some y) span)
write_made value (Some x) None span = fold-roll-Arg Layout Layout Layout Layout Layout Layout Layout Layout Layout Layout Layout of_arg of_factor of_selector of_added of_args of_elem of_expr of_multiplied of_place of_simple of_term (part.Value value (Some x) None span)
write_made value (Some x) (Some y) span = fold-roll-Arg Layout Layout Layout Layout Layout Layout Layout Layout Layout Layout Layout of_arg of_factor of_selector of_added of_args of_elem of_expr of_multiplied of_place of_simple of_term (part.Value value (Some x) (Some y) span)

pub write_arg_value : (value : Expr) (width decimals : Option Expr) (span : Span) → write_arg (arg.Value value width decimals span) ≡ spanned span (write_expr value & optional_after mark.Colon (write_optional width) & optional_after mark.Colon (write_optional decimals))
write_arg_value value width decimals span = ap (λ x. write_arg x) (sym (arg.rolls-Value value width decimals span)) ∙ write_made value width decimals span
