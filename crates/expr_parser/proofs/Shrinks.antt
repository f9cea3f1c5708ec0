-- No parser gives tokens back.
use Rattle.std.proofs.Common.{ℕ, zero, suc, true, false, List, [], ◌∷◌}
use Rattle.p2c_text.specs.declared.dialect.Dialect.{Dialect}
use Rattle.p2c_text.specs.declared.place.Span.{Span}
use Rattle.dialect_lexer.specs.declared.token.Word.TheVariants as word
use Rattle.dialect_lexer.specs.declared.token.Symbol.{Symbol as SpecialSymbol}
use Rattle.dialect_lexer.specs.declared.token.Symbol.TheVariants as mark
use Rattle.pascal_tree.specs.declared.names.Identifier.{Identifier}
use Rattle.pascal_tree.specs.declared.expressions.Expr.{Expr}
use Rattle.pascal_tree.specs.declared.expressions.Factor.{Factor}
use Rattle.pascal_tree.specs.declared.expressions.Selector.{Selector}
use Rattle.pascal_tree.specs.declared.expressions.Arg.{Arg}
use Rattle.pascal_tree.specs.declared.expressions.Elem.{Elem}
use Rattle.pascal_tree.specs.declared.expressions.MultipliedFactor.{MultipliedFactor}
use Rattle.pascal_tree.specs.declared.expressions.AddedTerm.{AddedTerm}
use Rattle.token_parsing.specs.Parser.{Parser, begins}
use Rattle.token_parsing.proofs.Tracked.{Shrinks, one_shrinks, then_shrinks, pure_shrinks, stop_shrinks, either_shrinks, repeat_shrinks}
use Rattle.expr_parser.specs.Tokens.{Placed}
use Rattle.expr_parser.specs.Classes.{identifiers, numbers, texts, words, symbols, signs, relations, addings, multiplyings}
use Rattle.expr_parser.specs.Places.{optional_after, next_expr, more_exprs, exprs, index, field, follow, selected, begins_selector, next_selector, selectors, place_from, value_arg, program_arg, begins_program, one_arg, next_arg, more_args, listed_args, args}
use Rattle.expr_parser.specs.Factors.{number, text, nil, call, read_place, named, group, negation, elem, next_elem, more_elems, some_elems, elems, set, factor_by}
use Rattle.expr_parser.specs.Expressions.{next_factor, more_factors, term, optional_sign, next_term, more_terms, simple, compared, expr_by, expr, factor}

-- ---- places and arguments

module _ (d : Dialect) (end : Span) (child : Parser Placed Expr) (h : Shrinks child) where
  pub optional_shrinks : (m : SpecialSymbol) → Shrinks (optional_after m child)
  unfolding optional_after
  optional_shrinks m = either_shrinks (begins (symbols m)) (then_shrinks (one_shrinks _) (λ _. then_shrinks h (λ e. pure_shrinks _))) (pure_shrinks _)

  pub next_expr_shrinks : (all : List Expr) → Shrinks (next_expr child all)
  unfolding next_expr
  next_expr_shrinks all = then_shrinks (one_shrinks _) (λ _. then_shrinks h (λ e. pure_shrinks _))

  pub more_exprs_shrinks : (all : List Expr) → Shrinks (more_exprs child all)
  unfolding more_exprs
  more_exprs_shrinks all = repeat_shrinks (begins (symbols mark.Comma)) (next_expr child) next_expr_shrinks all

  pub exprs_shrinks : Shrinks (exprs child)
  unfolding exprs
  exprs_shrinks = then_shrinks h (λ e. more_exprs_shrinks (e ∷ []))

  pub index_shrinks : Shrinks (index end child)
  unfolding index
  index_shrinks n from l = then_shrinks (one_shrinks _) (λ _. then_shrinks exprs_shrinks (λ all. then_shrinks (one_shrinks _) (λ u. λ n r k. pure_shrinks _ n r k))) n from l

  pub field_shrinks : Shrinks (field end)
  unfolding field
  field_shrinks n from l = then_shrinks (one_shrinks _) (λ _. then_shrinks (one_shrinks _) (λ x. λ n r k. pure_shrinks _ n r k)) n from l

  pub follow_shrinks : Shrinks (follow end)
  unfolding follow
  follow_shrinks n from l = then_shrinks (one_shrinks _) (λ u. λ n r k. pure_shrinks _ n r k) n from l

  pub selected_shrinks : Shrinks (selected end child)
  unfolding selected
  selected_shrinks = either_shrinks (begins (symbols mark.Dot)) field_shrinks (either_shrinks (begins (symbols mark.Caret)) follow_shrinks index_shrinks)

  pub next_selector_shrinks : (all : List Selector) → Shrinks (next_selector end child all)
  unfolding next_selector
  next_selector_shrinks all = then_shrinks selected_shrinks (λ x. pure_shrinks _)

  pub selectors_shrinks : (all : List Selector) → Shrinks (selectors end child all)
  unfolding selectors
  selectors_shrinks all = repeat_shrinks begins_selector (next_selector end child) next_selector_shrinks all

  pub place_from_shrinks : (from : List Placed) (name : Identifier) → Shrinks (place_from end child from name)
  unfolding place_from
  place_from_shrinks from name = then_shrinks (selectors_shrinks []) (λ all. λ n r k. pure_shrinks _ n r k)

  pub value_arg_shrinks : Shrinks (value_arg end child)
  unfolding value_arg
  value_arg_shrinks n from l = then_shrinks h (λ v. then_shrinks (optional_shrinks mark.Colon) (λ w. then_shrinks (optional_shrinks mark.Colon) (λ x. λ n r k. pure_shrinks _ n r k))) n from l

  pub program_arg_shrinks : Shrinks (program_arg end)
  unfolding program_arg
  program_arg_shrinks n from l = then_shrinks (one_shrinks _) (λ u. λ n r k. pure_shrinks _ n r k) n from l

  pub one_arg_shrinks : Shrinks (one_arg d end child)
  unfolding one_arg
  one_arg_shrinks = either_shrinks (begins_program d) program_arg_shrinks value_arg_shrinks

  pub next_arg_shrinks : (all : List Arg) → Shrinks (next_arg d end child all)
  unfolding next_arg
  next_arg_shrinks all = then_shrinks (one_shrinks _) (λ _. then_shrinks one_arg_shrinks (λ a. pure_shrinks _))

  pub more_args_shrinks : (all : List Arg) → Shrinks (more_args d end child all)
  unfolding more_args
  more_args_shrinks all = repeat_shrinks (begins (symbols mark.Comma)) (next_arg d end child) next_arg_shrinks all

  pub listed_args_shrinks : Shrinks (listed_args d end child)
  unfolding listed_args
  listed_args_shrinks = then_shrinks one_arg_shrinks (λ a. more_args_shrinks (a ∷ []))

  pub args_shrinks : Shrinks (args d end child)
  unfolding args
  args_shrinks n from l = then_shrinks (one_shrinks _) (λ _. then_shrinks listed_args_shrinks (λ all. then_shrinks (one_shrinks _) (λ u. λ n r k. pure_shrinks _ n r k))) n from l

  -- ---- factors

  pub call_shrinks : (from : List Placed) (name : Identifier) → Shrinks (call d end child from name)
  unfolding call
  call_shrinks from name = then_shrinks args_shrinks (λ a. λ n r k. pure_shrinks _ n r k)

  pub read_place_shrinks : (from : List Placed) (name : Identifier) → Shrinks (read_place end child from name)
  unfolding read_place
  read_place_shrinks from name = then_shrinks (place_from_shrinks from name) (λ p. pure_shrinks _)

  pub after_name_shrinks : (from : List Placed) (name : Identifier) → Shrinks (λ s. elim (begins (symbols mark.Open) s) [ true ↦ call d end child from name s | false ↦ read_place end child from name s ])
  after_name_shrinks from name = either_shrinks (begins (symbols mark.Open)) (call_shrinks from name) (read_place_shrinks from name)

  named_shrinks : Shrinks (named d end child)
  unfolding named
  named_shrinks n from l = then_shrinks (one_shrinks _) (λ name. after_name_shrinks from name) n from l

  group_shrinks : Shrinks (group end child)
  unfolding group
  group_shrinks n from l = then_shrinks (one_shrinks _) (λ _. then_shrinks h (λ e. then_shrinks (one_shrinks _) (λ u. λ n r k. pure_shrinks _ n r k))) n from l

  pub elem_shrinks : Shrinks (elem end child)
  unfolding elem
  elem_shrinks n from l = then_shrinks h (λ a. then_shrinks (optional_shrinks mark.DotDot) (λ b. λ n r k. pure_shrinks _ n r k)) n from l

  pub next_elem_shrinks : (all : List Elem) → Shrinks (next_elem end child all)
  unfolding next_elem
  next_elem_shrinks all = then_shrinks (one_shrinks _) (λ _. then_shrinks elem_shrinks (λ e. pure_shrinks _))

  pub more_elems_shrinks : (all : List Elem) → Shrinks (more_elems end child all)
  unfolding more_elems
  more_elems_shrinks all = repeat_shrinks (begins (symbols mark.Comma)) (next_elem end child) next_elem_shrinks all

  pub some_elems_shrinks : Shrinks (some_elems end child)
  unfolding some_elems
  some_elems_shrinks = then_shrinks elem_shrinks (λ e. more_elems_shrinks (e ∷ []))

  pub elems_shrinks : Shrinks (elems end child)
  unfolding elems
  elems_shrinks = either_shrinks (begins (symbols mark.CloseBracket)) (pure_shrinks _) some_elems_shrinks

  set_shrinks : Shrinks (set end child)
  unfolding set
  set_shrinks n from l = then_shrinks (one_shrinks _) (λ _. then_shrinks elems_shrinks (λ all. then_shrinks (one_shrinks _) (λ u. λ n r k. pure_shrinks _ n r k))) n from l

  number_shrinks : Shrinks (number end)
  unfolding number
  number_shrinks n from l = then_shrinks (one_shrinks _) (λ v. λ n r k. pure_shrinks _ n r k) n from l

  text_shrinks : Shrinks (text end)
  unfolding text
  text_shrinks n from l = then_shrinks (one_shrinks _) (λ v. λ n r k. pure_shrinks _ n r k) n from l

  nil_shrinks : Shrinks (nil end)
  unfolding nil
  nil_shrinks n from l = then_shrinks (one_shrinks _) (λ u. λ n r k. pure_shrinks _ n r k) n from l

  negation_shrinks : (inner : Parser Placed Factor) → Shrinks inner → Shrinks (negation end inner)
  unfolding negation
  negation_shrinks inner i n from l = then_shrinks (one_shrinks _) (λ _. then_shrinks i (λ f. λ n r k. pure_shrinks _ n r k)) n from l

  pub factor_by_shrinks : (inner : Parser Placed Factor) → Shrinks inner → Shrinks (factor_by d end child inner)
  unfolding factor_by
  factor_by_shrinks inner i =
      either_shrinks (begins identifiers) named_shrinks
      (either_shrinks (begins numbers) number_shrinks
      (either_shrinks (begins texts) text_shrinks
      (either_shrinks (begins (words word.KwNil)) nil_shrinks
      (either_shrinks (begins (symbols mark.Open)) group_shrinks
      (either_shrinks (begins (words word.KwNot)) (negation_shrinks inner i) set_shrinks)))))

-- ---- terms, sums and expressions

module _ (end : Span) (child : Parser Placed Factor) (h : Shrinks child) where
  pub next_factor_shrinks : (all : List MultipliedFactor) → Shrinks (next_factor child all)
  unfolding next_factor
  next_factor_shrinks all = then_shrinks (one_shrinks _) (λ op. then_shrinks h (λ f. pure_shrinks _))

  pub more_factors_shrinks : (all : List MultipliedFactor) → Shrinks (more_factors child all)
  unfolding more_factors
  more_factors_shrinks all = repeat_shrinks (begins multiplyings) (next_factor child) next_factor_shrinks all

  pub term_shrinks : Shrinks (term end child)
  unfolding term
  term_shrinks n from l = then_shrinks h (λ f. then_shrinks (more_factors_shrinks []) (λ all. λ n r k. pure_shrinks _ n r k)) n from l

  pub sign_shrinks : Shrinks optional_sign
  unfolding optional_sign
  sign_shrinks = either_shrinks (begins signs) (then_shrinks (one_shrinks _) (λ s. pure_shrinks _)) (pure_shrinks _)

  pub next_term_shrinks : (all : List AddedTerm) → Shrinks (next_term end child all)
  unfolding next_term
  next_term_shrinks all = then_shrinks (one_shrinks _) (λ op. then_shrinks term_shrinks (λ t. pure_shrinks _))

  pub more_terms_shrinks : (all : List AddedTerm) → Shrinks (more_terms end child all)
  unfolding more_terms
  more_terms_shrinks all = repeat_shrinks (begins addings) (next_term end child) next_term_shrinks all

  pub simple_shrinks : Shrinks (simple end child)
  unfolding simple
  simple_shrinks n from l = then_shrinks sign_shrinks (λ s. then_shrinks term_shrinks (λ t. then_shrinks (more_terms_shrinks []) (λ all. λ n r k. pure_shrinks _ n r k))) n from l

  pub compared_shrinks : Shrinks (compared end child)
  unfolding compared
  compared_shrinks = either_shrinks (begins relations) (then_shrinks (one_shrinks _) (λ r. then_shrinks simple_shrinks (λ b. pure_shrinks _))) (pure_shrinks _)

  pub expr_by_shrinks : Shrinks (expr_by end child)
  unfolding expr_by
  expr_by_shrinks n from l = then_shrinks simple_shrinks (λ a. then_shrinks compared_shrinks (λ b. λ n r k. pure_shrinks _ n r k)) n from l

mutual
  unfolding expr factor

  pub expr_shrinks : (d : Dialect) (end : Span) (k : ℕ) → Shrinks (expr d end k)
  expr_shrinks d end zero = stop_shrinks
  expr_shrinks d end (suc k) = expr_by_shrinks end (factor d end k) (factor_shrinks d end k)

  pub factor_shrinks : (d : Dialect) (end : Span) (k : ℕ) → Shrinks (factor d end k)
  factor_shrinks d end zero = stop_shrinks
  factor_shrinks d end (suc k) = factor_by_shrinks d end (expr d end k) (expr_shrinks d end k) (factor d end k) (factor_shrinks d end k)
