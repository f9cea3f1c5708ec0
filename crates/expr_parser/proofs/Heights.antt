-- The greatest number of counted nodes on one path of what an expression or a place is written as is its height.
use Rattle.std.proofs.Common.{◌≡◌, ℕ, Bool, true, false, List, [], ◌∷◌, map, Option, Some, None, refl, sym, ap, subst, ◌∙◌, arith}
use Rattle.p2c_text.specs.declared.place.Span.{Span}
use Rattle.dialect_lexer.specs.declared.token.Symbol.TheVariants as mark
use Rattle.pascal_tree.specs.declared.constants.Sign.{Sign}
use Rattle.pascal_tree.specs.declared.names.Identifier.{Identifier}
use Rattle.pascal_tree.specs.declared.names.Label.{Label}
use Rattle.pascal_tree.specs.declared.names.Label.TheVariants as label
use Rattle.pascal_tree.specs.declared.constants.Constant.{Constant}
use Rattle.pascal_tree.specs.declared.constants.Constant.TheVariants as constant
use Rattle.pascal_tree.specs.declared.constants.CaseLabel.{CaseLabel}
use Rattle.pascal_tree.specs.declared.expressions.Relation.{Relation}
use Rattle.pascal_tree.specs.declared.expressions.Arg.TheOpen as part
use Rattle.pascal_tree.specs.declared.expressions.Arg.TheOpen.{Arg-F, Factor-F, Selector-F, AddedTerm-F, Args-F, Elem-F, Expr-F, MultipliedFactor-F, Place-F, Simple-F, Term-F}
use Rattle.pascal_tree.specs.declared.expressions.Arg.{Arg, roll-Arg, map-Arg, fold-roll-Arg}
use Rattle.pascal_tree.specs.declared.expressions.Factor.{Factor, roll-Factor, map-Factor, fold-roll-Factor}
use Rattle.pascal_tree.specs.declared.expressions.Selector.{Selector, roll-Selector, map-Selector, fold-roll-Selector}
use Rattle.pascal_tree.specs.declared.expressions.AddedTerm.{AddedTerm, roll-AddedTerm, map-AddedTerm, fold-roll-AddedTerm}
use Rattle.pascal_tree.specs.declared.expressions.Args.{Args, roll-Args, map-Args, fold-roll-Args, ind-Args}
use Rattle.pascal_tree.specs.declared.expressions.Elem.{Elem, roll-Elem, map-Elem, fold-roll-Elem}
use Rattle.pascal_tree.specs.declared.expressions.Expr.{Expr, roll-Expr, map-Expr, fold-roll-Expr, ind-Expr}
use Rattle.pascal_tree.specs.declared.expressions.MultipliedFactor.{MultipliedFactor, roll-MultipliedFactor, map-MultipliedFactor, fold-roll-MultipliedFactor}
use Rattle.pascal_tree.specs.declared.expressions.Place.{Place, roll-Place, map-Place, fold-roll-Place, ind-Place}
use Rattle.pascal_tree.specs.declared.expressions.Simple.{Simple, roll-Simple, map-Simple, fold-roll-Simple}
use Rattle.pascal_tree.specs.declared.expressions.Term.{Term, roll-Term, map-Term, fold-roll-Term}
use Rattle.pascal_tree.specs.ExpressionHeights as heights
use Rattle.pascal_tree.specs.ExpressionHeights.{greatest, arg_height, factor_height, selector_height, added_height, args_height, elem_height, expr_height, multiplied_height, place_height, simple_height, term_height}
use Rattle.expr_parser.specs.Layout.{Layout, Done, ◌&◌, token, symbol, height_of, in_row, after_commas, with_commas}
use Rattle.expr_parser.specs.Writing as writing
use Rattle.expr_parser.specs.Writing.{relation_token, write_arg, write_factor, write_selector, write_added, write_args, write_elem, write_expr, write_multiplied, write_place, write_simple, write_term}
use Rattle.expr_parser.specs.ConstantNodes.{write_label, write_constant, write_case_label}
use Rattle.expr_parser.specs.Semicolons.{after_semicolons, with_semicolons, optional_semicolon}
use Rattle.expr_parser.proofs.Layouts.{height_join}

-- what a node is written as has the height of the node
abbrev pub HasHeight : {A : Type 0} → (A → Layout) → (A → ℕ) → A → Type 0
HasHeight write height x = height_of (write x) ≡ height x

-- a node of which that is known
abbrev pub Known : {A : Type 0} → (A → Layout) → (A → ℕ) → Type 0
Known {A} write height = (x : A) × HasHeight write height x

pub with_parts : {m n p q : ℕ} → m ≡ n → p ≡ q → n ≡ q → m ≡ p
with_parts h k e = h ∙ e ∙ sym k

-- ---- lists

module _ {A : Type 0} (write : A → Layout) (height : A → ℕ) where
  -- the nodes alone
  abbrev pub nodes : List (Known write height) → List A
  nodes xs = map (λ x. x.0) xs

  pub row_height : (xs : List (Known write height)) → height_of (in_row (map write (nodes xs))) ≡ greatest (map height (nodes xs))
  row_height [] = omega arith
  row_height (x ∷ xs) = omega (arith, height_join (write x.0) (in_row (map write (nodes xs))), x.1, row_height xs)

  after_commas_height : (xs : List (Known write height)) → height_of (after_commas (map write (nodes xs))) ≡ greatest (map height (nodes xs))
  after_commas_height [] = omega arith
  after_commas_height (x ∷ xs) = omega (arith, height_join (write x.0) (after_commas (map write (nodes xs))), x.1, after_commas_height xs)

  pub commas_height : (xs : List (Known write height)) → height_of (with_commas (map write (nodes xs))) ≡ greatest (map height (nodes xs))
  commas_height [] = omega arith
  commas_height (x ∷ xs) = omega (arith, height_join (write x.0) (after_commas (map write (nodes xs))), x.1, after_commas_height xs)

  after_semicolons_height : (xs : List (Known write height)) → height_of (after_semicolons (map write (nodes xs))) ≡ greatest (map height (nodes xs))
  after_semicolons_height [] = omega arith
  after_semicolons_height (x ∷ xs) = omega (arith, height_join (write x.0) (after_semicolons (map write (nodes xs))), x.1, after_semicolons_height xs)

  pub semicolons_height : (xs : List (Known write height)) → height_of (with_semicolons (map write (nodes xs))) ≡ greatest (map height (nodes xs))
  semicolons_height [] = omega arith
  semicolons_height (x ∷ xs) = omega (arith, height_join (write x.0) (after_semicolons (map write (nodes xs))), x.1, after_semicolons_height xs)

  module _ (law : (x : A) → HasHeight write height x) where
    -- each node of a list with its height
    abbrev known : List A → List (Known write height)
    known xs = map (λ x. (x, law x)) xs

    same_nodes : (xs : List A) → nodes (known xs) ≡ xs
    same_nodes [] = refl
    same_nodes (x ∷ xs) = ap (λ z. x ∷ z) (same_nodes xs)

    pub row_levels : (xs : List A) → height_of (in_row (map write xs)) ≡ greatest (map height xs)
    row_levels xs = subst (λ z. height_of (in_row (map write z)) ≡ greatest (map height z)) (same_nodes xs) (row_height (known xs))

    pub commas_levels : (xs : List A) → height_of (with_commas (map write xs)) ≡ greatest (map height xs)
    commas_levels xs = subst (λ z. height_of (with_commas (map write z)) ≡ greatest (map height z)) (same_nodes xs) (commas_height (known xs))

    pub semicolons_levels : (xs : List A) → height_of (with_semicolons (map write xs)) ≡ greatest (map height xs)
    semicolons_levels xs = subst (λ z. height_of (with_semicolons (map write z)) ≡ greatest (map height z)) (same_nodes xs) (semicolons_height (known xs))

-- ---- parts without a counted node

pub commas_flat : {A : Type 0} (write : A → Layout) → ((x : A) → height_of (write x) ≡ 0) → (xs : List A) → height_of (with_commas (map write xs)) ≡ 0
commas_flat {A} write flat [] = omega arith
commas_flat {A} write flat (x ∷ xs) = omega (arith, height_join (write x) (after_commas (map write xs)), flat x, after xs)
  where
    after : (xs : List A) → height_of (after_commas (map write xs)) ≡ 0
    after [] = omega arith
    after (x ∷ xs) = omega (arith, height_join (write x) (after_commas (map write xs)), flat x, after xs)

pub identifier_flat : (i : Identifier) → height_of (writing.identifier i) ≡ 0
identifier_flat i = omega arith

pub label_flat : (l : Label) → height_of (write_label l) ≡ 0
label_flat (label.Number value span) = omega arith
label_flat (label.Name name) = omega arith

pub constant_flat : (c : Constant) → height_of (write_constant c) ≡ 0
constant_flat (constant.Number None value span) = omega arith
constant_flat (constant.Number (Some sign) value span) = omega arith
constant_flat (constant.Name None name span) = omega arith
constant_flat (constant.Name (Some sign) name span) = omega arith
constant_flat (constant.Text bytes span) = omega arith

pub case_label_flat : (l : CaseLabel) → height_of (write_case_label l) ≡ 0
case_label_flat l = by l.first l.last
  where
    by : (first : Constant) (last : Option Constant) → height_of (write_case_label (record { first = first; last = last; span = l.span })) ≡ 0
    by c None = omega (arith, height_join (write_constant c) Done, constant_flat c)
    by c (Some e) = omega (arith, height_join (write_constant c) (symbol mark.DotDot & write_constant e), constant_flat c, constant_flat e)

pub semicolon_flat : (b : Bool) → height_of (optional_semicolon b) ≡ 0
semicolon_flat true = omega arith
semicolon_flat false = omega arith

-- ---- nodes of which the heights of the parts are known

abbrev Known-Arg : Type 0
Known-Arg = Known write_arg arg_height

abbrev Known-Factor : Type 0
Known-Factor = Known write_factor factor_height

abbrev Known-Selector : Type 0
Known-Selector = Known write_selector selector_height

abbrev Known-AddedTerm : Type 0
Known-AddedTerm = Known write_added added_height

abbrev Known-Args : Type 0
Known-Args = Known write_args args_height

abbrev Known-Elem : Type 0
Known-Elem = Known write_elem elem_height

abbrev Known-Expr : Type 0
Known-Expr = Known write_expr expr_height

abbrev Known-MultipliedFactor : Type 0
Known-MultipliedFactor = Known write_multiplied multiplied_height

abbrev Known-Place : Type 0
Known-Place = Known write_place place_height

abbrev Known-Simple : Type 0
Known-Simple = Known write_simple simple_height

abbrev Known-Term : Type 0
Known-Term = Known write_term term_height

abbrev WithKnown : (Type 0 → Type 0 → Type 0 → Type 0 → Type 0 → Type 0 → Type 0 → Type 0 → Type 0 → Type 0 → Type 0 → Type 0) → Type 0
WithKnown F = F Known-Arg Known-Factor Known-Selector Known-AddedTerm Known-Args Known-Elem Known-Expr Known-MultipliedFactor Known-Place Known-Simple Known-Term

abbrev WithNodes : (Type 0 → Type 0 → Type 0 → Type 0 → Type 0 → Type 0 → Type 0 → Type 0 → Type 0 → Type 0 → Type 0 → Type 0) → Type 0
WithNodes F = F Arg Factor Selector AddedTerm Args Elem Expr MultipliedFactor Place Simple Term

abbrev bare_arg : WithKnown Arg-F → WithNodes Arg-F
bare_arg y = map-Arg Known-Arg Known-Factor Known-Selector Known-AddedTerm Known-Args Known-Elem Known-Expr Known-MultipliedFactor Known-Place Known-Simple Known-Term Arg Factor Selector AddedTerm Args Elem Expr MultipliedFactor Place Simple Term (λ x. x.0) (λ x. x.0) (λ x. x.0) (λ x. x.0) (λ x. x.0) (λ x. x.0) (λ x. x.0) (λ x. x.0) (λ x. x.0) (λ x. x.0) (λ x. x.0) y

abbrev bare_factor : WithKnown Factor-F → WithNodes Factor-F
bare_factor y = map-Factor Known-Arg Known-Factor Known-Selector Known-AddedTerm Known-Args Known-Elem Known-Expr Known-MultipliedFactor Known-Place Known-Simple Known-Term Arg Factor Selector AddedTerm Args Elem Expr MultipliedFactor Place Simple Term (λ x. x.0) (λ x. x.0) (λ x. x.0) (λ x. x.0) (λ x. x.0) (λ x. x.0) (λ x. x.0) (λ x. x.0) (λ x. x.0) (λ x. x.0) (λ x. x.0) y

abbrev bare_selector : WithKnown Selector-F → WithNodes Selector-F
bare_selector y = map-Selector Known-Arg Known-Factor Known-Selector Known-AddedTerm Known-Args Known-Elem Known-Expr Known-MultipliedFactor Known-Place Known-Simple Known-Term Arg Factor Selector AddedTerm Args Elem Expr MultipliedFactor Place Simple Term (λ x. x.0) (λ x. x.0) (λ x. x.0) (λ x. x.0) (λ x. x.0) (λ x. x.0) (λ x. x.0) (λ x. x.0) (λ x. x.0) (λ x. x.0) (λ x. x.0) y

abbrev bare_added : WithKnown AddedTerm-F → WithNodes AddedTerm-F
bare_added y = map-AddedTerm Known-Arg Known-Factor Known-Selector Known-AddedTerm Known-Args Known-Elem Known-Expr Known-MultipliedFactor Known-Place Known-Simple Known-Term Arg Factor Selector AddedTerm Args Elem Expr MultipliedFactor Place Simple Term (λ x. x.0) (λ x. x.0) (λ x. x.0) (λ x. x.0) (λ x. x.0) (λ x. x.0) (λ x. x.0) (λ x. x.0) (λ x. x.0) (λ x. x.0) (λ x. x.0) y

abbrev bare_args : WithKnown Args-F → WithNodes Args-F
bare_args y = map-Args Known-Arg Known-Factor Known-Selector Known-AddedTerm Known-Args Known-Elem Known-Expr Known-MultipliedFactor Known-Place Known-Simple Known-Term Arg Factor Selector AddedTerm Args Elem Expr MultipliedFactor Place Simple Term (λ x. x.0) (λ x. x.0) (λ x. x.0) (λ x. x.0) (λ x. x.0) (λ x. x.0) (λ x. x.0) (λ x. x.0) (λ x. x.0) (λ x. x.0) (λ x. x.0) y

abbrev bare_elem : WithKnown Elem-F → WithNodes Elem-F
bare_elem y = map-Elem Known-Arg Known-Factor Known-Selector Known-AddedTerm Known-Args Known-Elem Known-Expr Known-MultipliedFactor Known-Place Known-Simple Known-Term Arg Factor Selector AddedTerm Args Elem Expr MultipliedFactor Place Simple Term (λ x. x.0) (λ x. x.0) (λ x. x.0) (λ x. x.0) (λ x. x.0) (λ x. x.0) (λ x. x.0) (λ x. x.0) (λ x. x.0) (λ x. x.0) (λ x. x.0) y

abbrev bare_expr : WithKnown Expr-F → WithNodes Expr-F
bare_expr y = map-Expr Known-Arg Known-Factor Known-Selector Known-AddedTerm Known-Args Known-Elem Known-Expr Known-MultipliedFactor Known-Place Known-Simple Known-Term Arg Factor Selector AddedTerm Args Elem Expr MultipliedFactor Place Simple Term (λ x. x.0) (λ x. x.0) (λ x. x.0) (λ x. x.0) (λ x. x.0) (λ x. x.0) (λ x. x.0) (λ x. x.0) (λ x. x.0) (λ x. x.0) (λ x. x.0) y

abbrev bare_multiplied : WithKnown MultipliedFactor-F → WithNodes MultipliedFactor-F
bare_multiplied y = map-MultipliedFactor Known-Arg Known-Factor Known-Selector Known-AddedTerm Known-Args Known-Elem Known-Expr Known-MultipliedFactor Known-Place Known-Simple Known-Term Arg Factor Selector AddedTerm Args Elem Expr MultipliedFactor Place Simple Term (λ x. x.0) (λ x. x.0) (λ x. x.0) (λ x. x.0) (λ x. x.0) (λ x. x.0) (λ x. x.0) (λ x. x.0) (λ x. x.0) (λ x. x.0) (λ x. x.0) y

abbrev bare_place : WithKnown Place-F → WithNodes Place-F
bare_place y = map-Place Known-Arg Known-Factor Known-Selector Known-AddedTerm Known-Args Known-Elem Known-Expr Known-MultipliedFactor Known-Place Known-Simple Known-Term Arg Factor Selector AddedTerm Args Elem Expr MultipliedFactor Place Simple Term (λ x. x.0) (λ x. x.0) (λ x. x.0) (λ x. x.0) (λ x. x.0) (λ x. x.0) (λ x. x.0) (λ x. x.0) (λ x. x.0) (λ x. x.0) (λ x. x.0) y

abbrev bare_simple : WithKnown Simple-F → WithNodes Simple-F
bare_simple y = map-Simple Known-Arg Known-Factor Known-Selector Known-AddedTerm Known-Args Known-Elem Known-Expr Known-MultipliedFactor Known-Place Known-Simple Known-Term Arg Factor Selector AddedTerm Args Elem Expr MultipliedFactor Place Simple Term (λ x. x.0) (λ x. x.0) (λ x. x.0) (λ x. x.0) (λ x. x.0) (λ x. x.0) (λ x. x.0) (λ x. x.0) (λ x. x.0) (λ x. x.0) (λ x. x.0) y

abbrev bare_term : WithKnown Term-F → WithNodes Term-F
bare_term y = map-Term Known-Arg Known-Factor Known-Selector Known-AddedTerm Known-Args Known-Elem Known-Expr Known-MultipliedFactor Known-Place Known-Simple Known-Term Arg Factor Selector AddedTerm Args Elem Expr MultipliedFactor Place Simple Term (λ x. x.0) (λ x. x.0) (λ x. x.0) (λ x. x.0) (λ x. x.0) (λ x. x.0) (λ x. x.0) (λ x. x.0) (λ x. x.0) (λ x. x.0) (λ x. x.0) y

-- ---- what is written of a node by its parts has the height that it has by its parts

abbrev Meets-Arg : WithKnown Arg-F → Type 0
Meets-Arg y = height_of (writing.of_arg (map-Arg Arg Factor Selector AddedTerm Args Elem Expr MultipliedFactor Place Simple Term Layout Layout Layout Layout Layout Layout Layout Layout Layout Layout Layout write_arg write_factor write_selector write_added write_args write_elem write_expr write_multiplied write_place write_simple write_term (bare_arg y))) ≡ heights.of_arg (map-Arg Arg Factor Selector AddedTerm Args Elem Expr MultipliedFactor Place Simple Term ℕ ℕ ℕ ℕ ℕ ℕ ℕ ℕ ℕ ℕ ℕ arg_height factor_height selector_height added_height args_height elem_height expr_height multiplied_height place_height simple_height term_height (bare_arg y))

abbrev Meets-Factor : WithKnown Factor-F → Type 0
Meets-Factor y = height_of (writing.of_factor (map-Factor Arg Factor Selector AddedTerm Args Elem Expr MultipliedFactor Place Simple Term Layout Layout Layout Layout Layout Layout Layout Layout Layout Layout Layout write_arg write_factor write_selector write_added write_args write_elem write_expr write_multiplied write_place write_simple write_term (bare_factor y))) ≡ heights.of_factor (map-Factor Arg Factor Selector AddedTerm Args Elem Expr MultipliedFactor Place Simple Term ℕ ℕ ℕ ℕ ℕ ℕ ℕ ℕ ℕ ℕ ℕ arg_height factor_height selector_height added_height args_height elem_height expr_height multiplied_height place_height simple_height term_height (bare_factor y))

abbrev Meets-Selector : WithKnown Selector-F → Type 0
Meets-Selector y = height_of (writing.of_selector (map-Selector Arg Factor Selector AddedTerm Args Elem Expr MultipliedFactor Place Simple Term Layout Layout Layout Layout Layout Layout Layout Layout Layout Layout Layout write_arg write_factor write_selector write_added write_args write_elem write_expr write_multiplied write_place write_simple write_term (bare_selector y))) ≡ heights.of_selector (map-Selector Arg Factor Selector AddedTerm Args Elem Expr MultipliedFactor Place Simple Term ℕ ℕ ℕ ℕ ℕ ℕ ℕ ℕ ℕ ℕ ℕ arg_height factor_height selector_height added_height args_height elem_height expr_height multiplied_height place_height simple_height term_height (bare_selector y))

abbrev Meets-AddedTerm : WithKnown AddedTerm-F → Type 0
Meets-AddedTerm y = height_of (writing.of_added (map-AddedTerm Arg Factor Selector AddedTerm Args Elem Expr MultipliedFactor Place Simple Term Layout Layout Layout Layout Layout Layout Layout Layout Layout Layout Layout write_arg write_factor write_selector write_added write_args write_elem write_expr write_multiplied write_place write_simple write_term (bare_added y))) ≡ heights.of_added (map-AddedTerm Arg Factor Selector AddedTerm Args Elem Expr MultipliedFactor Place Simple Term ℕ ℕ ℕ ℕ ℕ ℕ ℕ ℕ ℕ ℕ ℕ arg_height factor_height selector_height added_height args_height elem_height expr_height multiplied_height place_height simple_height term_height (bare_added y))

abbrev Meets-Args : WithKnown Args-F → Type 0
Meets-Args y = height_of (writing.of_args (map-Args Arg Factor Selector AddedTerm Args Elem Expr MultipliedFactor Place Simple Term Layout Layout Layout Layout Layout Layout Layout Layout Layout Layout Layout write_arg write_factor write_selector write_added write_args write_elem write_expr write_multiplied write_place write_simple write_term (bare_args y))) ≡ heights.of_args (map-Args Arg Factor Selector AddedTerm Args Elem Expr MultipliedFactor Place Simple Term ℕ ℕ ℕ ℕ ℕ ℕ ℕ ℕ ℕ ℕ ℕ arg_height factor_height selector_height added_height args_height elem_height expr_height multiplied_height place_height simple_height term_height (bare_args y))

abbrev Meets-Elem : WithKnown Elem-F → Type 0
Meets-Elem y = height_of (writing.of_elem (map-Elem Arg Factor Selector AddedTerm Args Elem Expr MultipliedFactor Place Simple Term Layout Layout Layout Layout Layout Layout Layout Layout Layout Layout Layout write_arg write_factor write_selector write_added write_args write_elem write_expr write_multiplied write_place write_simple write_term (bare_elem y))) ≡ heights.of_elem (map-Elem Arg Factor Selector AddedTerm Args Elem Expr MultipliedFactor Place Simple Term ℕ ℕ ℕ ℕ ℕ ℕ ℕ ℕ ℕ ℕ ℕ arg_height factor_height selector_height added_height args_height elem_height expr_height multiplied_height place_height simple_height term_height (bare_elem y))

abbrev Meets-Expr : WithKnown Expr-F → Type 0
Meets-Expr y = height_of (writing.of_expr (map-Expr Arg Factor Selector AddedTerm Args Elem Expr MultipliedFactor Place Simple Term Layout Layout Layout Layout Layout Layout Layout Layout Layout Layout Layout write_arg write_factor write_selector write_added write_args write_elem write_expr write_multiplied write_place write_simple write_term (bare_expr y))) ≡ heights.of_expr (map-Expr Arg Factor Selector AddedTerm Args Elem Expr MultipliedFactor Place Simple Term ℕ ℕ ℕ ℕ ℕ ℕ ℕ ℕ ℕ ℕ ℕ arg_height factor_height selector_height added_height args_height elem_height expr_height multiplied_height place_height simple_height term_height (bare_expr y))

abbrev Meets-MultipliedFactor : WithKnown MultipliedFactor-F → Type 0
Meets-MultipliedFactor y = height_of (writing.of_multiplied (map-MultipliedFactor Arg Factor Selector AddedTerm Args Elem Expr MultipliedFactor Place Simple Term Layout Layout Layout Layout Layout Layout Layout Layout Layout Layout Layout write_arg write_factor write_selector write_added write_args write_elem write_expr write_multiplied write_place write_simple write_term (bare_multiplied y))) ≡ heights.of_multiplied (map-MultipliedFactor Arg Factor Selector AddedTerm Args Elem Expr MultipliedFactor Place Simple Term ℕ ℕ ℕ ℕ ℕ ℕ ℕ ℕ ℕ ℕ ℕ arg_height factor_height selector_height added_height args_height elem_height expr_height multiplied_height place_height simple_height term_height (bare_multiplied y))

abbrev Meets-Place : WithKnown Place-F → Type 0
Meets-Place y = height_of (writing.of_place (map-Place Arg Factor Selector AddedTerm Args Elem Expr MultipliedFactor Place Simple Term Layout Layout Layout Layout Layout Layout Layout Layout Layout Layout Layout write_arg write_factor write_selector write_added write_args write_elem write_expr write_multiplied write_place write_simple write_term (bare_place y))) ≡ heights.of_place (map-Place Arg Factor Selector AddedTerm Args Elem Expr MultipliedFactor Place Simple Term ℕ ℕ ℕ ℕ ℕ ℕ ℕ ℕ ℕ ℕ ℕ arg_height factor_height selector_height added_height args_height elem_height expr_height multiplied_height place_height simple_height term_height (bare_place y))

abbrev Meets-Simple : WithKnown Simple-F → Type 0
Meets-Simple y = height_of (writing.of_simple (map-Simple Arg Factor Selector AddedTerm Args Elem Expr MultipliedFactor Place Simple Term Layout Layout Layout Layout Layout Layout Layout Layout Layout Layout Layout write_arg write_factor write_selector write_added write_args write_elem write_expr write_multiplied write_place write_simple write_term (bare_simple y))) ≡ heights.of_simple (map-Simple Arg Factor Selector AddedTerm Args Elem Expr MultipliedFactor Place Simple Term ℕ ℕ ℕ ℕ ℕ ℕ ℕ ℕ ℕ ℕ ℕ arg_height factor_height selector_height added_height args_height elem_height expr_height multiplied_height place_height simple_height term_height (bare_simple y))

abbrev Meets-Term : WithKnown Term-F → Type 0
Meets-Term y = height_of (writing.of_term (map-Term Arg Factor Selector AddedTerm Args Elem Expr MultipliedFactor Place Simple Term Layout Layout Layout Layout Layout Layout Layout Layout Layout Layout Layout write_arg write_factor write_selector write_added write_args write_elem write_expr write_multiplied write_place write_simple write_term (bare_term y))) ≡ heights.of_term (map-Term Arg Factor Selector AddedTerm Args Elem Expr MultipliedFactor Place Simple Term ℕ ℕ ℕ ℕ ℕ ℕ ℕ ℕ ℕ ℕ ℕ arg_height factor_height selector_height added_height args_height elem_height expr_height multiplied_height place_height simple_height term_height (bare_term y))

meets_arg : (y : WithKnown Arg-F) → Meets-Arg y
meets_arg (part.Value v None None span) = omega (arith, height_join (write_expr v.0) Done, v.1)
meets_arg (part.Value v None (Some d) span) = omega (arith, height_join (write_expr v.0) (symbol mark.Colon & write_expr d.0), v.1, d.1)
meets_arg (part.Value v (Some w) None span) = omega (arith, height_join (write_expr v.0) (symbol mark.Colon & write_expr w.0 & Done), height_join (write_expr w.0) Done, v.1, w.1)
meets_arg (part.Value v (Some w) (Some d) span) =
    omega (arith, height_join (write_expr v.0) (symbol mark.Colon & write_expr w.0 & symbol mark.Colon & write_expr d.0), height_join (write_expr w.0) (symbol mark.Colon & write_expr d.0), v.1, w.1, d.1)
meets_arg (part.Program span) = omega arith

meets_factor : (y : WithKnown Factor-F) → Meets-Factor y
meets_factor (part.Number value span) = omega arith
meets_factor (part.Text bytes span) = omega arith
meets_factor (part.Nil span) = omega arith
meets_factor (part.Place place) = omega (arith, place.1)
meets_factor (part.Call name args span) = omega (arith, args.1)
meets_factor (part.Group inner span) = omega (arith, height_join (write_expr inner.0) (symbol mark.Close), inner.1)
meets_factor (part.Not operand span) = omega (arith, operand.1)
meets_factor (part.Set elements span) =
    omega (arith, height_join (with_commas (map write_elem (nodes write_elem elem_height elements))) (symbol mark.CloseBracket), commas_height write_elem elem_height elements)

meets_selector : (y : WithKnown Selector-F) → Meets-Selector y
meets_selector (part.Index indexes span) =
    omega (arith, height_join (with_commas (map write_expr (nodes write_expr expr_height indexes))) (symbol mark.CloseBracket), commas_height write_expr expr_height indexes)
meets_selector (part.Field name span) = omega arith
meets_selector (part.Follow span) = omega arith

meets_added : (y : WithKnown AddedTerm-F) → Meets-AddedTerm y
meets_added y = omega (arith, y.term.1)

meets_args : (y : WithKnown Args-F) → Meets-Args y
meets_args y = omega (arith, height_join (with_commas (map write_arg (nodes write_arg arg_height y.list))) (symbol mark.Close), commas_height write_arg arg_height y.list)

meets_elem : (y : WithKnown Elem-F) → Meets-Elem y
meets_elem y = by y.first y.last y.span
  where
    by : (first : Known-Expr) (last : Option Known-Expr) (span : Span) → Meets-Elem (record { first = first; last = last; span = span })
    by e None span = omega (arith, height_join (write_expr e.0) Done, e.1)
    by e (Some l) span = omega (arith, height_join (write_expr e.0) (symbol mark.DotDot & write_expr l.0), e.1, l.1)

meets_expr : (y : WithKnown Expr-F) → Meets-Expr y
meets_expr y = by y.left y.right y.span
  where
    by : (left : Known-Simple) (right : Option (Relation × Known-Simple)) (span : Span) → Meets-Expr (record { left = left; right = right; span = span })
    by e None span = omega (arith, height_join (write_simple e.0) Done, e.1)
    by e (Some r) span = omega (arith, height_join (write_simple e.0) (token (relation_token r.0) & write_simple r.1.0), e.1, r.1.1)

meets_multiplied : (y : WithKnown MultipliedFactor-F) → Meets-MultipliedFactor y
meets_multiplied y = omega (arith, y.factor.1)

meets_place : (y : WithKnown Place-F) → Meets-Place y
meets_place y = omega (arith, row_height write_selector selector_height y.selectors)

meets_simple : (y : WithKnown Simple-F) → Meets-Simple y
meets_simple y = by y.sign y.first y.rest y.span
  where
    by : (sign : Option Sign) (first : Known-Term) (rest : List Known-AddedTerm) (span : Span) → Meets-Simple (record { sign = sign; first = first; rest = rest; span = span })
    by None t rest span = omega (arith, height_join (write_term t.0) (in_row (map write_added (nodes write_added added_height rest))), t.1, row_height write_added added_height rest)
    by (Some s) t rest span = omega (arith, height_join (write_term t.0) (in_row (map write_added (nodes write_added added_height rest))), t.1, row_height write_added added_height rest)

meets_term : (y : WithKnown Term-F) → Meets-Term y
meets_term y =
    omega (arith, height_join (write_factor y.first.0) (in_row (map write_multiplied (nodes write_multiplied multiplied_height y.rest))), y.first.1, row_height write_multiplied multiplied_height y.rest)

-- ---- so it has the height of the node

step_arg : (x : WithNodes Arg-F) (y : WithKnown Arg-F) → bare_arg y ≡ x → HasHeight write_arg arg_height (roll-Arg x)
unfolding write_arg write_factor write_selector write_added write_args write_elem write_expr write_multiplied write_place write_simple write_term arg_height factor_height selector_height added_height args_height elem_height expr_height multiplied_height place_height simple_height term_height
step_arg x y is = subst (λ z. HasHeight write_arg arg_height (roll-Arg z)) is (with_parts (ap (λ l. height_of l) (fold-roll-Arg Layout Layout Layout Layout Layout Layout Layout Layout Layout Layout Layout writing.of_arg writing.of_factor writing.of_selector writing.of_added writing.of_args writing.of_elem writing.of_expr writing.of_multiplied writing.of_place writing.of_simple writing.of_term (bare_arg y))) (fold-roll-Arg ℕ ℕ ℕ ℕ ℕ ℕ ℕ ℕ ℕ ℕ ℕ heights.of_arg heights.of_factor heights.of_selector heights.of_added heights.of_args heights.of_elem heights.of_expr heights.of_multiplied heights.of_place heights.of_simple heights.of_term (bare_arg y)) (meets_arg y))

step_factor : (x : WithNodes Factor-F) (y : WithKnown Factor-F) → bare_factor y ≡ x → HasHeight write_factor factor_height (roll-Factor x)
unfolding write_arg write_factor write_selector write_added write_args write_elem write_expr write_multiplied write_place write_simple write_term arg_height factor_height selector_height added_height args_height elem_height expr_height multiplied_height place_height simple_height term_height
step_factor x y is = subst (λ z. HasHeight write_factor factor_height (roll-Factor z)) is (with_parts (ap (λ l. height_of l) (fold-roll-Factor Layout Layout Layout Layout Layout Layout Layout Layout Layout Layout Layout writing.of_arg writing.of_factor writing.of_selector writing.of_added writing.of_args writing.of_elem writing.of_expr writing.of_multiplied writing.of_place writing.of_simple writing.of_term (bare_factor y))) (fold-roll-Factor ℕ ℕ ℕ ℕ ℕ ℕ ℕ ℕ ℕ ℕ ℕ heights.of_arg heights.of_factor heights.of_selector heights.of_added heights.of_args heights.of_elem heights.of_expr heights.of_multiplied heights.of_place heights.of_simple heights.of_term (bare_factor y)) (meets_factor y))

step_selector : (x : WithNodes Selector-F) (y : WithKnown Selector-F) → bare_selector y ≡ x → HasHeight write_selector selector_height (roll-Selector x)
unfolding write_arg write_factor write_selector write_added write_args write_elem write_expr write_multiplied write_place write_simple write_term arg_height factor_height selector_height added_height args_height elem_height expr_height multiplied_height place_height simple_height term_height
step_selector x y is = subst (λ z. HasHeight write_selector selector_height (roll-Selector z)) is (with_parts (ap (λ l. height_of l) (fold-roll-Selector Layout Layout Layout Layout Layout Layout Layout Layout Layout Layout Layout writing.of_arg writing.of_factor writing.of_selector writing.of_added writing.of_args writing.of_elem writing.of_expr writing.of_multiplied writing.of_place writing.of_simple writing.of_term (bare_selector y))) (fold-roll-Selector ℕ ℕ ℕ ℕ ℕ ℕ ℕ ℕ ℕ ℕ ℕ heights.of_arg heights.of_factor heights.of_selector heights.of_added heights.of_args heights.of_elem heights.of_expr heights.of_multiplied heights.of_place heights.of_simple heights.of_term (bare_selector y)) (meets_selector y))

step_added : (x : WithNodes AddedTerm-F) (y : WithKnown AddedTerm-F) → bare_added y ≡ x → HasHeight write_added added_height (roll-AddedTerm x)
unfolding write_arg write_factor write_selector write_added write_args write_elem write_expr write_multiplied write_place write_simple write_term arg_height factor_height selector_height added_height args_height elem_height expr_height multiplied_height place_height simple_height term_height
step_added x y is = subst (λ z. HasHeight write_added added_height (roll-AddedTerm z)) is (with_parts (ap (λ l. height_of l) (fold-roll-AddedTerm Layout Layout Layout Layout Layout Layout Layout Layout Layout Layout Layout writing.of_arg writing.of_factor writing.of_selector writing.of_added writing.of_args writing.of_elem writing.of_expr writing.of_multiplied writing.of_place writing.of_simple writing.of_term (bare_added y))) (fold-roll-AddedTerm ℕ ℕ ℕ ℕ ℕ ℕ ℕ ℕ ℕ ℕ ℕ heights.of_arg heights.of_factor heights.of_selector heights.of_added heights.of_args heights.of_elem heights.of_expr heights.of_multiplied heights.of_place heights.of_simple heights.of_term (bare_added y)) (meets_added y))

step_args : (x : WithNodes Args-F) (y : WithKnown Args-F) → bare_args y ≡ x → HasHeight write_args args_height (roll-Args x)
unfolding write_arg write_factor write_selector write_added write_args write_elem write_expr write_multiplied write_place write_simple write_term arg_height factor_height selector_height added_height args_height elem_height expr_height multiplied_height place_height simple_height term_height
step_args x y is = subst (λ z. HasHeight write_args args_height (roll-Args z)) is (with_parts (ap (λ l. height_of l) (fold-roll-Args Layout Layout Layout Layout Layout Layout Layout Layout Layout Layout Layout writing.of_arg writing.of_factor writing.of_selector writing.of_added writing.of_args writing.of_elem writing.of_expr writing.of_multiplied writing.of_place writing.of_simple writing.of_term (bare_args y))) (fold-roll-Args ℕ ℕ ℕ ℕ ℕ ℕ ℕ ℕ ℕ ℕ ℕ heights.of_arg heights.of_factor heights.of_selector heights.of_added heights.of_args heights.of_elem heights.of_expr heights.of_multiplied heights.of_place heights.of_simple heights.of_term (bare_args y)) (meets_args y))

step_elem : (x : WithNodes Elem-F) (y : WithKnown Elem-F) → bare_elem y ≡ x → HasHeight write_elem elem_height (roll-Elem x)
unfolding write_arg write_factor write_selector write_added write_args write_elem write_expr write_multiplied write_place write_simple write_term arg_height factor_height selector_height added_height args_height elem_height expr_height multiplied_height place_height simple_height term_height
step_elem x y is = subst (λ z. HasHeight write_elem elem_height (roll-Elem z)) is (with_parts (ap (λ l. height_of l) (fold-roll-Elem Layout Layout Layout Layout Layout Layout Layout Layout Layout Layout Layout writing.of_arg writing.of_factor writing.of_selector writing.of_added writing.of_args writing.of_elem writing.of_expr writing.of_multiplied writing.of_place writing.of_simple writing.of_term (bare_elem y))) (fold-roll-Elem ℕ ℕ ℕ ℕ ℕ ℕ ℕ ℕ ℕ ℕ ℕ heights.of_arg heights.of_factor heights.of_selector heights.of_added heights.of_args heights.of_elem heights.of_expr heights.of_multiplied heights.of_place heights.of_simple heights.of_term (bare_elem y)) (meets_elem y))

step_expr : (x : WithNodes Expr-F) (y : WithKnown Expr-F) → bare_expr y ≡ x → HasHeight write_expr expr_height (roll-Expr x)
unfolding write_arg write_factor write_selector write_added write_args write_elem write_expr write_multiplied write_place write_simple write_term arg_height factor_height selector_height added_height args_height elem_height expr_height multiplied_height place_height simple_height term_height
step_expr x y is = subst (λ z. HasHeight write_expr expr_height (roll-Expr z)) is (with_parts (ap (λ l. height_of l) (fold-roll-Expr Layout Layout Layout Layout Layout Layout Layout Layout Layout Layout Layout writing.of_arg writing.of_factor writing.of_selector writing.of_added writing.of_args writing.of_elem writing.of_expr writing.of_multiplied writing.of_place writing.of_simple writing.of_term (bare_expr y))) (fold-roll-Expr ℕ ℕ ℕ ℕ ℕ ℕ ℕ ℕ ℕ ℕ ℕ heights.of_arg heights.of_factor heights.of_selector heights.of_added heights.of_args heights.of_elem heights.of_expr heights.of_multiplied heights.of_place heights.of_simple heights.of_term (bare_expr y)) (meets_expr y))

step_multiplied : (x : WithNodes MultipliedFactor-F) (y : WithKnown MultipliedFactor-F) → bare_multiplied y ≡ x → HasHeight write_multiplied multiplied_height (roll-MultipliedFactor x)
unfolding write_arg write_factor write_selector write_added write_args write_elem write_expr write_multiplied write_place write_simple write_term arg_height factor_height selector_height added_height args_height elem_height expr_height multiplied_height place_height simple_height term_height
step_multiplied x y is = subst (λ z. HasHeight write_multiplied multiplied_height (roll-MultipliedFactor z)) is (with_parts (ap (λ l. height_of l) (fold-roll-MultipliedFactor Layout Layout Layout Layout Layout Layout Layout Layout Layout Layout Layout writing.of_arg writing.of_factor writing.of_selector writing.of_added writing.of_args writing.of_elem writing.of_expr writing.of_multiplied writing.of_place writing.of_simple writing.of_term (bare_multiplied y))) (fold-roll-MultipliedFactor ℕ ℕ ℕ ℕ ℕ ℕ ℕ ℕ ℕ ℕ ℕ heights.of_arg heights.of_factor heights.of_selector heights.of_added heights.of_args heights.of_elem heights.of_expr heights.of_multiplied heights.of_place heights.of_simple heights.of_term (bare_multiplied y)) (meets_multiplied y))

step_place : (x : WithNodes Place-F) (y : WithKnown Place-F) → bare_place y ≡ x → HasHeight write_place place_height (roll-Place x)
unfolding write_arg write_factor write_selector write_added write_args write_elem write_expr write_multiplied write_place write_simple write_term arg_height factor_height selector_height added_height args_height elem_height expr_height multiplied_height place_height simple_height term_height
step_place x y is = subst (λ z. HasHeight write_place place_height (roll-Place z)) is (with_parts (ap (λ l. height_of l) (fold-roll-Place Layout Layout Layout Layout Layout Layout Layout Layout Layout Layout Layout writing.of_arg writing.of_factor writing.of_selector writing.of_added writing.of_args writing.of_elem writing.of_expr writing.of_multiplied writing.of_place writing.of_simple writing.of_term (bare_place y))) (fold-roll-Place ℕ ℕ ℕ ℕ ℕ ℕ ℕ ℕ ℕ ℕ ℕ heights.of_arg heights.of_factor heights.of_selector heights.of_added heights.of_args heights.of_elem heights.of_expr heights.of_multiplied heights.of_place heights.of_simple heights.of_term (bare_place y)) (meets_place y))

step_simple : (x : WithNodes Simple-F) (y : WithKnown Simple-F) → bare_simple y ≡ x → HasHeight write_simple simple_height (roll-Simple x)
unfolding write_arg write_factor write_selector write_added write_args write_elem write_expr write_multiplied write_place write_simple write_term arg_height factor_height selector_height added_height args_height elem_height expr_height multiplied_height place_height simple_height term_height
step_simple x y is = subst (λ z. HasHeight write_simple simple_height (roll-Simple z)) is (with_parts (ap (λ l. height_of l) (fold-roll-Simple Layout Layout Layout Layout Layout Layout Layout Layout Layout Layout Layout writing.of_arg writing.of_factor writing.of_selector writing.of_added writing.of_args writing.of_elem writing.of_expr writing.of_multiplied writing.of_place writing.of_simple writing.of_term (bare_simple y))) (fold-roll-Simple ℕ ℕ ℕ ℕ ℕ ℕ ℕ ℕ ℕ ℕ ℕ heights.of_arg heights.of_factor heights.of_selector heights.of_added heights.of_args heights.of_elem heights.of_expr heights.of_multiplied heights.of_place heights.of_simple heights.of_term (bare_simple y)) (meets_simple y))

step_term : (x : WithNodes Term-F) (y : WithKnown Term-F) → bare_term y ≡ x → HasHeight write_term term_height (roll-Term x)
unfolding write_arg write_factor write_selector write_added write_args write_elem write_expr write_multiplied write_place write_simple write_term arg_height factor_height selector_height added_height args_height elem_height expr_height multiplied_height place_height simple_height term_height
step_term x y is = subst (λ z. HasHeight write_term term_height (roll-Term z)) is (with_parts (ap (λ l. height_of l) (fold-roll-Term Layout Layout Layout Layout Layout Layout Layout Layout Layout Layout Layout writing.of_arg writing.of_factor writing.of_selector writing.of_added writing.of_args writing.of_elem writing.of_expr writing.of_multiplied writing.of_place writing.of_simple writing.of_term (bare_term y))) (fold-roll-Term ℕ ℕ ℕ ℕ ℕ ℕ ℕ ℕ ℕ ℕ ℕ heights.of_arg heights.of_factor heights.of_selector heights.of_added heights.of_args heights.of_elem heights.of_expr heights.of_multiplied heights.of_place heights.of_simple heights.of_term (bare_term y)) (meets_term y))

pub expr_levels : (x : Expr) → height_of (write_expr x) ≡ expr_height x
expr_levels = ind-Expr (HasHeight write_arg arg_height) (HasHeight write_factor factor_height) (HasHeight write_selector selector_height) (HasHeight write_added added_height) (HasHeight write_args args_height) (HasHeight write_elem elem_height) (HasHeight write_expr expr_height) (HasHeight write_multiplied multiplied_height) (HasHeight write_place place_height) (HasHeight write_simple simple_height) (HasHeight write_term term_height) step_arg step_factor step_selector step_added step_args step_elem step_expr step_multiplied step_place step_simple step_term

pub place_levels : (x : Place) → height_of (write_place x) ≡ place_height x
place_levels = ind-Place (HasHeight write_arg arg_height) (HasHeight write_factor factor_height) (HasHeight write_selector selector_height) (HasHeight write_added added_height) (HasHeight write_args args_height) (HasHeight write_elem elem_height) (HasHeight write_expr expr_height) (HasHeight write_multiplied multiplied_height) (HasHeight write_place place_height) (HasHeight write_simple simple_height) (HasHeight write_term term_height) step_arg step_factor step_selector step_added step_args step_elem step_expr step_multiplied step_place step_simple step_term

pub args_levels : (x : Args) → height_of (write_args x) ≡ args_height x
args_levels = ind-Args (HasHeight write_arg arg_height) (HasHeight write_factor factor_height) (HasHeight write_selector selector_height) (HasHeight write_added added_height) (HasHeight write_args args_height) (HasHeight write_elem elem_height) (HasHeight write_expr expr_height) (HasHeight write_multiplied multiplied_height) (HasHeight write_place place_height) (HasHeight write_simple simple_height) (HasHeight write_term term_height) step_arg step_factor step_selector step_added step_args step_elem step_expr step_multiplied step_place step_simple step_term
