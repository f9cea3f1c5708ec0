-- Trees by cases.
use Rattle.std.proofs.Common.{◌≡◌, ℕ, ℤ, List, Option, sym, subst}
use Rattle.p2c_text.specs.declared.place.Span.{Span}
use Rattle.pascal_tree.specs.declared.names.Identifier.{Identifier}
use Rattle.pascal_tree.specs.declared.expressions.Arg.TheOpen as part
use Rattle.pascal_tree.specs.declared.expressions.Arg.TheOpen.{Arg-F, Factor-F, Selector-F}
use Rattle.pascal_tree.specs.declared.expressions.Arg.{Arg, out-Arg, roll-Arg, roll-out-Arg}
use Rattle.pascal_tree.specs.declared.expressions.Arg.TheVariants as arg
use Rattle.pascal_tree.specs.declared.expressions.Factor.{Factor, out-Factor, roll-Factor, roll-out-Factor}
use Rattle.pascal_tree.specs.declared.expressions.Factor.TheVariants as factor
use Rattle.pascal_tree.specs.declared.expressions.Selector.{Selector, out-Selector, roll-Selector, roll-out-Selector}
use Rattle.pascal_tree.specs.declared.expressions.Selector.TheVariants as selector
use Rattle.pascal_tree.specs.declared.expressions.AddedTerm.{AddedTerm, out-AddedTerm, roll-out-AddedTerm}
use Rattle.pascal_tree.specs.declared.expressions.Args.{Args, out-Args, roll-out-Args}
use Rattle.pascal_tree.specs.declared.expressions.Elem.{Elem, out-Elem, roll-out-Elem}
use Rattle.pascal_tree.specs.declared.expressions.Expr.{Expr, out-Expr, roll-out-Expr}
use Rattle.pascal_tree.specs.declared.expressions.MultipliedFactor.{MultipliedFactor, out-MultipliedFactor, roll-out-MultipliedFactor}
use Rattle.pascal_tree.specs.declared.expressions.Place.{Place, out-Place, roll-out-Place}
use Rattle.pascal_tree.specs.declared.expressions.Simple.{Simple, out-Simple, roll-out-Simple}
use Rattle.pascal_tree.specs.declared.expressions.Term.{Term, out-Term, roll-out-Term}
use Rattle.expr_parser.specs.Places.{place_of, args_of}
use Rattle.expr_parser.specs.Factors.{elem_of}
use Rattle.expr_parser.specs.Expressions.{multiplied_of, term_of, added_of, simple_of, expr_of}

pub multiplied_is : (x : MultipliedFactor) → x ≡ multiplied_of (out-MultipliedFactor x).operator (out-MultipliedFactor x).factor
multiplied_is x = sym (roll-out-MultipliedFactor x)

pub term_is : (x : Term) → x ≡ term_of (out-Term x).first (out-Term x).rest (out-Term x).span
term_is x = sym (roll-out-Term x)

pub added_is : (x : AddedTerm) → x ≡ added_of (out-AddedTerm x).operator (out-AddedTerm x).term
added_is x = sym (roll-out-AddedTerm x)

pub simple_is : (x : Simple) → x ≡ simple_of (out-Simple x).sign (out-Simple x).first (out-Simple x).rest (out-Simple x).span
simple_is x = sym (roll-out-Simple x)

pub expr_is : (x : Expr) → x ≡ expr_of (out-Expr x).left (out-Expr x).right (out-Expr x).span
expr_is x = sym (roll-out-Expr x)

pub elem_is : (x : Elem) → x ≡ elem_of (out-Elem x).first (out-Elem x).last (out-Elem x).span
elem_is x = sym (roll-out-Elem x)

pub place_is : (x : Place) → x ≡ place_of (out-Place x).name (out-Place x).selectors (out-Place x).span
place_is x = sym (roll-out-Place x)

pub args_is : (x : Args) → x ≡ args_of (out-Args x).list (out-Args x).span
args_is x = sym (roll-out-Args x)

module _ (P : Factor → Type 0) where
  pub record FactorCases : Type 0 where
    pub number : (value : ℤ) (span : Span) → P (factor.Number value span)
    pub text : (bytes : List ℕ) (span : Span) → P (factor.Text bytes span)
    pub nil : (span : Span) → P (factor.Nil span)
    pub place : (place : Place) → P (factor.Place place)
    pub call : (name : Identifier) (args : Args) (span : Span) → P (factor.Call name args span)
    pub group : (inner : Expr) (span : Span) → P (factor.Group inner span)
    pub negation : (operand : Factor) (span : Span) → P (factor.Not operand span)
    pub set : (elements : List Elem) (span : Span) → P (factor.Set elements span)

  rolled_factor : FactorCases → (x : Factor-F Arg Factor Selector AddedTerm Args Elem Expr MultipliedFactor Place Simple Term) → P (roll-Factor x)
  rolled_factor c (part.Number value span) = subst P (sym (factor.rolls-Number value span)) (c.number value span)
  rolled_factor c (part.Text bytes span) = subst P (sym (factor.rolls-Text bytes span)) (c.text bytes span)
  rolled_factor c (part.Nil span) = subst P (sym (factor.rolls-Nil span)) (c.nil span)
  rolled_factor c (part.Place place) = subst P (sym (factor.rolls-Place place)) (c.place place)
  rolled_factor c (part.Call name args span) = subst P (sym (factor.rolls-Call name args span)) (c.call name args span)
  rolled_factor c (part.Group inner span) = subst P (sym (factor.rolls-Group inner span)) (c.group inner span)
  rolled_factor c (part.Not operand span) = subst P (sym (factor.rolls-Not operand span)) (c.negation operand span)
  rolled_factor c (part.Set elements span) = subst P (sym (factor.rolls-Set elements span)) (c.set elements span)

  pub factor_cases : FactorCases → (x : Factor) → P x
  factor_cases c x = subst P (roll-out-Factor x) (rolled_factor c (out-Factor x))

module _ (P : Selector → Type 0) where
  pub record SelectorCases : Type 0 where
    pub index : (indexes : List Expr) (span : Span) → P (selector.Index indexes span)
    pub field : (name : Identifier) (span : Span) → P (selector.Field name span)
    pub follow : (span : Span) → P (selector.Follow span)

  rolled_selector : SelectorCases → (x : Selector-F Arg Factor Selector AddedTerm Args Elem Expr MultipliedFactor Place Simple Term) → P (roll-Selector x)
  rolled_selector c (part.Index indexes span) = subst P (sym (selector.rolls-Index indexes span)) (c.index indexes span)
  rolled_selector c (part.Field name span) = subst P (sym (selector.rolls-Field name span)) (c.field name span)
  rolled_selector c (part.Follow span) = subst P (sym (selector.rolls-Follow span)) (c.follow span)

  pub selector_cases : SelectorCases → (x : Selector) → P x
  selector_cases c x = subst P (roll-out-Selector x) (rolled_selector c (out-Selector x))

module _ (P : Arg → Type 0) where
  pub record ArgCases : Type 0 where
    pub value : (value : Expr) (width decimals : Option Expr) (span : Span) → P (arg.Value value width decimals span)
    pub program : (span : Span) → P (arg.Program span)

  rolled_arg : ArgCases → (x : Arg-F Arg Factor Selector AddedTerm Args Elem Expr MultipliedFactor Place Simple Term) → P (roll-Arg x)
  rolled_arg c (part.Value value width decimals span) = subst P (sym (arg.rolls-Value value width decimals span)) (c.value value width decimals span)
  rolled_arg c (part.Program span) = subst P (sym (arg.rolls-Program span)) (c.program span)

  pub arg_cases : ArgCases → (x : Arg) → P x
  arg_cases c x = subst P (roll-out-Arg x) (rolled_arg c (out-Arg x))
