-- How trees are spelled by their parts.
use Rattle.std.proofs.Common.{◌≡◌, List, ◌∷◌, map, ap, ◌∙◌}
use Rattle.dialect_lexer.specs.declared.token.Symbol.TheVariants as mark
use Rattle.pascal_tree.specs.declared.expressions.AddedTerm.{AddedTerm, out-AddedTerm}
use Rattle.pascal_tree.specs.declared.expressions.Args.{Args, out-Args}
use Rattle.pascal_tree.specs.declared.expressions.Elem.{Elem, out-Elem}
use Rattle.pascal_tree.specs.declared.expressions.Expr.{Expr, out-Expr}
use Rattle.pascal_tree.specs.declared.expressions.MultipliedFactor.{MultipliedFactor, out-MultipliedFactor}
use Rattle.pascal_tree.specs.declared.expressions.Place.{Place, out-Place}
use Rattle.pascal_tree.specs.declared.expressions.Simple.{Simple, out-Simple}
use Rattle.pascal_tree.specs.declared.expressions.Term.{Term, out-Term}
use Rattle.expr_parser.specs.Tokens.{Token, Name, Symbol}
use Rattle.expr_parser.specs.Layout.{◌&◌, symbol, token, spanned, counted, in_row, with_commas}
use Rattle.expr_parser.specs.Writing.{adding_token, multiplying_token, identifier, optional_sign, optional_after, write_added, write_arg, write_args, write_elem, write_expr, write_factor, write_multiplied, write_place, write_selector, write_simple, write_term}
use Rattle.expr_parser.proofs.Layouts.{spell, spell_join}
use Rattle.expr_parser.proofs.WrittenNodes.{write_right, write_optional, write_term_of, write_multiplied_of, write_added_of, write_simple_of, write_expr_of, write_elem_of, write_place_of, write_args_of}
use Rattle.expr_parser.proofs.Views.{multiplied_is, term_is, added_is, simple_is, expr_is, elem_is, place_is, args_is}

-- how each tree is written

pub multiplied_written : (x : MultipliedFactor) → write_multiplied x ≡ (token (multiplying_token (out-MultipliedFactor x).operator) & write_factor (out-MultipliedFactor x).factor)
multiplied_written x = ap (λ y. write_multiplied y) (multiplied_is x) ∙ write_multiplied_of (out-MultipliedFactor x).operator (out-MultipliedFactor x).factor

pub added_written : (x : AddedTerm) → write_added x ≡ (token (adding_token (out-AddedTerm x).operator) & write_term (out-AddedTerm x).term)
added_written x = ap (λ y. write_added y) (added_is x) ∙ write_added_of (out-AddedTerm x).operator (out-AddedTerm x).term

pub term_written : (x : Term) → write_term x ≡ spanned (out-Term x).span (write_factor (out-Term x).first & in_row (map write_multiplied (out-Term x).rest))
term_written x = ap (λ y. write_term y) (term_is x) ∙ write_term_of (out-Term x).first (out-Term x).rest (out-Term x).span

pub simple_written : (x : Simple) → write_simple x ≡ spanned (out-Simple x).span (optional_sign (out-Simple x).sign & write_term (out-Simple x).first & in_row (map write_added (out-Simple x).rest))
simple_written x = ap (λ y. write_simple y) (simple_is x) ∙ write_simple_of (out-Simple x).sign (out-Simple x).first (out-Simple x).rest (out-Simple x).span

pub expr_written : (x : Expr) → write_expr x ≡ counted (spanned (out-Expr x).span (write_simple (out-Expr x).left & write_right (out-Expr x).right))
expr_written x = ap (λ y. write_expr y) (expr_is x) ∙ write_expr_of (out-Expr x).left (out-Expr x).right (out-Expr x).span

pub elem_written : (x : Elem) → write_elem x ≡ spanned (out-Elem x).span (write_expr (out-Elem x).first & optional_after mark.DotDot (write_optional (out-Elem x).last))
elem_written x = ap (λ y. write_elem y) (elem_is x) ∙ write_elem_of (out-Elem x).first (out-Elem x).last (out-Elem x).span

pub place_written : (x : Place) → write_place x ≡ spanned (out-Place x).span (identifier (out-Place x).name & in_row (map write_selector (out-Place x).selectors))
place_written x = ap (λ y. write_place y) (place_is x) ∙ write_place_of (out-Place x).name (out-Place x).selectors (out-Place x).span

pub args_written : (x : Args) → write_args x ≡ spanned (out-Args x).span (symbol mark.Open & with_commas (map write_arg (out-Args x).list) & symbol mark.Close)
args_written x = ap (λ y. write_args y) (args_is x) ∙ write_args_of (out-Args x).list (out-Args x).span

-- how each tree is spelled

pub multiplied_spelled : (x : MultipliedFactor) (rest : List Token) → spell (write_multiplied x) rest ≡ multiplying_token (out-MultipliedFactor x).operator ∷ spell (write_factor (out-MultipliedFactor x).factor) rest
multiplied_spelled x rest = ap (λ l. spell l rest) (multiplied_written x)

pub added_spelled : (x : AddedTerm) (rest : List Token) → spell (write_added x) rest ≡ adding_token (out-AddedTerm x).operator ∷ spell (write_term (out-AddedTerm x).term) rest
added_spelled x rest = ap (λ l. spell l rest) (added_written x)

pub term_spelled : (x : Term) (rest : List Token) → spell (write_term x) rest ≡ spell (write_factor (out-Term x).first) (spell (in_row (map write_multiplied (out-Term x).rest)) rest)
term_spelled x rest = ap (λ l. spell l rest) (term_written x) ∙ spell_join (write_factor (out-Term x).first) (in_row (map write_multiplied (out-Term x).rest)) rest

pub simple_spelled : (x : Simple) (rest : List Token)
    → spell (write_simple x) rest ≡ spell (optional_sign (out-Simple x).sign) (spell (write_term (out-Simple x).first) (spell (in_row (map write_added (out-Simple x).rest)) rest))
simple_spelled x rest =
    let row = in_row (map write_added (out-Simple x).rest) in
    ap (λ l. spell l rest) (simple_written x) ∙ spell_join (optional_sign (out-Simple x).sign) (write_term (out-Simple x).first & row) rest
    ∙ ap (λ w. spell (optional_sign (out-Simple x).sign) w) (spell_join (write_term (out-Simple x).first) row rest)

pub expr_spelled : (x : Expr) (rest : List Token) → spell (write_expr x) rest ≡ spell (write_simple (out-Expr x).left) (spell (write_right (out-Expr x).right) rest)
expr_spelled x rest = ap (λ l. spell l rest) (expr_written x) ∙ spell_join (write_simple (out-Expr x).left) (write_right (out-Expr x).right) rest

pub elem_spelled : (x : Elem) (rest : List Token) → spell (write_elem x) rest ≡ spell (write_expr (out-Elem x).first) (spell (optional_after mark.DotDot (write_optional (out-Elem x).last)) rest)
elem_spelled x rest = ap (λ l. spell l rest) (elem_written x) ∙ spell_join (write_expr (out-Elem x).first) (optional_after mark.DotDot (write_optional (out-Elem x).last)) rest

pub place_spelled : (x : Place) (rest : List Token) → spell (write_place x) rest ≡ Name (out-Place x).name.name ∷ spell (in_row (map write_selector (out-Place x).selectors)) rest
place_spelled x rest = ap (λ l. spell l rest) (place_written x)

pub args_spelled : (x : Args) (rest : List Token) → spell (write_args x) rest ≡ Symbol mark.Open ∷ spell (with_commas (map write_arg (out-Args x).list)) (Symbol mark.Close ∷ rest)
args_spelled x rest = ap (λ l. spell l rest) (args_written x) ∙ ap (λ w. Symbol mark.Open ∷ w) (spell_join (with_commas (map write_arg (out-Args x).list)) (symbol mark.Close) rest)
