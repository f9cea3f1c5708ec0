-- Worked examples.
use Rattle.std.proofs.Common.{◌≡◌, ℕ, suc, pos, [], ◌∷◌, None, Ok, Err, refl}
use Rattle.p2c_text.specs.declared.dialect.Dialect.TheVariants.{Iso}
use Rattle.p2c_text.specs.declared.place.Span.{Span}
use Rattle.dialect_lexer.specs.declared.token.Symbol.TheVariants as mark
use Rattle.pascal_tree.specs.declared.expressions.Adding.TheVariants as adding
use Rattle.pascal_tree.specs.declared.expressions.Factor.TheVariants as factor_
use Rattle.token_parsing.specs.declared.refusal.Refusal.TheVariants.{Unexpected, TooDeep}
use Rattle.token_parsing.specs.Parser.{one_of, begins, again, repeat}
use Rattle.expr_parser.specs.Tokens.{Token, Placed, Name, Number, Symbol}
use Rattle.expr_parser.specs.Layout.{Layout, ◌&◌, token, symbol, spanned, counted, tokens_of, height_of, levels_of}
use Rattle.expr_parser.specs.Spans.{span_between}
use Rattle.expr_parser.specs.Classes.{same_word, same_symbol}
use Rattle.expr_parser.specs.Places.{selectors, place_of, place_from}
use Rattle.expr_parser.specs.Factors.{number, named, read_place, set, factor_by}
use Rattle.expr_parser.specs.Expressions.{term_of, added_of, simple_of, expr_of, next_factor, more_factors, term, optional_sign, next_term, more_terms, simple, compared, expr_by, expr}

abbrev span : ℕ → ℕ → Span
span start end = record { file = 0; start = start; end = end; line = 1 }

abbrev at : ℕ → Token → Placed
at n t = record { token = t; span = span n (suc n) }

abbrev a : Placed
a = at 0 (Name (97 ∷ []))

abbrev plus : Placed
plus = at 2 (Symbol mark.Plus)

abbrev one : Placed
one = at 4 (Number (pos 1))

abbrev close : Placed
close = at 6 (Symbol mark.Close)

-- `a + 1 )`
sum : expr Iso (span 7 7) 2 (a ∷ plus ∷ one ∷ close ∷ [])
    ≡ Ok (
      expr_of (simple_of None (term_of (factor_.Place (place_of (record { name = 97 ∷ []; span = span 0 1 }) [] (span 0 1))) [] (span 0 1))
          (added_of adding.Add (term_of (factor_.Number (pos 1) (span 4 5)) [] (span 4 5)) ∷ []) (span 0 5)) None (span 0 5),
      close ∷ [],
    )
unfolding one_of begins again repeat span_between same_word same_symbol selectors place_from number named read_place factor_by next_factor more_factors term optional_sign next_term more_terms simple compared expr_by expr
sum = refl

-- `a + )`
nothing_to_add : expr Iso (span 7 7) 2 (a ∷ plus ∷ close ∷ []) ≡ Err (Unexpected 1)
unfolding one_of begins again repeat span_between same_word same_symbol selectors place_from number named read_place set factor_by next_factor more_factors term optional_sign next_term more_terms simple compared expr_by expr
nothing_to_add = refl

-- an expression and its factors are two levels
one_level : expr Iso (span 1 1) 1 (a ∷ []) ≡ Err (TooDeep 1)
unfolding one_of begins again repeat span_between same_word same_symbol factor_by next_factor more_factors term optional_sign simple expr_by expr
one_level = refl

-- ---- layouts: the node of a number in parentheses

abbrev node : Layout → Layout
node inside = counted (spanned (span 0 3) inside)

abbrev nested : Layout
nested = node (symbol mark.Open & node (token (Number (pos 1))) & symbol mark.Close)

nested_tokens : tokens_of nested ≡ Symbol mark.Open ∷ Number (pos 1) ∷ Symbol mark.Close ∷ []
nested_tokens = refl

nested_height : height_of nested ≡ 2
nested_height = refl

nested_levels : levels_of 7 0 nested ≡ (0, 7) ∷ (1, 8) ∷ []
nested_levels = refl
