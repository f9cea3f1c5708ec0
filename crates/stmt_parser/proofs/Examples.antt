-- Worked examples.
use Rattle.std.proofs.Common.{◌≡◌, ℕ, suc, [], ◌∷◌, Option, Some, None, Ok, Err, refl}
use Rattle.p2c_text.specs.declared.dialect.Dialect.TheVariants.{Iso}
use Rattle.p2c_text.specs.declared.place.Span.{Span}
use Rattle.dialect_lexer.specs.declared.token.Word.TheVariants as word_
use Rattle.pascal_tree.specs.declared.names.Identifier.{Identifier}
use Rattle.pascal_tree.specs.declared.expressions.Factor.TheVariants as factor_
use Rattle.pascal_tree.specs.declared.expressions.Expr.{Expr}
use Rattle.pascal_tree.specs.declared.statements.Plain.{Plain}
use Rattle.pascal_tree.specs.declared.statements.Plain.TheVariants as plain_
use Rattle.pascal_tree.specs.declared.statements.Stmt.{Stmt}
use Rattle.token_parsing.specs.declared.refusal.Refusal.TheVariants.{Unexpected, TooDeep}
use Rattle.token_parsing.specs.Parser.{one_of, begins, again, repeat}
use Rattle.expr_parser.specs.Tokens.{Token, Placed, Name, Word}
use Rattle.expr_parser.specs.Spans.{span_between}
use Rattle.expr_parser.specs.Classes.{same_word, same_symbol}
use Rattle.expr_parser.specs.Constants.{label, number_label, optional_label}
use Rattle.expr_parser.specs.Places.{selectors, place_of, place_from}
use Rattle.expr_parser.specs.Factors.{named as named_factor, read_place, factor_by}
use Rattle.expr_parser.specs.Expressions.{term_of, simple_of, expr_of, next_factor, more_factors, term, optional_sign, next_term, more_terms, simple, compared, expr_by, expr}
use Rattle.stmt_parser.specs.Statements.{between, next_stmt, more_stmts, stmts, nothing, after_name, named, compound, optional_else, conditional, stmt_of}
use Rattle.stmt_parser.specs.Levels.{structured, plain_by, stmt_by, stmt}

abbrev span : ℕ → ℕ → Span
span start end = record { file = 0; start = start; end = end; line = 1 }

-- a token of one byte, as the examples have them
abbrev at : ℕ → Token → Placed
at n t = record { token = t; span = span n (suc n) }

abbrev name : Token
name = Name (97 ∷ [])

abbrev name_at : ℕ → Identifier
name_at n = record { name = 97 ∷ []; span = span n (suc n) }

abbrev place_at : ℕ → Expr
place_at n =
    expr_of (simple_of None (term_of (factor_.Place (place_of (name_at n) [] (span n (suc n)))) [] (span n (suc n))) [] (span n (suc n))) None (span n (suc n))

abbrev bare : Plain → Span → Stmt
bare p s = stmt_of None p s

abbrev call_at : ℕ → Stmt
call_at n = bare (plain_.Call (name_at n) None (span n (suc n))) (span n (suc n))

abbrev conditional_of : Expr → Stmt → Option Stmt → Span → Stmt
conditional_of c a b s = bare (plain_.If c a b s) s

-- `if a then if a then a else a`: the inner `if` has the `else`
nearest : stmt Iso (span 9 9) 4 (at 0 (Word word_.KwIf) ∷ at 1 name ∷ at 2 (Word word_.KwThen) ∷ at 3 (Word word_.KwIf) ∷ at 4 name ∷ at 5 (Word word_.KwThen) ∷ at 6 name ∷ at 7 (Word word_.KwElse) ∷ at 8 name ∷ [])
    ≡ Ok (conditional_of (place_at 1) (conditional_of (place_at 4) (call_at 6) (Some (call_at 8)) (span 3 9)) None (span 0 9), [])
unfolding one_of begins again repeat span_between same_word same_symbol label number_label optional_label selectors place_from named_factor read_place factor_by next_factor more_factors term optional_sign next_term more_terms simple compared expr_by expr
    between next_stmt more_stmts stmts nothing after_name named compound optional_else conditional structured plain_by stmt_by stmt
nearest = refl

-- `begin end`: an empty statement stands in it, at the `end`
empty_inside : stmt Iso (span 2 2) 2 (at 0 (Word word_.KwBegin) ∷ at 1 (Word word_.KwEnd) ∷ []) ≡ Ok (bare (plain_.Compound (bare (plain_.Nothing (span 1 1)) (span 1 1) ∷ []) (span 0 2)) (span 0 2), [])
unfolding one_of begins again repeat span_between same_word same_symbol label number_label optional_label next_stmt more_stmts stmts nothing compound structured plain_by stmt_by stmt
empty_inside = refl

-- `begin` is unfinished, and too deep within one level
unfinished : stmt Iso (span 1 1) 2 (at 0 (Word word_.KwBegin) ∷ []) ≡ Err (Unexpected 0)
unfolding one_of begins again repeat span_between same_word same_symbol label number_label optional_label next_stmt more_stmts stmts nothing compound structured plain_by stmt_by stmt
unfinished = refl

one_level : stmt Iso (span 1 1) 1 (at 0 (Word word_.KwBegin) ∷ []) ≡ Err (TooDeep 0)
unfolding one_of begins again repeat span_between same_word same_symbol label number_label optional_label next_stmt more_stmts stmts nothing compound structured plain_by stmt_by stmt
one_level = refl
