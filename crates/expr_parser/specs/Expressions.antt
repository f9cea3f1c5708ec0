-- Terms, sums and expressions are read. Only what may nest takes the number of levels that are left.
use Rattle.std.specs.Prelude.{ℕ, zero, suc, List, [], ◌∷◌, ◌++◌, Option, Some, None}
use Rattle.p2c_text.specs.declared.dialect.Dialect.{Dialect}
use Rattle.p2c_text.specs.declared.place.Span.{Span}
use Rattle.pascal_tree.specs.declared.constants.Sign.{Sign}
use Rattle.pascal_tree.specs.declared.expressions.Relation.{Relation}
use Rattle.pascal_tree.specs.declared.expressions.Multiplying.{Multiplying}
use Rattle.pascal_tree.specs.declared.expressions.MultipliedFactor.{MultipliedFactor, roll-MultipliedFactor}
use Rattle.pascal_tree.specs.declared.expressions.Adding.{Adding}
use Rattle.pascal_tree.specs.declared.expressions.AddedTerm.{AddedTerm, roll-AddedTerm}
use Rattle.pascal_tree.specs.declared.expressions.Factor.{Factor}
use Rattle.pascal_tree.specs.declared.expressions.Term.{Term, roll-Term}
use Rattle.pascal_tree.specs.declared.expressions.Simple.{Simple, roll-Simple}
use Rattle.pascal_tree.specs.declared.expressions.Expr.{Expr, roll-Expr}
use Rattle.token_parsing.specs.Parser.{Parser, ◌>>=◌, pure, stop, one_of, begins, either, repeat}
use Rattle.expr_parser.specs.Tokens.{Placed}
use Rattle.expr_parser.specs.Classes.{signs, relations, addings, multiplyings}
use Rattle.expr_parser.specs.Places.{made}
use Rattle.expr_parser.specs.Factors.{factor_by}

-- ---- terms

abbrev pub multiplied_of : Multiplying → Factor → MultipliedFactor
multiplied_of op f = roll-MultipliedFactor (record { operator = op; factor = f })

-- ("*" | "/" | ..) Factor
unfoldable pub next_factor : Parser Placed Factor → List MultipliedFactor → Parser Placed (List MultipliedFactor)
next_factor factor all = one_of multiplyings >>= λ op. factor >>= λ f. pure (all ++ multiplied_of op f ∷ [])

unfoldable pub more_factors : Parser Placed Factor → List MultipliedFactor → Parser Placed (List MultipliedFactor)
more_factors factor = repeat (begins multiplyings) (next_factor factor)

abbrev pub term_of : Factor → List MultipliedFactor → Span → Term
term_of first rest span = roll-Term (record { first = first; rest = rest; span = span })

unfoldable pub term : Span → Parser Placed Factor → Parser Placed Term
term end factor = λ from. (factor >>= λ f. more_factors factor [] >>= λ all. made end from (term_of f all)) from

-- ---- sums

-- ["+" | "-"]
unfoldable pub optional_sign : Parser Placed (Option Sign)
optional_sign = either (begins signs) (one_of signs >>= λ s. pure (Some s)) (pure None)

abbrev pub added_of : Adding → Term → AddedTerm
added_of op t = roll-AddedTerm (record { operator = op; term = t })

-- ("+" | "-" | ..) Term
unfoldable pub next_term : Span → Parser Placed Factor → List AddedTerm → Parser Placed (List AddedTerm)
next_term end factor all = one_of addings >>= λ op. term end factor >>= λ t. pure (all ++ added_of op t ∷ [])

unfoldable pub more_terms : Span → Parser Placed Factor → List AddedTerm → Parser Placed (List AddedTerm)
more_terms end factor = repeat (begins addings) (next_term end factor)

abbrev pub simple_of : Option Sign → Term → List AddedTerm → Span → Simple
simple_of sign first rest span = roll-Simple (record { sign = sign; first = first; rest = rest; span = span })

unfoldable pub simple : Span → Parser Placed Factor → Parser Placed Simple
simple end factor = λ from. (optional_sign >>= λ s. term end factor >>= λ t. more_terms end factor [] >>= λ all. made end from (simple_of s t all)) from

-- ---- expressions

-- [relation Simple]
unfoldable pub compared : Span → Parser Placed Factor → Parser Placed (Option (Relation × Simple))
compared end factor = either (begins relations) (one_of relations >>= λ r. simple end factor >>= λ b. pure (Some (r, b))) (pure None)

abbrev pub expr_of : Simple → Option (Relation × Simple) → Span → Expr
expr_of left right span = roll-Expr (record { left = left; right = right; span = span })

unfoldable pub expr_by : Span → Parser Placed Factor → Parser Placed Expr
expr_by end factor = λ from. (simple end factor >>= λ a. compared end factor >>= λ b. made end from (expr_of a b)) from

-- with so many levels left; an expression and its factors are two
unfoldable mutual
  pub expr : Dialect → Span → ℕ → Parser Placed Expr
  expr d end zero = stop
  expr d end (suc n) = expr_by end (factor d end n)

  pub factor : Dialect → Span → ℕ → Parser Placed Factor
  factor d end zero = stop
  factor d end (suc n) = factor_by d end (expr d end n) (factor d end n)
