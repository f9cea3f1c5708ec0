-- Factors are read, where `expr` reads the expressions and `factor` the factors in them. `end` is the place of the end of the text.
use Rattle.std.specs.Prelude.{List, [], ◌∷◌, ◌++◌, Option}
use Rattle.p2c_text.specs.declared.dialect.Dialect.{Dialect}
use Rattle.p2c_text.specs.declared.place.Span.{Span}
use Rattle.dialect_lexer.specs.declared.token.Word.TheVariants as word
use Rattle.dialect_lexer.specs.declared.token.Symbol.TheVariants as mark
use Rattle.pascal_tree.specs.declared.names.Identifier.{Identifier}
use Rattle.pascal_tree.specs.declared.expressions.Expr.{Expr}
use Rattle.pascal_tree.specs.declared.expressions.Factor.{Factor}
use Rattle.pascal_tree.specs.declared.expressions.Factor.TheVariants as factor
use Rattle.pascal_tree.specs.declared.expressions.Elem.{Elem, roll-Elem}
use Rattle.token_parsing.specs.Parser.{Parser, ◌>>=◌, pure, one_of, begins, either, repeat}
use Rattle.expr_parser.specs.Tokens.{Placed}
use Rattle.expr_parser.specs.Classes.{identifiers, numbers, texts, words, symbols, expect, expect_word}
use Rattle.expr_parser.specs.Places.{made, optional_after, place_from, args}

unfoldable pub number : Span → Parser Placed Factor
number end = λ from. (one_of numbers >>= λ v. made end from (factor.Number v)) from

unfoldable pub text : Span → Parser Placed Factor
text end = λ from. (one_of texts >>= λ bs. made end from (factor.Text bs)) from

unfoldable pub nil : Span → Parser Placed Factor
nil end = λ from. (expect_word word.KwNil >>= λ _. made end from factor.Nil) from

-- ---- what begins with a name

unfoldable pub call : Dialect → Span → Parser Placed Expr → List Placed → Identifier → Parser Placed Factor
call d end expr from n = args d end expr >>= λ a. made end from (factor.Call n a)

unfoldable pub read_place : Span → Parser Placed Expr → List Placed → Identifier → Parser Placed Factor
read_place end expr from n = place_from end expr from n >>= λ p. pure (factor.Place p)

-- Place | Id Args
unfoldable pub named : Dialect → Span → Parser Placed Expr → Parser Placed Factor
named d end expr = λ from. (one_of identifiers >>= λ n. either (begins (symbols mark.Open)) (call d end expr from n) (read_place end expr from n)) from

-- ---- the others

-- "(" Expr ")"
unfoldable pub group : Span → Parser Placed Expr → Parser Placed Factor
group end expr = λ from. (expect mark.Open >>= λ _. expr >>= λ e. expect mark.Close >>= λ _. made end from (factor.Group e)) from

-- "not" Factor
unfoldable pub negation : Span → Parser Placed Factor → Parser Placed Factor
negation end inner = λ from. (expect_word word.KwNot >>= λ _. inner >>= λ f. made end from (factor.Not f)) from

abbrev pub elem_of : Expr → Option Expr → Span → Elem
elem_of first last span = roll-Elem (record { first = first; last = last; span = span })

-- Elem = Expr [".." Expr]
unfoldable pub elem : Span → Parser Placed Expr → Parser Placed Elem
elem end expr = λ from. (expr >>= λ a. optional_after mark.DotDot expr >>= λ b. made end from (elem_of a b)) from

-- "," Elem
unfoldable pub next_elem : Span → Parser Placed Expr → List Elem → Parser Placed (List Elem)
next_elem end expr all = expect mark.Comma >>= λ _. elem end expr >>= λ e. pure (all ++ e ∷ [])

-- {"," Elem}
unfoldable pub more_elems : Span → Parser Placed Expr → List Elem → Parser Placed (List Elem)
more_elems end expr = repeat (begins (symbols mark.Comma)) (next_elem end expr)

-- Elem {"," Elem}
unfoldable pub some_elems : Span → Parser Placed Expr → Parser Placed (List Elem)
some_elems end expr = elem end expr >>= λ e. more_elems end expr (e ∷ [])

unfoldable pub elems : Span → Parser Placed Expr → Parser Placed (List Elem)
elems end expr = either (begins (symbols mark.CloseBracket)) (pure []) (some_elems end expr)

-- "[" [Elem {"," Elem}] "]"
unfoldable pub set : Span → Parser Placed Expr → Parser Placed Factor
set end expr = λ from. (expect mark.OpenBracket >>= λ _. elems end expr >>= λ all. expect mark.CloseBracket >>= λ _. made end from (factor.Set all)) from

unfoldable pub factor_by : Dialect → Span → Parser Placed Expr → Parser Placed Factor → Parser Placed Factor
factor_by d end expr inner =
    either (begins identifiers) (named d end expr)
    (either (begins numbers) (number end)
    (either (begins texts) (text end)
    (either (begins (words word.KwNil)) (nil end)
    (either (begins (symbols mark.Open)) (group end expr)
    (either (begins (words word.KwNot)) (negation end inner) (set end expr))))))
