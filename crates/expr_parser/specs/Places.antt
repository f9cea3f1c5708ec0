-- Places and arguments are read, where `expr` reads the expressions in them. `end` is the place of the end of the text.
use Rattle.std.specs.Prelude.{Bool, true, false, ◌&&◌, List, [], ◌∷◌, ◌++◌, Option, Some, None, Ok}
use Rattle.p2c_text.specs.declared.dialect.Dialect.{Dialect}
use Rattle.p2c_text.specs.declared.place.Span.{Span}
use Rattle.dialect_lexer.specs.Dialects.{is_ucsd}
use Rattle.dialect_lexer.specs.declared.token.Word.TheVariants as word
use Rattle.dialect_lexer.specs.declared.token.Symbol.{Symbol as SpecialSymbol}
use Rattle.dialect_lexer.specs.declared.token.Symbol.TheVariants as mark
use Rattle.pascal_tree.specs.declared.names.Identifier.{Identifier}
use Rattle.pascal_tree.specs.declared.expressions.Expr.{Expr}
use Rattle.pascal_tree.specs.declared.expressions.Selector.{Selector}
use Rattle.pascal_tree.specs.declared.expressions.Selector.TheVariants as selector
use Rattle.pascal_tree.specs.declared.expressions.Place.{Place, roll-Place}
use Rattle.pascal_tree.specs.declared.expressions.Arg.{Arg}
use Rattle.pascal_tree.specs.declared.expressions.Arg.TheVariants as arg
use Rattle.pascal_tree.specs.declared.expressions.Args.{Args, roll-Args}
use Rattle.token_parsing.specs.Parser.{Parser, ◌>>=◌, pure, one_of, begins, either, repeat}
use Rattle.expr_parser.specs.Tokens.{Placed}
use Rattle.expr_parser.specs.Spans.{span_between}
use Rattle.expr_parser.specs.Classes.{identifiers, words, symbols, expect, expect_word}

-- a node of the tokens from here up to those that are left
abbrev pub made : {A : Type 0} → Span → List Placed → (Span → A) → Parser Placed A
made end from node rest = Ok (node (span_between end from rest), rest)

-- [mark Expr]
unfoldable pub optional_after : SpecialSymbol → Parser Placed Expr → Parser Placed (Option Expr)
optional_after m expr = either (begins (symbols m)) (expect m >>= λ _. expr >>= λ e. pure (Some e)) (pure None)

-- ---- selectors

-- "," Expr
unfoldable pub next_expr : Parser Placed Expr → List Expr → Parser Placed (List Expr)
next_expr expr all = expect mark.Comma >>= λ _. expr >>= λ e. pure (all ++ e ∷ [])

-- {"," Expr}
unfoldable pub more_exprs : Parser Placed Expr → List Expr → Parser Placed (List Expr)
more_exprs expr = repeat (begins (symbols mark.Comma)) (next_expr expr)

-- Expr {"," Expr}
unfoldable pub exprs : Parser Placed Expr → Parser Placed (List Expr)
exprs expr = expr >>= λ e. more_exprs expr (e ∷ [])

-- "[" Expr {"," Expr} "]"
unfoldable pub index : Span → Parser Placed Expr → Parser Placed Selector
index end expr = λ from. (expect mark.OpenBracket >>= λ _. exprs expr >>= λ all. expect mark.CloseBracket >>= λ _. made end from (selector.Index all)) from

-- "." Id
unfoldable pub field : Span → Parser Placed Selector
field end = λ from. (expect mark.Dot >>= λ _. one_of identifiers >>= λ n. made end from (selector.Field n)) from

-- "^"
unfoldable pub follow : Span → Parser Placed Selector
follow end = λ from. (expect mark.Caret >>= λ _. made end from selector.Follow) from

unfoldable pub selected : Span → Parser Placed Expr → Parser Placed Selector
selected end expr = either (begins (symbols mark.Dot)) (field end) (either (begins (symbols mark.Caret)) (follow end) (index end expr))

abbrev pub begins_selector : List Placed → Bool
begins_selector s = elim (begins (symbols mark.Dot) s) [ true ↦ true | false ↦ elim (begins (symbols mark.Caret) s) [ true ↦ true | false ↦ begins (symbols mark.OpenBracket) s ] ]

unfoldable pub next_selector : Span → Parser Placed Expr → List Selector → Parser Placed (List Selector)
next_selector end expr all = selected end expr >>= λ x. pure (all ++ x ∷ [])

unfoldable pub selectors : Span → Parser Placed Expr → List Selector → Parser Placed (List Selector)
selectors end expr = repeat begins_selector (next_selector end expr)

abbrev pub place_of : Identifier → List Selector → Span → Place
place_of n all span = roll-Place (record { name = n; selectors = all; span = span })

-- the selectors of a place that begins with this name, at the tokens `from`
unfoldable pub place_from : Span → Parser Placed Expr → List Placed → Identifier → Parser Placed Place
place_from end expr from n = selectors end expr [] >>= λ all. made end from (place_of n all)

unfoldable pub place : Span → Parser Placed Expr → Parser Placed Place
place end expr = λ from. (one_of identifiers >>= λ n. place_from end expr from n) from

-- ---- arguments

-- Expr [":" Expr [":" Expr]]
unfoldable pub value_arg : Span → Parser Placed Expr → Parser Placed Arg
value_arg end expr = λ from. (expr >>= λ v. optional_after mark.Colon expr >>= λ w. optional_after mark.Colon expr >>= λ x. made end from (arg.Value v w x)) from

unfoldable pub program_arg : Span → Parser Placed Arg
program_arg end = λ from. (expect_word word.KwProgram >>= λ _. made end from arg.Program) from

abbrev pub begins_program : Dialect → List Placed → Bool
begins_program d s = is_ucsd d && begins (words word.KwProgram) s

unfoldable pub one_arg : Dialect → Span → Parser Placed Expr → Parser Placed Arg
one_arg d end expr = either (begins_program d) (program_arg end) (value_arg end expr)

-- "," Arg
unfoldable pub next_arg : Dialect → Span → Parser Placed Expr → List Arg → Parser Placed (List Arg)
next_arg d end expr all = expect mark.Comma >>= λ _. one_arg d end expr >>= λ a. pure (all ++ a ∷ [])

-- {"," Arg}
unfoldable pub more_args : Dialect → Span → Parser Placed Expr → List Arg → Parser Placed (List Arg)
more_args d end expr = repeat (begins (symbols mark.Comma)) (next_arg d end expr)

-- Arg {"," Arg}
unfoldable pub listed_args : Dialect → Span → Parser Placed Expr → Parser Placed (List Arg)
listed_args d end expr = one_arg d end expr >>= λ a. more_args d end expr (a ∷ [])

abbrev pub args_of : List Arg → Span → Args
args_of all span = roll-Args (record { list = all; span = span })

-- Args = "(" Arg {"," Arg} ")"
unfoldable pub args : Dialect → Span → Parser Placed Expr → Parser Placed Args
args d end expr = λ from. (expect mark.Open >>= λ _. listed_args d end expr >>= λ all. expect mark.Close >>= λ _. made end from (args_of all)) from
