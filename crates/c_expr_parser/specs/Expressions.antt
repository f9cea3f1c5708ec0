-- Expressions and places are read. Only what may nest takes the number of levels that are left.
use Rattle.std.specs.Prelude.{ℕ, zero, suc, Bool, true, false, List}
use Rattle.c_tree.specs.Tree.{Expr, Read, Number, WordNumber, Null, Address, Unary, Binary, Cast, Place, Variable, Pointee, Member, Index}
use Rattle.c_grammar.specs.declared.token.Word.TheVariants as word
use Rattle.c_grammar.specs.declared.token.Mark.TheVariants as mark
use Rattle.c_grammar.specs.Token.{Token}
use Rattle.token_parsing.specs.Parser.{Parser, ◌>>=◌, pure, stop, one_of, begins, rest, either, repeat}
use Rattle.c_expr_parser.specs.Classes.{names, numbers, words, marks, unaries, binaries, cast_words, expect, expect_word}
use Rattle.c_expr_parser.specs.Types.{cast_type}

-- the largest numbers of `INT64_C` and `UINT64_C`
abbrev pub largest_int : ℕ
largest_int = 9223372036854775807

abbrev pub largest_word : ℕ
largest_word = 18446744073709551615

-- "INT64_C" "(" Num ")"
unfoldable pub number : Parser Token Expr
number = expect_word word.Int64 >>= λ _. expect mark.Open >>= λ _. one_of (numbers largest_int) >>= λ n. expect mark.Close >>= λ _. pure (Number n)

-- "UINT64_C" "(" Num ")"
unfoldable pub word_number : Parser Token Expr
word_number = expect_word word.Uint64 >>= λ _. expect mark.Open >>= λ _. one_of (numbers largest_word) >>= λ n. expect mark.Close >>= λ _. pure (WordNumber n)

unfoldable pub null : Parser Token Expr
null = expect_word word.Null >>= λ _. pure Null

-- Expr ")"
unfoldable pub closed : Parser Token Expr → Parser Token Expr
closed expr = expr >>= λ a. expect mark.Close >>= λ _. pure a

-- ---- places

abbrev pub begins_selector : List Token → Bool
begins_selector s = elim (begins (marks mark.Dot) s) [ true ↦ true | false ↦ begins (marks mark.OpenBracket) s ]

unfoldable pub member : Place → Parser Token Place
member p = expect mark.Dot >>= λ _. one_of names >>= λ n. pure (Member p n)

unfoldable pub element : Parser Token Expr → Place → Parser Token Place
element expr p = expect mark.OpenBracket >>= λ _. expr >>= λ a. expect mark.CloseBracket >>= λ _. pure (Index p a)

unfoldable pub selected : Parser Token Expr → Place → Parser Token Place
selected expr p = either (begins (marks mark.Dot)) (member p) (element expr p)

-- {"." Id | "[" Expr "]"}
unfoldable pub selectors : Parser Token Expr → Place → Parser Token Place
selectors expr = repeat begins_selector (selected expr)

-- after the parenthesis: "*" Expr ")"
unfoldable pub pointee : Parser Token Expr → Parser Token Place
pointee expr = expect mark.Star >>= λ _. closed expr >>= λ a. pure (Pointee a)

unfoldable pub variable : Parser Token Place
variable = one_of names >>= λ n. pure (Variable n)

-- Id | "(" "*" Expr ")"
unfoldable pub base_place : Parser Token Expr → Parser Token Place
base_place expr = either (begins names) variable (expect mark.Open >>= λ _. pointee expr)

unfoldable pub place : Parser Token Expr → Parser Token Place
place expr = base_place expr >>= selectors expr

-- ---- after an opening parenthesis

unfoldable pub read_pointee : Parser Token Expr → Parser Token Expr
read_pointee expr = pointee expr >>= λ p. selectors expr p >>= λ q. pure (Read q)

unfoldable pub address : Parser Token Expr → Parser Token Expr
address expr = expect mark.Ampersand >>= λ _. place expr >>= λ p. expect mark.Close >>= λ _. pure (Address p)

unfoldable pub unary : Parser Token Expr → Parser Token Expr
unary expr = one_of unaries >>= λ op. closed expr >>= λ a. pure (Unary op a)

unfoldable pub binary : Parser Token Expr → Parser Token Expr
binary expr = expr >>= λ a. one_of binaries >>= λ op. closed expr >>= λ b. pure (Binary op a b)

unfoldable pub cast : Parser Token Expr → Parser Token Expr
cast expr = expect mark.Open >>= λ _. cast_type >>= λ to. expect mark.Close >>= λ _. closed expr >>= λ a. pure (Cast to a)

-- a second parenthesis and the first word of a cast
abbrev pub begins_cast : List Token → Bool
begins_cast s = elim (begins (marks mark.Open) s) [ true ↦ begins cast_words (rest s) | false ↦ false ]

unfoldable pub opened : Parser Token Expr → Parser Token Expr
opened expr =
    either (begins (marks mark.Star)) (read_pointee expr)
    (either (begins (marks mark.Ampersand)) (address expr)
    (either (begins unaries) (unary expr)
    (either begins_cast (cast expr) (binary expr))))

-- ---- expressions

unfoldable pub read_variable : Parser Token Expr → Parser Token Expr
read_variable expr = variable >>= λ p. selectors expr p >>= λ q. pure (Read q)

-- an expression, of which the parts are read by the parser given
unfoldable pub expr_by : Parser Token Expr → Parser Token Expr
expr_by expr =
    either (begins names) (read_variable expr)
    (either (begins (marks mark.Open)) (expect mark.Open >>= λ _. opened expr)
    (either (begins (words word.Int64)) number
    (either (begins (words word.Uint64)) word_number null)))

-- with so many levels left
unfoldable pub expr : ℕ → Parser Token Expr
expr zero = stop
expr (suc d) = expr_by (expr d)
