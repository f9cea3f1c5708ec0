-- Statements are read. Lists of them do not nest.
use Rattle.std.specs.Prelude.{ℕ, zero, suc, Bool, true, false, List, [], ◌∷◌, ◌++◌, Option, Some, None}
use Rattle.c_tree.specs.Tree.{Expr, Place, Variable, Pointee, Member, Index, Statement, Assign, Call, Malloc, Free, GetChar, PutChar, If, IfElse, While, Goto, Label, Return, body_of}
use Rattle.c_tree.specs.declared.statement.CCallee.{CCallee}
use Rattle.c_tree.specs.declared.statement.CCallee.TheVariants.{Direct, Indirect}
use Rattle.c_grammar.specs.declared.token.Word.TheVariants as word
use Rattle.c_grammar.specs.declared.token.Mark.TheVariants as mark
use Rattle.c_grammar.specs.Token.{Token}
use Rattle.token_parsing.specs.Parser.{Parser, ◌>>=◌, pure, refuse, stop, one_of, begins, rest, either, repeat}
use Rattle.c_expr_parser.specs.Classes.{names, words, marks, expect, expect_word}
use Rattle.c_expr_parser.specs.Types.{object_type}
use Rattle.c_expr_parser.specs.Expressions.{closed, place, expr}

-- ---- calls

-- "," Expr
unfoldable pub next_argument : Parser Token Expr → List Expr → Parser Token (List Expr)
next_argument expr all = expect mark.Comma >>= λ _. expr >>= λ a. pure (all ++ a ∷ [])

-- Expr {"," Expr}
unfoldable pub some_arguments : Parser Token Expr → Parser Token (List Expr)
some_arguments expr = expr >>= λ a. repeat (begins (marks mark.Comma)) (next_argument expr) (a ∷ [])

-- [Expr {"," Expr}]
unfoldable pub listed_arguments : Parser Token Expr → Parser Token (List Expr)
listed_arguments expr = either (begins (marks mark.Close)) (pure []) (some_arguments expr)

-- "(" [Expr {"," Expr}] ")" ";"
unfoldable pub arguments : Parser Token Expr → Parser Token (List Expr)
arguments expr = expect mark.Open >>= λ _. listed_arguments expr >>= λ all. expect mark.Close >>= λ _. expect mark.Semicolon >>= λ _. pure all

unfoldable pub call : Parser Token Expr → Option Place → CCallee → Parser Token Statement
call expr into callee = arguments expr >>= λ all. pure (Call into callee all)

unfoldable pub indirect : Parser Token Expr → Parser Token CCallee
indirect expr = expect mark.Open >>= λ _. expect mark.Star >>= λ _. closed expr >>= λ a. pure (Indirect a)

unfoldable pub callee : Parser Token Expr → Parser Token CCallee
callee expr = either (begins names) (one_of names >>= λ n. pure (Direct n)) (indirect expr)

-- What is after the parenthesis that closes a group, in which so many groups are open.
unfoldable pub after_group : ℕ → List Token → List Token
after_group n [] = []
after_group n (t ∷ s) =
    elim (begins (marks mark.Open) (t ∷ s)) [ true ↦ after_group (suc n) s | false ↦ elim (begins (marks mark.Close) (t ∷ s)) [ true ↦ elim n [ zero ↦ s | suc m ↦ after_group m s ] | false ↦ after_group n s ] ]

-- after a callee stands an opening parenthesis
unfoldable pub calls : List Token → Bool
calls s = elim (begins names s) [
  | true ↦ begins (marks mark.Open) (rest s)
  | false ↦
      elim (begins (marks mark.Open) s) [ false ↦ false | true ↦ elim (begins (marks mark.Star) (rest s)) [ false ↦ false | true ↦ begins (marks mark.Open) (after_group 0 (rest s)) ] ]
]

-- ---- assignments

-- "malloc" "(" "sizeof" "("
unfoldable pub malloc_opening : Parser Token (Unit {0})
malloc_opening = expect_word word.Malloc >>= λ _. expect mark.Open >>= λ _. expect_word word.SizeOf >>= λ _. expect mark.Open >>= λ _. pure tt

unfoldable pub malloc : Place → Parser Token Statement
malloc p = malloc_opening >>= λ _. object_type >>= λ of. expect mark.Close >>= λ _. expect mark.Close >>= λ _. expect mark.Semicolon >>= λ _. pure (Malloc p of)

unfoldable pub get_char : Place → Parser Token Statement
get_char p = expect_word word.GetChar >>= λ _. expect mark.Open >>= λ _. expect mark.Close >>= λ _. expect mark.Semicolon >>= λ _. pure (GetChar p)

unfoldable pub value : Parser Token Expr → Place → Parser Token Statement
value expr p = expr >>= λ a. expect mark.Semicolon >>= λ _. pure (Assign p a)

unfoldable pub call_into : Parser Token Expr → Place → Parser Token Statement
call_into expr p = callee expr >>= λ c. call expr (Some p) c

unfoldable pub assigned : Parser Token Expr → Place → Parser Token Statement
assigned expr p = expect mark.Assign >>= λ _.
    either (begins (words word.Malloc)) (malloc p)
    (either (begins (words word.GetChar)) (get_char p)
    (either calls (call_into expr p) (value expr p)))

-- ---- what begins with a place

abbrev pub callee_of : Place → Option CCallee
callee_of (Variable n) = Some (Direct n)
callee_of (Pointee a) = Some (Indirect a)
callee_of (Member p n) = None
callee_of (Index p a) = None

abbrev pub label_of : Place → Option (List ℕ)
label_of (Variable n) = Some n
label_of (Pointee a) = None
label_of (Member p n) = None
label_of (Index p a) = None

abbrev pub called : Parser Token Expr → Option CCallee → Parser Token Statement
called expr None = refuse
called expr (Some c) = call expr None c

abbrev pub labelled : Option (List ℕ) → Parser Token Statement
labelled None = refuse
labelled (Some n) = expect mark.Colon >>= λ _. expect mark.Semicolon >>= λ _. pure (Label n)

unfoldable pub placed : Parser Token Expr → Place → Parser Token Statement
placed expr p = either (begins (marks mark.Assign)) (assigned expr p) (either (begins (marks mark.Open)) (called expr (callee_of p)) (labelled (label_of p)))

-- ---- the other simple statements

-- "(" Expr ")"
unfoldable pub enclosed : Parser Token Expr → Parser Token Expr
enclosed expr = expect mark.Open >>= λ _. closed expr

unfoldable pub free : Parser Token Expr → Parser Token Statement
free expr = expect_word word.Free >>= λ _. enclosed expr >>= λ a. expect mark.Semicolon >>= λ _. pure (Free a)

unfoldable pub put_char : Parser Token Expr → Parser Token Statement
put_char expr = expect_word word.PutChar >>= λ _. enclosed expr >>= λ a. expect mark.Semicolon >>= λ _. pure (PutChar a)

unfoldable pub goto : Parser Token Statement
goto = expect_word word.Goto >>= λ _. one_of names >>= λ l. expect mark.Semicolon >>= λ _. pure (Goto l)

-- [Expr]
unfoldable pub returned : Parser Token Expr → Parser Token (Option Expr)
returned expr = either (begins (marks mark.Semicolon)) (pure None) (expr >>= λ a. pure (Some a))

unfoldable pub return_with : Parser Token Expr → Parser Token Statement
return_with expr = expect_word word.Return >>= λ _. returned expr >>= λ a. expect mark.Semicolon >>= λ _. pure (Return a)

-- ---- statements with bodies

abbrev pub no_brace : List Token → Bool
no_brace s = elim (begins (marks mark.CloseBrace) s) [ true ↦ false | false ↦ true ]

unfoldable pub next_statement : Parser Token Statement → List Statement → Parser Token (List Statement)
next_statement statement all = statement >>= λ a. pure (all ++ a ∷ [])

-- {Stmt}, up to a closing brace
unfoldable pub statements : Parser Token Statement → Parser Token (List Statement)
statements statement = repeat no_brace (next_statement statement) []

-- Body = "{" {Stmt} "}"
unfoldable pub body : Parser Token Statement → Parser Token (List Statement)
body statement = expect mark.OpenBrace >>= λ _. statements statement >>= λ all. expect mark.CloseBrace >>= λ _. pure all

unfoldable pub otherwise : Parser Token Statement → Expr → List Statement → Parser Token Statement
otherwise statement a all = expect_word word.Else >>= λ _. body statement >>= λ more. pure (IfElse a (body_of all) (body_of more))

unfoldable pub conditional : Parser Token Expr → Parser Token Statement → Parser Token Statement
conditional expr statement = expect_word word.If >>= λ _. enclosed expr >>= λ a. body statement >>= λ all.
    either (begins (words word.Else)) (otherwise statement a all) (pure (If a (body_of all)))

unfoldable pub while_loop : Parser Token Expr → Parser Token Statement → Parser Token Statement
while_loop expr statement = expect_word word.While >>= λ _. enclosed expr >>= λ a. body statement >>= λ all. pure (While a (body_of all))

unfoldable pub simple : Parser Token Expr → Parser Token Statement
simple expr =
    either (begins (words word.Free)) (free expr)
    (either (begins (words word.PutChar)) (put_char expr)
    (either (begins (words word.Goto)) goto
    (either (begins (words word.Return)) (return_with expr) (place expr >>= placed expr))))

unfoldable pub statement_by : Parser Token Expr → Parser Token Statement → Parser Token Statement
statement_by expr statement = either (begins (words word.If)) (conditional expr statement) (either (begins (words word.While)) (while_loop expr statement) (simple expr))

-- with so many levels left
unfoldable pub statement : ℕ → Parser Token Statement
statement zero = stop
statement (suc d) = statement_by (expr d) (statement d)
