-- Steps over statements.
use Rattle.std.specs.Prelude.{ℕ, nat_lt, not, List, [], ◌∷◌, Option, Some, None, Ok}
use Rattle.c_grammar.specs.declared.fault.CTextKind.TheVariants.{BadGoto, DoubleName}
use Rattle.c_tree.specs.Tree.{ObjectType, Expr, Place, Statement, Assign, Call, Malloc, Free, GetChar, PutChar, If, IfElse, While, Goto, Label, Return, Body, Empty, Then}
use Rattle.c_tree.specs.declared.statement.CCallee.{CCallee}
use Rattle.c_tree.specs.declared.statement.CCallee.TheVariants.{Direct, Indirect}
use Rattle.c_conditions.specs.Names.{with_name, raised, lowered}
use Rattle.c_conditions.specs.Steps.{Step, ◌>>◌, go_on, each, pass, demand}
use Rattle.c_conditions.specs.TypeSteps.{type_of}
use Rattle.c_conditions.specs.ExprSteps.{expr_step, place_step}

abbrev pub assign : Place → Expr → Step
assign p a = place_step p >> pass 1 >> expr_step a >> pass 1

abbrev pub into : Option Place → Step
into None w = Ok w
into (Some p) w = (place_step p >> pass 1) w

abbrev pub callee : CCallee → Step
callee (Direct n) = pass 1
callee (Indirect a) = pass 2 >> expr_step a >> pass 1

-- a comma and an argument
abbrev pub next_argument : Expr → Step
next_argument a = pass 1 >> expr_step a

abbrev pub arguments : List Expr → Step
arguments [] w = Ok w
arguments (a ∷ more) w = (expr_step a >> each next_argument more) w

abbrev pub call : Option Place → CCallee → List Expr → Step
call place called all = into place >> callee called >> pass 1 >> arguments all >> pass 2

abbrev pub malloc : Place → ObjectType → Step
malloc p of = place_step p >> pass 5 >> type_of of >> pass 3

abbrev pub get_char : Place → Step
get_char p = place_step p >> pass 5

-- the argument of `free` or `putchar`
abbrev pub given : Expr → Step
given a = pass 2 >> expr_step a >> pass 2

abbrev pub goto : List ℕ → Step
goto l = pass 1 >> (λ w. demand (nat_lt 0 (w.reached l)) BadGoto w) >> pass 2

abbrev pub label : List ℕ → Step
label l = (λ w. demand (not (w.labels l)) DoubleName w) >> (λ w. Ok (record w { labels = with_name l w.labels })) >> pass 3

abbrev pub returned : Option Expr → Step
returned None w = Ok w
returned (Some a) w = expr_step a w

abbrev pub value : Option Expr → Step
value a = pass 1 >> returned a >> pass 1

-- the test, from the word to the opening brace
abbrev pub test : Expr → Step
test a = pass 2 >> expr_step a >> pass 2

-- ---- the labels of a list

abbrev pub raise_label : Statement → Step
raise_label (Label l) w = Ok (record w { reached = raised l w.reached })
raise_label _ w = Ok w

abbrev pub lower_label : Statement → Step
lower_label (Label l) w = Ok (record w { reached = lowered l w.reached })
lower_label _ w = Ok w

unfoldable pub enter : Body → Step
enter Empty w = Ok w
enter (Then s more) w = go_on (raise_label s w) (enter more)

unfoldable pub leave : Body → Step
leave Empty w = Ok w
leave (Then s more) w = go_on (lower_label s w) (leave more)

-- a list between two braces, whose labels are in reach there
abbrev pub within : Body → Step → Step
within body inner = enter body >> inner >> leave body

-- ---- statements and lists of them

unfoldable mutual
  pub statement : Statement → Step
  statement (Assign p a) = assign p a
  statement (Call place called all) = call place called all
  statement (Malloc p of) = malloc p of
  statement (Free a) = given a
  statement (GetChar p) = get_char p
  statement (PutChar a) = given a
  statement (If a body) = test a >> within body (statements body) >> pass 1
  statement (IfElse a body otherwise) = test a >> within body (statements body) >> pass 3 >> within otherwise (statements otherwise) >> pass 1
  statement (While a body) = test a >> within body (statements body) >> pass 1
  statement (Goto l) = goto l
  statement (Label l) = label l
  statement (Return a) = value a

  pub statements : Body → Step
  statements Empty w = Ok w
  statements (Then s more) w = go_on (statement s w) (statements more)

abbrev pub block : Body → Step
block body = within body (statements body)
