-- Short words for the trees of the examples.
use Rattle.std.specs.Prelude.{ℕ, List, [], ◌∷◌, Option, Some, None, codes}
use Rattle.c_tree.specs.Tree as t
use Rattle.c_tree.specs.Tree.{ObjectType, Expr, Place, Statement, Body, body_of}
use Rattle.c_tree.specs.declared.statement.CCallee.TheVariants as callee
use Rattle.c_tree.specs.declared.program.CVariable.{CVariable}
use Rattle.c_tree.specs.declared.program.CMember.{CMember}
use Rattle.c_tree.specs.declared.program.CDeclaration.{CDeclaration}
use Rattle.c_tree.specs.declared.program.CDeclaration.TheVariants as d
use Rattle.c_tree.specs.declared.program.CPrototype.{CPrototype}
use Rattle.c_tree.specs.declared.program.CFunction.{CFunction}
use Rattle.c_tree.specs.declared.program.CProgram.{CProgram}
use Rattle.c_meaning.specs.declared.StuckKind.{StuckKind}
use Rattle.c_meaning.specs.Runs.{CAnswer, End, Stuck}
use Rattle.c_meaning.specs.Whole.{run}

abbrev pub Text : Type 0
Text = List ℕ

-- names
abbrev pub a : Text
a = codes "a"

abbrev pub b : Text
b = codes "b"

abbrev pub c : Text
c = codes "c"

abbrev pub p : Text
p = codes "p"

abbrev pub q : Text
q = codes "q"

abbrev pub i : Text
i = codes "i"

abbrev pub r : Text
r = codes "r"

abbrev pub f : Text
f = codes "f"

abbrev pub g : Text
g = codes "g"

abbrev pub s : Text
s = codes "s"

abbrev pub out : Text
out = codes "out"

-- places and expressions
abbrev pub var : Text → Place
var x = t.Variable x

abbrev pub read : Text → Expr
read x = t.Read (t.Variable x)

abbrev pub num : ℕ → Expr
num n = t.Number n

abbrev pub address : Text → Expr
address x = t.Address (t.Variable x)

-- the target of a pointer variable
abbrev pub target : Text → Place
target x = t.Pointee (read x)

-- variables
abbrev pub variable : Text → ObjectType → CVariable
variable x of = record { name = x; of = of }

abbrev pub ints : List Text → List CVariable
ints [] = []
ints (x ∷ xs) = variable x t.Int ∷ ints xs

-- statements
abbrev pub set : Text → Expr → Statement
set x e = t.Assign (t.Variable x) e

abbrev pub put : Expr → Statement
put e = t.PutChar e

abbrev pub give : Expr → Statement
give e = t.Return (Some e)

abbrev pub stop : Statement
stop = t.Return (Some (t.Number 0))

abbrev pub when : Expr → List Statement → Statement
when e body = t.If e (body_of body)

abbrev pub loop : Expr → List Statement → Statement
loop e body = t.While e (body_of body)

abbrev pub call : Text → List Expr → Statement
call x arguments = t.Call None (callee.Direct x) arguments

abbrev pub ask : Text → Text → List Expr → Statement
ask into x arguments = t.Call (Some (t.Variable into)) (callee.Direct x) arguments

-- the types of the examples: a struct with a number and three bytes, one that holds it, and pointers to functions of one number
abbrev pub s_t : Text
s_t = codes "s_t"

abbrev pub k : Text
k = codes "k"

abbrev pub bytes : Text
bytes = codes "bytes"

abbrev pub o_t : Text
o_t = codes "o_t"

abbrev pub x : Text
x = codes "x"

abbrev pub y : Text
y = codes "y"

abbrev pub f_t : Text
f_t = codes "f_t"

-- typedef int64_t (*f_t)(int64_t); struct s_t { int64_t k; unsigned char bytes[3]; }; struct o_t { struct s_t x; struct s_t y; struct o_t *p; };
abbrev pub declarations : List CDeclaration
declarations =
    d.Typedef (record { name = f_t; result = Some t.Int; parameters = t.Int ∷ [] })
    ∷ d.Struct (record { name = s_t; members = member k t.Int None ∷ member bytes t.Byte (Some 3) ∷ [] })
    ∷ d.Struct (record { name = o_t; members = member x (t.Struct s_t) None ∷ member y (t.Struct s_t) None ∷ member p (t.Pointer (t.Struct o_t)) None ∷ [] })
    ∷ [] where
      member : Text → ObjectType → Option ℕ → CMember
      member n of length = record { name = n; of = of; length = length }

abbrev pub function : Text → Option ObjectType → List CVariable → List CVariable → List Statement → CFunction
function n result parameters locals body = record { name = n; result = result; parameters = parameters; locals = locals; body = body }

abbrev pub program : List CVariable → List CPrototype → List CFunction → List CVariable → List Statement → CProgram
program globals prototypes functions locals body = record { forwards = []; declarations = declarations; globals = globals; prototypes = prototypes; functions = functions; main = record { locals = locals; body = body } }

-- a program that is `main` alone
abbrev pub main : List CVariable → List Statement → CProgram
main locals body = program [] [] [] locals body

-- ends with the value of an expression as its status
abbrev pub gives : Expr → CProgram
gives e = main [] (give e ∷ [])

abbrev pub expressions : List (Expr × ℕ) → List CAnswer
expressions [] = []
expressions (e ∷ rest) = run (gives e.0) [] 1 ∷ expressions rest

abbrev pub statuses : List (Expr × ℕ) → List CAnswer
statuses [] = []
statuses (e ∷ rest) = End [] e.1 [] ∷ statuses rest

abbrev pub stuck_expressions : List (Expr × StuckKind) → List CAnswer
stuck_expressions [] = []
stuck_expressions (e ∷ rest) = run (gives e.0) [] 1 ∷ stuck_expressions rest

abbrev pub kinds : List (Expr × StuckKind) → List CAnswer
kinds [] = []
kinds (e ∷ rest) = Stuck e.1 [] ∷ kinds rest
