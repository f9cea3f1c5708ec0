-- Numbers whose names are resolved.
use Rattle.std.specs.Prelude.{◌≡◌, Bool, ℕ, ◌+◌, ℤ, pos, List, ◌++◌, Some, None}
use Rattle.c_tree.specs.Tree as t
use Rattle.c_tree.specs.Tree.{Expr, Place}
use Rattle.c_tree.specs.declared.operators.CBinary.{CBinary}
use Rattle.c_tree.specs.declared.program.CDeclaration.{CDeclaration}
use Rattle.c_tree.specs.declared.program.CVariable.{CVariable}
use Rattle.c_tree.specs.declared.program.CProgram.{CProgram}
use Rattle.c_meaning.specs.Cells.{Name, Blocks}
use Rattle.c_meaning.specs.Answer.{Got}
use Rattle.c_meaning.specs.Values.{int, joined}
use Rattle.c_meaning.specs.Evaluate.{value}
use Rattle.c_meaning.specs.States.{number_of, view}
use Rattle.c_meaning.specs.Steps.{names_from, assign}
use Rattle.c_evaluation.specs.Stores.{chosen}
use Rattle.c_evaluation.specs.declared.function_names.Names.{Names}
use Rattle.c_evaluation.specs.declared.numbers.Variable.{Variable}
use Rattle.c_evaluation.specs.declared.numbers.Variable.TheVariants as v
use Rattle.c_evaluation.specs.declared.numbers.Operand.{Operand}
use Rattle.c_evaluation.specs.declared.numbers.Operand.TheVariants as o
use Rattle.c_evaluation.specs.declared.numbers.Number.{Number}
use Rattle.c_evaluation.specs.declared.numbers.Number.TheVariants as n

-- the variables of a function: its parameters and then its locals
abbrev pub variables_of : Names → List CVariable
variables_of names = names.parameters.now ++ names.locals.now

-- the number of a variable's block, where those of its function begin at base
abbrev pub place_number : ℕ → Variable → ℕ
place_number base (v.Own at) = base + at
place_number base (v.Global at) = at

-- wherever the blocks of the function begin, the name names the variable
abbrev pub NamesVariable : CProgram → List CVariable → Variable → Name → Type 0
NamesVariable c vars variable x = (base : ℕ) → number_of c (names_from base vars) x ≡ Some (place_number base variable)

-- and it names none
abbrev pub NamesNone : CProgram → List CVariable → Name → Type 0
NamesNone c vars x = (base : ℕ) → number_of c (names_from base vars) x ≡ None

-- the place is a name of the variable
abbrev pub IsVariable : CProgram → List CVariable → Variable → Place → Type 0
IsVariable c vars variable at = (x : Name) × (at ≡ t.Variable x) × NamesVariable c vars variable x

-- the operand is the expression
abbrev pub IsOperand : CProgram → List CVariable → Operand → Expr → Type 0
IsOperand c vars (o.Variable variable) e = (at : Place) × (e ≡ t.Read at) × IsVariable c vars variable at
IsOperand c vars (o.Written z) e = (m : ℕ) × (e ≡ t.Number m) × (pos m ≡ z)

-- the number is the expression, with variables in place of names
abbrev pub Resolves : CProgram → List CVariable → Number → Expr → Type 0
Resolves c vars (n.Operand a) e = IsOperand c vars a e
Resolves c vars (n.Pair op a b) e = (x : Expr) × (y : Expr) × (e ≡ t.Binary op x y) × IsOperand c vars a x × IsOperand c vars b y
Resolves c vars (n.Two' op p a q b) e = (x : Expr) × (y : Expr) × (e ≡ t.Binary op x y) × Resolves c vars a x × Resolves c vars b y

-- each expression that the operand is has this value in a function whose variables' blocks begin at base
abbrev pub Holds : Blocks → ℕ → Operand → ℤ → Type 0
Holds blocks base a z = (c : CProgram) (reach : ℕ) (vars : List CVariable) (e : Expr) → IsOperand c vars a e
    → value (view c reach (names_from base vars) blocks) e ≡ Got (int z)

-- each expression that the number is has this value in a function whose variables' blocks begin at base
abbrev pub Evaluates : Blocks → ℕ → Number → ℤ → Type 0
Evaluates blocks base number z = (c : CProgram) (reach : ℕ) (vars : List CVariable) (e : Expr) → Resolves c vars number e
    → value (view c reach (names_from base vars) blocks) e ≡ Got (int z)

-- the same of an operator between two operands
abbrev pub EvaluatesPair : Blocks → ℕ → CBinary → (a b : Operand) → ℤ → Type 0
EvaluatesPair blocks base op a b z = (x : ℤ) × (y : ℤ) × Holds blocks base a x × Holds blocks base b y × ((ds : List CDeclaration) → joined ds op (int x) (Got (int y)) ≡ Got (int z))

-- and between two numbers
abbrev pub EvaluatesTwo : Blocks → ℕ → CBinary → (a b : Number) → ℤ → Type 0
EvaluatesTwo blocks base op a b z = (x : ℤ) × (y : ℤ) × Evaluates blocks base a x × Evaluates blocks base b y × ((ds : List CDeclaration) → joined ds op (int x) (Got (int y)) ≡ Got (int z))

-- with these blocks before and after, each place that the variable is gets the value of each expression that the number is
abbrev pub Puts : (old new : Blocks) → ℕ → Variable → Number → Type 0
Puts old new base variable number = (c : CProgram) (reach : ℕ) (vars : List CVariable) (at : Place) (e : Expr) → IsVariable c vars variable at → Resolves c vars number e
    → assign (view c reach (names_from base vars) old) at e ≡ Got new

-- and a test of each such expression says this
abbrev pub Chooses : Blocks → ℕ → Number → Bool → Type 0
Chooses blocks base number b = (c : CProgram) (reach : ℕ) (vars : List CVariable) (e : Expr) → Resolves c vars number e → chosen (view c reach (names_from base vars) blocks) e ≡ Got b
