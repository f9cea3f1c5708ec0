-- The state of a C program, and what evaluation sees of it.
use Rattle.std.specs.Prelude.{ℕ, suc, ◌+◌, if◌then◌else◌, List, [], ◌∷◌, map, take, Option, Some, None, slice_set}
use Rattle.std.specs.Str.{bytes_eq}
use Rattle.c_tree.specs.Tree.{ObjectType, Statement}
use Rattle.c_tree.specs.declared.program.CVariable.{CVariable}
use Rattle.c_tree.specs.declared.program.CPrototype.{CPrototype}
use Rattle.c_tree.specs.declared.program.CFunction.{CFunction}
use Rattle.c_tree.specs.declared.program.CProgram.{CProgram}
use Rattle.c_meaning.specs.declared.StuckKind.TheVariants as k
use Rattle.c_meaning.specs.Cells.{Name, Tree, Block, Blocks, block_at, with_part}
use Rattle.c_meaning.specs.Answer.{Answer, Got, Bad, or_else}
use Rattle.c_meaning.specs.Types.{PlaceType, Signature}
use Rattle.c_meaning.specs.Evaluate.{View}

-- variables with the numbers of their blocks
abbrev pub Names : Type 0
Names = List (Name × ℕ)

-- where the answer of a call goes
pub data Target : Type 0 where
  Nowhere : Target
  Into : (block : ℕ) (path : List ℕ) (of : PlaceType) → Target

-- a function that runs
pub record Frame : Type 0 where
  -- its result, and the statements of its text
  pub result : Option ObjectType
  pub body : List Statement
  -- how many functions have their text above it or are it
  pub reach : ℕ
  -- its parameters and locals
  pub names : Names
  -- the statements that it has still to do
  pub todo : List Statement
  -- where its answer goes in the frame below
  pub target : Target

-- a point between two steps
pub record State : Type 0 where
  -- the function that runs, and those that wait for it
  pub frame : Frame
  pub below : List Frame
  -- the globals' blocks are the first ones
  pub blocks : Blocks
  pub input : List ℕ
  pub output : List ℕ
  pub calls : List ℕ

-- ---- names

-- a local variable or parameter
unfoldable pub lookup : Name → Names → Option ℕ
lookup x [] = None
lookup x (n ∷ names) = if bytes_eq x n.0 then Some n.1 else lookup x names

-- a global, counted from i
unfoldable pub global_from : ℕ → Name → List CVariable → Option ℕ
global_from i x [] = None
global_from i x (g ∷ rest) = if bytes_eq x g.name then Some i else global_from (i + 1) x rest

-- the block of a variable: a local or a parameter, or else a global
unfoldable pub number_of : CProgram → Names → Name → Option ℕ
number_of c names x = or_else (lookup x names) (global_from 0 x c.globals)

-- the function with a name
unfoldable pub function_of : Name → List CFunction → Option CFunction
function_of x [] = None
function_of x (f ∷ rest) = if bytes_eq x f.name then Some f else function_of x rest

-- how many functions there are up to the one with the name
unfoldable pub reach_of : Name → List CFunction → ℕ
reach_of x [] = 0
reach_of x (f ∷ rest) = if bytes_eq x f.name then 1 else suc (reach_of x rest)

-- the type of a parameter
unfoldable pub variable_type : CVariable → ObjectType
variable_type x = x.of

-- what the line that announces a function says of it
unfoldable pub announced : Name → List CPrototype → Option Signature
announced x [] = None
announced x (q ∷ rest) = if bytes_eq x q.name then Some (record { result = q.result; parameters = map variable_type q.parameters }) else announced x rest

-- what its text says of it
unfoldable pub written : Name → List CFunction → Option Signature
written x [] = None
written x (f ∷ rest) = if bytes_eq x f.name then Some (record { result = f.result; parameters = map variable_type f.parameters }) else written x rest

-- the signature of a function that is announced, or has its text among the first ones
unfoldable pub signature_of : CProgram → (reach : ℕ) → Name → Option Signature
signature_of c reach x = or_else (announced x c.prototypes) (written x (take reach c.functions))

-- ---- blocks

-- the block with a number, where there is one
unfoldable pub numbered : Blocks → Option ℕ → Option Block
numbered blocks None = None
numbered blocks (Some n) = block_at blocks n

-- the blocks after a part of one has changed
unfoldable pub changed : Blocks → ℕ → List ℕ → Tree → Option Block → Answer Blocks
changed blocks n path tree (Some b) = Got (slice_set blocks n (Some (record b { tree = with_part path tree b.tree })))
changed blocks n path tree None = Bad k.GoneUse

-- the same, of the block with a number
unfoldable pub store : Blocks → ℕ → List ℕ → Tree → Answer Blocks
store blocks n path tree = changed blocks n path tree (block_at blocks n)

-- the same, of a variable
unfoldable pub store_named : Blocks → Option ℕ → List ℕ → Tree → Answer Blocks
store_named blocks None path tree = Bad k.UnknownName
store_named blocks (Some n) path tree = store blocks n path tree

-- the blocks without those of some variables
unfoldable pub without : Names → Blocks → Blocks
without [] blocks = blocks
without (n ∷ names) blocks = without names (slice_set blocks n.1 None)

-- what a function with these names sees of the blocks
unfoldable pub view : CProgram → (reach : ℕ) → Names → Blocks → View
view c reach names blocks = record {
  declared = c.declarations;
  function = λ x. signature_of c reach x;
  number = λ x. number_of c names x;
  named = λ x. numbered blocks (number_of c names x);
  block = λ n. block_at blocks n;
  put_named = λ x path tree. store_named blocks (number_of c names x) path tree;
  put_block = λ n path tree. store blocks n path tree;
}
