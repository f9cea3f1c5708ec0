-- What stores tell, and what places take.
use Rattle.std.specs.Prelude.{◌≡◌, ℕ, ℤ, pos, negsuc, Bool, not, List, [], length, Option, Some, None, nat_lt, slice_set, Result, Ok, Err}
use Rattle.c_tree.specs.Tree as t
use Rattle.c_meaning.specs.Evaluate.{View, Site, value, place}
use Rattle.c_meaning.specs.Steps.{put_value, free_value}
use Rattle.c_tree.specs.Tree.{ObjectType}
use Rattle.c_tree.specs.declared.program.CDeclaration.{CDeclaration}
use Rattle.c_meaning.specs.declared.StuckKind.TheVariants as k
use Rattle.c_meaning.specs.Cells.{Tree, Leaf, Pointer, Blocks}
use Rattle.c_meaning.specs.Answer.{Answer, Got, Bad, ◌>>=◌, when}
use Rattle.c_meaning.specs.Types.{Of, alike}
use Rattle.c_meaning.specs.Values.{Value, Typed, int, as_int, is_zero, byte_of}
use Rattle.c_meaning.specs.States as m
use Rattle.c_evaluation.specs.Values.{tree_in, type_in}
use Rattle.c_cells.specs.declared.halt.Halt.{Halt}
use Rattle.c_cells.specs.declared.halt.Halt.TheVariants.{Stuck, Memory}
use Rattle.c_evaluation.specs.declared.store.Store.{Store}

-- the blocks after the store are these
abbrev pub Stores : Blocks → Result Store Halt → Answer Blocks → Type 0
Stores blocks (Ok s) answer = m.store blocks s.number s.path s.tree ≡ answer
Stores blocks (Err (Stuck kind)) answer = Bad kind ≡ answer
Stores blocks (Err Memory) answer = Unit {0}

abbrev pub byte_taken : Value → Answer Tree
byte_taken x = as_int x >>= byte_of

abbrev pub alike_taken : List CDeclaration → ObjectType → Value → Answer Tree
alike_taken ds of x = when (alike ds (Of of) (type_in x)) k.Mismatch (Got (tree_in x))

-- the place is found, or is not there for this cause; nothing is told where memory is short
abbrev pub Finds : Result (Unit {0}) Halt → Answer Site → Type 0
Finds (Ok done) answer = (site : Site) × (answer ≡ Got site)
Finds (Err (Stuck kind)) answer = answer ≡ Bad kind
Finds (Err Memory) answer = Unit {0}

-- ---- statements

-- the number that stands for the byte that comes next, or for the end
abbrev pub next_number : Option ℕ → ℤ
next_number (Some b) = pos b
next_number None = negsuc 0

-- the blocks after that number is stored
abbrev pub byte_stored : View → t.Place → Option ℕ → Answer Blocks
byte_stored v at byte = place v at >>= (λ site. put_value v site (int (next_number byte)))

-- the blocks after the address of a new block is stored, which is not made yet
abbrev pub address_stored : View → Blocks → t.Place → ObjectType → Answer Blocks
address_stored v blocks at of = place v at >>= (λ site. put_value v site (Typed (Of (t.Pointer of)) (Leaf (Pointer (length blocks) []))))

-- a number that is a byte
abbrev pub byte_of_number : ℤ → Answer ℕ
byte_of_number (pos n) = when (nat_lt n 256) k.BadByteValue (Got n)
byte_of_number (negsuc n) = Bad k.BadByteValue

abbrev pub byte_number : Value → Answer ℕ
byte_number x = as_int x >>= byte_of_number

-- the byte that is written of an expression
abbrev pub byte_put : View → t.Expr → Answer ℕ
byte_put v a = value v a >>= byte_number

-- what a test says
abbrev pub truth_in : Value → Answer Bool
truth_in x = as_int x >>= (λ z. Got (not (is_zero z)))

abbrev pub chosen : View → t.Expr → Answer Bool
chosen v a = value v a >>= truth_in

-- the blocks after one of them is gone, or none
abbrev pub without_one : Blocks → Option ℕ → Blocks
without_one blocks None = blocks
without_one blocks (Some n) = slice_set blocks n None

-- the blocks after this one is gone are these
abbrev pub Frees : Blocks → Result (Option ℕ) Halt → Answer Blocks → Type 0
Frees blocks (Ok o) answer = Got (without_one blocks o) ≡ answer
Frees blocks (Err (Stuck kind)) answer = Bad kind ≡ answer
Frees blocks (Err Memory) answer = Unit {0}

abbrev pub freed_of : View → Blocks → t.Expr → Answer Blocks
freed_of v blocks a = value v a >>= free_value blocks
