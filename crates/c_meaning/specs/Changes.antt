-- Which blocks a step may change, and what a change may be.
use Rattle.std.specs.Prelude.{◌≡◌, ◌≢◌, ℕ, ◌<◌, ◌≤◌, List, [], ◌∷◌, ◌++◌, length, Some, None, slice_get}
use Rattle.c_tree.specs.Tree as t
use Rattle.c_tree.specs.Tree.{Statement}
use Rattle.c_tree.specs.declared.program.CProgram.{CProgram}
use Rattle.c_meaning.specs.Cells.{Pointer, Leaf, Block, Blocks, block_at}
use Rattle.c_meaning.specs.Answer.{Answer, Got, Bad, ◌>>=◌}
use Rattle.c_meaning.specs.Values.{Value, Typed}
use Rattle.c_meaning.specs.Evaluate.{View, Site, root_number, value, place}
use Rattle.c_meaning.specs.States.{Names, Target, Nowhere, Into, State}
use Rattle.c_meaning.specs.Steps.{view_of}

-- the number is none of these
abbrev pub IsNoneOf : ℕ → List ℕ → Type 0
IsNoneOf n [] = Unit {0}
IsNoneOf n (k ∷ rest) = (n ≢ k) × IsNoneOf n rest

-- from the old blocks come the new ones, where only the blocks with these numbers may change
pub record Changes (touched : List ℕ) (old new : Blocks) : Type 0 where
  -- blocks are only added behind the others, so no number is given twice
  pub grows : length old ≤ length new
  pub others : (n : ℕ) → n < length old → IsNoneOf n touched → slice_get new n ≡ slice_get old n
  -- a block that is gone stays gone
  pub gone : (n : ℕ) → n < length old → block_at old n ≡ None → block_at new n ≡ None
  -- a block keeps its type, and whether `malloc` made it
  pub type_kept : (n : ℕ) (b b' : Block) → block_at old n ≡ Some b → block_at new n ≡ Some b' → b'.of ≡ b.of
  pub heap_kept : (n : ℕ) (b b' : Block) → block_at old n ≡ Some b → block_at new n ≡ Some b' → b'.heap ≡ b.heap

-- ---- the blocks that a step names

-- the number, where there is one
unfoldable pub if_got : Answer ℕ → List ℕ
if_got (Got n) = n ∷ []
if_got (Bad kind) = []

-- the block of a place
unfoldable pub block_of : View → Answer Site → List ℕ
block_of v site = if_got (site >>= (λ s. root_number v s.root))

-- the block to which a value points
unfoldable pub pointed : Answer Value → List ℕ
pointed (Got (Typed of (Leaf (Pointer n path)))) = n ∷ []
pointed _ = []

-- the block for an answer
unfoldable pub target_block : Target → List ℕ
target_block Nowhere = []
target_block (Into n path of) = n ∷ []

-- the blocks of variables
unfoldable pub blocks_of : Names → List ℕ
blocks_of [] = []
blocks_of (n ∷ names) = n.1 ∷ blocks_of names

-- where a function ends: its own blocks, and that of the place for its answer
unfoldable pub touched_at_end : State → List ℕ
touched_at_end st = blocks_of st.frame.names ++ target_block st.frame.target

-- a statement: the block of its place, the one that it frees, or where it ends a function those above
unfoldable pub touched_by : View → State → Statement → List ℕ
touched_by v st (t.Assign at a) = block_of v (place v at)
touched_by v st (t.Malloc at of) = block_of v (place v at)
touched_by v st (t.GetChar at) = block_of v (place v at)
touched_by v st (t.Free a) = pointed (value v a)
touched_by v st (t.Return a) = touched_at_end st
touched_by v st _ = []

-- the first statement that is still to do, or the fall from the end
unfoldable pub touched_next : View → State → List Statement → List ℕ
touched_next v st [] = touched_at_end st
touched_next v st (s ∷ rest) = touched_by v st s

-- the blocks that the next step may change
unfoldable pub touched : CProgram → State → List ℕ
touched c st = touched_next (view_of c st) st st.frame.todo
