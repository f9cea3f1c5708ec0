-- The states of a program: the globals are the first blocks, and nothing names a block that was not made yet.
use Rattle.std.specs.Prelude.{◌≡◌, ℕ, ◌<◌, ◌≤◌, false, List, [], ◌∷◌, length, Some, None}
use Rattle.c_tree.specs.declared.program.CVariable.{CVariable}
use Rattle.c_tree.specs.declared.program.CProgram.{CProgram}
use Rattle.c_meaning.specs.Cells.{Cell, Pointer, Tree, Leaf, Fork, End, Blocks}
use Rattle.c_meaning.specs.States.{Names, Target, Nowhere, Into, Frame, State}

-- n blocks were made, and the cell points to none but these
abbrev pub CellBelow : ℕ → Cell → Type 0
CellBelow n (Pointer block path) = block < n
CellBelow n _ = Unit {0}

-- no cell of the tree does otherwise
abbrev pub TreeBelow : ℕ → Tree → Type 0
TreeBelow n (Leaf cell) = CellBelow n cell
TreeBelow n (Fork a rest) = TreeBelow n a × TreeBelow n rest
TreeBelow n End = Unit {0}

-- and none of these blocks
abbrev pub BlocksBelow : ℕ → Blocks → Type 0
BlocksBelow n [] = Unit {0}
BlocksBelow n (None ∷ rest) = BlocksBelow n rest
BlocksBelow n (Some b ∷ rest) = TreeBelow n b.tree × BlocksBelow n rest

-- the globals are the first blocks, of their types
abbrev pub HasGlobals : List CVariable → Blocks → Type 0
HasGlobals [] blocks = Unit {0}
HasGlobals (g ∷ rest) [] = ⊥
HasGlobals (g ∷ rest) (None ∷ blocks) = ⊥
HasGlobals (g ∷ rest) (Some b ∷ blocks) = (b.of ≡ g.of) × (b.heap ≡ false) × HasGlobals rest blocks

-- the blocks of some variables lie behind the globals, and were made
abbrev pub NamesWithin : (globals made : ℕ) → Names → Type 0
NamesWithin globals made [] = Unit {0}
NamesWithin globals made (n ∷ rest) = (globals ≤ n.1) × (n.1 < made) × NamesWithin globals made rest

-- the block for an answer was made
abbrev pub TargetBelow : ℕ → Target → Type 0
TargetBelow n Nowhere = Unit {0}
TargetBelow n (Into block path of) = block < n

-- the variables of a function and the place for its answer are such blocks
pub record FrameWithin (globals made : ℕ) (f : Frame) : Type 0 where
  pub names : NamesWithin globals made f.names
  pub target : TargetBelow made f.target

-- and those of the functions that wait
abbrev pub FramesWithin : (globals made : ℕ) → List Frame → Type 0
FramesWithin globals made [] = Unit {0}
FramesWithin globals made (f ∷ rest) = FrameWithin globals made f × FramesWithin globals made rest

-- a state of a program
pub record IsStateOf (c : CProgram) (st : State) : Type 0 where
  pub globals : HasGlobals c.globals st.blocks
  pub cells : BlocksBelow (length st.blocks) st.blocks
  pub frame : FrameWithin (length c.globals) (length st.blocks) st.frame
  pub below : FramesWithin (length c.globals) (length st.blocks) st.below
