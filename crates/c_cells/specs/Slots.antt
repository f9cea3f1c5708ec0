-- The blocks of slots.
use Rattle.std.specs.Prelude.{◌≡◌, ℕ, zero, suc, ◌+◌, ℤ, false, List, Option, Some, None, slice_get, slice_set}
use Rattle.c_tree.specs.Tree as t
use Rattle.c_meaning.specs.declared.StuckKind.TheVariants as k
use Rattle.c_meaning.specs.Cells.{Cell, Empty, Int, Tree, Leaf, Block, Blocks, with_part}
use Rattle.c_meaning.specs.Answer.{Answer, Got, Bad}
use Rattle.c_cells.specs.declared.slot.SlotNode.{SlotNode}
use Rattle.c_cells.specs.declared.slot.SlotNode.TheVariants as node
use Rattle.c_cells.specs.declared.slot.Found.{Found}
use Rattle.c_cells.specs.declared.slot.Found.TheVariants as f

-- the block of an `int64_t` variable
abbrev pub int_block : Cell → Block
int_block cell = record { of = t.Int; tree = Leaf cell; heap = false }

abbrev pub slot_of : SlotNode → Option Block
slot_of node.Gone = None
slot_of node.Unset = Some (int_block Empty)
slot_of (node.Number z) = Some (int_block (Int z))
slot_of (node.Block b) = Some b.value

-- the cell of a number, or of none yet
abbrev pub int_cell : Option ℤ → Cell
int_cell None = Empty
int_cell (Some z) = Int z

abbrev pub found_block : Found → Block
found_block (f.Int number) = int_block (int_cell number)
found_block (f.Block b) = b.now

-- the block is there, and that of an `int64_t` variable
abbrev pub IsIntSlot : Option Block → Type 0
IsIntSlot slot = (cell : Cell) × (slot ≡ Some (int_block cell))

-- the same of the block with a number
abbrev pub HoldsInt : Blocks → ℕ → Type 0
HoldsInt blocks n = (cell : Cell) × (slice_get blocks n ≡ Some (Some (int_block cell)))

-- the same block with another part at a path
abbrev pub changed_block : List ℕ → Tree → Option Block → Answer (Option Block)
changed_block path new None = Bad k.GoneUse
changed_block path new (Some b) = Got (Some (record b { tree = with_part path new b.tree }))

-- the blocks without so many, from the one with this number on
unfoldable pub removed : (first count : ℕ) → Blocks → Blocks
removed first zero blocks = blocks
removed first (suc k) blocks = removed (first + 1) k (slice_set blocks first None)
