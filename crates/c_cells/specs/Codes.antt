-- The codes of cells and of their trees.
use Rattle.std.specs.Prelude.{◌≡◌, [], ◌∷◌, ℤ, pos, negsuc, refl}
use Rattle.std.specs.Coded.{Coded}
use Rattle.std.proofs.Common.{ap}
use base.Stored.{Gv, gnil, gnum, gcons, num}
use Rattle.c_tree.specs.Codes.{Stored, coded, pick, names, lists, options}
use Rattle.c_meaning.specs.Cells.{Cell, Empty, Int, Word, Byte, Null, Pointer, Function, Tree, Leaf, Fork, End, Block, Blocks}
use Rattle.c_tree.specs.types.Code.{types}
use Rattle.std.specs.Prelude.{Bool, true, false, Option}

abbrev int_code : ℤ → Gv
int_code (pos n) = gcons (gnum 0) (gnum n)
int_code (negsuc n) = gcons (gnum 1) (gnum n)

abbrev int_back : Gv → ℤ
int_back (gcons t x) = pick (pos (num x) ∷ []) (num t) (negsuc (num x))
int_back _ = pos 0

pub int_undoes : (z : ℤ) → int_back (int_code z) ≡ z
int_undoes (pos n) = refl
int_undoes (negsuc n) = refl

abbrev cell_code : Cell → Gv
cell_code Empty = gcons (gnum 0) gnil
cell_code Null = gcons (gnum 1) gnil
cell_code (Int z) = gcons (gnum 2) (int_code z)
cell_code (Word n) = gcons (gnum 3) (gnum n)
cell_code (Byte n) = gcons (gnum 4) (gnum n)
cell_code (Function name) = gcons (gnum 5) (names.code name)
cell_code (Pointer block path) = gcons (gnum 6) (gcons (gnum block) (names.code path))

abbrev pointer_back : Gv → Cell
pointer_back (gcons block path) = Pointer (num block) (names.back path)
pointer_back _ = Empty

abbrev cell_back : Gv → Cell
cell_back (gcons t x) = pick (Empty ∷ Null ∷ Int (int_back x) ∷ Word (num x) ∷ Byte (num x) ∷ Function (names.back x) ∷ []) (num t) (pointer_back x)
cell_back _ = Empty

pub cell_undoes : (c : Cell) → cell_back (cell_code c) ≡ c
cell_undoes Empty = refl
cell_undoes Null = refl
cell_undoes (Int z) = ap Int (int_undoes z)
cell_undoes (Word n) = refl
cell_undoes (Byte n) = refl
cell_undoes (Function name) = ap Function (names.undoes name)
cell_undoes (Pointer block path) = ap (Pointer block) (names.undoes path)

abbrev cells : Stored Cell
cells = record { code = cell_code; back = cell_back; undoes = cell_undoes }

abbrev pub coded_cell : Coded Cell
coded_cell = coded cells

abbrev tree_code : Tree → Gv
tree_code (Leaf c) = gcons (gnum 0) (cell_code c)
tree_code (Fork a rest) = gcons (gnum 1) (gcons (tree_code a) (tree_code rest))
tree_code End = gnil

abbrev mutual
  tree_back : Gv → Tree
  tree_back (gcons t x) = pick (Leaf (cell_back x) ∷ []) (num t) (fork_back x)
  tree_back _ = End

  fork_back : Gv → Tree
  fork_back (gcons a rest) = Fork (tree_back a) (tree_back rest)
  fork_back _ = End

pub tree_undoes : (a : Tree) → tree_back (tree_code a) ≡ a
tree_undoes (Leaf c) = ap Leaf (cell_undoes c)
tree_undoes (Fork a rest) = λ i. Fork (tree_undoes a i) (tree_undoes rest i)
tree_undoes End = refl

abbrev trees : Stored Tree
trees = record { code = tree_code; back = tree_back; undoes = tree_undoes }

abbrev pub coded_tree : Coded Tree
coded_tree = coded trees

abbrev flag_code : Bool → Gv
flag_code true = gnil
flag_code false = gnum 0

abbrev flag_back : Gv → Bool
flag_back gnil = true
flag_back _ = false

pub flag_undoes : (b : Bool) → flag_back (flag_code b) ≡ b
flag_undoes true = refl
flag_undoes false = refl

abbrev block_code : Block → Gv
block_code b = gcons (types.code b.of) (gcons (tree_code b.tree) (flag_code b.heap))

abbrev block_back : Gv → Block
block_back (gcons of (gcons tree heap)) = record { of = types.back of; tree = tree_back tree; heap = flag_back heap }
block_back _ = record { of = types.back gnil; tree = End; heap = true }

pub block_undoes : (b : Block) → block_back (block_code b) ≡ b
block_undoes b = λ i. record { of = types.undoes b.of i; tree = tree_undoes b.tree i; heap = flag_undoes b.heap i }

abbrev blocks : Stored Block
blocks = record { code = block_code; back = block_back; undoes = block_undoes }

abbrev pub coded_block : Coded Block
coded_block = coded blocks

abbrev maybe_blocks : Stored (Option Block)
maybe_blocks = options blocks

abbrev pub coded_slot : Coded (Option Block)
coded_slot = coded maybe_blocks

abbrev all_blocks : Stored Blocks
all_blocks = lists maybe_blocks

abbrev pub coded_blocks : Coded Blocks
coded_blocks = coded all_blocks
