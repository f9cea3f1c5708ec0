-- What a store, a new block and the end of a block do to a good memory.
use Rattle.std.proofs.Common.{◌≡◌, ℕ, zero, suc, ◌≤◌, List, [], ◌∷◌, ◌++◌, length, Bool, true, false, Option, Some, None, refl, sym, ap, subst, ◌∙◌, arith}
use Rattle.std.specs.Prelude.{slice_set, if◌then◌else◌, reverse}
use Rattle.std.specs.Str.{bytes_eq}
use Rattle.c_tree.specs.Tree as t
use Rattle.c_tree.specs.Tree.{ObjectType}
use Rattle.c_tree.specs.declared.program.CMember.{CMember}
use Rattle.c_tree.specs.declared.program.CVariable.{CVariable}
use Rattle.c_tree.specs.declared.program.CDeclaration.{CDeclaration}
use Rattle.c_tree.specs.declared.program.CDeclaration.TheVariants as d
use Rattle.c_meaning.specs.Cells.{Name, Cell, Empty, Int, Word, Byte, Null, Pointer, Function, Tree, Leaf, Fork, End, Block, Blocks, block_at, joined_option, with_child, with_part}
use Rattle.c_meaning.specs.Fresh.{object_tree, copies, member_tree, members_tree, struct_tree, fresh, fresh_block, fresh_blocks}
use Rattle.c_meaning.specs.StateOf.{CellBelow, TreeBelow, BlocksBelow, HasGlobals}

-- ---- more blocks were made

cell_more : (n m : ℕ) (c : Cell) → n ≤ m → CellBelow n c → CellBelow m c
cell_more n m (Pointer b path) l h = omega (arith, l, h)
cell_more n m Empty l h = tt
cell_more n m (Int z) l h = tt
cell_more n m (Word x) l h = tt
cell_more n m (Byte x) l h = tt
cell_more n m Null l h = tt
cell_more n m (Function x) l h = tt

pub tree_more : (n m : ℕ) (a : Tree) → n ≤ m → TreeBelow n a → TreeBelow m a
tree_more n m (Leaf c) l h = cell_more n m c l h
tree_more n m (Fork a rest) l h = (tree_more n m a l h.0, tree_more n m rest l h.1)
tree_more n m End l h = tt

pub blocks_more : (n m : ℕ) (bs : Blocks) → n ≤ m → BlocksBelow n bs → BlocksBelow m bs
blocks_more n m [] l h = tt
blocks_more n m (None ∷ bs) l h = blocks_more n m bs l h
blocks_more n m (Some b ∷ bs) l h = (tree_more n m b.tree l h.0, blocks_more n m bs l h.1)

-- ---- cells of blocks

some_same : {A : Type 0} (x y : A) → Some x ≡ Some y → x ≡ y
some_same x y e = cc

pub block_below : (n : ℕ) (bs : Blocks) (i : ℕ) (b : Block) → BlocksBelow n bs → block_at bs i ≡ Some b → TreeBelow n b.tree
unfolding block_at joined_option
block_below n [] i b h e = cc
block_below n (None ∷ bs) zero b h e = cc
block_below n (Some x ∷ bs) zero b h e = subst (λ b. TreeBelow n b.tree) (some_same x b e) h.0
block_below n (None ∷ bs) (suc i) b h e = block_below n bs i b h e
block_below n (Some x ∷ bs) (suc i) b h e = block_below n bs i b h.1 e

child_changed : (n : ℕ) (a : Tree) (i : ℕ) (f : Tree → Tree) → ((x : Tree) → TreeBelow n x → TreeBelow n (f x)) → TreeBelow n a → TreeBelow n (with_child a i f)
unfolding with_child
child_changed n (Leaf c) i f g h = h
child_changed n End i f g h = h
child_changed n (Fork a rest) zero f g h = (g a h.0, h.1)
child_changed n (Fork a rest) (suc i) f g h = (h.0, child_changed n rest i f g h.1)

pub part_changed : (n : ℕ) (path : List ℕ) (new a : Tree) → TreeBelow n new → TreeBelow n a → TreeBelow n (with_part path new a)
unfolding with_part
part_changed n [] new a g h = g
part_changed n (i ∷ path) new a g h = child_changed n a i (with_part path new) (λ x q. part_changed n path new x g q) h

pub set_below : (n : ℕ) (bs : Blocks) (i : ℕ) (new : Block) → TreeBelow n new.tree → BlocksBelow n bs → BlocksBelow n (slice_set bs i (Some new))
set_below n [] i new g h = tt
set_below n (None ∷ bs) zero new g h = (g, h)
set_below n (Some x ∷ bs) zero new g h = (g, h.1)
set_below n (None ∷ bs) (suc i) new g h = set_below n bs i new g h
set_below n (Some x ∷ bs) (suc i) new g h = (h.0, set_below n bs i new g h.1)

pub drop_below : (n : ℕ) (bs : Blocks) (i : ℕ) → BlocksBelow n bs → BlocksBelow n (slice_set bs i None)
drop_below n [] i h = tt
drop_below n (None ∷ bs) zero h = h
drop_below n (Some x ∷ bs) zero h = h.1
drop_below n (None ∷ bs) (suc i) h = drop_below n bs i h
drop_below n (Some x ∷ bs) (suc i) h = (h.0, drop_below n bs i h.1)

pub append_below : (n : ℕ) (bs new : Blocks) → BlocksBelow n bs → BlocksBelow n new → BlocksBelow n (bs ++ new)
append_below n [] new h g = g
append_below n (None ∷ bs) new h g = append_below n bs new h g
append_below n (Some x ∷ bs) new h g = (h.0, append_below n bs new h.1 g)

-- ---- globals

pub globals_count : (gs : List CVariable) (bs : Blocks) → HasGlobals gs bs → length gs ≤ length bs
globals_count [] bs h = omega arith
globals_count (g ∷ gs) [] h = absurd h
globals_count (g ∷ gs) (None ∷ bs) h = absurd h
globals_count (g ∷ gs) (Some b ∷ bs) h = omega (arith, globals_count gs bs h.2)

pub globals_set : (gs : List CVariable) (bs : Blocks) (n : ℕ) (b new : Block) → block_at bs n ≡ Some b → new.of ≡ b.of → new.heap ≡ b.heap → HasGlobals gs bs → HasGlobals gs (slice_set bs n (Some new))
unfolding block_at joined_option
globals_set [] bs n b new e of heap h = tt
globals_set (g ∷ gs) [] n b new e of heap h = absurd h
globals_set (g ∷ gs) (None ∷ bs) n b new e of heap h = absurd h
globals_set (g ∷ gs) (Some x ∷ bs) zero b new e of heap h =
    let same : b ≡ x = some_same b x (sym e) in (of ∙ ap (λ b. b.of) same ∙ h.0, heap ∙ ap (λ b. b.heap) same ∙ h.1, h.2)
globals_set (g ∷ gs) (Some x ∷ bs) (suc n) b new e of heap h = (h.0, h.1, globals_set gs bs n b new e of heap h.2)

pub globals_freed : (gs : List CVariable) (bs : Blocks) (n : ℕ) (b : Block) → block_at bs n ≡ Some b → b.heap ≡ true → HasGlobals gs bs → HasGlobals gs (slice_set bs n None)
unfolding block_at joined_option
globals_freed [] bs n b e heap h = tt
globals_freed (g ∷ gs) [] n b e heap h = absurd h
globals_freed (g ∷ gs) (None ∷ bs) n b e heap h = absurd h
globals_freed (g ∷ gs) (Some x ∷ bs) zero b e heap h =
    let same : b ≡ x = some_same b x (sym e) in let no : true ≡ false = sym heap ∙ ap (λ b. b.heap) same ∙ h.1 in cc
globals_freed (g ∷ gs) (Some x ∷ bs) (suc n) b e heap h = (h.0, h.1, globals_freed gs bs n b e heap h.2)

pub globals_left : (gs : List CVariable) (bs : Blocks) (n : ℕ) → length gs ≤ n → HasGlobals gs bs → HasGlobals gs (slice_set bs n None)
globals_left [] bs n l h = tt
globals_left (g ∷ gs) [] n l h = absurd h
globals_left (g ∷ gs) (None ∷ bs) n l h = absurd h
globals_left (g ∷ gs) (Some x ∷ bs) zero l h = absurd (omega (arith, l))
globals_left (g ∷ gs) (Some x ∷ bs) (suc n) l h = (h.0, h.1, globals_left gs bs n (omega (arith, l)) h.2)

pub globals_append : (gs : List CVariable) (bs new : Blocks) → HasGlobals gs bs → HasGlobals gs (bs ++ new)
globals_append [] bs new h = tt
globals_append (g ∷ gs) [] new h = absurd h
globals_append (g ∷ gs) (None ∷ bs) new h = absurd h
globals_append (g ∷ gs) (Some b ∷ bs) new h = (h.0, h.1, globals_append gs bs new h.2)

-- ---- fresh blocks

leaf_fresh : (n : ℕ) (q : Bool) (a c : Cell) → CellBelow n a → CellBelow n c → TreeBelow n (Leaf (if q then a else c))
leaf_fresh n true a c h g = h
leaf_fresh n false a c h g = g

object_fresh : (n : ℕ) (q : Bool) (f : Name → Tree) (of : ObjectType) → ((x : Name) → TreeBelow n (f x)) → TreeBelow n (object_tree q f of)
unfolding object_tree
object_fresh n q f t.Int h = leaf_fresh n q _ _ tt tt
object_fresh n q f t.Word h = leaf_fresh n q _ _ tt tt
object_fresh n q f t.Byte h = leaf_fresh n q _ _ tt tt
object_fresh n q f (t.Struct x) h = h x
object_fresh n q f (t.Named x) h = leaf_fresh n q _ _ tt tt
object_fresh n q f t.VoidPointer h = leaf_fresh n q _ _ tt tt
object_fresh n q f (t.Pointer of) h = leaf_fresh n q _ _ tt tt

copies_fresh : (n m : ℕ) (a : Tree) → TreeBelow n a → TreeBelow n (copies m a)
unfolding copies
copies_fresh n zero a h = tt
copies_fresh n (suc m) a h = (h, copies_fresh n m a h)

member_fresh : (n : ℕ) (o : Option ℕ) (a : Tree) → TreeBelow n a → TreeBelow n (member_tree o a)
unfolding member_tree
member_fresh n None a h = h
member_fresh n (Some m) a h = copies_fresh n m a h

members_fresh : (n : ℕ) (q : Bool) (f : Name → Tree) (ms : List CMember) → ((x : Name) → TreeBelow n (f x)) → TreeBelow n (members_tree q f ms)
unfolding members_tree
members_fresh n q f [] h = tt
members_fresh n q f (x ∷ rest) h = (member_fresh n x.length _ (object_fresh n q f x.of h), members_fresh n q f rest h)

struct_fresh : (n : ℕ) (q : Bool) (ds : List CDeclaration) (x : Name) → TreeBelow n (struct_tree q ds x)
unfolding struct_tree
struct_fresh n q [] x = tt
struct_fresh n q (d.Typedef f ∷ above) x = struct_fresh n q above x
struct_fresh n q (d.Struct s ∷ above) x =
    elim (bytes_eq x s.name) as (λ b. TreeBelow n (elim b [ true ↦ members_tree q (struct_tree q above) s.members | false ↦ struct_tree q above x ])) [ true ↦ members_fresh n q _ s.members (λ y. struct_fresh n q above y) | false ↦ struct_fresh n q above x ]

pub fresh_below : (n : ℕ) (q : Bool) (ds : List CDeclaration) (of : ObjectType) → TreeBelow n (fresh q ds of)
unfolding fresh
fresh_below n q ds of = object_fresh n q _ of (λ x. struct_fresh n q (reverse ds) x)

pub fresh_blocks_below : (n : ℕ) (q : Bool) (ds : List CDeclaration) (xs : List CVariable) → BlocksBelow n (fresh_blocks q ds xs)
unfolding fresh_blocks fresh_block
fresh_blocks_below n q ds [] = tt
fresh_blocks_below n q ds (x ∷ xs) = (fresh_below n q ds x.of, fresh_blocks_below n q ds xs)

pub fresh_blocks_count : (q : Bool) (ds : List CDeclaration) (xs : List CVariable) → length (fresh_blocks q ds xs) ≡ length xs
unfolding fresh_blocks
fresh_blocks_count q ds [] = refl
fresh_blocks_count q ds (x ∷ xs) = ap (λ n. suc n) (fresh_blocks_count q ds xs)

pub fresh_globals : (q : Bool) (ds : List CDeclaration) (gs : List CVariable) → HasGlobals gs (fresh_blocks q ds gs)
unfolding fresh_blocks fresh_block
fresh_globals q ds [] = tt
fresh_globals q ds (g ∷ gs) = (refl, refl, fresh_globals q ds gs)
