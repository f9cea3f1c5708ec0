-- A block by its number.
use Rattle.std.proofs.Common.{◌≡◌, ℕ, zero, suc, ◌+◌, ◌-◌, ◌<◌, ◌≤◌, List, [], ◌∷◌, length, Option, Some, None, refl, sym, ap, ◌∙◌, arith}
use Rattle.std.specs.Prelude.{ℤ, slice_get, slice_set}
use Rattle.c_meaning.specs.declared.StuckKind.{StuckKind}
use Rattle.c_meaning.specs.Cells.{Tree, Leaf, Int, Block, Blocks, joined_option, block_at, with_part}
use Rattle.c_meaning.specs.Answer.{Got, Bad}
use Rattle.c_meaning.specs.States.{changed, store}
use Rattle.c_meaning.specs.declared.StuckKind.TheVariants as k
use Rattle.c_cells.specs.Slots.{int_block, HoldsInt, removed, changed_block}

pub block_some : (blocks : Blocks) (n : ℕ) (o : Option Block) → slice_get blocks n ≡ Some o → block_at blocks n ≡ o
unfolding block_at joined_option
block_some blocks n o h = ap joined_option h

pub block_none : (blocks : Blocks) (n : ℕ) → slice_get blocks n ≡ None → block_at blocks n ≡ None
unfolding block_at joined_option
block_none blocks n h = ap joined_option h

block_past : (blocks : Blocks) (n : ℕ) → length blocks ≤ n → block_at blocks n ≡ None
unfolding block_at joined_option
block_past [] n h = refl
block_past (o ∷ rest) zero h = absurd (omega arith)
block_past (o ∷ rest) (suc n) h = block_past rest n (omega arith)

pub none_stays : (blocks : Blocks) (n : ℕ) → block_at blocks n ≡ None → slice_set blocks n None ≡ blocks
unfolding block_at joined_option
none_stays [] n h = refl
none_stays (b ∷ rest) zero h = ap (λ o. o ∷ rest) (sym h)
none_stays (b ∷ rest) (suc n) h = ap (λ l. b ∷ l) (none_stays rest n h)

pub none_past : (blocks : Blocks) (n : ℕ) (o : Option Block) → length blocks ≤ n → slice_set blocks n o ≡ blocks
none_past [] n o h = refl
none_past (b ∷ rest) zero o h = absurd (omega arith)
none_past (b ∷ rest) (suc n) o h = ap (λ l. b ∷ l) (none_past rest n o (omega arith))

pub store_past : (blocks : Blocks) (n : ℕ) (path : List ℕ) (tree : Tree) → length blocks ≤ n → store blocks n path tree ≡ Bad k.GoneUse
unfolding store changed
store_past blocks n path tree h = ap (changed blocks n path tree) (block_past blocks n h)

set_twice : (blocks : Blocks) (n : ℕ) (a b : Option Block) → slice_set (slice_set blocks n a) n b ≡ slice_set blocks n b
set_twice [] n a b = refl
set_twice (x ∷ rest) zero a b = refl
set_twice (x ∷ rest) (suc n) a b = ap (λ l. x ∷ l) (set_twice rest n a b)

module _ (blocks : Blocks) (n : ℕ) (path : List ℕ) (tree : Tree) where
  -- a block that was taken out and put back changed
  pub store_there : (old new : Option Block) → slice_get blocks n ≡ Some old → Got new ≡ changed_block path tree old → store blocks n path tree ≡ Got (slice_set (slice_set blocks n None) n new)
  unfolding store changed
  store_there None new h c = cc
  store_there (Some b) new h c =
      let there : Some (record b { tree = with_part path tree b.tree }) ≡ new = cc in
      ap (changed blocks n path tree) (block_some blocks n (Some b) h) ∙ ap Got (sym (set_twice blocks n None (Some (record b { tree = with_part path tree b.tree })))) ∙ ap (λ o. Got (slice_set (slice_set blocks n None) n o)) there

  pub store_none : (old : Option Block) (kind : StuckKind) → slice_get blocks n ≡ Some old → Bad kind ≡ changed_block path tree old → store blocks n path tree ≡ Bad kind
  unfolding store changed
  store_none None kind h c = let same : k.GoneUse ≡ kind = cc in ap (changed blocks n path tree) (block_some blocks n None h) ∙ ap Bad same
  store_none (Some b) kind h c = cc

pub set_int : (blocks : Blocks) (n : ℕ) (z : ℤ) → HoldsInt blocks n → store blocks n [] (Leaf (Int z)) ≡ Got (slice_set blocks n (Some (int_block (Int z))))
unfolding store changed with_part
set_int blocks n z h = ap (changed blocks n [] (Leaf (Int z))) (block_some blocks n (Some (int_block h.0)) h.1)

pub removed_next : (first count : ℕ) (blocks : Blocks) → 0 < count → removed (first + 1) (count - 1) (slice_set blocks first None) ≡ removed first count blocks
unfolding removed
removed_next first zero blocks h = absurd (omega (arith, h))
removed_next first (suc k) blocks h = let e : suc k - 1 ≡ k = omega arith in ap (λ j. removed (first + 1) j (slice_set blocks first None)) e
