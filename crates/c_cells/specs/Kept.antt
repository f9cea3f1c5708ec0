-- Blocks that are kept under their numbers.
use Rattle.std.specs.Prelude.{◌≡◌, ℕ, ◌+◌, ◌-◌, ◌<◌, ◌≤◌, List, [], ◌∷◌, ◌++◌, length, Option, Some, None, is_some, filter, slice_get, slice_index_or, replicate}
use Rattle.c_meaning.specs.Cells.{Block, Blocks}
use Rattle.c_cells.specs.declared.kept.Kept.{Kept}
use Rattle.c_cells.specs.Slots.{IsIntSlot}

-- the blocks from this number on, up to so many in all: those that are kept, and between them those that are gone
unfoldable pub spread : ℕ → List Kept → ℕ → Blocks
spread from [] made = replicate (made - from) None
spread from (kept ∷ rest) made = replicate (kept.number - from) None ++ (kept.slot ∷ spread (kept.number + 1) rest made)

-- their numbers rise, from this one on, and are below that of the next block
abbrev pub Rises : ℕ → List Kept → ℕ → Type 0
Rises from [] made = from ≤ made
Rises from (kept ∷ rest) made = (from ≤ kept.number) × Rises (kept.number + 1) rest made

-- the block with a number is kept at a place
abbrev pub IsKept : List Kept → ℕ → ℕ → Type 0
IsKept kept number at = (slot : Option Block) × (slice_get kept at ≡ Some (record { number = number; slot = slot }))

-- the block that is kept at a place is that of an `int64_t` variable
abbrev pub IsIntKept : List Kept → ℕ → Type 0
IsIntKept kept at = (one : Kept) × ((slice_get kept at ≡ Some one) × IsIntSlot one.slot)

-- no block is kept with a number: those before a place have lower ones, and those from it on higher ones
pub record IsAbsent (kept : List Kept) (number at : ℕ) : Type 0 where
  pub lower : (k : ℕ) (d : Kept) → k < at → (slice_index_or kept k d).number < number
  pub higher : (k : ℕ) (d : Kept) → at ≤ k → k < length kept → number < (slice_index_or kept k d).number

-- each block is gone
abbrev pub AllGone : List Kept → Type 0
AllGone [] = Unit {0}
AllGone (kept ∷ rest) = (kept.slot ≡ None) × AllGone rest

-- those whose block is there
abbrev pub those_there : List Kept → List Kept
those_there kept = filter (λ one. is_some one.slot) kept
