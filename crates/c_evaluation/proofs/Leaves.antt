-- The cell of a scalar.
use Rattle.std.proofs.Common.{◌≡◌, ℕ, List, [], ◌∷◌, refl}
use Rattle.std.specs.Prelude.{ℤ}
use Rattle.c_meaning.specs.declared.StuckKind.TheVariants as k
use Rattle.c_meaning.specs.Cells.{Cell, Int, Word, Tree, Leaf}
use Rattle.c_meaning.specs.Answer.{Got, Bad, ◌>>=◌}
use Rattle.c_meaning.specs.Types.{ValueType}
use Rattle.c_meaning.specs.Values.{Typed, leaf, as_int, as_word, int_cell, word_cell}
use Rattle.c_cells.specs.Forks.{forks}

pub no_leaf : (children : List Tree) → leaf (forks children) ≡ Bad k.Mismatch
unfolding leaf
no_leaf [] = refl
no_leaf (a ∷ rest) = refl

pub the_leaf : (c : Cell) → leaf (Leaf c) ≡ Got c
unfolding leaf
the_leaf c = refl

pub int_leaf : (of : ValueType) (c : Cell) → as_int (Typed of (Leaf c)) ≡ int_cell c
unfolding as_int leaf ◌>>=◌
int_leaf of c = refl

pub int_int : (of : ValueType) (z : ℤ) → as_int (Typed of (Leaf (Int z))) ≡ Got z
unfolding as_int leaf ◌>>=◌ int_cell
int_int of z = refl

pub int_word : (of : ValueType) (n : ℕ) → as_int (Typed of (Leaf (Word n))) ≡ Bad k.Mismatch
unfolding as_int leaf ◌>>=◌ int_cell
int_word of n = refl

pub int_branch : (of : ValueType) (children : List Tree) → as_int (Typed of (forks children)) ≡ Bad k.Mismatch
unfolding as_int leaf ◌>>=◌
int_branch of [] = refl
int_branch of (a ∷ rest) = refl

pub word_leaf : (of : ValueType) (c : Cell) → as_word (Typed of (Leaf c)) ≡ word_cell c
unfolding as_word leaf ◌>>=◌
word_leaf of c = refl

pub word_int : (of : ValueType) (z : ℤ) → as_word (Typed of (Leaf (Int z))) ≡ Bad k.Mismatch
unfolding as_word leaf ◌>>=◌ word_cell
word_int of z = refl

pub word_word : (of : ValueType) (n : ℕ) → as_word (Typed of (Leaf (Word n))) ≡ Got n
unfolding as_word leaf ◌>>=◌ word_cell
word_word of n = refl

pub word_branch : (of : ValueType) (children : List Tree) → as_word (Typed of (forks children)) ≡ Bad k.Mismatch
unfolding as_word leaf ◌>>=◌
word_branch of [] = refl
word_branch of (a ∷ rest) = refl
