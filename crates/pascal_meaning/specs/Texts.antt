-- Texts: which cells are read and in which order, comparison, and stores into dynamic strings.
use Rattle.std.specs.Prelude.{ℕ, zero, suc, pos, Bool, true, false, nat_lt, nat_le, unsigned_abs, List, [], ◌∷◌, ◌++◌, length, take, Option, Some}
use Rattle.p2c_text.specs.declared.dialect.Dialect.{Dialect}
use Rattle.p2c_text.specs.declared.dialect.Dialect.TheVariants.{Turbo}
use Rattle.typed_tree.specs.declared.types.PasType.{PasType}
use Rattle.typed_tree.specs.declared.types.PasType.TheVariants.{DynString}
use Rattle.typed_tree.specs.declared.operations.BinaryOp.{BinaryOp}
use Rattle.typed_tree.specs.declared.operations.BinaryOp.TheVariants.{Join, Equal, Unequal, Less, Greater, LessEq, GreaterEq}
use Rattle.meanings.specs.declared.errors.RuntimeError.TheVariants.{LongText}
use Rattle.meanings.specs.Values.{Tree, Undefined, Whole, ArrayOf, Trees, no_trees, tree}
use Rattle.meanings.specs.Outcomes.{Checked, Passes, Lacks, Misfits, ◌&>◌, expect}
use Rattle.pascal_meaning.specs.Numbers.{when, of_bool}

-- a text before its cells are read
pub data Text : Type 0 where
  -- a character, a fixed string, or what an operation made: every cell is a character
  Plain : Trees → Text
  -- a dynamic string: its limit, its cell 0 with the length, and its other cells
  Dynamic : (limit : ℕ) → Tree → Trees → Text

-- a value of this type, as a text
unfoldable pub text_of : Option PasType → Tree → Text
text_of (Some (DynString limit)) (ArrayOf (tree c ts)) = Dynamic limit c ts
text_of _ (ArrayOf ts) = Plain ts
text_of _ t = Plain (tree t no_trees)

-- ---- reading

unfoldable pub count : Trees → ℕ
count no_trees = 0
count (tree t ts) = suc (count ts)

-- a cell as it is read
unfoldable pub byte_of : Tree → Checked ℕ
byte_of (Whole z) = Passes (unsigned_abs z)
byte_of Undefined = Lacks
byte_of _ = Misfits

-- the cells of the characters
unfoldable pub cells_of : Text → Trees
cells_of (Plain ts) = ts
cells_of (Dynamic limit c ts) = ts

-- the length of a text, for which cell 0 of a dynamic string is read; `LongText` where it is above the limit
unfoldable pub length_of : Text → Checked ℕ
length_of (Plain ts) = Passes (count ts)
length_of (Dynamic limit c ts) = byte_of c &> λ n. when (nat_le n limit) LongText n

-- the first n cells
unfoldable pub read_cells : ℕ → Trees → Checked (List ℕ)
read_cells zero ts = Passes []
read_cells (suc n) no_trees = Passes []
read_cells (suc n) (tree t ts) = byte_of t &> λ b. read_cells n ts &> λ bs. Passes (b ∷ bs)

-- a text that is read up to its length
unfoldable pub read_text : Text → Checked (List ℕ)
read_text t = length_of t &> λ n. read_cells n (cells_of t)

unfoldable pub read_texts : List Text → Checked (List ℕ)
read_texts [] = Passes []
read_texts (t ∷ ts) = read_text t &> λ bs. read_texts ts &> λ cs. Passes (bs ++ cs)

-- ---- comparison

pub data Order : Type 0 where
  Before : Order
  Alike : Order
  After : Order

-- place by place, the left cell first; no cell is read past the first difference or past the shorter text
unfoldable pub compare_cells : (m n : ℕ) → Trees → Trees → Checked Order
compare_cells zero zero ts us = Passes Alike
compare_cells zero (suc n) ts us = Passes Before
compare_cells (suc m) zero ts us = Passes After
compare_cells (suc m) (suc n) (tree t ts) (tree u us) = byte_of t &> λ b. byte_of u &> λ c.
    elim (nat_lt b c) [ true ↦ Passes Before | false ↦ elim (nat_lt c b) [ true ↦ Passes After | false ↦ compare_cells m n ts us ] ]
compare_cells (suc m) (suc n) _ _ = Misfits

unfoldable pub compare : Text → Text → Checked Order
compare t u = length_of t &> λ m. length_of u &> λ n. compare_cells m n (cells_of t) (cells_of u)

unfoldable pub is_comparison : BinaryOp → Bool
is_comparison Equal = true
is_comparison Unequal = true
is_comparison Less = true
is_comparison Greater = true
is_comparison LessEq = true
is_comparison GreaterEq = true
is_comparison _ = false

unfoldable pub relation : BinaryOp → Order → Bool
relation Equal Alike = true
relation Unequal Before = true
relation Unequal After = true
relation Less Before = true
relation Greater After = true
relation LessEq Before = true
relation LessEq Alike = true
relation GreaterEq After = true
relation GreaterEq Alike = true
relation _ _ = false

-- ---- what operations make

unfoldable pub cells : List ℕ → Trees
cells [] = no_trees
cells (b ∷ bs) = tree (Whole (pos b)) (cells bs)

-- a text that an operation made
unfoldable pub made : List ℕ → Tree
made bs = ArrayOf (cells bs)

-- a text of at most n bytes: in Turbo a longer one is cut, else it is `LongText`
unfoldable pub limited : Dialect → ℕ → List ℕ → Checked (List ℕ)
limited Turbo n bs = Passes (take n bs)
limited _ n bs = when (nat_le (length bs) n) LongText bs

-- what an operation makes has at most 255 bytes
unfoldable pub making : Dialect → Checked (List ℕ) → Checked Tree
making d c = c &> λ bs. limited d 255 bs &> λ bs. Passes (made bs)

unfoldable pub on_texts : Dialect → BinaryOp → Text → Text → Checked Tree
on_texts d Join t u = making d (read_texts (t ∷ u ∷ []))
on_texts d op t u = expect (is_comparison op) &> λ c. compare t u &> λ order. Passes (Whole (of_bool (relation op order)))

-- ---- stores into dynamic strings

-- these cells, and then what stood behind them
unfoldable pub over : Trees → Trees → Trees
over no_trees old = old
over (tree t ts) no_trees = no_trees
over (tree t ts) (tree old olds) = tree t (over ts olds)

-- the cells of a string that takes a text: the bytes above the new length stay
unfoldable pub filled : Trees → Tree → Checked Tree
filled ts (ArrayOf (tree c olds)) = Passes (ArrayOf (tree (Whole (pos (count ts))) (over ts olds)))
filled ts old = Misfits
