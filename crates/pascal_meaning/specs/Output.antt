-- Text output: the bytes that a written value gives.
use Rattle.std.specs.Prelude.{ℕ, ◌-◌, ℤ, pos, Bool, true, false, int_lt, unsigned_abs, min, List, [], ◌∷◌, ◌++◌, length, replicate, Option, Some, None}
use Rattle.p2c_text.specs.declared.dialect.Dialect.{Dialect}
use Rattle.p2c_text.specs.declared.dialect.Dialect.TheVariants.{Turbo}
use Rattle.typed_tree.specs.declared.types.Host.TheVariants.{Whole as WholeHost, Bool as BoolHost}
use Rattle.typed_tree.specs.declared.types.PasType.{PasType}
use Rattle.typed_tree.specs.declared.types.PasType.TheVariants.{Ordinal}
use Rattle.meanings.specs.declared.errors.RuntimeError.TheVariants.{OutOfRange}
use Rattle.meanings.specs.Values.{Tree}
use Rattle.meanings.specs.Outcomes.{Checked, Passes, ◌&>◌}
use Rattle.pascal_meaning.specs.Numbers.{when, decimal, number_of, holds}
use Rattle.pascal_meaning.specs.Texts.{Text, Plain, text_of, length_of, read_cells, cells_of, cells}

-- a width, else `OutOfRange`; in Turbo every number is one
unfoldable pub width_of : Dialect → Option ℤ → Checked (Option ℤ)
width_of d None = Passes None
width_of Turbo (Some k) = Passes (Some k)
width_of d (Some k) = when (int_lt (pos 0) k) OutOfRange (Some k)

-- the width as a number of places; below 1 it asks for none
unfoldable pub places : Option ℤ → ℕ
places None = 0
places (Some k) = elim (int_lt (pos 0) k) [ true ↦ unsigned_abs k | false ↦ 0 ]

-- spaces fill on the left
unfoldable pub padded : Option ℤ → List ℕ → List ℕ
padded k bs = replicate (places k - length bs) 32 ++ bs

-- how many of n characters are written
unfoldable pub shown_length : Dialect → Option ℤ → ℕ → ℕ
shown_length d None n = n
shown_length Turbo k n = n
shown_length d k n = min (places k) n

-- only the cells that are written are read
unfoldable pub shown_text : Dialect → Option ℤ → Text → Checked (List ℕ)
shown_text d k t = length_of t &> λ n. read_cells (shown_length d k n) (cells_of t) &> λ bs. Passes (padded k bs)

unfoldable pub truth_text : Bool → List ℕ
truth_text true = 84 ∷ 82 ∷ 85 ∷ 69 ∷ []
truth_text false = 70 ∷ 65 ∷ 76 ∷ 83 ∷ 69 ∷ []

-- a whole number is never cut
unfoldable pub shown : Dialect → Option PasType → Option ℤ → Tree → Checked (List ℕ)
shown d (Some (Ordinal WholeHost first last)) k t = number_of t &> λ z. Passes (padded k (decimal z))
shown d (Some (Ordinal BoolHost first last)) k t = holds t &> λ b. shown_text d k (Plain (cells (truth_text b)))
shown d type k t = shown_text d k (text_of type t)

-- what is written of a value of the type, with a width or none
unfoldable pub written : Dialect → Option PasType → Option ℤ → Tree → Checked (List ℕ)
written d type k t = width_of d k &> λ k. shown d type k t
