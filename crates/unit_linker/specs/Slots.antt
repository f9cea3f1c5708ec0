-- Places from which files are taken.
use Rattle.std.specs.Prelude.{ℕ, List, [], ◌∷◌, Option, Some, None, slice_get}
use Rattle.pascal_tree.specs.declared.files.SourceFile.{SourceFile}
use Rattle.unit_linker.specs.Graph.{Among}

abbrev pub slot_in : Option (Option SourceFile) → Option SourceFile
slot_in None = None
slot_in (Some file) = file

-- the file that is still there
abbrev pub slot_at : List (Option SourceFile) → ℕ → Option SourceFile
slot_at slots place = slot_in (slice_get slots place)

-- no number twice
abbrev pub IsOnce : List ℕ → Type 0
IsOnce [] = Unit {0}
IsOnce (u ∷ us) = (Among us u → ⊥) × IsOnce us
