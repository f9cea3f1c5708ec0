-- Why files are no program with its units.
use Rattle.std.specs.Prelude.{◌≡◌, ℕ, true, List, [], ◌∷◌, Option, Some, None, IsSome, option_and_then, slice_get}
use Rattle.std.specs.Option.{option_map}
use Rattle.std.specs.List.{filter_map}
use Rattle.p2c_text.specs.declared.place.Span.{Span}
use Rattle.pascal_tree.specs.declared.names.Identifier.{Identifier}
use Rattle.pascal_tree.specs.declared.files.SourceFile.{SourceFile}
use Rattle.unit_linker.specs.declared.fault.LinkFault.{LinkFault}
use Rattle.unit_linker.specs.declared.fault.LinkFault.TheVariants.{NoProgram, TwoPrograms, DoubleUnit, MissingUnit, Cycle, Memory}
use Rattle.unit_linker.specs.Files.{Names, is_known, is_program, unit_name, span_of, double, programs, missing, graph_of}
use Rattle.unit_linker.specs.Graph.{IsFirstCycle}

-- the unit has a name that is known
abbrev pub IsKnown : Names → SourceFile → LinkFault → Type 0
IsKnown known file (DoubleUnit span) = (is_known known (unit_name file) ≡ true) × (span ≡ span_of file)
IsKnown known file (Memory e) = Unit {0}
IsKnown known file _ = ⊥

-- the second of two units with one name
abbrev pub IsDouble : List SourceFile → LinkFault → Type 0
IsDouble files (DoubleUnit span) = (file : SourceFile) × (double files ≡ Some file) × (span ≡ span_of file)
IsDouble files (Memory e) = Unit {0}
IsDouble files _ = ⊥

-- the file is a program, and one was found before
abbrev pub IsSecond : Option ℕ → SourceFile → LinkFault → Type 0
IsSecond found file (TwoPrograms span) = (is_program file ≡ true) × IsSome found × (span ≡ span_of file)
IsSecond found file _ = ⊥

-- no program, or a second one
abbrev pub IsNotOne : List SourceFile → LinkFault → Type 0
IsNotOne files NoProgram = programs files ≡ []
IsNotOne files (TwoPrograms span) = (first second : SourceFile) × (more : List SourceFile) × (programs files ≡ first ∷ second ∷ more) × (span ≡ span_of second)
IsNotOne files _ = ⊥

-- ---- cycles

abbrev pub name_at : List SourceFile → ℕ → Option (List ℕ)
name_at files place = option_and_then unit_name (slice_get files place)

abbrev pub span_at : List SourceFile → List ℕ → Option Span
span_at files [] = None
span_at files (place ∷ more) = option_map span_of (slice_get files place)

-- the names of these units, and the span of the first
abbrev pub IsCycleOf : List SourceFile → List ℕ → LinkFault → Type 0
IsCycleOf files cycle (Cycle names span) = (names ≡ filter_map (name_at files) cycle) × (span_at files cycle ≡ Some span)
IsCycleOf files cycle (Memory e) = Unit {0}
IsCycleOf files cycle _ = ⊥

-- ---- refusals

pub record IsSound (files : List SourceFile) : Type 0 where
  pub once : double files ≡ None
  pub given : missing files ≡ None

-- what is wrong with the files, where nothing that is named before it is wrong
abbrev pub IsRefused : List SourceFile → LinkFault → Type 0
IsRefused files NoProgram = programs files ≡ []
IsRefused files (TwoPrograms span) = (first second : SourceFile) × (more : List SourceFile) × (programs files ≡ first ∷ second ∷ more) × (span ≡ span_of second)
IsRefused files (DoubleUnit span) = (program file : SourceFile) × (programs files ≡ program ∷ []) × (double files ≡ Some file) × (span ≡ span_of file)
IsRefused files (MissingUnit span) = (program : SourceFile) × (name : Identifier) × (programs files ≡ program ∷ []) × (double files ≡ None) × (missing files ≡ Some name) × (span ≡ name.span)
IsRefused files (Cycle names span) = (program : SourceFile) × (cycle : List ℕ) × (programs files ≡ program ∷ []) × IsSound files × IsFirstCycle (graph_of files) cycle × IsCycleOf files cycle (Cycle names span)
IsRefused files (Memory e) = Unit {0}
