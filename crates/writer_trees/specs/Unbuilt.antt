-- The first node of a tree that the form has not.
use Rattle.std.specs.Prelude.{◌≡◌, ℕ, List, [], ◌∷◌, ◌++◌, map, Option, Some, None}
use Rattle.std.specs.List.{AllByRecursion, AllZip}
use Rattle.p2c_text.specs.declared.dialect.Dialect.{Dialect}
use Rattle.p2c_text.specs.declared.place.Span.{Span}
use Rattle.pascal_tree.specs.declared.names.Identifier.{Identifier}
use Rattle.pascal_tree.specs.declared.statements.Stmt.{Stmt, out-Stmt}
use Rattle.pascal_tree.specs.declared.declarations.Declaration.TheOpen as part
use Rattle.pascal_tree.specs.declared.declarations.Declaration.TheOpen.{Declaration-F}
use Rattle.pascal_tree.specs.declared.declarations.Declaration.{Declaration, out-Declaration}
use Rattle.pascal_tree.specs.declared.declarations.RoutineBody.{RoutineBody}
use Rattle.pascal_tree.specs.declared.declarations.Block.{Block, out-Block}
use Rattle.pascal_tree.specs.declared.declarations.Routine.{Routine, out-Routine}
use Rattle.pascal_tree.specs.declared.files.Uses.{Uses}
use Rattle.pascal_tree.specs.declared.files.Program.{Program}
use Rattle.pascal_tree.specs.declared.files.SourceFile.{SourceFile}
use Rattle.pascal_tree.specs.declared.files.SourceFile.TheVariants as text
use Rattle.agreement.specs.Writers.{Writing, bytes_of, all_bytes}
use Rattle.writer_trees.specs.Files.{Writes, IsStandard, parameters_of, IsWriterFile}
use Rattle.writer_trees.specs.declared.fault.WriterFault.{WriterFault}
use Rattle.writer_trees.specs.declared.fault.WriterFault.TheVariants as fault

-- a node of a text: a unit or a module as a whole, or of a program a parameter, its uses, a
-- declaration or a statement
pub data Node : Type 0 where
  Whole : (span : Span) → Node
  Parameter : (name : Identifier) → Node
  Using : (uses : Uses) → Node
  Declared : (declaration : Declaration) → Node
  Stated : (statement : Stmt) → Node

abbrev pub used : Option Uses → List Node
used None = []
used (Some uses) = Using uses ∷ []

-- the nodes before the statements
abbrev pub heads_of : Program → List Node
heads_of p = map Parameter (parameters_of p.head) ++ used p.uses ++ map Declared (out-Block p.block).declarations

-- in the order of the text
abbrev pub nodes_of : SourceFile → List Node
nodes_of (text.Program p) = heads_of p ++ map Stated (out-Block p.block).body
nodes_of (text.UnitText u) = Whole u.span ∷ []
nodes_of (text.Module m) = Whole m.span ∷ []

-- the form has this node
abbrev pub IsBuilt : Dialect → Node → Type 0
IsBuilt d (Parameter name) = IsStandard name
IsBuilt d (Stated s) = (w : Writing) × Writes d s w
IsBuilt d _ = ⊥

abbrev pub span_in : Declaration-F Declaration RoutineBody Block Routine → Span
span_in (part.Labels labels) = labels.span
span_in (part.Constants constants) = constants.span
span_in (part.Types types) = types.span
span_in (part.Variables variables) = variables.span
span_in (part.Routine routine) = (out-Routine routine).span

abbrev pub span_of : Node → Span
span_of (Whole span) = span
span_of (Parameter name) = name.span
span_of (Using uses) = uses.span
span_of (Declared declaration) = span_in (out-Declaration declaration)
span_of (Stated s) = (out-Stmt s).span

-- the place of the first node that the form has not
pub record FirstUnbuiltOf (d : Dialect) (nodes : List Node) (span : Span) : Type 0 where
  pub before : List Node
  pub node : Node
  pub after : List Node
  pub nodes_are : nodes ≡ before ++ node ∷ after
  pub built : AllByRecursion (IsBuilt d) before
  pub unbuilt : IsBuilt d node → ⊥
  pub place : span ≡ span_of node

abbrev pub FirstUnbuilt : Dialect → SourceFile → Span → Type 0
FirstUnbuilt d file span = FirstUnbuiltOf d (nodes_of file) span

-- each of these is a node of the form, or this is the place of the first that is not
abbrev pub IsFirstOf : Dialect → List Node → Option Span → Type 0
IsFirstOf d nodes None = AllByRecursion (IsBuilt d) nodes
IsFirstOf d nodes (Some span) = FirstUnbuiltOf d nodes span

abbrev pub or_else : Option Span → Option Span → Option Span
or_else None other = other
or_else (Some span) other = Some span

-- ---- the answers

-- the program writes these bytes
abbrev pub FileWrites : Dialect → SourceFile → (bytes : List ℕ) → Type 0
FileWrites d file bytes = (ws : List Writing) × IsWriterFile d file ws × (bytes ≡ all_bytes ws)

abbrev pub Refuses : Dialect → SourceFile → WriterFault → Type 0
Refuses d file (fault.Unbuilt span) = FirstUnbuilt d file span
Refuses d file (fault.Memory error) = Unit {0}

-- the same of a list of statements
abbrev pub StatementsWrite : Dialect → List Stmt → (bytes : List ℕ) → Type 0
StatementsWrite d all bytes = (ws : List Writing) × AllZip (Writes d) all ws × (bytes ≡ all_bytes ws)

abbrev pub RefusesStatements : Dialect → List Stmt → WriterFault → Type 0
RefusesStatements d all (fault.Unbuilt span) = FirstUnbuiltOf d (map Stated all) span
RefusesStatements d all (fault.Memory error) = Unit {0}

-- the same of one statement: what it writes is put behind what is there
abbrev pub Appends : Dialect → Stmt → (old new : List ℕ) → Type 0
Appends d s old new = (w : Writing) × Writes d s w × (new ≡ old ++ bytes_of w)

abbrev pub RefusesStatement : Dialect → Stmt → WriterFault → Type 0
RefusesStatement d s (fault.Unbuilt span) = ((w : Writing) → Writes d s w → ⊥) × (span ≡ (out-Stmt s).span)
RefusesStatement d s (fault.Memory error) = Unit {0}
