-- What a translation is.
use Rattle.std.specs.Prelude.{◌≡◌, ℕ, List, []}
use Rattle.p2c_text.specs.declared.dialect.Dialect.{Dialect}
use Rattle.p2c_text.specs.Text.{NamedBytes}
use Rattle.c_tree.specs.declared.program.CProgram.{CProgram}
use Rattle.meanings.specs.Code.{End}
use Rattle.pascal_meaning.specs.Meaning.{Pas}
use Rattle.c_meaning.specs.Runs as c
use Rattle.c_meaning.specs.Runs.{CRun}
use Rattle.agreement.specs.Agrees.{Agrees}
use Rattle.agreement.specs.Writers.{Writing, all_bytes, typed_writer}
use Rattle.program_shape.specs.OfTyped.{outline_of}
use Rattle.program_shape.specs.Shape.{Shape}
use Rattle.program_shape.specs.Laws.{NothingPerforms}
use Rattle.translate_core.specs.Accepted.{Accepts}

-- the C text agrees with the typed program of the texts, and its tree has the form of a translation of it, whatever C names
-- variables have; on every input both end with status 0, and have written the bytes of the program's literal texts
pub record IsTranslation (d : Dialect) (texts : List NamedBytes) (text : List ℕ) : Type 0 where
  pub writings : List Writing
  pub accepts : Accepts d texts writings
  pub agrees : Agrees (typed_writer d writings) text
  pub shape : (variable_name : ℕ → List ℕ) → Shape NothingPerforms (outline_of variable_name (typed_writer d writings)) agrees.program
  pub ends : (input : List ℕ) → (n : ℕ) × (Pas (typed_writer d writings) input n ≡ End (all_bytes writings) 0 [])
  pub c_ends : (input : List ℕ) → (m : ℕ) × (CRun agrees.program input m ≡ c.End (all_bytes writings) 0 [])

-- the program is the tree of such a text
abbrev pub IsTree : Dialect → List NamedBytes → CProgram → Type 0
IsTree d texts program = (text : List ℕ) × (t : IsTranslation d texts text) × (t.agrees.program ≡ program)
