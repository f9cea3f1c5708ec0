-- What holds of programs that write literal texts.
use Rattle.std.specs.Prelude.{ℕ, List}
use Rattle.p2c_text.specs.declared.dialect.Dialect.{Dialect}
use Rattle.agreement.specs.Writers.{Writing, typed_writer, writer_of}
use Rattle.program_shape.specs.OfTyped.{outline_of}
use Rattle.program_shape.specs.Shape.{Performing, Shape}

-- no C function performs a primitive
abbrev pub NothingPerforms : Performing
NothingPerforms types c f p = ⊥

-- the C program that writes bytes has the form of a translation of a program that writes literal texts, whatever C names variables have
abbrev pub WritersHaveShape : Type 0
WritersHaveShape = (variable_name : ℕ → List ℕ) (d : Dialect) (ws : List Writing) (bytes : List ℕ) → Shape NothingPerforms (outline_of variable_name (typed_writer d ws)) (writer_of bytes)
