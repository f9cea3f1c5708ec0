-- What holds of programs that write literal texts.
use Rattle.std.specs.Prelude.{◌≡◌, ℕ, ◌<◌, List, []}
use Rattle.std.specs.List.{AllByRecursion}
use Rattle.p2c_text.specs.declared.dialect.Dialect.{Dialect}
use Rattle.meanings.specs.Code.{End}
use Rattle.pascal_meaning.specs.Meaning.{Pas}
use Rattle.c_meaning.specs.Follows.{FollowsAlways}
use Rattle.agreement.specs.Agrees.{pascal}
use Rattle.agreement.specs.Writers.{Writing, all_bytes, typed_writer, writer_of}

abbrev pub IsByte : ℕ → Type 0
IsByte b = b < 256

-- the C program that writes the bytes of the texts follows the Pascal program, on every input
abbrev pub WritersFollow : Type 0
WritersFollow = (d : Dialect) (ws : List Writing) → AllByRecursion IsByte (all_bytes ws) → FollowsAlways (pascal (typed_writer d ws)) (writer_of (all_bytes ws))

-- the Pascal program that writes the texts ends on every input, with status 0 and with their bytes
abbrev pub WritersEnd : Type 0
WritersEnd = (d : Dialect) (ws : List Writing) (input : List ℕ) → (n : ℕ) × (Pas (typed_writer d ws) input n ≡ End (all_bytes ws) 0 [])
