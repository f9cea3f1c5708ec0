-- Programs that write literal texts and nothing else, as typed programs and as C programs.
use Rattle.std.specs.Prelude.{ℕ, ◌+◌, pos, List, [], ◌∷◌, ◌++◌, length, map, Some}
use mathlib.Core.Former.{this, arity}
use Rattle.tree_lists.specs.formers.items.Items.{the_former}
use Rattle.p2c_text.specs.declared.dialect.Dialect.{Dialect}
use Rattle.typed_tree.specs.declared.types.Host.TheVariants.{Char}
use Rattle.typed_tree.specs.declared.types.PasType.{PasType}
use Rattle.typed_tree.specs.declared.types.PasType.TheVariants.{Ordinal, Literal}
use Rattle.typed_tree.specs.declared.declarations.Typed.{Typed}
use Rattle.typed_tree.specs.declared.expressions.TypedExpr as X
use Rattle.typed_tree.specs.declared.expressions.TypedExpr.{TypedExpr}
use Rattle.typed_tree.specs.declared.expressions.TypedArg.{TypedArg}
use Rattle.typed_tree.specs.declared.expressions.TypedArg.TheVariants as arg
use Rattle.typed_tree.specs.declared.operations.PredefCall.TheVariants as call
use Rattle.typed_tree.specs.declared.statements.TypedStmt as S
use Rattle.typed_tree.specs.declared.statements.TypedStmt.{TypedStmt, Row_of-TypedStmt}
use Rattle.c_tree.specs.Tree.{Statement, PutChar, Return, Number}
use Rattle.c_tree.specs.declared.program.CProgram.{CProgram}

-- a statement: nothing, `writeln`, `write(text)` or `writeln(text)`
pub data Writing : Type 0 where
  Nothing : Writing
  LineEnd : Writing
  Text : (bytes : List ℕ) → Writing
  Line : (bytes : List ℕ) → Writing

-- what it writes
abbrev pub bytes_of : Writing → List ℕ
bytes_of Nothing = []
bytes_of LineEnd = 10 ∷ []
bytes_of (Text bytes) = bytes
bytes_of (Line bytes) = bytes ++ 10 ∷ []

abbrev pub all_bytes : List Writing → List ℕ
all_bytes [] = []
all_bytes (w ∷ ws) = bytes_of w ++ all_bytes ws

-- ---- the typed program

-- a literal text of one character is a character; each other one has a type of its own
abbrev pub literal_types : List ℕ → List PasType
literal_types (b ∷ []) = []
literal_types bytes = Literal (length bytes) ∷ []

abbrev pub types_of : Writing → List PasType
types_of (Text bytes) = literal_types bytes
types_of (Line bytes) = literal_types bytes
types_of _ = []

abbrev pub all_types : List Writing → List PasType
all_types [] = []
all_types (w ∷ ws) = types_of w ++ all_types ws

-- a literal text, where the type with this number is the next one
abbrev pub literal : (type : ℕ) → List ℕ → TypedExpr
literal t (b ∷ []) = X.Number (pos b) 0
literal t bytes = X.TextConst bytes t

abbrev pub shown : (type : ℕ) → List ℕ → TypedArg
shown t bytes = arg.Written' (literal t bytes) X.None'

abbrev pub typed_statement : (type : ℕ) → Writing → TypedStmt
typed_statement t Nothing = S.Empty
typed_statement t LineEnd = S.Predefined call.Writeln []
typed_statement t (Text bytes) = S.Predefined call.Write (shown t bytes ∷ [])
typed_statement t (Line bytes) = S.Predefined call.Writeln (shown t bytes ∷ [])

abbrev pub typed_statements : (type : ℕ) → List Writing → List TypedStmt
typed_statements t [] = []
typed_statements t (w ∷ ws) = typed_statement t w ∷ typed_statements (t + length (types_of w)) ws

abbrev pub sizes : {A : Type 0} → List A → List (Unit {0})
sizes [] = []
sizes (x ∷ xs) = tt ∷ sizes xs

abbrev pub row_of : (xs : List TypedStmt) → Row_of-TypedStmt (arity (the_former (this {0})) (sizes xs))
row_of [] = S.end_of-TypedStmt
row_of (x ∷ xs) = S.more_of-TypedStmt x (row_of xs)

abbrev pub sequence_of : List TypedStmt → TypedStmt
sequence_of xs = S.Seq' (sizes xs) (row_of xs)

-- the program with these statements; `char` is its first type
abbrev pub typed_writer : Dialect → List Writing → Typed
typed_writer d ws = record {
  types = record { dialect = d; list = Ordinal Char (pos 0) (pos 255) ∷ all_types ws };
  routines = [];
  units = [];
  main = record { locals = []; labels = []; body = sequence_of (typed_statements 1 ws) };
}

-- ---- the C program

abbrev pub put_of : ℕ → Statement
put_of byte = PutChar (Number byte)

-- one `putchar` for each byte, and `return INT64_C(0);`
abbrev pub writer_of : List ℕ → CProgram
writer_of bytes = record {
  forwards = [];
  declarations = [];
  globals = [];
  prototypes = [];
  functions = [];
  main = record { locals = []; body = map put_of bytes ++ Return (Some (Number 0)) ∷ [] };
}
