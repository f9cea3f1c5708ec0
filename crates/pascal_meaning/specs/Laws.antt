-- What holds of every program, as statements that functions of the crate prove.
use Rattle.std.specs.Prelude.{◌≡◌, ℕ, ◌≤◌, List}
use Rattle.typed_tree.specs.declared.declarations.Typed.{Typed}
use Rattle.typed_tree.specs.declared.expressions.TypedExpr.{TypedExpr}
use Rattle.typed_tree.specs.declared.statements.TypedStmt.{TypedStmt}
use Rattle.meanings.specs.Code.{Answer, End, UndefinedAfter, MalformedAfter, CutAfter}
use Rattle.meanings.specs.Bounds.{IsPrefix, output_of, entries_of}
use Rattle.meanings.specs.Temporaries.{Same}
use Rattle.pascal_meaning.specs.declared.operations.Primitive.{Primitive}
use Rattle.pascal_meaning.specs.Predefined.{Operand}
use Rattle.pascal_meaning.specs.Primitives.{perform}
use Rattle.pascal_meaning.specs.Meaning.{Value, Exec, Pas}

-- an answer that no greater bound changes
abbrev pub IsFinal : Answer → Type 0
IsFinal (End output status entries) = Unit {0}
IsFinal (UndefinedAfter output entries) = Unit {0}
IsFinal (MalformedAfter output entries) = Unit {0}
IsFinal (CutAfter output entries) = ⊥

-- a final answer at a bound is the answer at each greater one
abbrev pub FinalStays : Type 0
FinalStays = (p : Typed) (input : List ℕ) (m n : ℕ) (answer : Answer) → IsFinal answer → m ≤ n → Pas p input m ≡ answer → Pas p input n ≡ answer

-- where the bound cuts the program off, output and entries at each greater one begin with those that were there
abbrev pub CutIsExtended : Type 0
CutIsExtended = (p : Typed) (input : List ℕ) (m n : ℕ) (output entries : List ℕ) → m ≤ n → Pas p input m ≡ CutAfter output entries
    → IsPrefix output (output_of (Pas p input n)) × IsPrefix entries (entries_of (Pas p input n))

-- neither expressions and statements nor primitives see or change the temporaries that passes make
abbrev pub TemporariesAreUnseen : Type 0
TemporariesAreUnseen = ((e : TypedExpr) → Same (Value e)) × ((s : TypedStmt) → Same (Exec s)) × ((p : Primitive) (operands : List Operand) → Same (perform p operands))
