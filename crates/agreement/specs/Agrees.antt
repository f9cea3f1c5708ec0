-- When a C text agrees with a Pascal program.
use Rattle.std.specs.Prelude.{ℕ, List}
use Rattle.typed_tree.specs.declared.declarations.Typed.{Typed}
use Rattle.meanings.specs.Code.{Answer, End, UndefinedAfter, MalformedAfter, CutAfter}
use Rattle.pascal_meaning.specs.Meaning.{Pas}
use Rattle.c_tree.specs.declared.program.CProgram.{CProgram}
use Rattle.c_grammar.specs.Text.{CText}
use Rattle.c_meaning.specs.Follows as c
use Rattle.c_meaning.specs.Follows.{PascalAnswer, FollowsAlways}

-- an answer of a Pascal program, as the meaning of C speaks of it
abbrev pub told : Answer → PascalAnswer
told (End output status entries) = c.End output status entries
told (CutAfter output entries) = c.Cut output entries
told (UndefinedAfter output entries) = c.Undefined output entries
told (MalformedAfter output entries) = c.Malformed output entries

-- what a typed program answers on an input at a bound
abbrev pub pascal : Typed → (input : List ℕ) → (n : ℕ) → PascalAnswer
pascal p input n = told (Pas p input n)

-- the bytes are a text of the C subset whose program follows the typed program on every input
pub record Agrees (p : Typed) (bytes : List ℕ) : Type 0 where
  pub program : CProgram
  pub text : CText bytes program
  pub follows : FollowsAlways (pascal p) program
