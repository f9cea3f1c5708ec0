-- What the form of a translation depends on, in each of the languages on the way.
use Rattle.std.specs.Prelude.{ℕ, Bool, List}
use Rattle.typed_tree.specs.declared.types.Types.{Types}
use Rattle.pascal_meaning.specs.declared.operations.Primitive.{Primitive}

pub record BodyOutline : Type 0 where
  -- how many `while`, `repeat` and `for` stand in it
  pub loops : ℕ
  -- whether a label stands in it
  pub labelled : Bool

pub record RoutineOutline : Type 0 where
  -- in lower case
  pub name : List ℕ
  pub number : ℕ
  -- its variables, parameters and result that inner routines name
  pub captured : List ℕ
  pub body : BodyOutline

pub record Outline : Type 1 where
  pub types : Types
  pub routines : List RoutineOutline
  -- the program's body with the initial parts of the units
  pub main : BodyOutline
  -- those that some operation uses
  pub primitives : List Primitive
  -- the numbers of routines that a goto, an exit, a halt, an escape or a runtime error may leave
  pub MayEscape : ℕ → Type 0
  -- the C names of variables, parameters and results
  pub variable_name : ℕ → List ℕ
