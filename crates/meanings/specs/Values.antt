-- What variables hold, and what stands for a variable or a routine.
use Rattle.std.specs.Prelude.{ℕ, ℤ, Bool, List}

-- a value tree: a scalar, an array or a record
mutual
  pub data Tree : Type 0 where
    Undefined : Tree
    Whole : ℤ → Tree
    -- 256 truth values
    SetOf : List Bool → Tree
    NilPointer : Tree
    HeapNumber : ℕ → Tree
    ArrayOf : Trees → Tree
    -- the fields of all variants and the hidden tags, side by side
    RecordOf : Fields → Tree

  pub data Trees : Type 0 where
    no_trees : Trees
    tree : Tree → Trees → Trees

  -- trees named by the numbers of fields and tags
  pub data Fields : Type 0 where
    no_fields : Fields
    field : ℕ → Tree → Fields → Fields

-- a name in an activation, or a heap variable
pub data Base : Type 0 where
  Variable : (activation name : ℕ) → Base
  Heap : (number : ℕ) → Base

-- a step into a value tree; components count from 0
pub data Step : Type 0 where
  AtIndex : ℕ → Step
  AtField : ℕ → Step

pub record Reference : Type 0 where
  pub base : Base
  pub path : List Step

-- a routine with the activation of its static parent
pub record RoutineValue : Type 0 where
  pub routine : ℕ
  pub parent : ℕ
