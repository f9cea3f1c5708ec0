-- How a part of a program ends, and what a check gives.
use Rattle.std.specs.Prelude.{ℕ, ℤ, Bool, true, false, Option, Some, None}
use Rattle.meanings.specs.declared.errors.RuntimeError.{RuntimeError}
use Rattle.meanings.specs.Worlds.{World}

-- what raised: a runtime error, or `escape`
pub data Cause : Type 0 where
  Error : RuntimeError → Cause
  Escape : ℤ → Cause

-- why a part did not end normally
pub data Exit : Type 0 where
  Goto : (activation label : ℕ) → Exit
  Leave : (activation : ℕ) → Exit
  Raise : Cause → Exit
  Halt : (status : ℕ) → Exit
  -- something undefined or disposed was read
  ReadUndefined : Exit
  -- something was come to that stands in no tree that an elaboration makes
  Malformed : Exit
  -- the bound does not reach further
  Cut : Exit

pub data Outcome (X : Type 0) : Type 0 where
  Normal : X → World → Outcome X
  Exits : Exit → World → Outcome X

abbrev pub world_of : {X : Type 0} → Outcome X → World
world_of (Normal x w) = w
world_of (Exits e w) = w

abbrev pub and_then : {X Y : Type 0} → Outcome X → (X → World → Outcome Y) → Outcome Y
and_then (Normal x w) f = f x w
and_then (Exits e w) f = Exits e w

-- a value, a runtime error in its place, nothing where something undefined is met, or where a tree is none that an elaboration makes
pub data Checked (X : Type 0) : Type 0 where
  Passes : X → Checked X
  Fails : RuntimeError → Checked X
  Lacks : Checked X
  Misfits : Checked X

-- what is done with a value that passed
infixl 10 ◌&>◌
unfoldable pub ◌&>◌ : {X Y : Type 0} → Checked X → (X → Checked Y) → Checked Y
Passes x &> f = f x
Fails e &> f = Fails e
Lacks &> f = Lacks
Misfits &> f = Misfits

abbrev pub checked : {X : Type 0} → Checked X → World → Outcome X
checked (Passes x) w = Normal x w
checked (Fails e) w = Exits (Raise (Error e)) w
checked Lacks w = Exits ReadUndefined w
checked Misfits w = Exits Malformed w

-- what is there in every tree that an elaboration makes
unfoldable pub there : {X : Type 0} → Option X → Checked X
there (Some x) = Passes x
there None = Misfits

-- what holds in every such tree
unfoldable pub expect : Bool → Checked (Unit {0})
expect true = Passes tt
expect false = Misfits
