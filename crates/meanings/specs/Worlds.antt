-- What programs work on: activations, the heap, input and output, and the routines that were entered.
use Rattle.std.specs.Prelude.{ℕ, ℤ, List, Option}
use Rattle.typed_tree.specs.declared.declarations.Owner.{Owner}
use Rattle.meanings.specs.Values.{Tree, Reference, RoutineValue}

-- what a name stands for in an activation
pub data Slot : Type 0 where
  Holds : Tree → Slot
  Refers : Reference → Slot
  Calls : RoutineValue → Slot

pub record Activation : Type 0 where
  pub number : ℕ
  -- whose activation it is
  pub owner : Owner
  -- the activation of its static parent
  pub parent : ℕ
  pub names : List (ℕ × Slot)

-- what each activation's temporaries hold, which passes make and typed programs have not
abbrev pub Temporaries : Type 0
Temporaries = ℕ → ℕ → Slot

pub record World : Type 0 where
  -- the newest first; the last are those of the program and of the units
  pub activations : List Activation
  -- the number of the next activation
  pub next : ℕ
  -- the variables that `new` made, by their numbers, or None for one that is gone
  pub heap : List (Option Tree)
  pub input : List ℕ
  pub output : List ℕ
  -- the routines that were entered, by their numbers
  pub entries : List ℕ
  pub escape_code : ℤ
  pub temporaries : Temporaries

-- what a program sees of a world
pub record View : Type 0 where
  pub activations : List Activation
  pub next : ℕ
  pub heap : List (Option Tree)
  pub input : List ℕ
  pub escape_code : ℤ

abbrev pub view : World → View
view w = record { activations = w.activations; next = w.next; heap = w.heap; input = w.input; escape_code = w.escape_code }

-- the world after a change, which leaves output, entries, temporaries and the next number alone
abbrev pub changed : View → World → World
changed v w = record w { activations = v.activations; heap = v.heap; input = v.input; escape_code = v.escape_code }

abbrev pub with_temporaries : World → Temporaries → World
with_temporaries w m = record w { temporaries = m }
