-- What a run at a bound says of the run at a greater one.
use Rattle.std.specs.Prelude.{◌≡◌, ℕ, ◌≤◌, List, [], ◌∷◌, ◌++◌}
use Rattle.meanings.specs.Values.{RoutineValue}
use Rattle.meanings.specs.Worlds.{World}
use Rattle.meanings.specs.Outcomes.{Cut, Outcome, Exits, world_of}
use Rattle.meanings.specs.Programs.{Passed, Run, Level, Setting, Prog}
use Rattle.meanings.specs.Code.{RoutineCode, BlockCode, Code, Answer, End, UndefinedAfter, MalformedAfter, CutAfter, answer}

pub record IsPrefix {A : Type 0} (xs ys : List A) : Type 0 where
  pub more : List A
  pub is : ys ≡ xs ++ more

-- output and entries are only added to
pub record Grows (w v : World) : Type 0 where
  pub output : IsPrefix w.output v.output
  pub entries : IsPrefix w.entries v.entries

-- from the world w the lesser bound gives the first and the greater bound the second: the same, or more than what was cut
pub data Fits {X : Type 0} (w : World) : Outcome X → Outcome X → Type 0 where
  Same : (r : Outcome X) → Grows w (world_of r) → Fits w r r
  IsCut : (v : World) (r : Outcome X) → Grows w v → Grows v (world_of r) → Fits w (Exits Cut v) r

pub record RunFits (run run' : Run) : Type 0 where
  pub by : (routine : RoutineValue) (args : List Passed) (w : World) → Fits w (run routine args w) (run' routine args w)

-- a bound and one that is at least as great
pub data AtMost : Level → Level → Type 0 where
  Ends : AtMost [] []
  Further : {run : Run} {l : Level} → RunFits run run → AtMost [] l → AtMost [] (run ∷ l)
  Both : {run run' : Run} {l l' : Level} → RunFits run run' → AtMost l l' → AtMost (run ∷ l) (run' ∷ l')

-- a program whose answer a greater bound keeps, or goes on with where it was cut
pub record Steady {X : Type 0} (p : Prog X) : Type 0 where
  pub by : (l l' : Level) → AtMost l l' → (s : Setting) (w : World) → Fits w (p s l w) (p s l' w)

pub data EachRoutine : List RoutineCode → Type 0 where
  NoRoutine : EachRoutine []
  OneRoutine : {r : RoutineCode} {rs : List RoutineCode} → Steady r.run → EachRoutine rs → EachRoutine (r ∷ rs)

pub data EachBlock : List BlockCode → Type 0 where
  NoBlock : EachBlock []
  OneBlock : {b : BlockCode} {bs : List BlockCode} → Steady b.run → EachBlock bs → EachBlock (b ∷ bs)

-- code whose parts are all steady
pub record SteadyCode (p : Code) : Type 0 where
  pub routines : EachRoutine p.routines
  pub units : EachBlock p.units
  pub main : Steady p.main.run

-- ---- answers

abbrev pub output_of : Answer → List ℕ
output_of (End o s k) = o
output_of (UndefinedAfter o k) = o
output_of (MalformedAfter o k) = o
output_of (CutAfter o k) = o

abbrev pub entries_of : Answer → List ℕ
entries_of (End o s k) = k
entries_of (UndefinedAfter o k) = k
entries_of (MalformedAfter o k) = k
entries_of (CutAfter o k) = k

-- a final answer stays, and a cut one is extended
abbrev pub Keeps : Answer → Answer → Type 0
Keeps (End o s k) b = b ≡ End o s k
Keeps (UndefinedAfter o k) b = b ≡ UndefinedAfter o k
Keeps (MalformedAfter o k) b = b ≡ MalformedAfter o k
Keeps (CutAfter o k) b = IsPrefix o (output_of b) × IsPrefix k (entries_of b)

-- at each greater bound a final answer of steady code is the same, and a cut one is extended
abbrev pub BoundsAgree : Type 0
BoundsAgree = (p : Code) → SteadyCode p → (input : List ℕ) (m n : ℕ) → m ≤ n → Keeps (answer p input m) (answer p input n)
