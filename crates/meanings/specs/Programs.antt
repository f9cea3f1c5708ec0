-- A meaning is a function on worlds, made by these combinators and nothing else.
--
-- The bound falls in `below`, `run_routine` and `turns` alone, and only these cut. Output and entries grow by `print` and
-- `record_entry` alone.
use Rattle.std.specs.Prelude.{ℕ, suc, Bool, true, false, List, [], ◌∷◌, ◌++◌, Option, Some, None}
use Rattle.typed_tree.specs.declared.types.Types.{Types}
use Rattle.typed_tree.specs.declared.declarations.Owner.{Owner}
use Rattle.meanings.specs.Values.{Tree, Reference, RoutineValue}
use Rattle.meanings.specs.Worlds.{Activation, World, View, view, changed}
use Rattle.meanings.specs.Outcomes.{Exit, Goto, Leave, Raise, Halt, ReadUndefined, Malformed, Cut, Outcome, Normal, Exits, and_then, Checked, Passes, checked}

-- an argument with which an activation begins
pub data Passed : Type 0 where
  ByValue : Tree → Passed
  ByReference : Reference → Passed
  ByRoutine : RoutineValue → Passed

-- a routine's activation, from its beginning to its end, with the value of its result
abbrev pub Run : Type 0
Run = RoutineValue → List Passed → World → Outcome Tree

-- a bound, as what routines do at the bounds below it, the next one first; its length is the bound
abbrev pub Level : Type 0
Level = List Run

-- a block: its labels, and the block around it
pub record Heading : Type 0 where
  pub owner : Owner
  pub parent : Owner
  pub labels : List ℕ

-- what meanings ask of a program, in each language
pub record Outline : Type 0 where
  pub types : Types
  pub blocks : List Heading

-- a program, and the activation that runs
pub record Setting : Type 0 where
  pub program : Outline
  pub here : ℕ

abbrev pub Prog : Type 0 → Type 0
Prog X = Setting → Level → World → Outcome X

infixl 10 ◌>>=◌
unfoldable pub ◌>>=◌ : {X Y : Type 0} → Prog X → (X → Prog Y) → Prog Y
p >>= f = λ s l w. and_then (p s l w) (λ x. f x s l)

infixl 10 ◌>>◌
unfoldable pub ◌>>◌ : {X Y : Type 0} → Prog X → Prog Y → Prog Y
p >> q = λ s l w. and_then (p s l w) (λ x. q s l)

unfoldable pub pure : {X : Type 0} → X → Prog X
pure x = λ s l w. Normal x w

unfoldable pub stop : {X : Type 0} → Exit → Prog X
stop e = λ s l w. Exits e w

unfoldable pub choose : {X : Type 0} → Bool → Prog X → Prog X → Prog X
choose true p q = p
choose false p q = q

-- what is read
unfoldable pub ask : {X : Type 0} → (Setting → View → Checked X) → Prog X
ask f = λ s l w. checked (f s (view w)) w

-- what the types decide
unfoldable pub check : {X : Type 0} → (Types → Checked X) → Prog X
check f = λ s l w. checked (f s.program.types) w

unfoldable pub change : View → Prog (Unit {0})
change v = λ s l w. Normal tt (changed v w)

unfoldable pub print : List ℕ → Prog (Unit {0})
print bytes = λ s l w. Normal tt (record w { output = w.output ++ bytes })

unfoldable pub record_entry : ℕ → Prog (Unit {0})
record_entry k = λ s l w. Normal tt (record w { entries = w.entries ++ (k ∷ []) })

-- a new activation, made from its number
unfoldable pub enter : (ℕ → Activation) → Prog (Unit {0})
enter f = λ s l w. Normal tt (record w { activations = f w.next ∷ w.activations; next = suc w.next })

abbrev pub caught : {X : Type 0} → Option X → Exit → World → Outcome X
caught None e w = Exits e w
caught (Some x) e w = Normal x w

-- an exit that the test catches ends here; an undefined read, a malformed tree and a cut are never caught
abbrev pub handled : {X : Type 0} → (Exit → Option X) → Outcome X → Outcome X
handled test (Normal x w) = Normal x w
handled test (Exits (Goto a l) w) = caught (test (Goto a l)) (Goto a l) w
handled test (Exits (Leave a) w) = caught (test (Leave a)) (Leave a) w
handled test (Exits (Raise c) w) = caught (test (Raise c)) (Raise c) w
handled test (Exits (Halt n) w) = caught (test (Halt n)) (Halt n) w
handled test (Exits ReadUndefined w) = Exits ReadUndefined w
handled test (Exits Malformed w) = Exits Malformed w
handled test (Exits Cut w) = Exits Cut w

unfoldable pub handle : {X : Type 0} → (Setting → Exit → Option X) → Prog X → Prog X
handle test p = λ s l w. handled (test s) (p s l w)

-- at the bound below, or cut where there is none
unfoldable pub below : {X : Type 0} → Prog X → Prog X
below p s [] w = Exits Cut w
below p s (run ∷ l) w = p s l w

-- a routine's activation, which runs at the bound below
unfoldable pub run_routine : RoutineValue → List Passed → Prog Tree
run_routine r args s [] w = Exits Cut w
run_routine r args s (run ∷ l) w = run r args w

-- a turn gives the state of the next turn, which runs at the bound below, or None at the end
unfoldable pub turns : {S : Type 0} → (S → Prog (Option S)) → S → Prog (Unit {0})
turns body state s [] w = and_then (body state s [] w) (elim [ None ↦ λ w. Normal tt w | Some next ↦ λ w. Exits Cut w ])
turns body state s (run ∷ l) w = and_then (body state s (run ∷ l) w) (elim [ None ↦ λ w. Normal tt w | Some next ↦ λ w. turns body next s l w ])

-- in another activation
unfoldable pub at_activation : {X : Type 0} → ℕ → Prog X → Prog X
at_activation a p = λ s l w. p (record { program = s.program; here = a }) l w

-- ---- words that the combinators give

-- the running activation
unfoldable pub here : Prog ℕ
here = ask (λ s v. Passes s.here)

-- a change of what is seen
unfoldable pub update : (Types → View → Checked View) → Prog (Unit {0})
update f = ask (λ s v. f s.program.types v) >>= λ v. change v

-- what the types say
unfoldable pub of_types : {X : Type 0} → (Types → X) → Prog X
of_types f = check (λ types. Passes (f types))

-- all of these, from left to right
unfoldable pub collect : {X : Type 0} → List (Prog X) → Prog (List X)
collect [] = pure []
collect (p ∷ ps) = p >>= λ x. collect ps >>= λ xs. pure (x ∷ xs)
