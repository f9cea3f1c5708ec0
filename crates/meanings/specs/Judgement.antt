-- What a law on programs needs to know of the combinators.
use Rattle.std.specs.Prelude.{ℕ, Bool, List, Option}
use Rattle.typed_tree.specs.declared.types.Types.{Types}
use Rattle.meanings.specs.Values.{RoutineValue}
use Rattle.meanings.specs.Worlds.{View}
use Rattle.meanings.specs.Outcomes.{Exit, Checked}
use Rattle.meanings.specs.Programs.{Passed, Setting, Prog, ◌>>=◌, ◌>>◌, pure, stop, choose, ask, check, change, print, handle, below, run_routine, turns}

-- a judgement that holds of each program made by the combinators with which statements are made
pub record Judgement : Type 1 where
  pub Holds : {X : Type 0} → Prog X → Type 0
  pub of_bind : {X Y : Type 0} {p : Prog X} {f : X → Prog Y} → Holds p → ((x : X) → Holds (f x)) → Holds (p >>= f)
  pub of_then : {X Y : Type 0} {p : Prog X} {q : Prog Y} → Holds p → Holds q → Holds (p >> q)
  pub of_pure : {X : Type 0} (x : X) → Holds (pure x)
  pub of_stop : {X : Type 0} (e : Exit) → Holds (stop {X = X} e)
  pub of_choose : {X : Type 0} (b : Bool) {p q : Prog X} → Holds p → Holds q → Holds (choose b p q)
  pub of_ask : {X : Type 0} (f : Setting → View → Checked X) → Holds (ask f)
  pub of_check : {X : Type 0} (f : Types → Checked X) → Holds (check f)
  pub of_change : (v : View) → Holds (change v)
  pub of_print : (bytes : List ℕ) → Holds (print bytes)
  pub of_handle : {X : Type 0} (test : Setting → Exit → Option X) {p : Prog X} → Holds p → Holds (handle test p)
  pub of_below : {X : Type 0} {p : Prog X} → Holds p → Holds (below p)
  pub of_run : (r : RoutineValue) (args : List Passed) → Holds (run_routine r args)
  pub of_turns : {S : Type 0} {body : S → Prog (Option S)} → ((state : S) → Holds (body state)) → (state : S) → Holds (turns body state)
