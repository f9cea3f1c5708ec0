-- The end of a function.
use Rattle.std.proofs.Common.{◌≡◌, ℕ, zero, suc, ◌<◌, ◌+◌, List, [], ◌∷◌, length, true, false, Option, None, Result, Ok, Err, refl, sym, ap, subst, ◌∙◌, arith}
use Rattle.c_tree.specs.declared.program.CVariable.{CVariable}
use Rattle.std.specs.Prelude.{slice_set, ℤ, pos, negsuc, ◌<ℤ◌, nat_lt}
use Rattle.std.proofs.lemmas.Int.{ints}
use Rattle.std.proofs.lemmas.Bool.Decides.{nat_tests}
use Rattle.c_tree.specs.Tree as t
use Rattle.c_tree.specs.Tree.{ObjectType}
use Rattle.c_meaning.specs.declared.StuckKind.{StuckKind}
use Rattle.c_meaning.specs.declared.StuckKind.TheVariants as k
use Rattle.c_meaning.specs.Cells.{Tree, Blocks}
use Rattle.c_meaning.specs.Answer.{Answer, Got, Bad, ◌>>=◌, when}
use Rattle.c_meaning.specs.Types.{Of}
use Rattle.c_meaning.specs.Values.{Value, Typed, value_of, as_int}
use Rattle.c_tree.specs.Tree.{Expr, Statement}
use Rattle.c_tree.specs.declared.program.CProgram.{CProgram}
use Rattle.c_meaning.specs.Evaluate.{View}
use Rattle.c_meaning.specs.States.{Frame, State, without}
use Rattle.c_meaning.specs.Steps.{Next, Onward, Ended, Halted, next, with_blocks, answered, names_from, status_of, in_status, finish, leave_to, leave, leave_with, returned, do_statement}
use Rattle.c_cells.specs.Forks.{forks}
use Rattle.c_cells.specs.Slots.{removed}
use Rattle.c_evaluation.proofs.Binary.{bind_got, bind_bad}
use Rattle.std.specs.Result.{IsErrAnd}
use Rattle.c_cells.specs.declared.halt.Halt.{Halt}
use Rattle.c_cells.specs.declared.halt.Halt.TheVariants.{Stuck, Memory}
use Rattle.c_evaluation.specs.declared.store.Store.{Store}
use Rattle.c_cells.specs.Halts.{Tells}
use Rattle.c_stepper.specs.declared.runner.Runner.{Runner}
use Rattle.c_stepper.specs.declared.runner.Done.{Done}
use Rattle.c_stepper.specs.Runners.{Acts}
use Rattle.c_stepper.specs.Leaving.{status_in, Answers}

-- the value of a struct
pub branch_value : (of : ObjectType) (children : List Tree) → value_of of (forks children) ≡ Typed (Of of) (forks children)
unfolding value_of
branch_value t.Byte [] = refl
branch_value t.Byte (a ∷ rest) = refl
branch_value t.Int children = refl
branch_value t.Word children = refl
branch_value (t.Struct n) children = refl
branch_value (t.Named n) children = refl
branch_value t.VoidPointer children = refl
branch_value (t.Pointer of) children = refl

pub status_within : (z : ℤ) (n : ℕ) → z ≡ pos n → n < 210 → in_status z ≡ Got n
unfolding in_status when
status_within z n e h = let within : nat_lt n 210 ≡ true = grind (arith, nat_tests) in ap in_status e ∙ ap (λ q. when q k.BadStatus (Got n)) within

pub status_below : (z : ℤ) → z <ℤ pos 0 → in_status z ≡ Bad k.BadStatus
unfolding in_status
status_below (pos n) h = absurd (omega (arith, ints))
status_below (negsuc n) h = refl

pub status_above : (z : ℤ) → pos 209 <ℤ z → in_status z ≡ Bad k.BadStatus
unfolding in_status when
status_above (pos n) h = let above : nat_lt n 210 ≡ false = grind (arith, ints, nat_tests) in ap (λ q. when q k.BadStatus (Got n)) above
status_above (negsuc n) h = refl

module _ (x : Value) where
  pub no_status : (kind : StuckKind) → as_int x ≡ Bad kind → status_in x ≡ Bad kind
  no_status kind h = bind_bad (as_int x) kind in_status h

  pub some_status : (z : ℤ) → as_int x ≡ Got z → status_in x ≡ in_status z
  some_status z h = bind_got (as_int x) z in_status h

module _ (c : CProgram) (st : State) (g : Frame) (below : List Frame) (answer : Option Value) where
  pub leaves : (blocks : Blocks) → answered c.declarations (without st.frame.names st.blocks) st.frame.target answer ≡ Got blocks → leave_to c st (g ∷ below) answer ≡ Onward (record st { frame = g; below = below; blocks = blocks })
  unfolding leave_to next with_blocks ◌>>=◌
  leaves blocks h = ap (λ a. next st (with_blocks (record st { frame = g; below = below }) a)) h

  pub leaves_stuck : (kind : StuckKind) → answered c.declarations (without st.frame.names st.blocks) st.frame.target answer ≡ Bad kind → leave_to c st (g ∷ below) answer ≡ Halted kind st.output
  unfolding leave_to next with_blocks ◌>>=◌
  leaves_stuck kind h = ap (λ a. next st (with_blocks (record st { frame = g; below = below }) a)) h

module _ (c : CProgram) (st : State) (answer : Option Value) where
  pub ends : (status : ℕ) → status_of answer ≡ Got status → leave_to c st [] answer ≡ Ended status st.output st.calls
  unfolding leave_to finish
  ends status h = ap (finish st) h

  pub ends_stuck : (kind : StuckKind) → status_of answer ≡ Bad kind → leave_to c st [] answer ≡ Halted kind st.output
  unfolding leave_to finish
  ends_stuck kind h = ap (finish st) h

module _ (c : CProgram) (v : View) (st : State) (rest : List Statement) (a : Option Expr) where
  pub gives : (answer : Option Value) → returned v st.frame.result a ≡ Got answer → do_statement c v st rest (t.Return a) ≡ leave c st answer
  unfolding do_statement leave_with
  gives answer h = ap (leave_with c st) h

  pub gives_none : (kind : StuckKind) → returned v st.frame.result a ≡ Bad kind → do_statement c v st rest (t.Return a) ≡ Halted kind st.output
  unfolding do_statement leave_with
  gives_none kind h = ap (leave_with c st) h

-- ---- the end of the variables

-- the blocks of variables are those that follow one another from the first one's on
pub variables_gone : (vars : List CVariable) (first count : ℕ) (blocks : Blocks) → count ≡ length vars → removed first count blocks ≡ without (names_from first vars) blocks
unfolding removed without names_from
variables_gone [] first zero blocks h = refl
variables_gone [] first (suc k) blocks h = absurd (omega (arith, h))
variables_gone (x ∷ vars) first zero blocks h = absurd (omega (arith, h))
variables_gone (x ∷ vars) first (suc k) blocks h = variables_gone vars (first + 1) k (slice_set blocks first None) (omega (arith, h))

-- ---- stores

-- where an evaluation stops, nothing is stored
pub no_answer : {A B : Type 0} (f : A → B) (blocks : Blocks) (e : Halt) (r : Result (Option Store) Halt) (a : Answer B) (h : B → Answer Blocks) → IsErrAnd r (λ x. x ≡ e) → Tells f (Err e) a → Answers blocks r (a >>= h)
unfolding ◌>>=◌
no_answer f blocks e (Ok x) a h p t = absurd p
no_answer f blocks (Stuck kind) (Err (Stuck k)) a h p t = let same : k ≡ kind = cc in ap Bad same ∙ ap (λ a. a >>= h) t
no_answer f blocks (Stuck kind) (Err Memory) a h p t = tt
no_answer f blocks Memory (Err (Stuck k)) a h p t = cc
no_answer f blocks Memory (Err Memory) a h p t = tt

pub stops_answer : (blocks : Blocks) (c : CProgram) (new : Runner) (input output calls : List ℕ) (e : Halt) (r : Result Done Halt) (a : Answer Blocks) (after : Next)
    → IsErrAnd r (λ x. x ≡ e) → Answers blocks (Err e) a → ((kind : StuckKind) → a ≡ Bad kind → after ≡ Halted kind output) → Acts c new input output calls r after
stops_answer blocks c new input output calls e (Ok x) a after p t h = absurd p
stops_answer blocks c new input output calls (Stuck kind) (Err (Stuck k)) a after p t h = let same : k ≡ kind = cc in ap (λ x. Halted x output) same ∙ sym (h kind (sym t))
stops_answer blocks c new input output calls (Stuck kind) (Err Memory) a after p t h = tt
stops_answer blocks c new input output calls Memory (Err (Stuck k)) a after p t h = cc
stops_answer blocks c new input output calls Memory (Err Memory) a after p t h = tt

pub answer_with : {B : Type 0} (blocks : Blocks) (r : Result (Option Store) Halt) (a : Answer B) (x : B) (h : B → Answer Blocks) → Got x ≡ a → Answers blocks r (h x) → Answers blocks r (a >>= h)
unfolding ◌>>=◌
answer_with blocks r a x h e t = subst (λ a. Answers blocks r (a >>= h)) e t
