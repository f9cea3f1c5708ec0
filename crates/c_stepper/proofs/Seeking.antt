-- What a `getchar` asks for.
use Rattle.std.proofs.Common.{◌≡◌, ℕ, ◌+◌, Bool, true, false, List, [], ◌∷◌, Option, Some, None, Result, Ok, Err, refl, sym, ap, ◌∙◌}
use Rattle.c_tree.specs.Tree as t
use Rattle.c_tree.specs.Tree.{Statement, Place}
use Rattle.c_tree.specs.declared.program.CProgram.{CProgram}
use Rattle.c_meaning.specs.declared.StuckKind.{StuckKind}
use Rattle.c_meaning.specs.Answer.{Got, Bad, ◌>>=◌}
use Rattle.c_meaning.specs.Evaluate.{View, Site, place}
use Rattle.c_meaning.specs.States.{State}
use Rattle.c_meaning.specs.Steps.{Halted, view_of, CStep}
use Rattle.c_cells.specs.declared.halt.Halt.{Halt}
use Rattle.c_cells.specs.declared.halt.Halt.TheVariants.{Stuck, Memory}
use Rattle.c_evaluation.specs.Stores.{Finds, byte_stored}
use Rattle.held_bytes.specs.Held.{first_of}
use Rattle.c_stepper.specs.Guides.{IsGuide}
use Rattle.c_stepper.specs.Quick.{ReadsNot}
use Rattle.c_stepper.specs.Spots.{todo_at}
use Rattle.c_stepper.specs.Runners.{state_of, runner_view, body_at, statement_at, is_reading, reads_in, reads_here, IsSettled, AsksForByte, Seeks}
use Rattle.c_stepper.specs.declared.runner.Runner.{Runner}
use Rattle.c_stepper.proofs.Todo.{todo_next, todo_end}
use Rattle.c_stepper.proofs.Acting.{read_none}
use Rattle.c_stepper.proofs.Stepping.{acted}

-- without its place nothing is stored
no_store : (v : View) (at : Place) (byte : Option ℕ) (kind : StuckKind) → place v at ≡ Bad kind → byte_stored v at byte ≡ Bad kind
unfolding ◌>>=◌
no_store v at byte kind h = rw h refl

module _ (c : CProgram) (it : Runner) (at : Place) (here : statement_at c it.frame ≡ Some (t.GetChar at)) (input output calls : List ℕ) where
  abbrev st : State
  st = state_of c it input output calls

  abbrev rest : List t.Statement
  rest = todo_at (body_at c it.frame) it.frame.spot.outer.items (it.frame.spot.at + 1)

  asks : (site : Site) → place (runner_view c it) at ≡ Got site → AsksForByte c st
  unfolding view_of
  asks site h = record { at = at; rest = rest; next = todo_next (body_at c it.frame) it.frame.spot.outer.items it.frame.spot.at (t.GetChar at) here; site = site; found = h }

  stuck : (kind : StuckKind) → place (runner_view c it) at ≡ Bad kind → Halted kind output ≡ CStep c st
  stuck kind h =
      sym (read_none c (runner_view c it) st rest at kind (first_of input) refl (no_store (runner_view c it) at (first_of input) kind h))
      ∙ acted c it input output calls (t.GetChar at) here

pub sought : (c : CProgram) (it : Runner) (at : Place) (r : Result (Unit {0}) Halt) → statement_at c it.frame ≡ Some (t.GetChar at) → Finds r (place (runner_view c it) at)
    → (input output calls : List ℕ) → Seeks c (state_of c it input output calls) r
sought c it at (Ok done) here h input output calls = asks c it at here input output calls h.0 h.1
sought c it at (Err (Stuck kind)) here h input output calls = stuck c it at here input output calls kind h
sought c it at (Err Memory) here h input output calls = tt

-- ---- where no `getchar` comes next, no byte is asked for

not_first : (s : Statement) (at : Place) (rest after : List Statement) → is_reading s ≡ false → s ∷ rest ≡ t.GetChar at ∷ after → ⊥
not_first (t.GetChar at') at rest after h e = cc
not_first s at rest after h e = let same : s ≡ t.GetChar at = cc in let k : ◌≡◌ {A = Bool} true false = ap is_reading (sym same) ∙ h in cc

not_asked_at : (c : CProgram) (it : Runner) (input output calls : List ℕ) (o : Option Statement) → statement_at c it.frame ≡ o → reads_in o ≡ false → IsSettled c it.frame → AsksForByte c (state_of c it input output calls) → ⊥
not_asked_at c it input output calls None here h settled asks =
    let none = todo_end (body_at c it.frame) it.frame.spot.outer.items it.frame.spot.at here settled in
    let both : [] ≡ t.GetChar asks.at ∷ asks.rest = sym none ∙ asks.next in
    cc
not_asked_at c it input output calls (Some s) here h settled asks =
    let some = todo_next (body_at c it.frame) it.frame.spot.outer.items it.frame.spot.at s here in
    not_first s asks.at (todo_at (body_at c it.frame) it.frame.spot.outer.items (it.frame.spot.at + 1)) asks.rest h (sym some ∙ asks.next)

pub not_asked : (c : CProgram) (it : Runner) (input output calls : List ℕ) → reads_here c it.frame ≡ false → IsSettled c it.frame → AsksForByte c (state_of c it input output calls) → ⊥
not_asked c it input output calls h settled asks = not_asked_at c it input output calls (statement_at c it.frame) refl h settled asks

-- nor where another statement is known to come next
pub reads_no_byte : (c : CProgram) (it : Runner) (input output calls : List ℕ) → IsGuide c it.guide → ReadsNot it.guide it.frame → AsksForByte c (state_of c it input output calls) → ⊥
reads_no_byte c it input output calls guide h asks =
    let s = h c guide in
    let some = todo_next (body_at c it.frame) it.frame.spot.outer.items it.frame.spot.at s.0 s.1 in
    not_first s.0 asks.at (todo_at (body_at c it.frame) it.frame.spot.outer.items (it.frame.spot.at + 1)) asks.rest s.2 (sym some ∙ asks.next)
