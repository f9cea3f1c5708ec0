-- Answers of steady code at two bounds.
use Rattle.std.proofs.Common.{ℕ, zero, suc, ◌≤◌, List, [], refl, true, false, nat_eq, Option, Some, None, arith}
use Rattle.typed_tree.specs.declared.declarations.VarDecl.{VarDecl}
use Rattle.meanings.specs.Values.{RoutineValue}
use Rattle.meanings.specs.Worlds.{World}
use Rattle.meanings.specs.Outcomes.{Goto, Leave, Raise, Halt, ReadUndefined, Malformed, Cut, Outcome, Normal, Exits, world_of}
use Rattle.meanings.specs.Programs.{Passed, Level}
use Rattle.meanings.specs.Code.{RoutineCode, BlockCode, Code, routine_at, result_of, activation, activate, extend, level, initial_parts, whole_program, start, exit_answer, answer_of, answer}
use Rattle.meanings.specs.Bounds.{IsPrefix, Grows, Fits, Same, IsCut, AtMost, Ends, Further, Both, Steady, EachRoutine, NoRoutine, OneRoutine, EachBlock, NoBlock, OneBlock, SteadyCode, output_of, entries_of, Keeps, BoundsAgree}
use Rattle.meanings.proofs.Growth.{prefix_refl, grows_refl, steady_bind, steady_then, steady_pure, steady_ask, steady_check, steady_entry, steady_enter, steady_handle, steady_at}

steady_result : (r : Option VarDecl) → Steady (result_of r)
unfolding result_of
steady_result None = steady_pure _
steady_result (Some v) = steady_ask _

steady_activation : (r : RoutineCode) → Steady r.run → (c : RoutineValue) (args : List Passed) → Steady (activation r c args)
unfolding activation
steady_activation r m c args = steady_then (steady_then (steady_then (steady_then (steady_then (steady_check _) (steady_ask _)) (steady_bind (steady_ask _) (λ types. steady_enter _))) (steady_entry _)) (steady_handle _ m)) (steady_result r.result)

-- the routine with a number, where there is one
pub data Found : Option RoutineCode → Type 0 where
  Nothing : Found None
  Routine : (r : RoutineCode) → Steady r.run → Found (Some r)

found : {rs : List RoutineCode} → EachRoutine rs → (k : ℕ) → Found (routine_at rs k)
unfolding routine_at
found NoRoutine k = Nothing
found (OneRoutine {r = r} {rs = rs} m e) k = elim (nat_eq r.number k) as (λ b. Found (elim b [ true ↦ Some r | false ↦ routine_at rs k ])) [ true ↦ Routine r m | false ↦ found e k ]

fits_activate : (p : Code) (l l' : Level) → AtMost l l' → {o : Option RoutineCode} → Found o → (c : RoutineValue) (args : List Passed) (w : World)
    → Fits w (activate p.outline l o c args w) (activate p.outline l' o c args w)
unfolding activate
fits_activate p l l' b Nothing c args w = Same _ (grows_refl w)
fits_activate p l l' b (Routine r m) c args w = (steady_activation r m c args).by l l' b _ w

fits_extend : {p : Code} → SteadyCode p → (l l' : Level) → AtMost l l' → AtMost (extend p l) (extend p l')
unfolding extend
fits_extend {p = p} h l l' b = Both (record { by = λ c args w. fits_activate p l l' b (found h.routines c.routine) c args w }) b

none_extend : {p : Code} → SteadyCode p → (l : Level) → AtMost l l → AtMost [] l → AtMost [] (extend p l)
unfolding extend
none_extend {p = p} h l b below = Further (record { by = λ c args w. fits_activate p l l b (found h.routines c.routine) c args w }) below

pub levels : {p : Code} → SteadyCode p → (m n : ℕ) → m ≤ n → AtMost (level p m) (level p n)
unfolding level
levels h zero zero le = Ends
levels h zero (suc n) le = none_extend h _ (levels h n n (omega arith)) (levels h zero n (omega arith))
levels h (suc m) zero le = absurd (omega (arith, le))
levels h (suc m) (suc n) le = fits_extend h _ _ (levels h m n (omega (arith, le)))

steady_parts : (a : ℕ) {us : List BlockCode} → EachBlock us → Steady (initial_parts a us)
unfolding initial_parts
steady_parts a NoBlock = steady_pure tt
steady_parts a (OneBlock m e) = steady_then (steady_at a (steady_handle _ m)) (steady_parts (suc a) e)

pub steady_program : {p : Code} → SteadyCode p → Steady (whole_program p)
unfolding whole_program
steady_program h = steady_then (steady_then (steady_check _) (steady_parts 1 h.units)) h.main

same_keeps : (r : Outcome (Unit {0})) → Keeps (answer_of r) (answer_of r)
unfolding answer_of exit_answer
same_keeps (Normal x w) = refl
same_keeps (Exits (Goto a l) w) = refl
same_keeps (Exits (Leave a) w) = refl
same_keeps (Exits (Raise c) w) = refl
same_keeps (Exits (Halt n) w) = refl
same_keeps (Exits ReadUndefined w) = refl
same_keeps (Exits Malformed w) = refl
same_keeps (Exits Cut w) = (prefix_refl w.output, prefix_refl w.entries)

cut_keeps : (v : World) (r : Outcome (Unit {0})) → Grows v (world_of r) → IsPrefix v.output (output_of (answer_of r)) × IsPrefix v.entries (entries_of (answer_of r))
unfolding answer_of exit_answer
cut_keeps v (Normal x w) g = (g.output, g.entries)
cut_keeps v (Exits (Goto a l) w) g = (g.output, g.entries)
cut_keeps v (Exits (Leave a) w) g = (g.output, g.entries)
cut_keeps v (Exits (Raise c) w) g = (g.output, g.entries)
cut_keeps v (Exits (Halt n) w) g = (g.output, g.entries)
cut_keeps v (Exits ReadUndefined w) g = (g.output, g.entries)
cut_keeps v (Exits Malformed w) g = (g.output, g.entries)
cut_keeps v (Exits Cut w) g = (g.output, g.entries)

fits_keeps : {w : World} {r r' : Outcome (Unit {0})} → Fits w r r' → Keeps (answer_of r) (answer_of r')
unfolding answer_of exit_answer
fits_keeps (Same r g) = same_keeps r
fits_keeps (IsCut v r g h) = cut_keeps v r h

pub bounds_agree : BoundsAgree
unfolding answer
bounds_agree p h input m n le = fits_keeps ((steady_program h).by (level p m) (level p n) (levels h m n le) _ (start p input))
