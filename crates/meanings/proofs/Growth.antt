-- Which programs are steady: one lemma for each combinator.
use Rattle.std.proofs.Common.{◌≡◌, ℕ, List, [], ◌∷◌, ◌++◌, refl, sym, ap, ◌∙◌, append_assoc, Bool, true, false, Option, Some, None}
use Rattle.typed_tree.specs.declared.types.Types.{Types}
use Rattle.meanings.specs.Values.{RoutineValue}
use Rattle.meanings.specs.Worlds.{Activation, World, View, view}
use Rattle.meanings.specs.Outcomes.{Exit, Goto, Leave, Raise, Halt, ReadUndefined, Malformed, Cut, Outcome, Normal, Exits, world_of, and_then, Checked, Passes, Fails, Lacks, Misfits, checked}
use Rattle.meanings.specs.Programs.{Passed, Run, Level, Setting, Prog, ◌>>=◌, ◌>>◌, pure, stop, choose, ask, check, change, print, record_entry, enter, caught, handled, handle, below, run_routine, turns, at_activation}
use Rattle.meanings.specs.Bounds.{IsPrefix, Grows, Fits, Same, IsCut, RunFits, AtMost, Ends, Further, Both, Steady}
use Rattle.meanings.specs.Judgement.{Judgement}

append_nil : {A : Type 0} (xs : List A) → xs ++ [] ≡ xs
append_nil [] = refl
append_nil (x ∷ xs) = ap (λ t. x ∷ t) (append_nil xs)

pub prefix_refl : {A : Type 0} (xs : List A) → IsPrefix xs xs
prefix_refl xs = record { more = []; is = sym (append_nil xs) }

pub prefix_trans : {A : Type 0} {xs ys zs : List A} → IsPrefix xs ys → IsPrefix ys zs → IsPrefix xs zs
prefix_trans {xs = xs} p q = record { more = p.more ++ q.more; is = q.is ∙ ap (λ t. t ++ q.more) p.is ∙ append_assoc xs p.more q.more }

pub grows_refl : (w : World) → Grows w w
grows_refl w = record { output = prefix_refl w.output; entries = prefix_refl w.entries }

pub grows_trans : {u v w : World} → Grows u v → Grows v w → Grows u w
grows_trans g h = record { output = prefix_trans g.output h.output; entries = prefix_trans g.entries h.entries }

pub after : {X : Type 0} {u v : World} {r r' : Outcome X} → Grows u v → Fits v r r' → Fits u r r'
after g (Same r h) = Same r (grows_trans g h)
after g (IsCut v r h k) = IsCut v r (grows_trans g h) k

pub fits_grows : {X : Type 0} {w : World} {r r' : Outcome X} → Fits w r r' → Grows w (world_of r')
fits_grows (Same r g) = g
fits_grows (IsCut v r g h) = grows_trans g h

pub then_grows : {X Y : Type 0} {v : World} (r : Outcome X) (f : X → World → Outcome Y) → Grows v (world_of r)
    → ((x : X) (w : World) → Grows w (world_of (f x w))) → Grows v (world_of (and_then r f))
then_grows (Normal x w) f g h = grows_trans g (h x w)
then_grows (Exits e w) f g h = g

pub fits_then : {X Y : Type 0} {w : World} {r r' : Outcome X} {f f' : X → World → Outcome Y} → Fits w r r'
    → ((x : X) (v : World) → Fits v (f x v) (f' x v)) → Fits w (and_then r f) (and_then r' f')
fits_then (Same (Normal x v) g) h = after g (h x v)
fits_then (Same (Exits e v) g) h = Same (Exits e v) g
fits_then {f' = f'} (IsCut v r g k) h = IsCut v (and_then r f') g (then_grows r f' k (λ x w. fits_grows (h x w)))

pub steady_bind : {X Y : Type 0} {p : Prog X} {f : X → Prog Y} → Steady p → ((x : X) → Steady (f x)) → Steady (p >>= f)
unfolding ◌>>=◌
steady_bind m n = record { by = λ l l' b s w. fits_then (m.by l l' b s w) (λ x v. (n x).by l l' b s v) }

pub steady_then : {X Y : Type 0} {p : Prog X} {q : Prog Y} → Steady p → Steady q → Steady (p >> q)
unfolding ◌>>◌
steady_then m n = record { by = λ l l' b s w. fits_then (m.by l l' b s w) (λ x v. n.by l l' b s v) }

pub steady_pure : {X : Type 0} (x : X) → Steady (pure x)
unfolding pure
steady_pure x = record { by = λ l l' b s w. Same (Normal x w) (grows_refl w) }

pub steady_stop : {X : Type 0} (e : Exit) → Steady (stop {X = X} e)
unfolding stop
steady_stop e = record { by = λ l l' b s w. Same (Exits e w) (grows_refl w) }

pub steady_choose : {X : Type 0} (b : Bool) {p q : Prog X} → Steady p → Steady q → Steady (choose b p q)
unfolding choose
steady_choose true m n = m
steady_choose false m n = n

checked_grows : {X : Type 0} (c : Checked X) (w : World) → Grows w (world_of (checked c w))
checked_grows (Passes x) w = grows_refl w
checked_grows (Fails e) w = grows_refl w
checked_grows Lacks w = grows_refl w
checked_grows Misfits w = grows_refl w

pub steady_ask : {X : Type 0} (f : Setting → View → Checked X) → Steady (ask f)
unfolding ask
steady_ask f = record { by = λ l l' b s w. Same _ (checked_grows (f s (view w)) w) }

pub steady_check : {X : Type 0} (f : Types → Checked X) → Steady (check f)
unfolding check
steady_check f = record { by = λ l l' b s w. Same _ (checked_grows (f s.program.types) w) }

pub steady_change : (v : View) → Steady (change v)
unfolding change
steady_change v = record { by = λ l l' b s w. Same _ (record { output = prefix_refl w.output; entries = prefix_refl w.entries }) }

pub steady_print : (bytes : List ℕ) → Steady (print bytes)
unfolding print
steady_print bytes = record { by = λ l l' b s w. Same _ (record { output = record { more = bytes; is = refl }; entries = prefix_refl w.entries }) }

pub steady_entry : (k : ℕ) → Steady (record_entry k)
unfolding record_entry
steady_entry k = record { by = λ l l' b s w. Same _ (record { output = prefix_refl w.output; entries = record { more = k ∷ []; is = refl } }) }

pub steady_enter : (f : ℕ → Activation) → Steady (enter f)
unfolding enter
steady_enter f = record { by = λ l l' b s w. Same _ (record { output = prefix_refl w.output; entries = prefix_refl w.entries }) }

caught_world : {X : Type 0} (o : Option X) (e : Exit) (w : World) → world_of (caught o e w) ≡ w
caught_world None e w = refl
caught_world (Some x) e w = refl

pub handled_world : {X : Type 0} (test : Exit → Option X) (r : Outcome X) → world_of (handled test r) ≡ world_of r
handled_world test (Normal x w) = refl
handled_world test (Exits (Goto a l) w) = caught_world (test (Goto a l)) _ w
handled_world test (Exits (Leave a) w) = caught_world (test (Leave a)) _ w
handled_world test (Exits (Raise c) w) = caught_world (test (Raise c)) _ w
handled_world test (Exits (Halt n) w) = caught_world (test (Halt n)) _ w
handled_world test (Exits ReadUndefined w) = refl
handled_world test (Exits Malformed w) = refl
handled_world test (Exits Cut w) = refl

pub fits_handled : {X : Type 0} {w : World} (test : Exit → Option X) {r r' : Outcome X} → Fits w r r' → Fits w (handled test r) (handled test r')
fits_handled test (Same r g) = Same _ (rw (handled_world test r) g)
fits_handled test (IsCut v r g h) = IsCut v _ g (rw (handled_world test r) h)

pub steady_handle : {X : Type 0} (test : Setting → Exit → Option X) {p : Prog X} → Steady p → Steady (handle test p)
unfolding handle
steady_handle test m = record { by = λ l l' b s w. fits_handled (test s) (m.by l l' b s w) }

pub run_refl : {run run' : Run} → RunFits run run' → RunFits run' run'
run_refl m = record { by = λ routine args w. Same _ (fits_grows (m.by routine args w)) }

-- the greater bound with itself
pub upper : {l l' : Level} → AtMost l l' → AtMost l' l'
upper Ends = Ends
upper (Further m b) = Both m (upper b)
upper (Both m b) = Both (run_refl m) (upper b)

pub steady_below : {X : Type 0} {p : Prog X} → Steady p → Steady (below p)
unfolding below
steady_below {p = p} m = record { by = go } where
  go : (l l' : Level) → AtMost l l' → (s : Setting) (w : World) → Fits w (below p s l w) (below p s l' w)
  go [] [] Ends s w = Same _ (grows_refl w)
  go [] (run ∷ l) (Further f b) s w = IsCut w _ (grows_refl w) (fits_grows (m.by l l (upper b) s w))
  go (run ∷ l) [] b s w = elim b [ ]
  go (run ∷ l) (run' ∷ l') (Both f b) s w = m.by l l' b s w

pub steady_run : (r : RoutineValue) (args : List Passed) → Steady (run_routine r args)
unfolding run_routine
steady_run r args = record { by = go } where
  go : (l l' : Level) → AtMost l l' → (s : Setting) (w : World) → Fits w (run_routine r args s l w) (run_routine r args s l' w)
  go [] [] Ends s w = Same _ (grows_refl w)
  go [] (run ∷ l) (Further f b) s w = IsCut w _ (grows_refl w) (fits_grows (f.by r args w))
  go (run ∷ l) [] b s w = elim b [ ]
  go (run ∷ l) (run' ∷ l') (Both f b) s w = f.by r args w

pub steady_turns : {S : Type 0} {body : S → Prog (Option S)} → ((state : S) → Steady (body state)) → (state : S) → Steady (turns body state)
unfolding turns
steady_turns {S = S} {body = body} m state = record { by = λ l l' b. go l l' b state } where
  go : (l l' : Level) → AtMost l l' → (state : S) (s : Setting) (w : World) → Fits w (turns body state s l w) (turns body state s l' w)
  go [] [] Ends state s w = fits_then ((m state).by [] [] Ends s w) (elim [ None ↦ λ v. Same _ (grows_refl v) | Some next ↦ λ v. Same _ (grows_refl v) ])
  go [] (run ∷ l) (Further f b) state s w = fits_then ((m state).by [] (run ∷ l) (Further f b) s w)
      (elim [ None ↦ λ v. Same _ (grows_refl v) | Some next ↦ λ v. IsCut v _ (grows_refl v) (fits_grows (go [] l b next s v)) ])
  go (run ∷ l) [] b state s w = elim b [ ]
  go (run ∷ l) (run' ∷ l') (Both f b) state s w = fits_then ((m state).by (run ∷ l) (run' ∷ l') (Both f b) s w)
      (elim [ None ↦ λ v. Same _ (grows_refl v) | Some next ↦ λ v. go l l' b next s v ])

pub steady_at : {X : Type 0} (a : ℕ) {p : Prog X} → Steady p → Steady (at_activation a p)
unfolding at_activation
steady_at a m = record { by = λ l l' b s w. m.by l l' b _ w }

-- that a program is steady is a judgement that the combinators keep
abbrev pub steady : Judgement
steady = record {
  Holds = Steady;
  of_bind = steady_bind;
  of_then = steady_then;
  of_pure = steady_pure;
  of_stop = λ e. steady_stop e;
  of_choose = steady_choose;
  of_ask = steady_ask;
  of_check = steady_check;
  of_change = steady_change;
  of_print = steady_print;
  of_handle = steady_handle;
  of_below = steady_below;
  of_run = steady_run;
  of_turns = steady_turns;
}
