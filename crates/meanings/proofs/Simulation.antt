-- How the combinators keep `Sim`, and that what is made of them sees no temporaries.
use Rattle.std.proofs.Common.{ℕ, suc, ◌≤◌, ◌<◌, List, [], ◌∷◌, ◌++◌, refl, ◌∙◌, Bool, true, false, Option, Some, None, arith}
use Rattle.typed_tree.specs.declared.types.Types.{Types}
use Rattle.meanings.specs.Values.{RoutineValue}
use Rattle.meanings.specs.Worlds.{Activation, World, View, view, changed, Temporaries, with_temporaries}
use Rattle.meanings.specs.Outcomes.{Exit, Goto, Leave, Raise, Halt, ReadUndefined, Malformed, Cut, Outcome, and_then, Checked, Passes, Fails, Lacks, Misfits, checked}
use Rattle.meanings.specs.Programs.{Passed, Level, Setting, Prog, ◌>>=◌, ◌>>◌, pure, stop, choose, ask, check, change, print, record_entry, enter, caught, handled, handle, below, run_routine, turns}
use Rattle.meanings.specs.Judgement.{Judgement}
use Rattle.meanings.specs.Temporaries.{Both, Normals, BothExit, Kept, KeptAll, SameLevels, Ends, And, Sim, Same}

pub kept_refl : (a k n : ℕ) (m : Temporaries) → Kept a k n m m
kept_refl a k n m = record { others = λ b d h e. refl; own = λ d h. refl }

pub kept_trans : {a k k' n n' : ℕ} {m m' m'' : Temporaries} → k ≤ k' → n ≤ n' → Kept a k n m m' → Kept a k' n' m' m'' → Kept a k n m m''
kept_trans h i p q = record { others = λ b d j e. q.others b d (omega arith) e ∙ p.others b d j e; own = λ d j. q.own d (omega arith) ∙ p.own d j }

pub all_kept : {a k n : ℕ} {m m' : Temporaries} → a < n → KeptAll n m m' → Kept a k n m m'
all_kept h q = record { others = λ b d i e. q.by b d i; own = λ d i. q.by _ d h }

pub both_weaken : {X : Type 0} {n n' : ℕ} {K K' : Temporaries → Type 0} {r r' : Outcome X} → n' ≤ n → ((m : Temporaries) → K m → K' m) → Both n K r r' → Both n' K' r r'
both_weaken h f (Normals x w m i j) = Normals x w m (omega arith) (f m j)
both_weaken h f (BothExit e w m i j) = BothExit e w m (omega arith) (f m j)

pub both_then : {X Y : Type 0} {n : ℕ} {K K' : Temporaries → Type 0} {r r' : Outcome X} {f : X → World → Outcome Y} (f' : X → World → Outcome Y) → ((m : Temporaries) → K m → K' m) → Both n K r r'
    → ((x : X) (w : World) (m : Temporaries) → n ≤ w.next → K m → Both n K' (f x w) (f' x (with_temporaries w m))) → Both n K' (and_then r f) (and_then r' f')
both_then f' j (Normals x w m h i) g = g x w m h i
both_then f' j (BothExit e w m h i) g = BothExit e w m h (j m i)

-- after a first part, from its world on
pub both_next : {X : Type 0} {a k k' n : ℕ} {m m' : Temporaries} (w : World) {r r' : Outcome X} → k ≤ k' → n ≤ w.next → Kept a k n m m'
    → Both w.next (Kept a k' w.next m') r r' → Both n (Kept a k n m) r r'
both_next w h i j b = both_weaken i (λ m'' q. kept_trans h i j q) b

pub sim_bind : {X Y : Type 0} {k : ℕ} {p p' : Prog X} {f f' : X → Prog Y} → Sim k p p' → ((x : X) → Sim k (f x) (f' x)) → Sim k (p >>= f) (p' >>= f')
unfolding ◌>>=◌
sim_bind g h = record {
  by = λ s l l' w m b lt. both_then _ (λ m' q. q) (g.by s l l' w m b lt)
      (λ x v m' le q. both_next v (omega arith) le q ((h x).by s l l' v m' b (omega arith)));
}

pub sim_then : {X Y : Type 0} {k : ℕ} {p p' : Prog X} {q q' : Prog Y} → Sim k p p' → Sim k q q' → Sim k (p >> q) (p' >> q')
unfolding ◌>>◌
sim_then g h = record {
  by = λ s l l' w m b lt. both_then _ (λ m' q. q) (g.by s l l' w m b lt)
      (λ x v m' le q. both_next v (omega arith) le q (h.by s l l' v m' b (omega arith)));
}

-- fewer temporaries may change than may from a lesser number on
pub sim_less : {X : Type 0} {k k' : ℕ} {p p' : Prog X} → k ≤ k' → Sim k' p p' → Sim k p p'
sim_less h g = record { by = λ s l l' w m b lt. both_weaken (omega arith) (λ m' q. record { others = q.others; own = λ d i. q.own d (omega arith) }) (g.by s l l' w m b lt) }

pub sim_pure : {X : Type 0} (k : ℕ) (x : X) → Sim k (pure x) (pure x)
unfolding pure
sim_pure k x = record { by = λ s l l' w m b lt. Normals x w m (omega arith) (kept_refl _ _ _ _) }

pub sim_stop : {X : Type 0} (k : ℕ) (e : Exit) → Sim k (stop {X = X} e) (stop e)
unfolding stop
sim_stop k e = record { by = λ s l l' w m b lt. BothExit e w m (omega arith) (kept_refl _ _ _ _) }

pub sim_choose : {X : Type 0} {k : ℕ} (b : Bool) {p p' q q' : Prog X} → Sim k p p' → Sim k q q' → Sim k (choose b p q) (choose b p' q')
unfolding choose
sim_choose true g h = g
sim_choose false g h = h

both_checked : {X : Type 0} (k : ℕ) (s : Setting) (w : World) (m : Temporaries) (c : Checked X) → Both w.next (Kept s.here k w.next m) (checked c w) (checked c (with_temporaries w m))
both_checked k s w m (Passes x) = Normals x w m (omega arith) (kept_refl _ _ _ _)
both_checked k s w m (Fails e) = BothExit _ w m (omega arith) (kept_refl _ _ _ _)
both_checked k s w m Lacks = BothExit _ w m (omega arith) (kept_refl _ _ _ _)
both_checked k s w m Misfits = BothExit _ w m (omega arith) (kept_refl _ _ _ _)

pub sim_ask : {X : Type 0} (k : ℕ) (f : Setting → View → Checked X) → Sim k (ask f) (ask f)
unfolding ask
sim_ask k f = record { by = λ s l l' w m b lt. both_checked k s w m (f s (view w)) }

pub sim_check : {X : Type 0} (k : ℕ) (f : Types → Checked X) → Sim k (check f) (check f)
unfolding check
sim_check k f = record { by = λ s l l' w m b lt. both_checked k s w m (f s.program.types) }

pub sim_change : (k : ℕ) (v : View) → Sim k (change v) (change v)
unfolding change
sim_change k v = record { by = λ s l l' w m b lt. Normals tt (changed v w) m (omega arith) (kept_refl _ _ _ _) }

pub sim_print : (k : ℕ) (bytes : List ℕ) → Sim k (print bytes) (print bytes)
unfolding print
sim_print k bytes = record { by = λ s l l' w m b lt. Normals tt (record w { output = w.output ++ bytes }) m (omega arith) (kept_refl _ _ _ _) }

pub sim_entry : (k n : ℕ) → Sim k (record_entry n) (record_entry n)
unfolding record_entry
sim_entry k n = record { by = λ s l l' w m b lt. Normals tt (record w { entries = w.entries ++ (n ∷ []) }) m (omega arith) (kept_refl _ _ _ _) }

pub sim_enter : (k : ℕ) (f : ℕ → Activation) → Sim k (enter f) (enter f)
unfolding enter
sim_enter k f = record { by = λ s l l' w m b lt. Normals tt (record w { activations = f w.next ∷ w.activations; next = suc w.next }) m (omega arith) (kept_refl _ _ _ _) }

both_caught : {X : Type 0} {n : ℕ} {K : Temporaries → Type 0} (o : Option X) (e : Exit) (w : World) (m : Temporaries) → n ≤ w.next → K m → Both n K (caught o e w) (caught o e (with_temporaries w m))
both_caught None e w m h i = BothExit e w m h i
both_caught (Some x) e w m h i = Normals x w m h i

pub both_handled : {X : Type 0} {n : ℕ} {K : Temporaries → Type 0} (test : Exit → Option X) {r r' : Outcome X} → Both n K r r' → Both n K (handled test r) (handled test r')
both_handled test (Normals x w m h i) = Normals x w m h i
both_handled test (BothExit (Goto a l) w m h i) = both_caught (test (Goto a l)) _ w m h i
both_handled test (BothExit (Leave a) w m h i) = both_caught (test (Leave a)) _ w m h i
both_handled test (BothExit (Raise c) w m h i) = both_caught (test (Raise c)) _ w m h i
both_handled test (BothExit (Halt n) w m h i) = both_caught (test (Halt n)) _ w m h i
both_handled test (BothExit ReadUndefined w m h i) = BothExit _ w m h i
both_handled test (BothExit Malformed w m h i) = BothExit _ w m h i
both_handled test (BothExit Cut w m h i) = BothExit Cut w m h i

pub sim_handle : {X : Type 0} {k : ℕ} (test : Setting → Exit → Option X) {p p' : Prog X} → Sim k p p' → Sim k (handle test p) (handle test p')
unfolding handle
sim_handle test g = record { by = λ s l l' w m b lt. both_handled (test s) (g.by s l l' w m b lt) }

pub sim_below : {X : Type 0} {k : ℕ} {p p' : Prog X} → Sim k p p' → Sim k (below p) (below p')
unfolding below
sim_below {k = k} {p = p} {p' = p'} g = record { by = λ s l l' w m b lt. go s l l' w m b lt } where
  go : (s : Setting) (l l' : Level) (w : World) (m : Temporaries) → SameLevels l l' → s.here < w.next → Both w.next (Kept s.here k w.next m) (below p s l w) (below p' s l' (with_temporaries w m))
  go s [] [] w m Ends lt = BothExit Cut w m (omega arith) (kept_refl _ _ _ _)
  go s [] (run ∷ l) w m b lt = elim b [ ]
  go s (run ∷ l) [] w m b lt = elim b [ ]
  go s (run ∷ l) (run' ∷ l') w m (And f b) lt = g.by s l l' w m b lt

pub sim_run : (k : ℕ) (c : RoutineValue) (args : List Passed) → Sim k (run_routine c args) (run_routine c args)
unfolding run_routine
sim_run k c args = record { by = λ s l l' w m b lt. go s l l' w m b lt } where
  go : (s : Setting) (l l' : Level) (w : World) (m : Temporaries) → SameLevels l l' → s.here < w.next → Both w.next (Kept s.here k w.next m) (run_routine c args s l w) (run_routine c args s l' (with_temporaries w m))
  go s [] [] w m Ends lt = BothExit Cut w m (omega arith) (kept_refl _ _ _ _)
  go s [] (run ∷ l) w m b lt = elim b [ ]
  go s (run ∷ l) [] w m b lt = elim b [ ]
  go s (run ∷ l) (run' ∷ l') w m (And f b) lt = both_weaken (omega arith) (λ m' q. all_kept lt q) (f.by c args w m)

pub sim_turns : {S : Type 0} {k : ℕ} {body body' : S → Prog (Option S)} → ((state : S) → Sim k (body state) (body' state)) → (state : S) → Sim k (turns body state) (turns body' state)
unfolding turns
sim_turns {S = S} {k = k} {body = body} {body' = body'} g state = record { by = λ s l l' w m b lt. go s l l' w m state b lt } where
  go : (s : Setting) (l l' : Level) (w : World) (m : Temporaries) (state : S) → SameLevels l l' → s.here < w.next → Both w.next (Kept s.here k w.next m) (turns body state s l w) (turns body' state s l' (with_temporaries w m))
  go s [] [] w m state Ends lt = both_then _ (λ m' q. q) ((g state).by s [] [] w m Ends lt)
      (elim [ None ↦ λ v m' le q. Normals tt v m' le q | Some next ↦ λ v m' le q. BothExit Cut v m' le q ])
  go s [] (run ∷ l) w m state b lt = elim b [ ]
  go s (run ∷ l) [] w m state b lt = elim b [ ]
  go s (run ∷ l) (run' ∷ l') w m state (And f b) lt = both_then _ (λ m' q. q) ((g state).by s (run ∷ l) (run' ∷ l') w m (And f b) lt)
      (elim [ None ↦ λ v m' le q. Normals tt v m' le q | Some next ↦ λ v m' le q. both_next v (omega arith) le q (go s l l' v m' next b (omega arith)) ])

-- that a program sees no temporaries is a judgement that the combinators keep
abbrev pub same : Judgement
same = record {
  Holds = Same;
  of_bind = λ g h. record { at = λ k. sim_bind (g.at k) (λ x. (h x).at k) };
  of_then = λ g h. record { at = λ k. sim_then (g.at k) (h.at k) };
  of_pure = λ x. record { at = λ k. sim_pure k x };
  of_stop = λ e. record { at = λ k. sim_stop k e };
  of_choose = λ b g h. record { at = λ k. sim_choose b (g.at k) (h.at k) };
  of_ask = λ f. record { at = λ k. sim_ask k f };
  of_check = λ f. record { at = λ k. sim_check k f };
  of_change = λ v. record { at = λ k. sim_change k v };
  of_print = λ bytes. record { at = λ k. sim_print k bytes };
  of_handle = λ test g. record { at = λ k. sim_handle test (g.at k) };
  of_below = λ g. record { at = λ k. sim_below (g.at k) };
  of_run = λ r args. record { at = λ k. sim_run k r args };
  of_turns = λ g state. record { at = λ k. sim_turns (λ x. (g x).at k) state };
}
