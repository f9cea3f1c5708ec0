-- What a run tells, by what its steps tell.
use Rattle.std.proofs.Common.{◌≡◌, ◌≢◌, ℕ, Bool, true, false, zero, suc, ◌+◌, ◌≤◌, ◌<◌, List, [], ◌∷◌, ◌++◌, length, take, Option, Some, None, refl, sym, ap, subst, ◌∙◌, append_assoc, inl, inr, ◌⊎◌, arith}
use Rattle.std.proofs.lemmas.List.{append-nil}
use Rattle.std.specs.declared.alloc.AllocError.{AllocError}
use Rattle.c_tree.specs.declared.program.CProgram.{CProgram}
use Rattle.c_meaning.specs.declared.StuckKind.{StuckKind}
use Rattle.c_meaning.specs.States.{State}
use Rattle.c_meaning.specs.Steps.{Next, Onward, Ended, Halted, CStep}
use Rattle.c_meaning.specs.Runs as m
use Rattle.c_meaning.specs.Runs.{start, run_from, answer_of, CRun}
use Rattle.c_meaning.proofs.Later.{run_on, final_stays}
use Rattle.c_stepper.proofs.Counting.{none_more, one_more}
use Rattle.c_machine.proofs.Machining.{gained}
use Rattle.p2c_outside.specs.Counts.{Rose}
use Rattle.p2c_outside.specs.Told as o
use Rattle.p2c_outside.specs.Told.{Gains, IsEmpty}
use Rattle.held_bytes.specs.Written.{GainsPart}
use Rattle.held_bytes.proofs.ToldLemmas.{Gains-refl, Gains-append, GainsPart-second}
use Rattle.held_bytes.specs.declared.output.HeldOutput.{HeldOutput}
use Rattle.held_bytes.specs.Held.{bytes_in}
use Rattle.c_stepper.specs.Runners.{AsksForByte}
use Rattle.c_machine.specs.Machines.{stood, Begins, Dashes, Goes, Steps, Takes, output_at, Reaches, told, CutShort, IsAfter, MeetsNoEnd, WantsInput, StopsIn, TakesFew, PutsFirst, PutBefore, PutBeforeTaken, Ran, TakeFaults, PutFaults, RunFaults, ended_by}
use Rattle.c_machine.specs.declared.machine.Machine.{Machine}
use Rattle.c_machine.specs.declared.machine.Stepped.{Stepped}
use Rattle.c_machine.specs.declared.machine.Stepped.TheVariants as s
use Rattle.c_machine.specs.declared.machine.Ended as e
use Rattle.c_machine.specs.declared.machine.Ended.TheVariants as v

-- where a machine stands in a run on these bytes, of which these are left
pub record Stands (c : CProgram) (bytes : List ℕ) (m : Machine) (left : List ℕ) (w w' : Option (List ℕ)) : Type 0 where
  pub output : List ℕ
  pub calls : List ℕ
  pub sent : List ℕ
  pub run : run_from c m.taken (Onward (start c bytes)) ≡ Onward (stood c m left output calls)
  pub count : length calls ≡ m.calls
  pub put : Gains w w' sent
  pub is : output ≡ sent ++ m.output.bytes.items

-- where it stands in a run on the bytes that were taken, whatever comes after them
pub record Along (c : CProgram) (bytes : List ℕ) (m : Machine) (left' w w' : Option (List ℕ)) : Type 0 where
  pub taken : List ℕ
  pub loses : o.Loses (Some bytes) left' taken
  pub stands : (rest : List ℕ) → (m.input.over ≡ true → rest ≡ []) → Stands c (taken ++ rest) m rest w w'
  pub served : m.input.over ≡ false → (rest : List ℕ) → MeetsNoEnd c (taken ++ rest) m.taken

split_at : (n j : ℕ) → (j < n) ⊎ ((i : ℕ) × (j ≡ n + i))
split_at zero j = inr (j, omega arith)
split_at (suc n) zero = inl (omega arith)
split_at (suc n) (suc j) = elim (split_at n j) [ inl l ↦ inl (omega (arith, l)) | inr e ↦ inr (e.0, omega (arith, e.1)) ]

-- a machine that has taken some steps by numbers alone
pub dashed_along : (c : CProgram) (bytes : List ℕ) (old new : Machine) (n : ℕ) (left' w w' : Option (List ℕ)) → Along c bytes old left' w w' → Dashes c old new n → Along c bytes new left' w w'
dashed_along c bytes old new n left' w w' h d = record {
  taken = h.taken;
  loses = h.loses;
  stands = λ rest over. stood_at rest (h.stands rest (λ t. over (ap (λ i. i.over) d.input ∙ t)));
  served = λ over rest j st low is asks.
      let was : old.input.over ≡ false = ap (λ i. i.over) (sym d.input) ∙ over in
      elim (split_at old.taken j) [
        | inl before ↦ h.served was rest j st before is asks
        | inr later ↦
            let s = h.stands rest (λ t. absurd (let k : ◌≡◌ {A = Bool} true false = sym t ∙ was in cc)) in
            let from = Onward (start c (h.taken ++ rest)) in
            let there : run_from c later.0 (Onward (stood c old rest s.output s.calls)) ≡ Onward st =
            ap (run_from c later.0) (sym s.run) ∙ sym (run_on c old.taken later.0 from) ∙ ap (λ k. run_from c k from) (sym later.1) ∙ is in
            let few : later.0 < n = omega (arith, low, later.1, d.taken) in
            absurd (d.reads_not rest s.output s.calls later.0 st few there asks)
      ];
}
  where
    stood_at : (rest : List ℕ) → Stands c (h.taken ++ rest) old rest w w' → Stands c (h.taken ++ rest) new rest w w'
    stood_at rest s = record {
      output = s.output;
      calls = s.calls;
      sent = s.sent;
      run =
          let from = Onward (start c (h.taken ++ rest)) in
          ap (λ k. run_from c k from) d.taken ∙ run_on c old.taken n from ∙ ap (run_from c n) s.run ∙ d.runs rest s.output s.calls;
      count = s.count ∙ sym d.calls;
      put = s.put;
      is = s.is ∙ ap (λ (o : HeldOutput). s.sent ++ o.bytes.items) (sym d.output);
    }

told_at : (a : Next) → told (answer_of a) ≡ output_at a
unfolding answer_of
told_at (Onward st) = refl
told_at (Ended status output calls) = refl
told_at (Halted kind output) = refl

module _ (c : CProgram) (bytes : List ℕ) (old : Machine) (left : List ℕ) (w w1 : Option (List ℕ)) (h : Stands c bytes old left w w1) where
  abbrev next : Next
  next = CStep c (stood c old left h.output h.calls)

  abbrev held : List ℕ
  held = old.output.bytes.items

  reached : run_from c (old.taken + 1) (Onward (start c bytes)) ≡ next
  reached = one_more c old.taken (Onward (start c bytes)) (stood c old left h.output h.calls) h.run

  pub goes : (new : Machine) (rest : List ℕ) (w2 : Option (List ℕ)) → Goes c held new (Some rest) w1 w2 h.output next → new.taken ≡ old.taken + 1 → Stands c bytes new rest w w2
  goes new rest w2 g t =
      let same : g.left ≡ rest = let some = g.input in cc in
      subst (λ (l : List ℕ). Stands c bytes new l w w2) same (record {
        output = h.output ++ g.added;
        calls = g.calls;
        sent = h.sent ++ g.put.sent;
        run = ap (λ n. run_from c n (Onward (start c bytes))) t ∙ reached ∙ g.step;
        count = g.count;
        put = Gains-append w w1 w2 h.sent g.put.sent h.put g.put.put;
        is = ap (λ o. o ++ g.added) h.is ∙ append_assoc h.sent held g.added ∙ ap (λ x. h.sent ++ x) g.put.is ∙ sym (append_assoc h.sent g.put.sent new.output.bytes.items);
      })

  all_put : (w2 : Option (List ℕ)) → Gains w1 w2 held → Gains w w2 h.output
  all_put w2 p = subst (Gains w w2) (sym h.is) (Gains-append w w1 w2 h.sent held h.put p)

  before : (most : ℕ) → old.taken ≤ most → Reaches c bytes most
  unfolding CRun answer_of
  before most l = record { steps = old.taken; within = l; output = h.output; calls = h.calls; is = ap answer_of h.run }

  output_told : told (CRun c bytes old.taken) ≡ h.output
  unfolding CRun
  output_told = told_at (run_from c old.taken (Onward (start c bytes))) ∙ ap output_at h.run

  next_told : told (CRun c bytes (old.taken + 1)) ≡ output_at next
  unfolding CRun
  next_told = told_at (run_from c (old.taken + 1) (Onward (start c bytes))) ∙ ap output_at reached

  cut_before : (most : ℕ) (w2 : Option (List ℕ)) → old.taken ≤ most → GainsPart w1 w2 held → CutShort c bytes most w w2
  cut_before most w2 l p = record {
    steps = old.taken;
    within = l;
    cut = subst (GainsPart w w2) (sym (output_told ∙ h.is)) (GainsPart-second w w1 w2 h.sent held h.put p);
  }

  cut_after : (most : ℕ) (w2 : Option (List ℕ)) (added : List ℕ) → old.taken + 1 ≤ most → output_at next ≡ h.output ++ added → GainsPart w1 w2 (held ++ added) → CutShort c bytes most w w2
  cut_after most w2 added l e p = record {
    steps = old.taken + 1;
    within = l;
    cut = subst (GainsPart w w2) (sym (next_told ∙ e ∙ ap (λ o. o ++ added) h.is ∙ append_assoc h.sent held added)) (GainsPart-second w w1 w2 h.sent (held ++ added) h.put p);
  }

  ends : (left' : Option (List ℕ)) (most : ℕ) (w2 : Option (List ℕ)) (status : ℕ) → old.taken + 1 ≤ most → next ≡ Ended status h.output h.calls → Gains w1 w2 held → Ran c bytes left' most w w2 (v.Status status old.calls)
  unfolding CRun answer_of
  ends left' most w2 status l e p = (h.output, h.calls, final_stays c bytes (old.taken + 1) most (m.End h.output status h.calls) tt l (ap answer_of (reached ∙ e)), h.count, all_put w2 p)

  sticks : (left' : Option (List ℕ)) (most : ℕ) (w2 : Option (List ℕ)) (kind : StuckKind) → old.taken + 1 ≤ most → next ≡ Halted kind h.output → Gains w1 w2 held → Ran c bytes left' most w w2 (v.Stuck kind)
  unfolding CRun answer_of
  sticks left' most w2 kind l e p = (h.output, final_stays c bytes (old.taken + 1) most (m.Stuck kind h.output) tt l (ap answer_of (reached ∙ e)), all_put w2 p)

  -- the run is over
  pub over : (new : Machine) (left' left1 w2 : Option (List ℕ)) (most : ℕ) (answer : Stepped) → old.taken + 1 ≤ most → answer ≢ s.Going → (answer ≡ s.InputFault → WantsInput c bytes left' most w w2)
      → Steps c held old.calls new left1 w1 w2 h.output h.calls answer next → Ran c bytes left' most w w2 (ended_by new.calls answer)
  unfolding before
  over new left' left1 w2 most s.Going l n i p = absurd (n refl)
  over new left' left1 w2 most (s.Ended status) l n i p = subst (λ k. Ran c bytes left' most w w2 (v.Status status k)) (sym p.1) (ends left' most w2 status l p.0 p.2)
  over new left' left1 w2 most (s.Stuck kind) l n i p = sticks left' most w2 kind l p.0 p.1
  over new left' left1 w2 most s.InputFault l n i p = ((before most (omega arith), all_put w2 p), i refl)
  over new left' left1 w2 most (s.Memory e) l n i p = (before most (omega arith), all_put w2 p)
  over new left' left1 w2 most s.OutputFault l n i (inl p) = cut_before most w2 (omega arith) p
  over new left' left1 w2 most s.OutputFault l n i (inr p) = cut_after most w2 p.0 l p.1 p.2

  -- the steps are done
  pub spent : (left' w2 : Option (List ℕ)) → Gains w1 w2 held → Ran c bytes left' old.taken w w2 v.Spent
  unfolding before
  spent left' w2 p = let r = before old.taken (omega arith) in (h.output, h.calls, r.is, all_put w2 p)

  pub spent_in_part : (left' w2 : Option (List ℕ)) → GainsPart w1 w2 held → Ran c bytes left' old.taken w w2 v.OutputFault
  spent_in_part left' w2 p = cut_before old.taken w2 (omega arith) p

-- ---- the start

begins_so : (c : CProgram) (bytes : List ℕ) (m : Machine) (w : Option (List ℕ)) → Begins c m → Stands c bytes m bytes w w
begins_so c bytes m w h = record {
  output = [];
  calls = [];
  sent = [];
  run = ap (λ n. run_from c n (Onward (start c bytes))) h.taken ∙ none_more c (Onward (start c bytes)) ∙ ap Onward (sym (h.state bytes));
  count = sym h.calls;
  put = Gains-refl w;
  is = sym h.held;
}

pub along_at_start : (c : CProgram) (bytes : List ℕ) (m : Machine) (w : Option (List ℕ)) → Begins c m → Along c bytes m (Some bytes) w w
along_at_start c bytes m w h = record {
  taken = [];
  loses = refl;
  stands = λ rest over. begins_so c rest m w h;
  served = λ before rest j st early. absurd (let none = h.taken in omega (arith, none, early));
}

input_at_start : (c : CProgram) (bytes : List ℕ) → (start c bytes).input ≡ bytes
unfolding start
input_at_start c bytes = refl

-- nothing was done
pub none_taken : (c : CProgram) (bytes : List ℕ) (most : ℕ) (e : AllocError) → TakesFew c bytes (Some bytes) most (v.Memory e)
unfolding run_from
none_taken c bytes most e = record { steps = 0; within = omega arith; state = start c bytes; is = refl; ahead = []; loses = input_at_start c bytes; few = inl (omega arith); stop = tt }

pub none_ran : (c : CProgram) (bytes : List ℕ) (most : ℕ) (w : Option (List ℕ)) → (r : Reaches c bytes most) × Gains w w r.output
unfolding CRun answer_of run_from start
none_ran c bytes most w = (record { steps = 0; within = omega arith; output = []; calls = []; is = refl }, Gains-refl w)

-- ---- faults

is_input : (k : ℕ) (a : Stepped) → ended_by k a ≡ v.InputFault → a ≡ s.InputFault
is_input k s.InputFault h = refl
is_input k s.Going h = cc
is_input k (s.Ended status) h = cc
is_input k (s.Stuck kind) h = cc
is_input k s.OutputFault h = cc
is_input k (s.Memory e) h = cc

is_output : (k : ℕ) (a : Stepped) → ended_by k a ≡ v.OutputFault → a ≡ s.OutputFault
is_output k s.OutputFault h = refl
is_output k s.Going h = cc
is_output k (s.Ended status) h = cc
is_output k (s.Stuck kind) h = cc
is_output k s.InputFault h = cc
is_output k (s.Memory e) h = cc

pub faults_of : (k : ℕ) (a : Stepped) (taken taken' put put' : ℕ) → TakeFaults taken taken' a → PutFaults put put' a → RunFaults taken taken' put put' (ended_by k a)
faults_of k a taken taken' put put' t p = record {
  no_input = λ n. t.none (λ e. n (ap (ended_by k) e));
  input = λ e. t.some (is_input k a e);
  no_output = λ n. p.none (λ e. n (ap (ended_by k) e));
  output = λ e. p.some (is_output k a e);
}

pub spent_faults : {P Q : Type 0} (taken taken' put put1 put' : ℕ) (r : e.Ended) → taken' ≡ taken → put1 ≡ put → (r ≢ v.OutputFault → (r ≡ v.Spent) × P × (put' ≡ put1)) → (r ≡ v.OutputFault → Q × Rose put1 put')
    → RunFaults taken taken' put put' r
spent_faults taken taken' put put1 put' r same held whole part = record {
  no_input = λ n. same;
  input = λ i. absurd (let n : r ≢ v.OutputFault = (λ o. absurd cc) in let spent = (whole n).0 in cc);
  no_output = λ n. (whole n).2 ∙ held;
  output = λ o. subst (λ (p : ℕ). Rose p put') held (part o).1;
}

-- where the steps are done, what is held is put
spent_so : (c : CProgram) (bytes : List ℕ) (old : Machine) (left : List ℕ) (left' w w1 w2 : Option (List ℕ)) (X Y : Type 0) (r : e.Ended) → Stands c bytes old left w w1
    → (r ≢ v.OutputFault → (r ≡ v.Spent) × Gains w1 w2 old.output.bytes.items × X) → (r ≡ v.OutputFault → GainsPart w1 w2 old.output.bytes.items × Y) → Ran c bytes left' old.taken w w2 r
spent_so c bytes old left left' w w1 w2 X Y v.Spent h good bad = spent c bytes old left w w1 h left' w2 (good (λ e. cc)).1
spent_so c bytes old left left' w w1 w2 X Y v.OutputFault h good bad = spent_in_part c bytes old left w w1 h left' w2 (bad refl).0
spent_so c bytes old left left' w w1 w2 X Y (v.Status status calls) h good bad = absurd (let is = (good (λ e. cc)).0 in cc)
spent_so c bytes old left left' w w1 w2 X Y (v.Stuck kind) h good bad = absurd (let is = (good (λ e. cc)).0 in cc)
spent_so c bytes old left left' w w1 w2 X Y v.InputFault h good bad = absurd (let is = (good (λ e. cc)).0 in cc)
spent_so c bytes old left left' w w1 w2 X Y (v.Memory x) h good bad = absurd (let is = (good (λ e. cc)).0 in cc)

-- ---- the bytes that a run takes

loses_both : (left left' left'' : Option (List ℕ)) (a b : List ℕ) → o.Loses left left' a → o.Loses left' left'' b → o.Loses left left'' (a ++ b)
loses_both None None None a b p q = tt
loses_both None None (Some z) a b p q = absurd q
loses_both None (Some y) left'' a b p q = absurd p
loses_both (Some x) None left'' a b p q = absurd p
loses_both (Some x) (Some y) None a b p q = absurd q
loses_both (Some x) (Some y) (Some z) a b p q = p ∙ ap (λ l. a ++ l) q ∙ sym (append_assoc a b z)

same_left : (left left' : Option (List ℕ)) → o.Loses left left' [] → left' ≡ left
same_left None None h = refl
same_left None (Some y) h = absurd h
same_left (Some x) None h = absurd h
same_left (Some x) (Some y) h = ap Some (sym h)

-- where more is put, what was written when bytes were taken was put before
more_put : (c : CProgram) (bytes : List ℕ) (left : Option (List ℕ)) (most : ℕ) (w w1 w2 : Option (List ℕ)) (put : List ℕ) → Gains w1 w2 put → PutBefore c bytes left most w w1 → PutBefore c bytes left most w w2
more_put c bytes left most w w1 w2 put g p = record {
  before = p.before;
  piece = p.piece;
  loses = p.loses;
  steps = p.steps;
  within = p.within;
  state = p.state;
  is = p.is;
  asks = p.asks;
  used_up = p.used_up;
  first = p.first;
  more = p.more ++ put;
  put = let st = p.state in subst (Gains w w2) (append_assoc st.output p.more put) (Gains-append w w1 w2 (st.output ++ p.more) put p.put g);
}

front_none : (a b : List ℕ) → a ++ b ≡ [] → a ≡ []
front_none [] b h = refl
front_none (x ∷ a) b h = cc

not_over : (old new : Bool) → (old ≡ true → new ≡ true) → new ≡ false → old ≡ false
not_over false new f h = refl
not_over true new f h = let k : ◌≡◌ {A = Bool} true false = sym (f refl) ∙ h in cc

one_later : (j n : ℕ) → (j < n) ⊎ (j ≡ n) → (suc j < suc n) ⊎ (suc j ≡ suc n)
one_later j n (inl before) = inl (omega (arith, before))
one_later j n (inr now) = inr (ap suc now)

at_most : (j n : ℕ) → j ≤ n → (j < n) ⊎ (j ≡ n)
at_most zero zero h = inr refl
at_most zero (suc n) h = inl (omega arith)
at_most (suc j) zero h = absurd (omega (arith, h))
at_most (suc j) (suc n) h = one_later j n (at_most j n (omega (arith, h)))

-- a run whose step tells this answer stops in the state before it
stops_by : (c : CProgram) (st : State) (was : List ℕ) (count : ℕ) (new : Machine) (left' w w' : Option (List ℕ)) (output calls : List ℕ) (answer : Stepped) (steps most : ℕ) → steps < most → answer ≢ s.Going
    → Steps c was count new left' w w' output calls answer (CStep c st) → (answer ≡ s.InputFault → AsksForByte c st) → StopsIn c st steps most (ended_by new.calls answer)
stops_by c st was count new left' w w' output calls s.Going steps most l n p asks = absurd (n refl)
stops_by c st was count new left' w w' output calls (s.Ended status) steps most l n p asks = (l, (output, calls, p.0))
stops_by c st was count new left' w w' output calls (s.Stuck kind) steps most l n p asks = (l, (output, p.0))
stops_by c st was count new left' w w' output calls s.InputFault steps most l n p asks = asks refl
stops_by c st was count new left' w w' output calls s.OutputFault steps most l n p asks = tt
stops_by c st was count new left' w w' output calls (s.Memory e) steps most l n p asks = tt

module _ (c : CProgram) (bytes : List ℕ) (old new : Machine) (left0 left1 w w1 w2 : Option (List ℕ)) (answer : Stepped) (a : Along c bytes old left0 w w1) (t : Takes c old new left0 left1 w1 w2 answer) where
  -- the bytes that are left before the step
  more_left : (rest : List ℕ) → (new.input.over ≡ true → rest ≡ []) → old.input.over ≡ true → t.taken ++ rest ≡ []
  more_left rest over h = let e = t.ends h in ap (λ l. l ++ rest) e.0 ∙ over e.1

  stood_before : (rest : List ℕ) → (new.input.over ≡ true → rest ≡ []) → Stands c (a.taken ++ (t.taken ++ rest)) old (t.taken ++ rest) w w1
  stood_before rest over = a.stands (t.taken ++ rest) (more_left rest over)

  pub along_stands : new.taken ≡ old.taken + 1 → answer ≡ s.Going → (rest : List ℕ) → (new.input.over ≡ true → rest ≡ []) → Stands c ((a.taken ++ t.taken) ++ rest) new rest w w2
  along_stands more is rest over =
      let h = stood_before rest over in
      let g = subst (λ (r : Stepped). Steps c old.output.bytes.items old.calls new (Some rest) w1 w2 h.output h.calls r (CStep c (stood c old (t.taken ++ rest) h.output h.calls))) is (t.step rest h.output h.calls over h.count) in
      subst (λ (l : List ℕ). Stands c l new rest w w2) (sym (append_assoc a.taken t.taken rest)) (goes c (a.taken ++ (t.taken ++ rest)) old (t.taken ++ rest) w w1 h new rest w2 g more)

  -- a byte that the step asks for is there
  served_now : answer ≡ s.Going → new.input.over ≡ false → (rest : List ℕ) (st : State) → IsAfter c (a.taken ++ (t.taken ++ rest)) old.taken st → AsksForByte c st → st.input ≢ []
  served_now going before rest st after asks none =
      let h = stood_before rest (λ e. absurd (let k : ◌≡◌ {A = Bool} true false = sym e ∙ before in cc)) in
      let both : Onward st ≡ Onward (stood c old (t.taken ++ rest) h.output h.calls) = sym after ∙ h.run in
      let same : st ≡ stood c old (t.taken ++ rest) h.output h.calls = cc in
      let input : bytes_in old.input ++ (t.taken ++ rest) ≡ [] = ap (λ (x : State). x.input) (sym same) ∙ none in
      t.served going before rest h.output h.calls (subst (AsksForByte c) same asks) (front_none (bytes_in old.input ++ t.taken) rest (append_assoc (bytes_in old.input) t.taken rest ∙ input))

  served_by : answer ≡ s.Going → new.input.over ≡ false → (rest : List ℕ) (j : ℕ) (st : State) → (j < old.taken) ⊎ (j ≡ old.taken) → IsAfter c (a.taken ++ (t.taken ++ rest)) j st → AsksForByte c st → st.input ≢ []
  served_by going before rest j st (inl early) after asks = a.served (not_over old.input.over new.input.over (λ e. (t.ends e).1) before) (t.taken ++ rest) j st early after asks
  served_by going before rest j st (inr now) after asks = served_now going before rest st (subst (λ (n : ℕ). IsAfter c (a.taken ++ (t.taken ++ rest)) n st) now after) asks

  pub along : new.taken ≡ old.taken + 1 → answer ≡ s.Going → Along c bytes new left1 w w2
  along more going = record {
    taken = a.taken ++ t.taken;
    loses = loses_both (Some bytes) left0 left1 a.taken t.taken a.loses t.loses;
    stands = along_stands more going;
    served = λ before rest j st early after asks.
        served_by going before rest j st (at_most j old.taken (omega (arith, early, more))) (subst (λ (l : List ℕ). IsAfter c l j st) (append_assoc a.taken t.taken rest) after) asks;
  }

  -- where the source fails, it failed at the first byte that is asked for and not there
  wants : (most : ℕ) → old.taken + 1 ≤ most → answer ≡ s.InputFault → WantsInput c bytes left1 most w w2
  wants most within is =
      let q = t.wants is in
      let h = a.stands [] (λ e. refl) in
      let g = subst (λ (r : Stepped). Steps c old.output.bytes.items old.calls new (Some []) w1 w2 h.output h.calls r (CStep c (stood c old (t.taken ++ []) h.output h.calls))) is (t.step [] h.output h.calls (λ e. refl) h.count) in
      record {
        taken = a.taken;
        loses = subst (o.Loses (Some bytes) left1) (ap (λ l. a.taken ++ l) q.2 ∙ append-nil a.taken) (loses_both (Some bytes) left0 left1 a.taken t.taken a.loses t.loses);
        steps = old.taken;
        within = omega (arith, within);
        state = stood c old [] h.output h.calls;
        is = subst (λ (l : List ℕ). IsAfter c l old.taken (stood c old [] h.output h.calls)) (append-nil a.taken) h.run;
        asks = q.3 [] h.output h.calls;
        used_up = append-nil (bytes_in old.input) ∙ q.1;
        first = subst (λ (l : List ℕ). MeetsNoEnd c l old.taken) (append-nil a.taken) (a.served q.0 []);
        put = all_put c (a.taken ++ []) old [] w w1 h w2 g;
      }

  -- what is told where the bytes that are left are told
  module _ (l1 : List ℕ) (first_left : left0 ≡ Some (t.taken ++ l1)) (last_left : left1 ≡ Some l1) (over1 : new.input.over ≡ true → l1 ≡ []) where
    whole : a.taken ++ (t.taken ++ l1) ≡ bytes
    whole = sym (subst (λ (x : Option (List ℕ)). o.Loses (Some bytes) x a.taken) first_left a.loses)

    here : Stands c bytes old (t.taken ++ l1) w w1
    here = subst (λ (b : List ℕ). Stands c b old (t.taken ++ l1) w w1) whole (stood_before l1 over1)

    told_ran : (most : ℕ) → old.taken + 1 ≤ most → answer ≢ s.Going → Ran c bytes left1 most w w2 (ended_by new.calls answer)
    told_ran most within n = over c bytes old (t.taken ++ l1) w w1 here new left1 (Some l1) w2 most answer within n (wants most within) (t.step l1 here.output here.calls over1 here.count)

    stops : (most : ℕ) → old.taken + 1 ≤ most → answer ≢ s.Going → StopsIn c (stood c old (t.taken ++ l1) here.output here.calls) old.taken most (ended_by new.calls answer)
    stops most within n =
        let st = stood c old (t.taken ++ l1) here.output here.calls in
        stops_by c st old.output.bytes.items old.calls new (Some l1) w1 w2 here.output here.calls answer old.taken most (omega (arith, within)) n (t.step l1 here.output here.calls over1 here.count)
        (λ is. let q = t.wants is in q.3 (t.taken ++ l1) here.output here.calls)

    told_few : (most : ℕ) → old.taken + 1 ≤ most → answer ≢ s.Going → TakesFew c bytes left1 most (ended_by new.calls answer)
    told_few most within n = record {
      steps = old.taken;
      within = omega (arith, within);
      state = stood c old (t.taken ++ l1) here.output here.calls;
      is = here.run;
      ahead = bytes_in old.input ++ t.taken;
      loses = subst (λ (x : Option (List ℕ)). o.Loses (Some (bytes_in old.input ++ (t.taken ++ l1))) x (bytes_in old.input ++ t.taken)) (sym last_left) (sym (append_assoc (bytes_in old.input) t.taken l1));
      few = t.few l1 here.output here.calls;
      stop = stops most within n;
    }

  -- ---- what is put before bytes are taken

  -- the step takes nothing
  taken_none : t.taken ≡ [] → left1 ≡ left0
  taken_none none = same_left left0 left1 (subst (o.Loses left0 left1) none t.loses)

  -- what the step puts
  put_now : (put : List ℕ) × Gains w1 w2 put
  put_now =
      let h = stood_before [] (λ e. refl) in
      gained c old.output.bytes.items old.calls new (Some []) w1 w2 h.output h.calls answer (CStep c (stood c old (t.taken ++ []) h.output h.calls)) (t.step [] h.output h.calls (λ e. refl) h.count)

  put_on : (most : ℕ) → PutBeforeTaken c bytes left0 most w w1 → PutBeforeTaken c bytes left0 most w w2
  put_on most (inl none) = inl none
  put_on most (inr p) = inr (more_put c bytes left0 most w w1 w2 put_now.0 put_now.1 p)

  put_here : (most : ℕ) → old.taken + 1 ≤ most → PutsFirst c old w1 w2 → PutBefore c bytes left1 most w w2
  put_here most within q =
      let h = a.stands [] (λ e. refl) in
      let dry = q.dry in
      let (more, put) = q.put h.calls h.count in
      record {
        before = a.taken;
        piece = t.taken;
        loses = loses_both (Some bytes) left0 left1 a.taken t.taken a.loses t.loses;
        steps = old.taken;
        within = omega (arith, within);
        state = stood c old [] h.output h.calls;
        is = subst (λ (l : List ℕ). IsAfter c l old.taken (stood c old [] h.output h.calls)) (append-nil a.taken) h.run;
        asks = q.asks [] h.output h.calls;
        used_up = append-nil (bytes_in old.input) ∙ dry.empty;
        first = subst (λ (l : List ℕ). MeetsNoEnd c l old.taken) (append-nil a.taken) (a.served dry.going []);
        more = more;
        put = subst (Gains w w2) (sym (append_assoc h.sent old.output.bytes.items more) ∙ ap (λ l. l ++ more) (sym h.is)) (Gains-append w w1 w2 h.sent (old.output.bytes.items ++ more) h.put put);
      }

  pub put_before_taken : (most : ℕ) → old.taken + 1 ≤ most → PutBeforeTaken c bytes left0 most w w1 → PutBeforeTaken c bytes left1 most w w2
  put_before_taken most within p = elim t.put_first [
    | inl none ↦ subst (λ (l : Option (List ℕ)). PutBeforeTaken c bytes l most w w2) (sym (taken_none none)) (put_on most p)
    | inr q ↦ inr (put_here most within q)
  ]

-- the bytes that are left are told
told_left : (left0 left1 : Option (List ℕ)) (bytes front taken : List ℕ) → o.Loses (Some bytes) left0 front → o.Loses left0 left1 taken → (l1 : List ℕ) × (left0 ≡ Some (taken ++ l1)) × (left1 ≡ Some l1)
told_left None left1 bytes front taken p q = absurd p
told_left (Some l0) None bytes front taken p q = absurd q
told_left (Some l0) (Some l1) bytes front taken p q = (l1, ap Some q, refl)

module _ (c : CProgram) (bytes : List ℕ) (old new : Machine) (left0 left1 w w1 w2 : Option (List ℕ)) (answer : Stepped) (a : Along c bytes old left0 w w1) (t : Takes c old new left0 left1 w1 w2 answer)
    (over : new.input.over ≡ true → IsEmpty left1) (most : ℕ) (within : old.taken + 1 ≤ most) where
  l : (l1 : List ℕ) × (left0 ≡ Some (t.taken ++ l1)) × (left1 ≡ Some l1)
  l = told_left left0 left1 bytes a.taken t.taken a.loses t.loses

  over_left : new.input.over ≡ true → l.0 ≡ []
  over_left e = subst IsEmpty l.2 (over e)

  pub ends_run : answer ≢ s.Going → Ran c bytes left1 most w w2 (ended_by new.calls answer)
  ends_run n = told_ran c bytes old new left0 left1 w w1 w2 answer a t l.0 l.1 l.2 over_left most within n

  pub takes_few : answer ≢ s.Going → TakesFew c bytes left1 most (ended_by new.calls answer)
  takes_few n = told_few c bytes old new left0 left1 w w1 w2 answer a t l.0 l.1 l.2 over_left most within n

-- ---- the steps are done

put_at_end : (X Y Z : Type 0) (w w' : Option (List ℕ)) (held : List ℕ) (r : e.Ended) → (r ≢ v.OutputFault → X × Gains w w' held × Y) → (r ≡ v.OutputFault → GainsPart w w' held × Z) → (put : List ℕ) × Gains w w' put
put_at_end X Y Z w w' held v.OutputFault good bad = let part = (bad refl).0 in (take part.0 held, part.2)
put_at_end X Y Z w w' held v.Spent good bad = (held, (good (λ e. cc)).1)
put_at_end X Y Z w w' held (v.Status status calls) good bad = (held, (good (λ e. cc)).1)
put_at_end X Y Z w w' held (v.Stuck kind) good bad = (held, (good (λ e. cc)).1)
put_at_end X Y Z w w' held v.InputFault good bad = (held, (good (λ e. cc)).1)
put_at_end X Y Z w w' held (v.Memory x) good bad = (held, (good (λ e. cc)).1)

-- the steps are done, or what is held was put in part
stops_at_end : (c : CProgram) (st : State) (X : Type 0) (steps : ℕ) (r : e.Ended) → (r ≢ v.OutputFault → (r ≡ v.Spent) × X) → StopsIn c st steps steps r
stops_at_end c st X steps v.OutputFault good = tt
stops_at_end c st X steps v.Spent good = refl
stops_at_end c st X steps (v.Status status calls) good = absurd (let is = (good (λ e. cc)).0 in cc)
stops_at_end c st X steps (v.Stuck kind) good = absurd (let is = (good (λ e. cc)).0 in cc)
stops_at_end c st X steps v.InputFault good = absurd (let is = (good (λ e. cc)).0 in cc)
stops_at_end c st X steps (v.Memory x) good = tt

left_told : (left : Option (List ℕ)) (bytes taken : List ℕ) → o.Loses (Some bytes) left taken → (l : List ℕ) × (left ≡ Some l) × (bytes ≡ taken ++ l)
left_told None bytes taken p = absurd p
left_told (Some l) bytes taken p = (l, refl, p)

module _ (c : CProgram) (bytes : List ℕ) (old : Machine) (left w w1 w2 : Option (List ℕ)) (a : Along c bytes old left w w1) (over : old.input.over ≡ true → IsEmpty left) where
  rest_told : (l : List ℕ) × (left ≡ Some l) × (bytes ≡ a.taken ++ l)
  rest_told = left_told left bytes a.taken a.loses

  at_last : Stands c bytes old rest_told.0 w w1
  at_last = subst (λ (b : List ℕ). Stands c b old rest_told.0 w w1) (sym rest_told.2) (a.stands rest_told.0 (λ e. subst IsEmpty rest_told.1 (over e)))

  pub last_put : (left' : Option (List ℕ)) (X Y : Type 0) (r : e.Ended) → (r ≢ v.OutputFault → (r ≡ v.Spent) × Gains w1 w2 old.output.bytes.items × X) → (r ≡ v.OutputFault → GainsPart w1 w2 old.output.bytes.items × Y) → Ran c bytes left' old.taken w w2 r
  last_put left' X Y r good bad = spent_so c bytes old rest_told.0 left' w w1 w2 X Y r at_last good bad

  pub last_few : (X Y : Type 0) (r : e.Ended) → (r ≢ v.OutputFault → (r ≡ v.Spent) × X × Y) → length (bytes_in old.input) < 4096 → TakesFew c bytes left old.taken r
  last_few X Y r good few = record {
    steps = old.taken;
    within = omega arith;
    state = stood c old rest_told.0 at_last.output at_last.calls;
    is = at_last.run;
    ahead = bytes_in old.input;
    loses = subst (λ (x : Option (List ℕ)). o.Loses (Some (bytes_in old.input ++ rest_told.0)) x (bytes_in old.input)) (sym rest_told.1) refl;
    few = inl few;
    stop = stops_at_end c (stood c old rest_told.0 at_last.output at_last.calls) (X × Y) old.taken r (λ n. let g = good n in (g.0, (g.1, g.2)));
  }

  -- the rest of what is held is put, or a part of it
  pub last_put_before : (most : ℕ) (X Y Z : Type 0) (r : e.Ended) → (r ≢ v.OutputFault → X × Gains w1 w2 old.output.bytes.items × Y) → (r ≡ v.OutputFault → GainsPart w1 w2 old.output.bytes.items × Z)
      → PutBeforeTaken c bytes left most w w1 → PutBeforeTaken c bytes left most w w2
  last_put_before most X Y Z r good bad (inl none) = inl none
  last_put_before most X Y Z r good bad (inr p) = let (put, g) = put_at_end X Y Z w1 w2 old.output.bytes.items r good bad in inr (more_put c bytes left most w w1 w2 put g p)
