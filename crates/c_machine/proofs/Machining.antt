-- What the steps of a machine tell.
use Rattle.std.proofs.Common.{◌≡◌, ◌≢◌, ℕ, Bool, true, false, List, [], ◌∷◌, ◌++◌, length, take, Option, Some, None, Err, refl, sym, ap, subst, ◌∙◌, ◌<◌, inl, inr, append_assoc, arith}
use Rattle.std.proofs.lemmas.List.{append-nil}
use Rattle.c_tree.specs.declared.program.CProgram.{CProgram}
use Rattle.c_meaning.specs.States.{State}
use Rattle.c_meaning.specs.Steps.{Next, Onward, after_byte, CStep}
use Rattle.c_cells.specs.declared.halt.Halt.{Halt}
use Rattle.c_cells.specs.declared.halt.Halt.TheVariants as h
use Rattle.p2c_outside.specs.Told as o
use Rattle.p2c_outside.specs.Told.{Gains, IsEmpty}
use Rattle.held_bytes.proofs.ToldLemmas.{Gains-refl, Gains-append, GainsPart-second}
use Rattle.held_bytes.specs.Held.{bytes_in, IsDry, first_of, rest_of}
use Rattle.c_stepper.specs.Runners.{state_of, AsksForByte, Seeks, Acts}
use Rattle.held_bytes.specs.declared.output.HeldOutput.{HeldOutput}
use Rattle.c_machine.specs.Machines.{stood, Dashes, Goes, Steps, AreFew, Takes}
use Rattle.c_stepper.proofs.Counting.{none_more, step_once}
use Rattle.c_stepper.specs.declared.runner.Runner.{Runner}
use Rattle.c_machine.specs.declared.machine.Machine.{Machine}
use Rattle.c_machine.specs.declared.machine.Stepped.{Stepped}
use Rattle.c_machine.specs.declared.machine.Stepped.TheVariants as s

-- a step that writes nothing
pub went : (c : CProgram) (new : Machine) (left output calls : List ℕ) (w : Option (List ℕ)) (next : Next) → Onward (stood c new left output calls) ≡ next → length calls ≡ new.calls
    → Goes c new.output.bytes.items new (Some left) w w output next
went c new left output calls w next h count = record {
  left = left;
  added = [];
  calls = calls;
  step = sym h ∙ ap (λ o. Onward (stood c new left o calls)) (sym (append-nil output));
  input = refl;
  count = count;
  put = record { sent = []; put = Gains-refl w; is = append-nil new.output.bytes.items };
}

-- one step by numbers alone
pub dashed : (c : CProgram) (old new : Machine) (left output calls : List ℕ) (w : Option (List ℕ)) → Dashes c old new 1 → length calls ≡ old.calls → Steps c old.output.bytes.items old.calls new (Some left) w w output calls s.Going (CStep c (stood c old left output calls))
dashed c old new left output calls w d count =
    subst (λ (o : HeldOutput). Goes c o.bytes.items new (Some left) w w output (CStep c (stood c old left output calls))) d.output
    (went c new left output calls w (CStep c (stood c old left output calls)) (sym (d.runs left output calls) ∙ step_once c (stood c old left output calls)) (count ∙ sym d.calls))

-- none
pub no_dash : (c : CProgram) (old new : Machine) → Dashes c old new 0 → (input output calls : List ℕ) → state_of c new.runner input output calls ≡ state_of c old.runner input output calls
no_dash c old new d input output calls =
    let both : Onward (stood c old [] [] []) ≡ Onward (stood c new [] [] []) = sym (none_more c (Onward (stood c old [] [] []))) ∙ d.runs [] [] [] in
    let same : stood c old [] [] [] ≡ stood c new [] [] [] = cc in
    ap (λ (st : State). record st { input = input; output = output; calls = calls }) (sym same)

-- ---- a byte that is held

pub first_held : (held l : List ℕ) → (held ≡ [] → l ≡ []) → first_of held ≡ first_of (held ++ l)
first_held [] l h = ap first_of (sym (h refl))
first_held (b ∷ held) l h = refl

after_held : (held l : List ℕ) → (held ≡ [] → l ≡ []) → after_byte (held ++ l) ≡ rest_of held ++ l
unfolding after_byte
after_held [] l h = ap after_byte (h refl) ∙ sym (h refl)
after_held (b ∷ held) l h = refl

-- a step that reads it
pub read_goes : (c : CProgram) (new : Machine) (held l output calls : List ℕ) (w : Option (List ℕ)) (next : Next) → (held ≡ [] → l ≡ []) → bytes_in new.input ≡ rest_of held
    → Onward (state_of c new.runner (after_byte (held ++ l)) output calls) ≡ next → length calls ≡ new.calls → Goes c new.output.bytes.items new (Some l) w w output next
read_goes c new held l output calls w next none rest h count =
    let input : after_byte (held ++ l) ≡ bytes_in new.input ++ l = after_held held l none ∙ ap (λ x. x ++ l) (sym rest) in
    went c new l output calls w next (ap (λ x. Onward (state_of c new.runner x output calls)) (sym input) ∙ h) count

-- where no input has to be taken and nothing is held, the end was met
pub met_end : (over : Bool) (P : Type 0) → (over ≡ false → ⊥) → (over ≡ true → P) → P
met_end true P n f = f refl
met_end false P n f = absurd (n refl)

-- ---- input that is taken

pub loses_none : (left : Option (List ℕ)) → o.Loses left left []
loses_none None = tt
loses_none (Some left) = refl

-- a `getchar` without its place is stuck
pub sought_in_vain : (c : CProgram) (it : Runner) (input output calls : List ℕ) (halt : Halt) → Seeks c (state_of c it input output calls) (Err halt)
    → Acts c it input output calls (Err halt) (CStep c (state_of c it input output calls))
sought_in_vain c it input output calls (h.Stuck kind) is = is
sought_in_vain c it input output calls h.Memory is = tt

-- what a step tells that begins where all that was held is put
pub put_before : (c : CProgram) (held : List ℕ) (count : ℕ) (new : Machine) (left' w w1 w2 : Option (List ℕ)) (output calls : List ℕ) (r : Stepped) (next : Next) → Gains w w1 held
    → Steps c [] count new left' w1 w2 output calls r next → Steps c held count new left' w w2 output calls r next
put_before c held count new left' w w1 w2 output calls s.Going next p g = record {
  left = g.left;
  added = g.added;
  calls = g.calls;
  step = g.step;
  input = g.input;
  count = g.count;
  put = record { sent = held ++ g.put.sent; put = Gains-append w w1 w2 held g.put.sent p g.put.put; is = ap (λ l. held ++ l) g.put.is ∙ sym (append_assoc held g.put.sent new.output.bytes.items) };
}
put_before c held count new left' w w1 w2 output calls (s.Ended status) next p g = (g.0, g.1, subst (Gains w w2) (append-nil held) (Gains-append w w1 w2 held [] p g.2))
put_before c held count new left' w w1 w2 output calls (s.Stuck kind) next p g = (g.0, subst (Gains w w2) (append-nil held) (Gains-append w w1 w2 held [] p g.1))
put_before c held count new left' w w1 w2 output calls s.InputFault next p g = subst (Gains w w2) (append-nil held) (Gains-append w w1 w2 held [] p g)
put_before c held count new left' w w1 w2 output calls (s.Memory e) next p g = subst (Gains w w2) (append-nil held) (Gains-append w w1 w2 held [] p g)
put_before c held count new left' w w1 w2 output calls s.OutputFault next p (inl g) = absurd (let few : g.0 < 0 = g.1 in omega (arith, few))
put_before c held count new left' w w1 w2 output calls s.OutputFault next p (inr g) = inr (g.0, g.1, GainsPart-second w w1 w2 held g.0 p g.2)

-- what a step tells where the bytes are told
pub told_step : (c : CProgram) (old new : Machine) (left left' w w' : Option (List ℕ)) (r : Stepped) (l output calls : List ℕ) → Takes c old new left left' w w' r → left ≡ Some l
    → (new.input.over ≡ true → IsEmpty left') → length calls ≡ old.calls → Steps c old.output.bytes.items old.calls new left' w w' output calls r (CStep c (stood c old l output calls))
told_step c old new None left' w w' r l output calls t is over count = cc
told_step c old new (Some a) None w w' r l output calls t is over count = absurd t.loses
told_step c old new (Some a) (Some b) w w' r l output calls t is over count =
    let same : a ≡ l = cc in
    subst (λ (x : List ℕ). Steps c old.output.bytes.items old.calls new (Some b) w w' output calls r (CStep c (stood c old x output calls))) (sym t.loses ∙ same) (t.step b output calls over count)

-- each step puts something, or nothing
pub gained : (c : CProgram) (held : List ℕ) (count : ℕ) (new : Machine) (left' w w' : Option (List ℕ)) (output calls : List ℕ) (r : Stepped) (next : Next)
    → Steps c held count new left' w w' output calls r next → (put : List ℕ) × Gains w w' put
gained c held count new left' w w' output calls s.Going next g = (g.put.sent, g.put.put)
gained c held count new left' w w' output calls (s.Ended status) next g = (held, g.2)
gained c held count new left' w w' output calls (s.Stuck kind) next g = (held, g.1)
gained c held count new left' w w' output calls s.InputFault next g = (held, g)
gained c held count new left' w w' output calls (s.Memory e) next g = (held, g)
gained c held count new left' w w' output calls s.OutputFault next (inl g) = (take g.0 held, g.2)
gained c held count new left' w w' output calls s.OutputFault next (inr g) = let part = g.2 in (take part.0 (held ++ g.0), part.2)

-- a step that takes nothing
pub takes_none : (c : CProgram) (old new : Machine) (left w w' : Option (List ℕ)) (r : Stepped)
    → ((rest output calls : List ℕ) → (new.input.over ≡ true → rest ≡ []) → length calls ≡ old.calls → Steps c old.output.bytes.items old.calls new (Some rest) w w' output calls r (CStep c (stood c old rest output calls)))
    → (old.input.over ≡ true → new.input.over ≡ true) → length (bytes_in old.input) < 4096
    → (r ≡ s.Going → new.input.over ≡ false → (rest output calls : List ℕ) → AsksForByte c (stood c old rest output calls) → bytes_in old.input ≢ [])
    → r ≢ s.InputFault → Takes c old new left left w w' r
takes_none c old new left w w' r step ends few served other = record {
  taken = [];
  loses = loses_none left;
  step = step;
  ends = λ h. (refl, ends h);
  few = λ rest output calls. inl (subst (λ (l : List ℕ). length l < 4096) (sym (append-nil (bytes_in old.input))) few);
  served = λ going before rest output calls asks e. served going before rest output calls asks (sym (append-nil (bytes_in old.input)) ∙ e);
  put_first = inl refl;
  wants = λ h. absurd (other h);
}

-- the same of a machine that stood for the same state
pub takes_as : (c : CProgram) (old same new : Machine) (left left' w w' : Option (List ℕ)) (r : Stepped)
    → ((input output calls : List ℕ) → state_of c same.runner input output calls ≡ state_of c old.runner input output calls)
    → same.input ≡ old.input → same.output ≡ old.output → same.calls ≡ old.calls → Takes c same new left left' w w' r → Takes c old new left left' w w' r
takes_as c old same new left left' w w' r state input output calls t =
    let at : (rest o k : List ℕ) → stood c same rest o k ≡ stood c old rest o k = λ rest o k. state (bytes_in same.input ++ rest) o k ∙ ap (λ (l : List ℕ). state_of c old.runner (l ++ rest) o k) (ap bytes_in input) in
    let held : same.output.bytes.items ≡ old.output.bytes.items = ap (λ o. o.bytes.items) output in
    record {
      taken = t.taken;
      loses = t.loses;
      step = λ rest o k over count.
          subst (λ (st : State). Steps c old.output.bytes.items old.calls new (Some rest) w w' o k r (CStep c st)) (at (t.taken ++ rest) o k)
          (subst (λ (n : ℕ). Steps c old.output.bytes.items n new (Some rest) w w' o k r (CStep c (stood c same (t.taken ++ rest) o k))) calls
          (subst (λ (l : List ℕ). Steps c l same.calls new (Some rest) w w' o k r (CStep c (stood c same (t.taken ++ rest) o k))) held (t.step rest o k over (count ∙ sym calls))));
      ends = λ h. t.ends (ap (λ i. i.over) input ∙ h);
      few = λ rest o k.
          subst (λ (st : State). AreFew c st (bytes_in old.input ++ t.taken)) (at (t.taken ++ rest) o k)
          (subst (λ (l : List ℕ). AreFew c (stood c same (t.taken ++ rest) o k) (l ++ t.taken)) (ap bytes_in input) (t.few rest o k));
      served = λ going before rest o k asks e.
          t.served going before rest o k (subst (AsksForByte c) (sym (at (t.taken ++ rest) o k)) asks) (ap (λ (l : List ℕ). l ++ t.taken) (ap bytes_in input) ∙ e);
      put_first = elim t.put_first [
        | inl none ↦ inl none
        | inr p ↦ inr (record {
          dry = subst IsDry input p.dry;
          asks = λ rest o k. subst (AsksForByte c) (at rest o k) (p.asks rest o k);
          put = λ k count. subst (λ (l : List ℕ). (more : List ℕ) × Gains w w' (l ++ more)) held (p.put k (count ∙ sym calls));
        })
      ];
      wants = λ h.
          let q = t.wants h in
          (ap (λ i. i.over) (sym input) ∙ q.0, ap bytes_in (sym input) ∙ q.1, q.2, λ rest o k. subst (AsksForByte c) (at rest o k) (q.3 rest o k));
    }
