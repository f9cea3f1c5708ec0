-- Later answers of a run.
use Rattle.std.proofs.Common.{◌≡◌, ℕ, zero, suc, ◌+◌, ◌≤◌, List, refl, sym, ap, subst, ◌∙◌, arith}
use Rattle.std.specs.Prelude.{◌-◌}
use Rattle.c_tree.specs.declared.program.CProgram.{CProgram}
use Rattle.c_meaning.specs.States.{State}
use Rattle.c_meaning.specs.Steps.{Next, Onward, Ended, Halted, CStep}
use Rattle.c_meaning.specs.Runs.{CAnswer, Going, start, run_from, answer_of, CRun}
use Rattle.c_meaning.specs.Follows.{Extends}
use Rattle.c_meaning.specs.Laws.{IsFinal, FinalStays, Shows, GoingIsExtended, OnlyAdds}
use Rattle.c_meaning.proofs.Grows.{same, longer, step_adds}

-- ---- a run that is over

over : (c : CProgram) (m j : ℕ) (a : Next) (q : CAnswer) → m ≤ j → IsFinal q → answer_of (run_from c m a) ≡ q → answer_of (run_from c j a) ≡ q
unfolding run_from answer_of
over c m j (Ended status output calls) q l f h = h
over c m j (Halted kind output) q l f h = h
over c zero j (Onward st) q l f h = absurd (subst IsFinal (sym h) f)
over c (suc m) zero (Onward st) q l f h = absurd (omega arith)
over c (suc m) (suc j) (Onward st) q l f h = over c m j (CStep c st) q (omega arith) f h

pub final_stays : FinalStays
unfolding CRun
final_stays c input m j answer f l h = over c m j (Onward (start c input)) answer l f h

-- ---- a run that goes on

-- some steps and then some more are their sum
pub run_on : (c : CProgram) (m i : ℕ) (a : Next) → run_from c (m + i) a ≡ run_from c i (run_from c m a)
unfolding run_from
run_on c m i (Ended status output calls) = refl
run_on c m i (Halted kind output) = refl
run_on c zero i (Onward st) = let e : 0 + i ≡ i = omega arith in ap (λ n. run_from c n (Onward st)) e
run_on c (suc m) i (Onward st) = let e : suc m + i ≡ suc (m + i) = omega arith in ap (λ n. run_from c n (Onward st)) e ∙ run_on c m i (CStep c st)

-- a point of a run has this output and these calls, and maybe more
abbrev PointShows : (o k : List ℕ) → Next → Type 0
PointShows o k (Onward st) = Extends o st.output × Extends k st.calls
PointShows o k (Ended status output calls) = Extends o output × Extends k calls
PointShows o k (Halted kind output) = Extends o output

further : (o k : List ℕ) (st : State) (a : Next) → PointShows o k (Onward st) → OnlyAdds st a → PointShows o k a
further o k st (Onward new) h g = (longer o st.output new.output h.0 g.0, longer k st.calls new.calls h.1 g.1)
further o k st (Ended status output calls) h g = (longer o st.output output h.0 g.0, longer k st.calls calls h.1 g.1)
further o k st (Halted kind output) h g = subst (Extends o) (sym g) h.0

from_point : (c : CProgram) (j : ℕ) (o k : List ℕ) (a : Next) → PointShows o k a → Shows o k (answer_of (run_from c j a))
unfolding run_from answer_of
from_point c j o k (Ended status output calls) h = h
from_point c j o k (Halted kind output) h = h
from_point c zero o k (Onward st) h = h
from_point c (suc j) o k (Onward st) h = from_point c j o k (CStep c st) (further o k st (CStep c st) h (step_adds c st))

after : (c : CProgram) (i : ℕ) (o k : List ℕ) (a : Next) → answer_of a ≡ Going o k → Shows o k (answer_of (run_from c i a))
unfolding answer_of
after c i o k (Ended status output calls) h = cc
after c i o k (Halted kind output) h = cc
after c i o k (Onward st) h =
    let e : st.output ≡ o = cc in
    let g : st.calls ≡ k = cc in
    let P : List ℕ → Type 0 = λ o. Shows o k (answer_of (run_from c i (Onward st))) in
    let Q : List ℕ → Type 0 = λ k. Shows st.output k (answer_of (run_from c i (Onward st))) in
    subst P e (subst Q g (from_point c i st.output st.calls (Onward st) (same st.output, same st.calls)))

pub going_is_extended : GoingIsExtended
unfolding CRun
going_is_extended c input m j o k l h =
    let e : m + (j - m) ≡ j = omega (arith, l) in
    subst (λ n. Shows o k (answer_of (run_from c n (Onward (start c input))))) e
    (subst (λ a. Shows o k (answer_of a)) (sym (run_on c m (j - m) (Onward (start c input)))) (after c (j - m) o k (run_from c m (Onward (start c input))) h))
