-- The labels that are above and those in reach, as lists and as tables.
use Rattle.std.proofs.Common.{◌≡◌, ℕ, ◌+◌, ◌-◌, Bool, true, false, ◌||◌, cond, nat_lt, List, [], ◌∷◌, ◌++◌, Ok, refl, sym, ap, ◌∙◌, arith}
use Rattle.std.specs.Str.{bytes_eq}
use Rattle.std.proofs.lemmas.Slice.Eq.{bytes_eq-Decides}
use Rattle.c_tree.specs.Tree.{Label, Body, Empty, Then}
use Rattle.c_grammar.specs.Demands.{Names, among, own_labels}
use Rattle.c_conditions.specs.Names.{with_name, raised, lowered}
use Rattle.c_conditions.specs.World.{World}
use Rattle.c_conditions.specs.StatementSteps.{enter, leave}

-- the names of a list
abbrev pub seen_names : Names → List ℕ → Bool
seen_names names name = among name names

or_assoc : (a b c : Bool) → (a || (b || c)) ≡ (a || b || c)
or_assoc true b c = refl
or_assoc false b c = refl

pub among_append : (name : List ℕ) (a b : Names) → among name (a ++ b) ≡ (among name a || among name b)
among_append name [] b = refl
among_append name (n ∷ a) b = ap (λ x. bytes_eq n name || x) (among_append name a b) ∙ or_assoc (bytes_eq n name) (among name a) (among name b)

or_swap : (a b : Bool) → (a || b) ≡ (b || (a || false))
or_swap true true = refl
or_swap true false = refl
or_swap false true = refl
or_swap false false = refl

pub label_added : (l : List ℕ) (above : Names) → with_name l (seen_names above) ≡ seen_names (above ++ l ∷ [])
label_added l above = λ i name. (or_swap (bytes_eq l name) (among name above) ∙ sym (among_append name above (l ∷ []))) i

-- ---- counts of labels

abbrev pub raise_all : Names → (List ℕ → ℕ) → List ℕ → ℕ
raise_all [] f = f
raise_all (l ∷ ls) f = raise_all ls (raised l f)

abbrev pub lower_all : Names → (List ℕ → ℕ) → List ℕ → ℕ
lower_all [] f = f
lower_all (l ∷ ls) f = lower_all ls (lowered l f)

times : List ℕ → Names → ℕ
times name [] = 0
times name (l ∷ ls) = cond (bytes_eq l name) 1 0 + times name ls

none_more : (n : ℕ) → n ≡ n + 0
none_more n = omega arith

none_less : (n : ℕ) → n ≡ n - 0
none_less n = omega arith

raised_is : (l name : List ℕ) (f : List ℕ → ℕ) → raised l f name ≡ f name + cond (bytes_eq l name) 1 0
raised_is l name f = by (bytes_eq l name) refl
  where
    by : (b : Bool) → bytes_eq l name ≡ b → cond b (f l + 1) (f name) ≡ f name + cond b 1 0
    by true e = ap (λ z. f z + 1) ((bytes_eq-Decides l name).0 e)
    by false e = none_more (f name)

lowered_is : (l name : List ℕ) (f : List ℕ → ℕ) → lowered l f name ≡ f name - cond (bytes_eq l name) 1 0
lowered_is l name f = by (bytes_eq l name) refl
  where
    by : (b : Bool) → bytes_eq l name ≡ b → cond b (f l - 1) (f name) ≡ f name - cond b 1 0
    by true e = ap (λ z. f z - 1) ((bytes_eq-Decides l name).0 e)
    by false e = none_less (f name)

raise_all_is : (ls : Names) (f : List ℕ → ℕ) (name : List ℕ) → raise_all ls f name ≡ f name + times name ls
unfolding times
raise_all_is [] f name = none_more (f name)
raise_all_is (l ∷ ls) f name = omega (arith, raise_all_is ls (raised l f) name, raised_is l name f)

lower_all_is : (ls : Names) (f : List ℕ → ℕ) (name : List ℕ) → lower_all ls f name ≡ f name - times name ls
unfolding times
lower_all_is [] f name = none_less (f name)
lower_all_is (l ∷ ls) f name = omega (arith, lower_all_is ls (lowered l f) name, lowered_is l name f)

-- what is raised and lowered is as it was
pub restored : (ls : Names) (f : List ℕ → ℕ) → lower_all ls (raise_all ls f) ≡ f
restored ls f = λ i name. back name i
  where
    back : (name : List ℕ) → lower_all ls (raise_all ls f) name ≡ f name
    back name = omega (arith, lower_all_is ls (raise_all ls f) name, raise_all_is ls f name)

-- these labels are in reach
abbrev pub Reaches : Names → (List ℕ → ℕ) → Type 0
Reaches reached f = (name : List ℕ) → nat_lt 0 (f name) ≡ among name reached

counted : (ls : Names) (name : List ℕ) (n : ℕ) → nat_lt 0 (n + times name ls) ≡ (among name ls || nat_lt 0 n)
unfolding times
counted [] name n = ap (nat_lt 0) (sym (none_more n))
counted (l ∷ ls) name n = by (bytes_eq l name) (counted ls name n)
  where
    some : (n t : ℕ) → nat_lt 0 (n + (1 + t)) ≡ true
    some n t = grind arith

    other : (n t : ℕ) → n + (0 + t) ≡ n + t
    other n t = omega arith

    by : (b : Bool) → nat_lt 0 (n + times name ls) ≡ (among name ls || nat_lt 0 n) → nat_lt 0 (n + (cond b 1 0 + times name ls)) ≡ (b || among name ls || nat_lt 0 n)
    by true e = some n (times name ls)
    by false e = ap (nat_lt 0) (other n (times name ls)) ∙ e

pub reaches_more : (ls reached : Names) (f : List ℕ → ℕ) → Reaches reached f → Reaches (ls ++ reached) (raise_all ls f)
reaches_more ls reached f h name =
    ap (nat_lt 0) (raise_all_is ls f name) ∙ counted ls name (f name) ∙ ap (λ b. among name ls || b) (h name) ∙ sym (among_append name ls reached)

pub enter_is : (body : Body) (w : World) → enter body w ≡ Ok (record w { reached = raise_all (own_labels body) w.reached })
unfolding enter
enter_is Empty w = refl
enter_is (Then (Label l) more) w = enter_is more (record w { reached = raised l w.reached })
enter_is (Then _ more) w = enter_is more w

pub leave_is : (body : Body) (w : World) → leave body w ≡ Ok (record w { reached = lower_all (own_labels body) w.reached })
unfolding leave
leave_is Empty w = refl
leave_is (Then (Label l) more) w = leave_is more (record w { reached = lowered l w.reached })
leave_is (Then _ more) w = leave_is more w
