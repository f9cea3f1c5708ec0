-- The statements still to do, as the place moves.
use Rattle.std.proofs.Common.{◌≡◌, ℕ, zero, suc, ◌+◌, ◌<◌, ◌≤◌, List, [], ◌∷◌, ◌++◌, drop, length, Bool, true, false, Some, None, refl, sym, ap, ◌∙◌, arith, append_assoc, get_or, inl, inr, ◌⊎◌}
use Rattle.std.specs.Prelude.{slice_get, not, if◌then◌else◌}
use Rattle.c_tree.specs.Tree as m
use Rattle.c_tree.specs.Tree.{Expr, Statement, Body, Empty, Then, list_of, body_of, list_of-body_of}
use Rattle.c_meaning.specs.Todo.{onto}
use Rattle.std.proofs.lemmas.Option.{slice_get-get_or}
use Rattle.c_stepper.specs.Spots.{branch_at, list_in, after_of, todo_at}
use Rattle.label_ways.specs.declared.level.Level.{Level}

pub drop_all : (list : List Statement) (n : ℕ) → length list ≤ n → drop n list ≡ []
drop_all [] zero h = refl
drop_all [] (suc n) h = refl
drop_all (s ∷ list) zero h = grind arith
drop_all (s ∷ list) (suc n) h = drop_all list n (omega arith)

pub drop_next : (list : List Statement) (n : ℕ) (s : Statement) → slice_get list n ≡ Some s → drop n list ≡ s ∷ drop (n + 1) list
drop_next [] n s h = cc
drop_next (t ∷ list) zero s h = cc
drop_next (t ∷ list) (suc n) s h =
    let e : suc n + 1 ≡ suc (n + 1) = omega arith in
    drop_next list n s h ∙ ap (λ k. s ∷ drop k (t ∷ list)) (sym e)

-- a list that is done
pub todo_done : (list : List Statement) (outer : List Level) (l : Level) (at : ℕ) → length (list_in list (outer ++ l ∷ [])) ≤ at → todo_at list (outer ++ l ∷ []) at ≡ todo_at list outer (after_of l.at (slice_get (list_in list outer) l.at))
todo_done list [] l at h = ap (λ a. a ++ drop (after_of l.at (slice_get list l.at)) list) (drop_all (branch_at l.second (slice_get list l.at)) at h)
todo_done list (k ∷ outer) l at h =
    ap (λ a. a ++ drop (after_of k.at (slice_get list k.at)) list) (todo_done (branch_at k.second (slice_get list k.at)) outer l at h)

-- the statement that comes next
pub todo_next : (list : List Statement) (outer : List Level) (at : ℕ) (s : Statement) → slice_get (list_in list outer) at ≡ Some s → todo_at list outer at ≡ s ∷ todo_at list outer (at + 1)
todo_next list [] at s h = drop_next list at s h
todo_next list (k ∷ outer) at s h =
    ap (λ a. a ++ drop (after_of k.at (slice_get list k.at)) list) (todo_next (branch_at k.second (slice_get list k.at)) outer at s h)

-- a branch that is entered
pub todo_enter : (list : List Statement) (outer : List Level) (l : Level) → todo_at list (outer ++ l ∷ []) 0 ≡ branch_at l.second (slice_get (list_in list outer) l.at) ++ todo_at list outer (after_of l.at (slice_get (list_in list outer) l.at))
todo_enter list [] l = refl
todo_enter list (k ∷ outer) l =
    ap (λ a. a ++ drop (after_of k.at (slice_get list k.at)) list) (todo_enter (branch_at k.second (slice_get list k.at)) outer l)
    ∙ append_assoc (branch_at l.second (slice_get (list_in (branch_at k.second (slice_get list k.at)) outer) l.at)) _ _

pub onto_append : (a : Body) (after : List Statement) → onto a after ≡ list_of a ++ after
unfolding onto
onto_append Empty after = refl
onto_append (Then s rest) after = ap (λ l. s ∷ l) (onto_append rest after)

-- what each entered branch is to do
module _ (list : List Statement) (outer : List Level) (at : ℕ) (t : Expr) (a b : Body) where
  entered : (second : Bool) (s : Statement) → slice_get (list_in list outer) at ≡ Some s → todo_at list (outer ++ record { at = at; second = second } ∷ []) 0 ≡ branch_at second (Some s) ++ todo_at list outer (after_of at (Some s))
  entered second s h = todo_enter list outer (record { at = at; second = second }) ∙ ap (λ o. branch_at second o ++ todo_at list outer (after_of at o)) h

  pub enter_if : slice_get (list_in list outer) at ≡ Some (m.If t a) → todo_at list (outer ++ record { at = at; second = false } ∷ []) 0 ≡ onto a (todo_at list outer (at + 1))
  enter_if h = entered false (m.If t a) h ∙ sym (onto_append a (todo_at list outer (at + 1)))

  pub enter_while : slice_get (list_in list outer) at ≡ Some (m.While t a) → todo_at list (outer ++ record { at = at; second = false } ∷ []) 0 ≡ onto a (m.While t a ∷ todo_at list outer (at + 1))
  enter_while h =
      entered false (m.While t a) h ∙ ap (λ l. list_of a ++ l) (todo_next list outer at (m.While t a) h) ∙ sym (onto_append a (m.While t a ∷ todo_at list outer (at + 1)))

  pub enter_first : slice_get (list_in list outer) at ≡ Some (m.IfElse t a b) → todo_at list (outer ++ record { at = at; second = false } ∷ []) 0 ≡ onto a (todo_at list outer (at + 1))
  enter_first h = entered false (m.IfElse t a b) h ∙ sym (onto_append a (todo_at list outer (at + 1)))

  pub enter_second : slice_get (list_in list outer) at ≡ Some (m.IfElse t a b) → todo_at list (outer ++ record { at = at; second = true } ∷ []) 0 ≡ onto b (todo_at list outer (at + 1))
  enter_second h = entered true (m.IfElse t a b) h ∙ sym (onto_append b (todo_at list outer (at + 1)))

none_past : (list : List Statement) (n : ℕ) → slice_get list n ≡ None → drop n list ≡ []
none_past [] zero h = refl
none_past [] (suc n) h = refl
none_past (s ∷ list) zero h = cc
none_past (s ∷ list) (suc n) h = none_past list n h

past_end : (l : List Statement) (n : ℕ) → slice_get l n ≡ None → n < length l → ⊥
past_end l n h lt = let e : slice_get l n ≡ Some (get_or l n (m.Return None)) = slice_get-get_or l n (m.Return None) lt in cc

-- at the end of the outermost list nothing is left to do
pub todo_end : (list : List Statement) (outer : List Level) (at : ℕ) → slice_get (list_in list outer) at ≡ None → (at < length (list_in list outer)) ⊎ (outer ≡ []) → todo_at list outer at ≡ []
todo_end list outer at h (inl lt) = absurd (past_end (list_in list outer) at h lt)
todo_end list outer at h (inr e) =
    let h' : slice_get list at ≡ None = ap (λ o. slice_get (list_in list o) at) (sym e) ∙ h in
    ap (λ o. todo_at list o at) e ∙ none_past list at h'

pub branch_list : (a : List Statement) → list_of (body_of a) ≡ a
branch_list a = list_of-body_of a

pub enter_either : (list : List Statement) (outer : List Level) (at : ℕ) (t : Expr) (a b : Body) (first : Bool) → slice_get (list_in list outer) at ≡ Some (m.IfElse t a b)
    → todo_at list (outer ++ record { at = at; second = not first } ∷ []) 0 ≡ (if first then onto a (todo_at list outer (at + 1)) else onto b (todo_at list outer (at + 1)))
enter_either list outer at t a b true h = enter_first list outer at t a b h
enter_either list outer at t a b false h = enter_second list outer at t a b h
