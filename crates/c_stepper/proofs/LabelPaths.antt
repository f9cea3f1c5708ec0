-- The way to a label leads to the statements that its search gives.
use Rattle.std.proofs.Common.{◌≡◌, ℕ, zero, suc, ◌+◌, List, [], ◌∷◌, ◌++◌, drop, Bool, true, false, Option, Some, None, refl, sym, ap, ◌∙◌, append_assoc, append-nil}
use Rattle.c_stepper.proofs.Todo.{drop_next, onto_append}
use Rattle.std.specs.Prelude.{slice_get, if◌then◌else◌}
use Rattle.std.specs.Str.{bytes_eq}
use Rattle.c_tree.specs.Tree as m
use Rattle.c_tree.specs.Tree.{Expr, Statement, Body, Empty, Then, body_of, list_of, statement_size, body_size}
use Rattle.c_meaning.specs.Answer.{or_else}
use Rattle.c_meaning.specs.Cells.{Name}
use Rattle.c_meaning.specs.Todo.{onto, from_label, from_label_in, from_label_of}
use Rattle.c_stepper.specs.Spots.{branch_of, branch_at, after_of, todo_at}
use Rattle.label_ways.specs.Labels.{Way, or_way, inside, path_statement, path_in, path_of}
use Rattle.label_ways.specs.Ways.{body_in, body_if}
use Rattle.label_ways.specs.declared.level.Level.{Level}
use Rattle.c_tree.specs.declared.program.CFunction.{CFunction}
use Rattle.c_tree.specs.declared.program.CProgram.{CProgram}
use Rattle.c_stepper.specs.Runners.{parts_at, parts_of}

-- what a way leads to, before what follows the list
abbrev pub led : List Statement → List Statement → Way → Option (List Statement)
led list after None = None
led list after (Some p) = Some (todo_at list p.0 p.1 ++ after)

led_else : (list after : List Statement) (v w : Way) → led list after (or_way v w) ≡ or_else (led list after v) (led list after w)
unfolding or_else
led_else list after None w = refl
led_else list after (Some p) w = refl

led_inside : (list after : List Statement) (i : ℕ) (second : Bool) (s : Statement) → slice_get list i ≡ Some s → (w : Way) → led (branch_of second s) (drop (after_of i (Some s)) list ++ after) w ≡ led list after (inside i second w)
led_inside list after i second s h None = refl
led_inside list after i second s h (Some p) =
    ap Some (sym (append_assoc (todo_at (branch_of second s) p.0 p.1) (drop (after_of i (Some s)) list) after) ∙ ap (λ o. (todo_at (branch_at second o) p.0 p.1 ++ drop (after_of i o) list) ++ after) (sym h))

drop_head : (list : List Statement) (i : ℕ) (s : Statement) (rest : List Statement) → drop i list ≡ s ∷ rest → slice_get list i ≡ Some s
drop_head [] zero s rest h = cc
drop_head [] (suc i) s rest h = cc
drop_head (t ∷ list) zero s rest h = cc
drop_head (t ∷ list) (suc i) s rest h = drop_head list i s rest h

drop_tail : (list : List Statement) (i : ℕ) (s : Statement) (rest : List Statement) → drop i list ≡ s ∷ rest → drop (i + 1) list ≡ rest
drop_tail list i s rest h =
    let e : s ∷ drop (i + 1) list ≡ s ∷ rest = sym (drop_next list i s (drop_head list i s rest h)) ∙ h in cc

mutual
  unfolding from_label from_label_in onto or_else

  statement_led : (l : Name) (s : Statement) (list after : List Statement) (i : ℕ) → slice_get list i ≡ Some s → from_label l s (drop (i + 1) list ++ after) ≡ led list after (path_statement l i s)
  statement_led l (m.Label own) list after i h =
      elim (bytes_eq l own) as (λ q. (if q then Some (m.Label own ∷ (drop (i + 1) list ++ after)) else None) ≡ led list after (if q then Some ([], i) else None))
      [ true ↦ ap (λ d. Some (d ++ after)) (sym (drop_next list i (m.Label own) h)) | false ↦ refl ]
  statement_led l (m.If t a) list after i h = in_led l a (list_of a) (drop (i + 1) list ++ after) 0 refl ∙ led_inside list after i false (m.If t a) h (path_in l 0 a)
  statement_led l (m.While t a) list after i h =
      ap (λ d. from_label_in l a (d ++ after)) (sym (drop_next list i (m.While t a) h)) ∙ in_led l a (list_of a) (drop i list ++ after) 0 refl ∙ led_inside list after i false (m.While t a) h (path_in l 0 a)
  statement_led l (m.IfElse t a b) list after i h =
      ap (λ o. or_else o (from_label_in l b (drop (i + 1) list ++ after))) (in_led l a (list_of a) (drop (i + 1) list ++ after) 0 refl ∙ led_inside list after i false (m.IfElse t a b) h (path_in l 0 a))
      ∙ ap (or_else (led list after (inside i false (path_in l 0 a)))) (in_led l b (list_of b) (drop (i + 1) list ++ after) 0 refl ∙ led_inside list after i true (m.IfElse t a b) h (path_in l 0 b))
      ∙ sym (led_else list after (inside i false (path_in l 0 a)) (inside i true (path_in l 0 b)))
  statement_led l _ list after i h = refl

  in_led : (l : Name) (a : Body) (list after : List Statement) (i : ℕ) → drop i list ≡ list_of a → from_label_in l a after ≡ led list after (path_in l i a)
  in_led l Empty list after i h = refl
  in_led l (Then s rest) list after i h =
      let next = drop_tail list i s (list_of rest) h in
      ap (λ o. or_else o (from_label_in l rest after)) (ap (from_label l s) (onto_append rest after ∙ ap (λ d. d ++ after) (sym next)) ∙ statement_led l s list after i (drop_head list i s (list_of rest) h))
      ∙ ap (or_else (led list after (path_statement l i s))) (in_led l rest list after (i + 1) next)
      ∙ sym (led_else list after (path_statement l i s) (path_in l (i + 1) rest))

list_led : (l : Name) (list rest : List Statement) (i : ℕ) → drop i list ≡ rest → from_label_of l rest ≡ led list [] (path_of l i rest)
unfolding from_label_of
list_led l list [] i h = refl
list_led l list (s ∷ rest) i h =
    let next = drop_tail list i s rest h in
    ap (λ o. or_else o (from_label_of l rest)) (ap (from_label l s) (sym (append-nil rest) ∙ ap (λ d. d ++ []) (sym next)) ∙ statement_led l s list [] i (drop_head list i s rest h))
    ∙ ap (or_else (led list [] (path_statement l i s))) (list_led l list rest (i + 1) next)
    ∙ sym (led_else list [] (path_statement l i s) (path_of l (i + 1) rest))

-- the way to a label of a function's body is the place of what its search gives
pub label_led : (l : Name) (body : List Statement) → from_label_of l body ≡ led body [] (path_of l 0 body)
label_led l body = list_led l body body 0 refl

led_way : (body : List Statement) (w : Way) (p : List Level × ℕ) → w ≡ Some p → led body [] w ≡ Some (todo_at body p.0 p.1)
led_way body w p h = ap (led body []) h ∙ ap Some (append-nil (todo_at body p.0 p.1))

-- where the way is found, the search gives the statements at its end
pub jump_to : (l : Name) (body : List Statement) (p : List Level × ℕ) → path_of l 0 body ≡ Some p → from_label_of l body ≡ Some (todo_at body p.0 p.1)
jump_to l body p h = label_led l body ∙ led_way body (path_of l 0 body) p h

pub jump_none : (l : Name) (body : List Statement) → path_of l 0 body ≡ None → from_label_of l body ≡ None
jump_none l body h = label_led l body ∙ ap (led body []) h

-- the body that the guide reckons with is the function's
pub same_body : (c : CProgram) (f : Option ℕ) → body_in c f ≡ (parts_at c f).body
same_body c None = refl
same_body c (Some n) = by (slice_get c.functions n) where
  by : (o : Option CFunction) → body_if o ≡ (parts_of o).body
  by None = refl
  by (Some f) = refl
