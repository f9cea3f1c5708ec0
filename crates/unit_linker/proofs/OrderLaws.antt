-- What the order of units has: each member once, and nothing but what is used.
use Rattle.std.proofs.Common.{◌≡◌, ℕ, zero, suc, ◌≤◌, ◌⊎◌, inl, inr, List, [], ◌∷◌, ◌++◌, length, Some, refl, sym, ap, ◌∙◌, subst, append_assoc, arith, slice_get}
use Rattle.unit_linker.specs.declared.graph.FileUses.{FileUses}
use Rattle.unit_linker.specs.Graph.{Among, interface_of, implementation_of, LeadsTo, IsAcyclic, Visits, none, known, new, Grows, end, member, IsOrder}
use Rattle.unit_linker.specs.Slots.{IsOnce}
use Rattle.unit_linker.specs.Laws.{StandsBefore, OrdersAreOne, UnitsStandOnce, UsesStandBefore}
use Rattle.unit_linker.proofs.Visited.{among_left, among_last, among_cases, Reaches, reaches_at_once, no_return}

-- a file from which this one is reached by interface uses, or itself
record FromOne (graph : List FileUses) (us : List ℕ) (v : ℕ) : Type 0 where
  start : ℕ
  among : Among us start
  leads : (start ≡ v) ⊎ Reaches graph start v

reaches_from : (graph : List FileUses) (u w v : ℕ) → Among (interface_of graph u) w → (w ≡ v) ⊎ Reaches graph w v → Reaches graph u v
unfolding LeadsTo
reaches_from graph u w v a (inl e) = reaches_at_once graph u v (subst (Among (interface_of graph u)) e a)
reaches_from graph u w v a (inr r) = record { path = w ∷ r.path; leads = (a, r.leads) }

one_more : (graph : List FileUses) (u : ℕ) (us : List ℕ) (v : ℕ) → FromOne graph us v → FromOne graph (u ∷ us) v
one_more graph u us v f = record { start = f.start; among = inr f.among; leads = f.leads }

visits_reach : (graph : List FileUses) (us before after : List ℕ) → Visits graph us before after → (v : ℕ) → Among after v → Among before v ⊎ FromOne graph us v
visits_reach graph files from to (none order) v a = inl a
visits_reach graph files from to (known u rest before after there more) v a =
    elim (visits_reach graph rest before after more v a) [ inl b ↦ inl b | inr f ↦ inr (one_more graph u rest v f) ]
visits_reach graph files from to (new u rest before inner after absent inside more) v a =
    elim (visits_reach graph rest (inner ++ u ∷ []) after more v a) [
      | inl b ↦ elim (among_cases inner u v b) [
        | inl i ↦ elim (visits_reach graph (interface_of graph u) before inner inside v i) [
          | inl c ↦ inl c
          | inr f ↦ inr (record { start = u; among = inl refl; leads = inr (reaches_from graph u f.start v f.among f.leads) })
        ]
        | inr e ↦ inr (record { start = u; among = inl refl; leads = inl e })
      ]
      | inr f ↦ inr (one_more graph u rest v f)
    ]

-- ---- each member once

once_more : (us : List ℕ) (u : ℕ) → IsOnce us → (Among us u → ⊥) → IsOnce (us ++ u ∷ [])
once_more [] u o n = ((λ a. a), tt)
once_more (w ∷ us) u o n = ((λ a. elim (among_cases us u w a) [ inl b ↦ o.0 b | inr e ↦ n (inl (sym e)) ]), once_more us u o.1 (λ a. n (inr a)))

visits_once : (graph : List FileUses) → IsAcyclic graph → (us before after : List ℕ) → Visits graph us before after → IsOnce before → IsOnce after
visits_once graph acyclic files from to (none order) o = o
visits_once graph acyclic files from to (known u rest before after there more) o = visits_once graph acyclic rest before after more o
visits_once graph acyclic files from to (new u rest before inner after absent inside more) o =
    visits_once graph acyclic rest (inner ++ u ∷ []) after more
    (once_more inner u (visits_once graph acyclic (interface_of graph u) before inner inside o)
    (λ a. elim (visits_reach graph (interface_of graph u) before inner inside u a) [ inl b ↦ absent b | inr f ↦ no_return graph u acyclic (reaches_from graph u f.start u f.among f.leads) ]))

grows_once : (graph : List FileUses) → IsAcyclic graph → (place : ℕ) (before after : List ℕ) → Grows graph place before after → IsOnce before → IsOnce after
grows_once graph acyclic at from to (end place order h) o = o
grows_once graph acyclic at from to (member place u before more after h visits grows) o =
    grows_once graph acyclic (suc place) more after grows (visits_once graph acyclic (implementation_of graph u) before more visits o)

pub order_once : (graph : List FileUses) (uses order : List ℕ) → IsAcyclic graph → IsOrder graph uses order → IsOnce order
order_once graph uses order acyclic h = grows_once graph acyclic 0 h.direct order h.grows (visits_once graph acyclic uses [] h.direct h.visits tt)

-- ---- nothing but what is used

module _ (graph : List FileUses) (P : ℕ → Type 0) (interface : (u v : ℕ) → Among (interface_of graph u) v → P v) (implementation : (u v : ℕ) → Among (implementation_of graph u) v → P v) where
  visits_used : (us before after : List ℕ) → Visits graph us before after → ((v : ℕ) → Among us v → P v) → ((v : ℕ) → Among before v → P v) → (v : ℕ) → Among after v → P v
  visits_used files from to (none order) p q v a = q v a
  visits_used files from to (known u rest before after there more) p q v a = visits_used rest before after more (λ w b. p w (inr b)) q v a
  visits_used files from to (new u rest before inner after absent inside more) p q v a =
      let inner_used = visits_used (interface_of graph u) before inner inside (interface u) q in
      visits_used rest (inner ++ u ∷ []) after more (λ w b. p w (inr b)) (λ w b. elim (among_cases inner u w b) [ inl i ↦ inner_used w i | inr e ↦ subst P e (p u (inl refl)) ]) v a

  grows_used : (place : ℕ) (before after : List ℕ) → Grows graph place before after → ((v : ℕ) → Among before v → P v) → (v : ℕ) → Among after v → P v
  grows_used at from to (end place order h) q v a = q v a
  grows_used at from to (member place u before more after h visits grows) q v a = grows_used (suc place) more after grows (visits_used (implementation_of graph u) before more visits (implementation u) q) v a

  pub order_used : (uses order : List ℕ) → IsOrder graph uses order → ((v : ℕ) → Among uses v → P v) → (v : ℕ) → Among order v → P v
  order_used uses order h p = grows_used 0 h.direct order h.grows (visits_used uses [] h.direct h.visits p (λ v a. absurd a))

-- ---- uses stand before

append_nil : (xs : List ℕ) → xs ≡ xs ++ []
append_nil [] = refl
append_nil (x ∷ xs) = ap (λ l. x ∷ l) (append_nil xs)

visits_add : (graph : List FileUses) (us before after : List ℕ) → Visits graph us before after → (more : List ℕ) × (after ≡ before ++ more)
visits_add graph files from to (none order) = ([], append_nil order)
visits_add graph files from to (known u rest before after there more) = visits_add graph rest before after more
visits_add graph files from to (new u rest before inner after absent inside more) =
    let i = visits_add graph (interface_of graph u) before inner inside in
    let m = visits_add graph rest (inner ++ u ∷ []) after more in
    (i.0 ++ (u ∷ m.0), m.1 ∙ append_assoc inner (u ∷ []) m.0 ∙ ap (λ l. l ++ (u ∷ m.0)) i.1 ∙ append_assoc before i.0 (u ∷ m.0))

stays : (graph : List FileUses) (us before after : List ℕ) → Visits graph us before after → (v : ℕ) → Among before v → Among after v
stays graph us before after visits v a = let m = visits_add graph us before after visits in subst (λ l. Among l v) (sym m.1) (among_left before m.0 v a)

visits_placed : (graph : List FileUses) (us before after : List ℕ) → Visits graph us before after → (v : ℕ) → Among us v → Among after v
visits_placed graph files from to (none order) v a = absurd a
visits_placed graph files from to (known u rest before after there more) v a =
    elim a [ inl e ↦ stays graph rest before after more v (subst (Among before) e there) | inr b ↦ visits_placed graph rest before after more v b ]
visits_placed graph files from to (new u rest before inner after absent inside more) v a =
    elim a [ inl e ↦ stays graph rest (inner ++ u ∷ []) after more v (subst (Among (inner ++ u ∷ [])) e (among_last inner u)) | inr b ↦ visits_placed graph rest (inner ++ u ∷ []) after more v b ]

-- each member stands behind what its interface uses
record Behind (graph : List FileUses) (order : List ℕ) : Type 0 where
  by : (u v : ℕ) → Among order u → Among (interface_of graph u) v → StandsBefore order v u

behind_none : (graph : List FileUses) → Behind graph []
behind_none graph = record { by = λ u v a. absurd a }

further : (order more : List ℕ) (v u : ℕ) → StandsBefore order v u → StandsBefore (order ++ more) v u
further order more v u b = record { front = b.front; back = b.back ++ more; is = ap (λ l. l ++ more) b.is ∙ append_assoc b.front (u ∷ b.back) more; among = b.among }

behind_placed : (graph : List FileUses) (inner : List ℕ) (u : ℕ) → Behind graph inner → ((v : ℕ) → Among (interface_of graph u) v → Among inner v) → Behind graph (inner ++ u ∷ [])
behind_placed graph inner u b placed = record {
  by = λ w v a i. elim (among_cases inner u w a) [
    | inl c ↦ further inner (u ∷ []) v w (b.by w v c i)
    | inr e ↦ subst (λ x. StandsBefore (inner ++ u ∷ []) v x) e (record { front = inner; back = []; is = refl; among = placed v (subst (λ x. Among (interface_of graph x) v) (sym e) i) })
  ];
}

visits_behind : (graph : List FileUses) (us before after : List ℕ) → Visits graph us before after → Behind graph before → Behind graph after
visits_behind graph files from to (none order) b = b
visits_behind graph files from to (known u rest before after there more) b = visits_behind graph rest before after more b
visits_behind graph files from to (new u rest before inner after absent inside more) b =
    visits_behind graph rest (inner ++ u ∷ []) after more
    (behind_placed graph inner u (visits_behind graph (interface_of graph u) before inner inside b) (visits_placed graph (interface_of graph u) before inner inside))

grows_behind : (graph : List FileUses) (place : ℕ) (before after : List ℕ) → Grows graph place before after → Behind graph before → Behind graph after
grows_behind graph at from to (end place order h) b = b
grows_behind graph at from to (member place u before more after h visits grows) b =
    grows_behind graph (suc place) more after grows (visits_behind graph (implementation_of graph u) before more visits b)

pub uses_stand_before : UsesStandBefore
uses_stand_before graph uses order h u v a i =
    (grows_behind graph 0 h.direct order h.grows (visits_behind graph uses [] h.direct h.visits (behind_none graph))).by u v a i

pub units_stand_once : UnitsStandOnce
units_stand_once graph uses order acyclic h = order_once graph uses order acyclic h

-- ---- one order

same_visits : (graph : List FileUses) (us us' a a' b c : List ℕ) → Visits graph us a b → Visits graph us' a' c → us ≡ us' → a ≡ a' → b ≡ c
same_visits graph us us' a a' b c (none order) (none other) e f = f
same_visits graph us us' a a' b c (none order) (known u rest before after there more) e f = absurd cc
same_visits graph us us' a a' b c (none order) (new u rest before inner after absent inside more) e f = absurd cc
same_visits graph us us' a a' b c (known u rest before after there more) (none order) e f = absurd cc
same_visits graph us us' a a' b c (known u rest before after there more) (known u' rest' before' after' there' more') e f =
    let r : rest ≡ rest' = cc in
    same_visits graph rest rest' before before' after after' more more' r f
same_visits graph us us' a a' b c (known u rest before after there more) (new u' rest' before' inner' after' absent' inside' more') e f =
    let h : u ≡ u' = cc in absurd (absent' (subst (Among before') h (subst (λ l. Among l u) f there)))
same_visits graph us us' a a' b c (new u rest before inner after absent inside more) (none order) e f = absurd cc
same_visits graph us us' a a' b c (new u rest before inner after absent inside more) (known u' rest' before' after' there' more') e f =
    let h : u ≡ u' = cc in absurd (absent (subst (Among before) (sym h) (subst (λ l. Among l u') (sym f) there')))
same_visits graph us us' a a' b c (new u rest before inner after absent inside more) (new u' rest' before' inner' after' absent' inside' more') e f =
    let h : u ≡ u' = cc in
    let r : rest ≡ rest' = cc in
    let i = same_visits graph (interface_of graph u) (interface_of graph u') before before' inner inner' inside inside' (ap (interface_of graph) h) f in
    let j : (inner ++ u ∷ []) ≡ (inner' ++ u' ∷ []) = cc in
    same_visits graph rest rest' (inner ++ u ∷ []) (inner' ++ u' ∷ []) after after' more more' r j

within_not : (us : List ℕ) (n u : ℕ) → slice_get us n ≡ Some u → length us ≤ n → ⊥
within_not [] n u h l = cc
within_not (x ∷ us) zero u h l = omega arith
within_not (x ∷ us) (suc n) u h l = within_not us n u h (omega arith)

same_grows : (graph : List FileUses) (p p' : ℕ) (a a' b c : List ℕ) → Grows graph p a b → Grows graph p' a' c → p ≡ p' → a ≡ a' → b ≡ c
same_grows graph p p' a a' b c (end place order h) (end place' order' h') e f = f
same_grows graph p p' a a' b c (end place order h) (member place' u before more after g visits grows) e f =
    absurd (within_not before place' u g (let l = ap length f in omega (arith, l)))
same_grows graph p p' a a' b c (member place u before more after g visits grows) (end place' order' h') e f =
    absurd (within_not before place u g (let l = ap length f in omega (arith, l)))
same_grows graph p p' a a' b c (member place u before more after g visits grows) (member place' u' before' more' after' g' visits' grows') e f =
    let k : Some u ≡ Some u' = sym g ∙ ap (λ l. slice_get l place) f ∙ ap (slice_get before') e ∙ g' in
    let h : u ≡ u' = cc in
    let m = same_visits graph (implementation_of graph u) (implementation_of graph u') before before' more more' visits visits' (ap (implementation_of graph) h) f in
    same_grows graph (suc place) (suc place') more more' after after' grows grows' (ap suc e) m

pub orders_are_one : OrdersAreOne
orders_are_one graph uses order other h g = same_grows graph 0 0 h.direct g.direct order other h.grows g.grows refl (same_visits graph uses uses [] [] h.direct g.direct h.visits g.visits refl refl)
