-- The walk visits as the definition of the order says.
use Rattle.std.proofs.Common.{◌≡◌, ℕ, zero, suc, ◌+◌, ◌≤◌, ◌<◌, ◌⊎◌, inl, inr, Bool, true, false, List, [], ◌∷◌, ◌++◌, length, Option, Some, None, refl, sym, ap, ◌∙◌, subst, arith, slice_get, slice_set, length-append, replicate}
use Rattle.unit_linker.specs.declared.graph.FileUses.{FileUses}
use Rattle.unit_linker.specs.Graph.{Among, interface_of, implementation_of, IsClosed, LeadsTo, IsCycle, IsAcyclic, Visits, none, known, new, Grows, end, member, IsOrder}
use Rattle.unit_linker.specs.Walk.{State, is_unmarked, each, placed, visit, visit_all, for_member, through}
use Rattle.unit_linker.proofs.WalkSteps.{known_below, new_below}
use Rattle.unit_linker.proofs.MarkLemmas.{Marked, unmarked, marking_counts, marking_keeps_length, marked_before, marked_after, marked_there, some_unmarked, length_blank, none_marked, all_unmarked}

-- ---- lists

pub among_left : (us vs : List ℕ) (v : ℕ) → Among us v → Among (us ++ vs) v
among_left [] vs v h = absurd h
among_left (u ∷ us) vs v (inl e) = inl e
among_left (u ∷ us) vs v (inr h) = inr (among_left us vs v h)

pub among_last : (us : List ℕ) (v : ℕ) → Among (us ++ v ∷ []) v
among_last [] v = inl refl
among_last (u ∷ us) v = inr (among_last us v)

pub among_cases : (us : List ℕ) (u v : ℕ) → Among (us ++ u ∷ []) v → Among us v ⊎ (u ≡ v)
among_cases [] u v (inl e) = inr e
among_cases [] u v (inr h) = absurd h
among_cases (w ∷ us) u v (inl e) = inl (inl e)
among_cases (w ∷ us) u v (inr h) = elim (among_cases us u v h) [ inl a ↦ inl (inr a) | inr e ↦ inr e ]

-- ---- paths

-- some path leads from the one file to the other
pub record Reaches (graph : List FileUses) (u v : ℕ) : Type 0 where
  pub path : List ℕ
  pub leads : LeadsTo graph (u ∷ path) v

pub reaches_at_once : (graph : List FileUses) (u v : ℕ) → Among (interface_of graph u) v → Reaches graph u v
unfolding LeadsTo
reaches_at_once graph u v h = record { path = []; leads = h }

leads_further : (graph : List FileUses) (u : ℕ) (path : List ℕ) (v w : ℕ) → LeadsTo graph (u ∷ path) v → Among (interface_of graph v) w → LeadsTo graph (u ∷ (path ++ v ∷ [])) w
unfolding LeadsTo
leads_further graph u [] v w h more = (h, more)
leads_further graph u (x ∷ path) v w h more = (h.0, leads_further graph x path v w h.1 more)

pub reaches_further : (graph : List FileUses) (u v w : ℕ) → Reaches graph u v → Among (interface_of graph v) w → Reaches graph u w
reaches_further graph u v w r more = record { path = r.path ++ v ∷ []; leads = leads_further graph u r.path v w r.leads more }

pub no_return : (graph : List FileUses) (u : ℕ) → IsAcyclic graph → Reaches graph u u → ⊥
unfolding IsCycle
no_return graph u acyclic r = acyclic.never (u ∷ r.path) r.leads

-- ---- states

-- what may be visited: of the files that were entered, those that are not placed yet lead to each of these
pub record Ready (graph : List FileUses) (files : List ℕ) (marks : List Bool) (order : List ℕ) : Type 0 where
  pub size : length marks ≡ length graph
  pub within : (u : ℕ) → Among files u → u < length graph
  pub entered : (v : ℕ) → Marked marks v → Among order v ⊎ ((u : ℕ) → Among files u → Reaches graph v u)
  pub placed : (v : ℕ) → Among order v → Marked marks v

-- what a walk keeps
pub record Kept (marks : List Bool) (order : List ℕ) (marks' : List Bool) (order' : List ℕ) : Type 0 where
  pub size : length marks' ≡ length marks
  pub entered : (v : ℕ) → Marked marks' v → Among order' v ⊎ Marked marks v
  pub marks_stay : (v : ℕ) → Marked marks v → Marked marks' v
  pub order_stays : (v : ℕ) → Among order v → Among order' v
  pub placed : (v : ℕ) → Among order' v → Marked marks' v
  pub fewer : unmarked marks' ≤ unmarked marks
  pub longer : length order' + unmarked marks' ≤ length order + unmarked marks

pub kept_all : (marks : List Bool) (order : List ℕ) → ((v : ℕ) → Among order v → Marked marks v) → Kept marks order marks order
kept_all marks order h = record {
  size = refl;
  entered = λ v m. inr m;
  marks_stay = λ v m. m;
  order_stays = λ v a. a;
  placed = h;
  fewer = omega arith;
  longer = omega arith;
}

pub kept_twice : (marks marks' marks'' : List Bool) (order order' order'' : List ℕ) → Kept marks order marks' order' → Kept marks' order' marks'' order'' → Kept marks order marks'' order''
kept_twice marks marks' marks'' order order' order'' k l = record {
  size = l.size ∙ k.size;
  entered = λ v m. elim (l.entered v m) [ inl a ↦ inl a | inr m' ↦ elim (k.entered v m') [ inl a ↦ inl (l.order_stays v a) | inr m'' ↦ inr m'' ] ];
  marks_stay = λ v m. l.marks_stay v (k.marks_stay v m);
  order_stays = λ v a. l.order_stays v (k.order_stays v a);
  placed = l.placed;
  fewer = omega (arith, k.fewer, l.fewer);
  longer = omega (arith, k.longer, l.longer);
}

-- the claim on one file, and on a list of them, at a depth

pub record One (n : ℕ) (graph : List FileUses) : Type 0 where
  pub keeps : (u : ℕ) (s : State) → Ready graph (u ∷ []) s.0 s.1 → unmarked s.0 ≤ n → Kept s.0 s.1 (visit n graph u s).0 (visit n graph u s).1
  pub visits : (u : ℕ) (s : State) → Ready graph (u ∷ []) s.0 s.1 → unmarked s.0 ≤ n → (us last : List ℕ) → Visits graph us (visit n graph u s).1 last → Visits graph (u ∷ us) s.1 last

pub record Every (n : ℕ) (graph : List FileUses) : Type 0 where
  pub keeps : (us : List ℕ) (s : State) → Ready graph us s.0 s.1 → unmarked s.0 ≤ n → Kept s.0 s.1 (visit_all n graph us s).0 (visit_all n graph us s).1
  pub visits : (us : List ℕ) (s : State) → Ready graph us s.0 s.1 → unmarked s.0 ≤ n → Visits graph us s.1 (visit_all n graph us s).1

ready_first : (graph : List FileUses) (u : ℕ) (us : List ℕ) (s : State) → Ready graph (u ∷ us) s.0 s.1 → Ready graph (u ∷ []) s.0 s.1
ready_first graph u us s r = record {
  size = r.size;
  within = λ v h. r.within v (first v h);
  entered = λ v m. elim (r.entered v m) [ inl a ↦ inl a | inr lead ↦ inr (λ w h. lead w (first w h)) ];
  placed = r.placed;
}
  where
    first : (v : ℕ) → Among (u ∷ []) v → Among (u ∷ us) v
    first v (inl e) = inl e
    first v (inr h) = absurd h

ready_rest : (graph : List FileUses) (u : ℕ) (us : List ℕ) (s t : State) → Ready graph (u ∷ us) s.0 s.1 → Kept s.0 s.1 t.0 t.1 → Ready graph us t.0 t.1
ready_rest graph u us s t r k = record {
  size = k.size ∙ r.size;
  within = λ v h. r.within v (inr h);
  entered = λ v m. elim (k.entered v m) [ inl a ↦ inl a | inr m' ↦ elim (r.entered v m') [ inl a ↦ inl (k.order_stays v a) | inr lead ↦ inr (λ w h. lead w (inr h)) ] ];
  placed = k.placed;
}

module _ (n : ℕ) (graph : List FileUses) (one : One n graph) where
  every_keeps : (us : List ℕ) (s : State) → Ready graph us s.0 s.1 → unmarked s.0 ≤ n → Kept s.0 s.1 (visit_all n graph us s).0 (visit_all n graph us s).1
  unfolding visit_all each
  every_keeps [] s r h = kept_all s.0 s.1 r.placed
  every_keeps (u ∷ us) s r h =
      let t = visit n graph u s in
      let k = one.keeps u s (ready_first graph u us s r) h in
      kept_twice _ _ _ _ _ _ k (every_keeps us t (ready_rest graph u us s t r k) (omega (arith, k.fewer)))

  every_visits : (us : List ℕ) (s : State) → Ready graph us s.0 s.1 → unmarked s.0 ≤ n → Visits graph us s.1 (visit_all n graph us s).1
  unfolding visit_all each
  every_visits [] s r h = none s.1
  every_visits (u ∷ us) s r h =
      let t = visit n graph u s in
      let k = one.keeps u s (ready_first graph u us s r) h in
      one.visits u s (ready_first graph u us s r) h us _ (every_visits us t (ready_rest graph u us s t r k) (omega (arith, k.fewer)))

  pub every : Every n graph
  every = record { keeps = every_keeps; visits = every_visits }

-- ---- one file

ready_inside : (graph : List FileUses) (u : ℕ) (s : State) → IsClosed graph → Ready graph (u ∷ []) s.0 s.1 → slice_get s.0 u ≡ Some false
    → Ready graph (interface_of graph u) (slice_set s.0 u true) s.1
ready_inside graph u s closed r h = record {
  size = marking_keeps_length s.0 u ∙ r.size;
  within = λ v a. closed.interface u v a;
  entered = λ v m. elim (marked_before s.0 u v m) [
    | inl e ↦ inr (λ w a. reaches_at_once graph v w (subst (λ x. Among (interface_of graph x) w) e a))
    | inr m' ↦ elim (r.entered v m') [ inl a ↦ inl a | inr lead ↦ inr (λ w a. reaches_further graph v u w (lead u (inl refl)) a) ]
  ];
  placed = λ v a. marked_after s.0 u v (r.placed v a);
}

kept_inside : (u : ℕ) (s t : State) → slice_get s.0 u ≡ Some false → Kept (slice_set s.0 u true) s.1 t.0 t.1 → Kept s.0 s.1 t.0 (t.1 ++ u ∷ [])
kept_inside u s t h k =
    let one_less = marking_counts s.0 u h in
    let more = length-append t.1 (u ∷ []) in
    record {
      size = k.size ∙ marking_keeps_length s.0 u;
      entered = λ v m. elim (k.entered v m) [
        | inl a ↦ inl (among_left t.1 (u ∷ []) v a)
        | inr m' ↦ elim (marked_before s.0 u v m') [ inl e ↦ inl (subst (λ x. Among (t.1 ++ u ∷ []) x) e (among_last t.1 u)) | inr m'' ↦ inr m'' ]
      ];
      marks_stay = λ v m. k.marks_stay v (marked_after s.0 u v m);
      order_stays = λ v a. among_left t.1 (u ∷ []) v (k.order_stays v a);
      placed = λ v a. elim (among_cases t.1 u v a) [ inl b ↦ k.placed v b | inr e ↦ subst (λ x. Marked t.0 x) e (k.marks_stay u (marked_there s.0 u false h)) ];
      fewer = omega (arith, k.fewer, one_less);
      longer = omega (arith, k.longer, one_less, more);
    }

-- whether a file of the list was entered
abbrev Entered : List Bool → ℕ → Type 0
Entered marks u = Marked marks u ⊎ (slice_get marks u ≡ Some false)

entered_or_not : (marks : List Bool) (u : ℕ) → u < length marks → Entered marks u
entered_or_not [] u h = absurd (omega arith)
entered_or_not (true ∷ marks) zero h = inl refl
entered_or_not (false ∷ marks) zero h = inr refl
entered_or_not (mark ∷ marks) (suc u) h = entered_or_not marks u (omega arith)

there : (graph : List FileUses) (u : ℕ) (s : State) → Ready graph (u ∷ []) s.0 s.1 → Entered s.0 u
there graph u s r = entered_or_not s.0 u (subst (λ n. u < n) (sym r.size) (r.within u (inl refl)))

is_placed : (graph : List FileUses) (u : ℕ) (s : State) → IsAcyclic graph → Ready graph (u ∷ []) s.0 s.1 → Marked s.0 u → Among s.1 u
is_placed graph u s acyclic r m = elim (r.entered u m) [ inl a ↦ a | inr lead ↦ absurd (no_return graph u acyclic (lead u (inl refl))) ]

none_deeper : (graph : List FileUses) (u : ℕ) (s : State) → Ready graph (u ∷ []) s.0 s.1 → unmarked s.0 ≤ 0 → Marked s.0 u
none_deeper graph u s r h = elim (there graph u s r) [ inl m ↦ m | inr f ↦ absurd (omega (arith, some_unmarked s.0 u f)) ]

one_zero : (graph : List FileUses) → IsAcyclic graph → One 0 graph
unfolding visit
one_zero graph acyclic = record {
  keeps = λ u s r h. kept_all s.0 s.1 r.placed;
  visits = λ u s r h us last more. known u us s.1 last (is_placed graph u s acyclic r (none_deeper graph u s r h)) more;
}

module _ (n : ℕ) (graph : List FileUses) (closed : IsClosed graph) (acyclic : IsAcyclic graph) (every : Every n graph) where
  inside_keeps : (u : ℕ) (s : State) → Ready graph (u ∷ []) s.0 s.1 → unmarked s.0 ≤ suc n → slice_get s.0 u ≡ Some false
      → Kept (slice_set s.0 u true) s.1 (visit_all n graph (interface_of graph u) (slice_set s.0 u true, s.1)).0 (visit_all n graph (interface_of graph u) (slice_set s.0 u true, s.1)).1
  inside_keeps u s r h f = every.keeps (interface_of graph u) (slice_set s.0 u true, s.1) (ready_inside graph u s closed r f) (omega (arith, marking_counts s.0 u f))

  deeper_keeps : (u : ℕ) (s : State) → Ready graph (u ∷ []) s.0 s.1 → unmarked s.0 ≤ suc n → Kept s.0 s.1 (visit (suc n) graph u s).0 (visit (suc n) graph u s).1
  unfolding is_unmarked placed
  deeper_keeps u s r h =
      let P : State → Type 0 = λ x. Kept s.0 s.1 x.0 x.1 in
      elim (there graph u s r) [
        | inl m ↦ subst P (known_below n graph u s (ap is_unmarked m)) (kept_all s.0 s.1 r.placed)
        | inr f ↦ subst P (new_below n graph u s _ (ap is_unmarked f) refl) (kept_inside u s _ f (inside_keeps u s r h f))
      ]

  deeper_visits : (u : ℕ) (s : State) → Ready graph (u ∷ []) s.0 s.1 → unmarked s.0 ≤ suc n → (us last : List ℕ) → Visits graph us (visit (suc n) graph u s).1 last → Visits graph (u ∷ us) s.1 last
  unfolding is_unmarked placed
  deeper_visits u s r h us last more =
      let P : State → Type 0 = λ x. Visits graph us x.1 last in
      elim (there graph u s r) [
        | inl m ↦ known u us s.1 last (is_placed graph u s acyclic r m) (subst P (sym (known_below n graph u s (ap is_unmarked m))) more)
        | inr f ↦ new u us s.1 _ last (λ a. let m = r.placed u a in absurd cc)
            (every.visits (interface_of graph u) (slice_set s.0 u true, s.1) (ready_inside graph u s closed r f) (omega (arith, marking_counts s.0 u f)))
            (subst P (sym (new_below n graph u s _ (ap is_unmarked f) refl)) more)
      ]

  pub one_deeper : One (suc n) graph
  one_deeper = record { keeps = deeper_keeps; visits = deeper_visits }

pub one_at : (n : ℕ) (graph : List FileUses) → IsClosed graph → IsAcyclic graph → One n graph
one_at zero graph closed acyclic = one_zero graph acyclic
one_at (suc n) graph closed acyclic = one_deeper n graph closed acyclic (every n graph (one_at n graph closed acyclic))

pub every_at : (n : ℕ) (graph : List FileUses) → IsClosed graph → IsAcyclic graph → Every n graph
every_at n graph closed acyclic = every n graph (one_at n graph closed acyclic)

-- ---- the members of the order

-- a state in which all files that were entered are placed
pub record Settled (graph : List FileUses) (marks : List Bool) (order : List ℕ) : Type 0 where
  pub size : length marks ≡ length graph
  pub entered : (v : ℕ) → Marked marks v → Among order v
  pub placed : (v : ℕ) → Among order v → Marked marks v
  pub room : length order + unmarked marks ≤ length graph

settled_ready : (graph : List FileUses) (us : List ℕ) (s : State) → ((v : ℕ) → Among us v → v < length graph) → Settled graph s.0 s.1 → Ready graph us s.0 s.1
settled_ready graph us s within settled = record { size = settled.size; within = within; entered = λ v m. inl (settled.entered v m); placed = settled.placed }

settled_after : (graph : List FileUses) (s t : State) → Settled graph s.0 s.1 → Kept s.0 s.1 t.0 t.1 → Settled graph t.0 t.1
settled_after graph s t settled k = record {
  size = k.size ∙ settled.size;
  entered = λ v m. elim (k.entered v m) [ inl a ↦ a | inr m' ↦ k.order_stays v (settled.entered v m') ];
  placed = k.placed;
  room = omega (arith, settled.room, k.longer);
}

past_the_end : (us : List ℕ) (n : ℕ) → slice_get us n ≡ None → length us ≤ n
past_the_end [] n h = omega arith
past_the_end (u ∷ us) zero h = absurd cc
past_the_end (u ∷ us) (suc n) h = let more = past_the_end us n h in omega (arith, more)

module _ (graph : List FileUses) (closed : IsClosed graph) (acyclic : IsAcyclic graph) where
  abbrev From : ℕ → Type 0
  From m = (place : ℕ) (s : State) → Settled graph s.0 s.1 → length graph ≤ place + m → Grows graph place s.1 (through m (length graph) graph place s).1

  at_member : (m : ℕ) → From m → (place : ℕ) (s : State) → Settled graph s.0 s.1 → length graph ≤ place + suc m → (o : Option ℕ) → slice_get s.1 place ≡ o
      → Grows graph place s.1 (for_member o s (λ u. through m (length graph) graph (suc place) (visit_all (length graph) graph (implementation_of graph u) s))).1
  unfolding for_member
  at_member m from place s settled h None e = end place s.1 (past_the_end s.1 place e)
  at_member m from place s settled h (Some u) e =
      let all = every_at (length graph) graph closed acyclic in
      let ready = settled_ready graph (implementation_of graph u) s (λ v a. closed.implementation u v a) settled in
      let few : unmarked s.0 ≤ length graph = omega (arith, settled.room) in
      let t = visit_all (length graph) graph (implementation_of graph u) s in
      member place u s.1 t.1 _ e (all.visits (implementation_of graph u) s ready few)
      (from (suc place) t (settled_after graph s t settled (all.keeps (implementation_of graph u) s ready few)) (omega arith))

  grows_from : (m : ℕ) → From m
  unfolding through
  grows_from zero place s settled h = end place s.1 (omega (arith, settled.room))
  grows_from (suc m) place s settled h = at_member m (grows_from m) place s settled h (slice_get s.1 place) refl

  pub order_found : (uses : List ℕ) → ((v : ℕ) → Among uses v → v < length graph) → (s t u : State) → Settled graph s.0 s.1 → s.1 ≡ []
      → t ≡ visit_all (length graph) graph uses s → u ≡ through (length graph) (length graph) graph 0 t → IsOrder graph uses u.1
  order_found uses within s t u settled nothing e f =
      let all = every_at (length graph) graph closed acyclic in
      let ready = settled_ready graph uses s within settled in
      let few : unmarked s.0 ≤ length graph = omega (arith, settled.room) in
      let P : State → Type 0 = λ x. Visits graph uses s.1 x.1 in
      let Q : State → Type 0 = λ x. Settled graph x.0 x.1 in
      let G : State → Type 0 = λ x. Grows graph 0 t.1 x.1 in
      record {
        direct = t.1;
        visits = subst (λ l. Visits graph uses l t.1) nothing (subst P (sym e) (all.visits uses s ready few));
        grows = subst G (sym f) (grows_from (length graph) 0 t (subst Q (sym e) (settled_after graph s _ settled (all.keeps uses s ready few))) (omega arith));
      }

blank_settled : (graph : List FileUses) → Settled graph (replicate (length graph) false) []
blank_settled graph = record {
  size = length_blank (length graph);
  entered = λ v m. absurd (none_marked (length graph) v m);
  placed = λ v a. absurd a;
  room = let all = all_unmarked (length graph) in omega (arith, all);
}

pub nothing_settled : (graph : List FileUses) (marks : List Bool) (order : List ℕ) → marks ≡ replicate (length graph) false → order ≡ [] → Settled graph marks order
nothing_settled graph marks order h k = subst (λ m. Settled graph m order) (sym h) (subst (λ l. Settled graph (replicate (length graph) false) l) (sym k) (blank_settled graph))
