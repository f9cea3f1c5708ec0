-- What the search finds is a way, and where it finds none there is none.
use Rattle.std.proofs.Common.{◌≡◌, ℕ, zero, suc, ◌+◌, ◌≤◌, ◌<◌, ◌⊎◌, inl, inr, Bool, true, false, nat_eq, List, [], ◌∷◌, length, Option, Some, None, refl, sym, ap, ◌∙◌, subst, arith, slice_get, slice_set, if◌then◌else◌, replicate}
use Rattle.std.specs.Option.{option_map}
use Rattle.std.specs.Bool.{then_some}
use Rattle.unit_linker.specs.declared.graph.FileUses.{FileUses}
use Rattle.unit_linker.specs.Graph.{Among, interface_of, IsClosed, interface_in, LeadsTo, IsCycle, IsCycleAt, IsAcyclic, IsFirstCycle}
use Rattle.unit_linker.specs.Walk.{is_unmarked}
use Rattle.unit_linker.specs.Search.{Answer, begun_at, or_then, unless_known, unless_there, by_one_of, way, way_by, told}
use Rattle.unit_linker.proofs.MarkLemmas.{Marked, unmarked, marking_counts, marking_keeps_length, marked_before, marked_after, marked_there, length_blank, none_marked, all_unmarked}

same_number : (m n : ℕ) → nat_eq m n ≡ true → m ≡ n
same_number m n h = grind (arith, h)

another_number : (m n : ℕ) → nat_eq m n ≡ false → m ≡ n → ⊥
another_number m n h e = grind (arith, h, e)

-- ---- what is found

-- a way from a file: it begins there and leads to the goal
abbrev pub IsWay : List FileUses → (goal from : ℕ) → Option (List ℕ) → Type 0
IsWay graph goal from None = Unit {0}
IsWay graph goal from (Some path) = (more : List ℕ) × (path ≡ from ∷ more) × LeadsTo graph (from ∷ more) goal

-- what comes behind a file on such a way
abbrev LeadsOn : List FileUses → (goal from : ℕ) → Option (List ℕ) → Type 0
LeadsOn graph goal from None = Unit {0}
LeadsOn graph goal from (Some path) = LeadsTo graph (from ∷ path) goal

begun_is : (graph : List FileUses) (goal from : ℕ) (a : Answer) → LeadsOn graph goal from a.1 → IsWay graph goal from (begun_at from a).1
unfolding begun_at
begun_is graph goal from (m, None) h = tt
begun_is graph goal from (m, Some path) h = (path, refl, h)

first_leads : (graph : List FileUses) (goal from v : ℕ) (path more : List ℕ) → Among (interface_of graph from) v → path ≡ v ∷ more → LeadsTo graph (v ∷ more) goal → LeadsTo graph (from ∷ path) goal
unfolding LeadsTo
first_leads graph goal from v path more a e h = let P : List ℕ → Type 0 = λ l. LeadsTo graph (from ∷ l) goal in subst P (sym e) (a, h)

then_leads : (graph : List FileUses) (goal from v : ℕ) (a : Answer) (next : List Bool → Answer) → Among (interface_of graph from) v → IsWay graph goal v a.1
    → ((marks : List Bool) → LeadsOn graph goal from (next marks).1) → LeadsOn graph goal from (or_then a next).1
unfolding or_then
then_leads graph goal from v (m, None) next there w more = more m
then_leads graph goal from v (m, Some path) next there w more = first_leads graph goal from v path w.0 there w.1 w.2

known_leads : (graph : List FileUses) (goal from : ℕ) (b : Bool) (a : Answer) (next : List Bool → Answer) (marks : List Bool) → LeadsOn graph goal from (or_then a next).1 → LeadsOn graph goal from (next marks).1
    → LeadsOn graph goal from (unless_known b a next marks).1
unfolding unless_known
known_leads graph goal from true a next marks h k = h
known_leads graph goal from false a next marks h k = k

there_leads : (graph : List FileUses) (goal from v : ℕ) (b : Bool) (a : Answer) (marks : List Bool) → nat_eq v goal ≡ b → Among (interface_of graph from) v → LeadsOn graph goal from a.1 → LeadsOn graph goal from (unless_there b a marks).1
unfolding unless_there LeadsTo
there_leads graph goal from v true a marks e there h = subst (λ x. Among (interface_of graph from) x) (same_number v goal e) there
there_leads graph goal from v false a marks e there h = h

pub record Finds (n : ℕ) (graph : List FileUses) (goal : ℕ) : Type 0 where
  pub is : (from : ℕ) (marks : List Bool) → IsWay graph goal from (way n graph goal from marks).1

by_leads : (n : ℕ) (graph : List FileUses) (goal from : ℕ) → Finds n graph goal → (vs : List ℕ) (marks : List Bool) → ((v : ℕ) → Among vs v → Among (interface_of graph from) v) → LeadsOn graph goal from (way_by n graph goal vs marks).1
unfolding way_by by_one_of
by_leads n graph goal from finds [] marks uses = tt
by_leads n graph goal from finds (v ∷ vs) marks uses =
    let more = λ (m : List Bool). by_leads n graph goal from finds vs m (λ w a. uses w (inr a)) in
    there_leads graph goal from v (nat_eq v goal) _ marks refl (uses v (inl refl))
    (known_leads graph goal from (is_unmarked (slice_get marks v)) _ _ marks (then_leads graph goal from v _ _ (uses v (inl refl)) (finds.is v (slice_set marks v true)) more) (more marks))

finds_deeper : (n : ℕ) (graph : List FileUses) (goal : ℕ) → Finds n graph goal → Finds (suc n) graph goal
unfolding way way_by
finds_deeper n graph goal finds = record { is = λ from marks. begun_is graph goal from _ (by_leads n graph goal from finds (interface_of graph from) marks (λ v a. a)) }

finds_none : (graph : List FileUses) (goal : ℕ) → Finds 0 graph goal
unfolding way
finds_none graph goal = record { is = λ from marks. tt }

pub finds : (n : ℕ) (graph : List FileUses) (goal : ℕ) → Finds n graph goal
finds zero graph goal = finds_none graph goal
finds (suc n) graph goal = finds_deeper n graph goal (finds n graph goal)

pub found_way : (n : ℕ) (graph : List FileUses) (goal from : ℕ) (marks marks' : List Bool) (path : List ℕ) → way n graph goal from marks ≡ (marks', Some path) → (more : List ℕ) × (path ≡ from ∷ more) × LeadsTo graph (from ∷ more) goal
found_way n graph goal from marks marks' path h = subst (λ (a : Answer). IsWay graph goal from a.1) h ((finds n graph goal).is from marks)

-- ---- where nothing is found

there_inverted : (b : Bool) (other : Answer) (marks marks' : List Bool) → ◌≡◌ {A = Answer} (unless_there b other marks) (marks', None) → (b ≡ false) × ◌≡◌ {A = Answer} other (marks', None)
unfolding unless_there
there_inverted true other marks marks' h = let n : Some [] ≡ None = ap (λ (a : Answer). a.1) h in absurd cc
there_inverted false other marks marks' h = (refl, h)

known_inverted : (b : Bool) (a : Answer) (next : List Bool → Answer) (marks marks' : List Bool) → ◌≡◌ {A = Answer} (unless_known b a next marks) (marks', None)
    → ((b ≡ true) × ◌≡◌ {A = Answer} (or_then a next) (marks', None)) ⊎ ((b ≡ false) × ◌≡◌ {A = Answer} (next marks) (marks', None))
unfolding unless_known
known_inverted true a next marks marks' h = inl (refl, h)
known_inverted false a next marks marks' h = inr (refl, h)

then_inverted : (a : Answer) (next : List Bool → Answer) (marks' : List Bool) → ◌≡◌ {A = Answer} (or_then a next) (marks', None) → (m : List Bool) × ◌≡◌ {A = Answer} a (m, None) × ◌≡◌ {A = Answer} (next m) (marks', None)
unfolding or_then
then_inverted (m, None) next marks' h = (m, refl, h)
then_inverted (m, Some path) next marks' h = let n : Some path ≡ None = ap (λ (a : Answer). a.1) h in absurd cc

begun_inverted : (u : ℕ) (a : Answer) (marks' : List Bool) → ◌≡◌ {A = Answer} (begun_at u a) (marks', None) → ◌≡◌ {A = Answer} a (marks', None)
unfolding begun_at
begun_inverted u (m, None) marks' h = h
begun_inverted u (m, Some path) marks' h = let n : Some (u ∷ path) ≡ None = ap (λ (a : Answer). a.1) h in absurd cc

is_new : (o : Option Bool) → is_unmarked o ≡ true → o ≡ Some false
unfolding is_unmarked
is_new (Some false) h = refl
is_new (Some true) h = absurd cc
is_new None h = absurd cc

is_old : (marks : List Bool) (u : ℕ) → is_unmarked (slice_get marks u) ≡ false → u < length marks → Marked marks u
unfolding is_unmarked
is_old [] u h l = absurd (omega arith)
is_old (true ∷ marks) zero h l = refl
is_old (false ∷ marks) zero h l = absurd cc
is_old (mark ∷ marks) (suc u) h l = is_old marks u h (omega arith)

-- it has a mark and is not the goal
abbrev Passed : (goal : ℕ) → List Bool → ℕ → Type 0
Passed goal marks v = Marked marks v × (v ≡ goal → ⊥)

-- all of these are passed, and all uses of those that got a mark
pub record Misses (graph : List FileUses) (goal : ℕ) (us : List ℕ) (marks marks' : List Bool) : Type 0 where
  pub all : (v : ℕ) → Among us v → Marked marks' v × (v ≡ goal → ⊥)
  pub new : (w : ℕ) → Marked marks' w → Marked marks w ⊎ ((v : ℕ) → Among (interface_of graph w) v → Marked marks' v × (v ≡ goal → ⊥))
  pub stays : (v : ℕ) → Marked marks v → Marked marks' v
  pub size : length marks' ≡ length marks
  pub fewer : unmarked marks' ≤ unmarked marks

misses_none : (graph : List FileUses) (goal : ℕ) (marks marks' : List Bool) → marks ≡ marks' → Misses graph goal [] marks marks'
misses_none graph goal marks marks' h = subst (λ m. Misses graph goal [] marks m) h (record { all = λ v a. absurd a; new = λ w m. inl m; stays = λ v m. m; size = refl; fewer = omega arith })

misses_known : (graph : List FileUses) (goal v : ℕ) (vs : List ℕ) (marks marks' : List Bool) → (v ≡ goal → ⊥) → Marked marks v → Misses graph goal vs marks marks' → Misses graph goal (v ∷ vs) marks marks'
misses_known graph goal v vs marks marks' n m k = record {
  all = λ w a. elim a [ inl e ↦ subst (λ x. Passed goal marks' x) e (k.stays v m, n) | inr b ↦ k.all w b ];
  new = k.new;
  stays = k.stays;
  size = k.size;
  fewer = k.fewer;
}

misses_new : (graph : List FileUses) (goal v : ℕ) (vs : List ℕ) (marks middle marks' : List Bool) → (v ≡ goal → ⊥) → slice_get marks v ≡ Some false
    → Misses graph goal (interface_of graph v) (slice_set marks v true) middle → Misses graph goal vs middle marks' → Misses graph goal (v ∷ vs) marks marks'
misses_new graph goal v vs marks middle marks' n f k l =
    let one_less = marking_counts marks v f in
    record {
      all = λ w a. elim a [ inl e ↦ subst (λ x. Passed goal marks' x) e (l.stays v (k.stays v (marked_there marks v false f)), n) | inr b ↦ l.all w b ];
      new = λ w m. elim (l.new w m) [
        | inl m' ↦ elim (k.new w m') [
          | inl m'' ↦ elim (marked_before marks v w m'') [
            | inl e ↦ inr (subst (λ x. (u : ℕ) → Among (interface_of graph x) u → Passed goal marks' u) e (λ u a. (l.stays u (k.all u a).0, (k.all u a).1)))
            | inr old ↦ inl old
          ]
          | inr passed ↦ inr (λ u a. (l.stays u (passed u a).0, (passed u a).1))
        ]
        | inr passed ↦ inr passed
      ];
      stays = λ w m. l.stays w (k.stays w (marked_after marks v w m));
      size = l.size ∙ k.size ∙ marking_keeps_length marks v;
      fewer = omega (arith, l.fewer, k.fewer, one_less);
    }

pub record Fails (n : ℕ) (graph : List FileUses) (goal : ℕ) : Type 0 where
  pub misses : (from : ℕ) (marks marks' : List Bool) → length marks ≡ length graph → unmarked marks < n → ◌≡◌ {A = Answer} (way n graph goal from marks) (marks', None) → Misses graph goal (interface_of graph from) marks marks'

module _ (n : ℕ) (graph : List FileUses) (goal : ℕ) (closed : IsClosed graph) (fails : Fails n graph goal) where
  by_misses : (vs : List ℕ) (marks marks' : List Bool) → ((v : ℕ) → Among vs v → v < length graph) → length marks ≡ length graph → unmarked marks ≤ n
      → ◌≡◌ {A = Answer} (way_by n graph goal vs marks) (marks', None) → Misses graph goal vs marks marks'
  unfolding way_by by_one_of
  by_misses [] marks marks' within size few h = misses_none graph goal marks marks' (ap (λ (a : Answer). a.0) h)
  by_misses (v ∷ vs) marks marks' within size few h =
      let there = there_inverted _ _ marks marks' h in
      let other = another_number v goal there.0 in
      elim (known_inverted _ _ _ marks marks' there.1) [
        | inl new ↦
            let f = is_new (slice_get marks v) new.0 in
            let one_less = marking_counts marks v f in
            let both = then_inverted _ _ marks' new.1 in
            let k = fails.misses v (slice_set marks v true) both.0 (marking_keeps_length marks v ∙ size) (omega (arith, one_less)) both.1 in
            misses_new graph goal v vs marks both.0 marks' other f k
            (by_misses vs both.0 marks' (λ w a. within w (inr a)) (k.size ∙ marking_keeps_length marks v ∙ size) (omega (arith, one_less, k.fewer)) both.2)
        | inr old ↦
            misses_known graph goal v vs marks marks' other (is_old marks v old.0 (subst (λ l. v < l) (sym size) (within v (inl refl))))
            (by_misses vs marks marks' (λ w a. within w (inr a)) size few old.1)
      ]

  pub fails_deeper : Fails (suc n) graph goal
  unfolding way way_by
  fails_deeper = record {
    misses = λ from marks marks' size few h. by_misses (interface_of graph from) marks marks' (closed.interface from) size (omega arith) (begun_inverted from _ marks' h);
  }

fails_none : (graph : List FileUses) (goal : ℕ) → Fails 0 graph goal
fails_none graph goal = record { misses = λ from marks marks' size few h. absurd (omega arith) }

pub fails : (n : ℕ) (graph : List FileUses) (goal : ℕ) → IsClosed graph → Fails n graph goal
fails zero graph goal closed = fails_none graph goal
fails (suc n) graph goal closed = fails_deeper n graph goal closed (fails n graph goal closed)

-- ---- cycles

module _ (graph : List FileUses) (goal : ℕ) (marks marks' : List Bool) (only : (w : ℕ) → Marked marks w → w ≡ goal) (k : Misses graph goal (interface_of graph goal) marks marks') where
  passed_on : (v : ℕ) → Passed goal marks' v → (w : ℕ) → Among (interface_of graph v) w → Passed goal marks' w
  passed_on v p w a = elim (k.new v p.0) [ inl m ↦ absurd (p.1 (only v m)) | inr passed ↦ passed w a ]

  never_back : (u : ℕ) (path : List ℕ) → ((v : ℕ) → Among (interface_of graph u) v → Passed goal marks' v) → LeadsTo graph (u ∷ path) goal → ⊥
  unfolding LeadsTo
  never_back u [] passed h = (passed goal h).1 refl
  never_back u (v ∷ path) passed h = never_back v path (passed_on v (passed v h.0)) h.1

  pub no_cycle : (path : List ℕ) → IsCycle graph (goal ∷ path) → ⊥
  unfolding IsCycle
  no_cycle path h = never_back goal path k.all h

only_first : (n goal w : ℕ) → Marked (slice_set (replicate n false) goal true) w → w ≡ goal
only_first n goal w m = elim (marked_before (replicate n false) goal w m) [ inl e ↦ sym e | inr m' ↦ absurd (none_marked n w m') ]

blank_at : (n u : ℕ) → u < n → slice_get (replicate n false) u ≡ Some false
blank_at zero u h = absurd (omega arith)
blank_at (suc n) zero h = refl
blank_at (suc n) (suc u) h = blank_at n u (omega arith)

-- the search from a file back to it
pub none_at : (graph : List FileUses) (goal : ℕ) (blank marks marks' : List Bool) → IsClosed graph → goal < length graph → blank ≡ replicate (length graph) false → marks ≡ slice_set blank goal true
    → ◌≡◌ {A = Answer} (way (length graph) graph goal goal marks) (marks', None) → IsCycleAt graph goal None
unfolding IsCycleAt
none_at graph goal blank marks marks' closed within h k none =
    let n = length graph in
    let first : marks ≡ slice_set (replicate n false) goal true = k ∙ ap (λ b. slice_set b goal true) h in
    let f = blank_at n goal within in
    let one_less = marking_counts (replicate n false) goal f in
    let all = all_unmarked n in
    let size : length (slice_set (replicate n false) goal true) ≡ n = marking_keeps_length (replicate n false) goal ∙ length_blank n in
    let misses = (fails n graph goal closed).misses goal (slice_set (replicate n false) goal true) marks' size (omega (arith, one_less, all)) (subst (λ m. ◌≡◌ {A = Answer} (way n graph goal goal m) (marks', None)) first none) in
    no_cycle graph goal (slice_set (replicate n false) goal true) marks' (only_first n goal) misses

pub some_at : (graph : List FileUses) (goal : ℕ) (marks marks' : List Bool) (path : List ℕ) → ◌≡◌ {A = Answer} (way (length graph) graph goal goal marks) (marks', Some path) → IsCycleAt graph goal (Some path)
unfolding IsCycleAt IsCycle
some_at graph goal marks marks' path h = found_way (length graph) graph goal goal marks marks' path h

none_told : (a : Answer) (marks' : List Bool) (path : List ℕ) → ◌≡◌ {A = List Bool × Bool × List ℕ} (marks', false, path) (told [] a) → (m : List Bool) × (a ≡ (m, None))
unfolding told
none_told (m, None) marks' path h = (m, refl)
none_told (m, Some p) marks' path h = let b : false ≡ true = ap (λ (t : List Bool × Bool × List ℕ). t.1) h in absurd cc

some_told : (a : Answer) (marks' : List Bool) (path : List ℕ) → ◌≡◌ {A = List Bool × Bool × List ℕ} (marks', true, path) (told [] a) → (m : List Bool) × (a ≡ (m, Some path))
unfolding told
some_told (m, None) marks' path h = let b : true ≡ false = ap (λ (t : List Bool × Bool × List ℕ). t.1) h in absurd cc
some_told (m, Some p) marks' path h = (m, ap (λ (t : List Bool × Bool × List ℕ). (m, Some t.2)) (sym h))

module _ (graph : List FileUses) (goal : ℕ) (blank marks marks' : List Bool) (start : List ℕ) (closed : IsClosed graph) (within : goal < length graph)
    (h : blank ≡ replicate (length graph) false) (k : marks ≡ slice_set blank goal true) (nothing : start ≡ []) where
  abbrev Searched : Bool → List ℕ → Type 0
  Searched found path = ◌≡◌ {A = List Bool × Bool × List ℕ} (marks', found, path) (told start (way (length graph) graph goal goal marks))

  from_nothing : (found : Bool) (path : List ℕ) → Searched found path → ◌≡◌ {A = List Bool × Bool × List ℕ} (marks', found, path) (told [] (way (length graph) graph goal goal marks))
  from_nothing found path e = e ∙ ap (λ l. told l (way (length graph) graph goal goal marks)) nothing

  -- what a search from the file back to it says of cycles
  pub cycle_told : {A : Type 0} (items : A → List ℕ) (found : Bool) (path : A) (result : Option A) → Searched found (items path) → result ≡ then_some found path → IsCycleAt graph goal (option_map items result)
  cycle_told items true path result e r =
      let some = some_told _ marks' (items path) (from_nothing true (items path) e) in
      subst (λ o. IsCycleAt graph goal (option_map items o)) (sym r) (some_at graph goal marks some.0 (items path) some.1)
  cycle_told items false path result e r =
      let none = none_told _ marks' (items path) (from_nothing false (items path) e) in
      subst (λ o. IsCycleAt graph goal (option_map items o)) (sym r) (none_at graph goal blank marks none.0 closed within h k none.1)

pub first_mark : (n u : ℕ) (blank marks : List Bool) (b : Bool) → u < n → blank ≡ replicate n false → b ≡ is_unmarked (slice_get blank u)
    → marks ≡ (if b then slice_set blank u true else blank) → marks ≡ slice_set blank u true
unfolding is_unmarked
first_mark n u blank marks b within h k e =
    let f = ap (λ l. slice_get l u) h ∙ blank_at n u within in
    let new : b ≡ true = k ∙ ap is_unmarked f in
    e ∙ ap (λ c. if c then slice_set blank u true else blank) new

-- ---- the first cycle

pub first_is : (graph : List FileUses) (u : ℕ) (o : Option (List ℕ)) (cycle : List ℕ) → IsCycleAt graph u o → o ≡ Some cycle → ((v : ℕ) (path : List ℕ) → v < u → IsCycle graph (v ∷ path) → ⊥) → IsFirstCycle graph cycle
unfolding IsCycleAt
first_is graph u o cycle h e earlier =
    let c = subst (IsCycleAt graph u) e h in
    record {
      returns = subst (IsCycle graph) (sym c.1) c.2;
      first = λ w v path more same less. let heads = sym c.1 ∙ same in let one : u ≡ w = cc in earlier v more (omega arith);
    }

pub none_earlier : (graph : List FileUses) (u : ℕ) (o : Option (List ℕ)) → IsCycleAt graph u o → o ≡ None → ((v : ℕ) (path : List ℕ) → v < u → IsCycle graph (v ∷ path) → ⊥)
    → (v : ℕ) (path : List ℕ) → v < u + 1 → IsCycle graph (v ∷ path) → ⊥
unfolding IsCycleAt
none_earlier graph u o h e earlier v path less = elim (before u v less) [ inl l ↦ earlier v path l | inr same ↦ subst (λ w. IsCycle graph (w ∷ path) → ⊥) same (subst (IsCycleAt graph u) e h path) ]
  where
    before : (u v : ℕ) → v < u + 1 → (v < u) ⊎ (u ≡ v)
    before u v h = grind (arith, h)

uses_nothing : (graph : List FileUses) (u : ℕ) → length graph ≤ u → slice_get graph u ≡ None
uses_nothing [] u h = refl
uses_nothing (f ∷ graph) zero h = absurd (omega arith)
uses_nothing (f ∷ graph) (suc u) h = uses_nothing graph u (omega arith)

no_uses : (graph : List FileUses) (u v : ℕ) → length graph ≤ u → Among (interface_of graph u) v → ⊥
unfolding interface_of interface_in
no_uses graph u v h a = subst (λ o. Among (interface_in o) v) (uses_nothing graph u h) a

pub leads_nowhere : (graph : List FileUses) (u v : ℕ) (path : List ℕ) → length graph ≤ u → LeadsTo graph (u ∷ path) v → ⊥
unfolding LeadsTo
leads_nowhere graph u v [] h l = no_uses graph u v h l
leads_nowhere graph u v (w ∷ path) h l = no_uses graph u w h l.0

pub none_at_all : (graph : List FileUses) (n : ℕ) → length graph ≤ n → ((v : ℕ) (path : List ℕ) → v < n → IsCycle graph (v ∷ path) → ⊥) → IsAcyclic graph
unfolding IsCycle
none_at_all graph n h none = record { never = never }
  where
    past : (v : ℕ) → (v < n) ⊎ (n ≤ v)
    past v = grind arith

    never : (cycle : List ℕ) → IsCycle graph cycle → ⊥
    never [] c = c
    never (v ∷ path) c = elim (past v) [ inl l ↦ none v path l c | inr m ↦ leads_nowhere graph v v path (omega arith) c ]
