-- Steps of the search for a way.
use Rattle.std.proofs.Common.{◌≡◌, ℕ, zero, suc, Bool, true, false, nat_eq, List, [], ◌∷◌, ◌++◌, Some, None, length, take, ◌-◌, refl, sym, ap, ◌∙◌, append_assoc, arith, slice_get, slice_set}
use Rattle.unit_linker.specs.declared.graph.FileUses.{FileUses}
use Rattle.unit_linker.specs.Graph.{interface_of}
use Rattle.unit_linker.specs.Walk.{is_unmarked}
use Rattle.unit_linker.specs.Search.{Answer, begun_at, or_then, unless_known, unless_there, by_one_of, way, way_by, told}

abbrev pub Told : Type 0
Told = List Bool × Bool × List ℕ

equal : (m n : ℕ) → m ≡ n → nat_eq m n ≡ true
equal m n h = grind (arith, h)

unequal : (m n : ℕ) → (m ≡ n → ⊥) → nat_eq m n ≡ false
unequal m n h = grind (arith, h)

front : (path : List ℕ) (x : ℕ) → take (length path) (path ++ x ∷ []) ≡ path
front [] x = refl
front (y ∷ path) x = ap (λ l. y ∷ l) (front path x)

longer : (path : List ℕ) (x : ℕ) → length (path ++ x ∷ []) ≡ suc (length path)
longer [] x = refl
longer (y ∷ path) x = ap suc (longer path x)

-- all but the last of a path
pub popped : (path xs ys : List ℕ) (x n : ℕ) → xs ≡ path ++ x ∷ [] → n ≡ length xs → ys ≡ take (n - 1) xs → ys ≡ path
popped path xs ys x n h l e =
    let same = ap length h in
    let more = longer path x in
    let k : n - 1 ≡ length path = omega (arith, same, more) in
    e ∙ ap (λ i. take i xs) k ∙ ap (λ zs. take (length path) zs) h ∙ front path x

-- ---- from a file

pub way_deepest : (depth : ℕ) (graph : List FileUses) (goal from : ℕ) (marks : List Bool) (path : List ℕ) → depth ≡ 0 → ◌≡◌ {A = Told} (marks, false, path) (told path (way depth graph goal from marks))
unfolding way told
way_deepest zero graph goal from marks path h = refl
way_deepest (suc n) graph goal from marks path h = absurd cc

begun_below : (n : ℕ) (graph : List FileUses) (goal from : ℕ) (marks : List Bool) → begun_at from (way_by n graph goal (interface_of graph from) marks) ≡ way (suc n) graph goal from marks
unfolding way way_by
begun_below n graph goal from marks = refl

pub way_begun : (depth n : ℕ) (graph : List FileUses) (goal from : ℕ) (marks : List Bool) → depth ≡ suc n → begun_at from (way_by n graph goal (interface_of graph from) marks) ≡ way depth graph goal from marks
way_begun depth n graph goal from marks h = begun_below n graph goal from marks ∙ ap (λ d. way d graph goal from marks) (sym h)

-- what was told with the file on the path
pub told_found : (path : List ℕ) (from : ℕ) (a : Answer) (marks : List Bool) (path' : List ℕ) → ◌≡◌ {A = Told} (marks, true, path') (told (path ++ from ∷ []) a) → ◌≡◌ {A = Told} (marks, true, path') (told path (begun_at from a))
unfolding told begun_at
told_found path from (m, None) marks path' h = let b : true ≡ false = ap (λ t. t.1) h in absurd cc
told_found path from (m, Some found) marks path' h = h ∙ ap (λ p. (m, true, p)) (append_assoc path (from ∷ []) found)

pub told_nothing : (path : List ℕ) (from : ℕ) (a : Answer) (marks : List Bool) (path' : List ℕ) → ◌≡◌ {A = Told} (marks, false, path') (told (path ++ from ∷ []) a) → ◌≡◌ {A = Told} (marks, false, path) (told path (begun_at from a))
unfolding told begun_at
told_nothing path from (m, None) marks path' h = ap (λ t. (t.0, false, path)) h
told_nothing path from (m, Some found) marks path' h = let b : false ≡ true = ap (λ t. t.1) h in absurd cc

-- the path of what was told, where there is none
pub told_path : (path : List ℕ) (a : Answer) (marks : List Bool) (path' : List ℕ) → ◌≡◌ {A = Told} (marks, false, path') (told path a) → path' ≡ path
unfolding told
told_path path (m, None) marks path' h = ap (λ t. t.2) h
told_path path (m, Some found) marks path' h = let b : false ≡ true = ap (λ t. t.1) h in absurd cc

-- ---- by one of several files

no_items : (us : List ℕ) → length us ≡ 0 → us ≡ []
no_items [] h = refl
no_items (u ∷ us) h = absurd (omega arith)

none_left : (n : ℕ) (graph : List FileUses) (goal : ℕ) (marks : List Bool) (path : List ℕ) → ◌≡◌ {A = Told} (marks, false, path) (told path (way_by n graph goal [] marks))
unfolding way_by by_one_of told
none_left n graph goal marks path = refl

pub by_none : (n : ℕ) (graph : List FileUses) (goal : ℕ) (rest : List ℕ) (marks : List Bool) (path : List ℕ) (t : Told) → length rest ≡ 0 → told path (way_by n graph goal rest marks) ≡ t → ◌≡◌ {A = Told} (marks, false, path) t
by_none n graph goal rest marks path t h k = none_left n graph goal marks path ∙ ap (λ l. told path (way_by n graph goal l marks)) (sym (no_items rest h)) ∙ k

append_nil : (xs : List ℕ) → xs ≡ xs ++ []
append_nil [] = refl
append_nil (x ∷ xs) = ap (λ l. x ∷ l) (append_nil xs)

first_there : (n : ℕ) (graph : List FileUses) (goal v : ℕ) (vs : List ℕ) (marks : List Bool) (path : List ℕ) → nat_eq v goal ≡ true → ◌≡◌ {A = Told} (marks, true, path) (told path (way_by n graph goal (v ∷ vs) marks))
unfolding way_by by_one_of unless_there told
first_there n graph goal v vs marks path h =
    ap (λ p. (marks, true, p)) (append_nil path)
    ∙ ap (λ b. told path (unless_there b (unless_known (is_unmarked (slice_get marks v)) (way n graph goal v (slice_set marks v true)) (by_one_of (way n graph goal) goal vs) marks) marks)) (sym h)

pub by_goal : (n : ℕ) (graph : List FileUses) (goal v : ℕ) (vs rest : List ℕ) (marks : List Bool) (path : List ℕ) (t : Told) → rest ≡ v ∷ vs → v ≡ goal → told path (way_by n graph goal rest marks) ≡ t → ◌≡◌ {A = Told} (marks, true, path) t
by_goal n graph goal v vs rest marks path t h k e = first_there n graph goal v vs marks path (equal v goal k) ∙ ap (λ l. told path (way_by n graph goal l marks)) (sym h) ∙ e

first_known : (n : ℕ) (graph : List FileUses) (goal v : ℕ) (vs : List ℕ) (marks : List Bool) → nat_eq v goal ≡ false → is_unmarked (slice_get marks v) ≡ false → way_by n graph goal vs marks ≡ way_by n graph goal (v ∷ vs) marks
unfolding way_by by_one_of unless_there unless_known
first_known n graph goal v vs marks h k =
    ap (λ b. unless_known b (way n graph goal v (slice_set marks v true)) (by_one_of (way n graph goal) goal vs) marks) (sym k)
    ∙ ap (λ b. unless_there b (unless_known (is_unmarked (slice_get marks v)) (way n graph goal v (slice_set marks v true)) (by_one_of (way n graph goal) goal vs) marks) marks) (sym h)

pub by_known : (n : ℕ) (graph : List FileUses) (goal v : ℕ) (vs rest : List ℕ) (marks : List Bool) (path : List ℕ) → rest ≡ v ∷ vs → (v ≡ goal → ⊥) → is_unmarked (slice_get marks v) ≡ false
    → told path (way_by n graph goal vs marks) ≡ told path (way_by n graph goal rest marks)
by_known n graph goal v vs rest marks path h k u = ap (told path) (first_known n graph goal v vs marks (unequal v goal k) u ∙ ap (λ l. way_by n graph goal l marks) (sym h))

first_new : (n : ℕ) (graph : List FileUses) (goal v : ℕ) (vs : List ℕ) (marks : List Bool) → nat_eq v goal ≡ false → is_unmarked (slice_get marks v) ≡ true
    → or_then (way n graph goal v (slice_set marks v true)) (way_by n graph goal vs) ≡ way_by n graph goal (v ∷ vs) marks
unfolding way_by by_one_of unless_there unless_known
first_new n graph goal v vs marks h k =
    ap (λ b. unless_known b (way n graph goal v (slice_set marks v true)) (by_one_of (way n graph goal) goal vs) marks) (sym k)
    ∙ ap (λ b. unless_there b (unless_known (is_unmarked (slice_get marks v)) (way n graph goal v (slice_set marks v true)) (by_one_of (way n graph goal) goal vs) marks) marks) (sym h)

way_found : (path : List ℕ) (a : Answer) (next : List Bool → Answer) (marks : List Bool) (path' : List ℕ) → ◌≡◌ {A = Told} (marks, true, path') (told path a) → ◌≡◌ {A = Told} (marks, true, path') (told path (or_then a next))
unfolding told or_then
way_found path (m, None) next marks path' h = let b : true ≡ false = ap (λ t. t.1) h in absurd cc
way_found path (m, Some found) next marks path' h = h

pub by_way : (n : ℕ) (graph : List FileUses) (goal v : ℕ) (vs rest : List ℕ) (marks marks' : List Bool) (path path' : List ℕ) (t : Told) → rest ≡ v ∷ vs → (v ≡ goal → ⊥) → is_unmarked (slice_get marks v) ≡ true
    → ◌≡◌ {A = Told} (marks', true, path') (told path (way n graph goal v (slice_set marks v true))) → told path (way_by n graph goal rest marks) ≡ t → ◌≡◌ {A = Told} (marks', true, path') t
by_way n graph goal v vs rest marks marks' path path' t h k u w e =
    way_found path _ (way_by n graph goal vs) marks' path' w ∙ ap (told path) (first_new n graph goal v vs marks (unequal v goal k) u ∙ ap (λ l. way_by n graph goal l marks) (sym h)) ∙ e

no_way : (path : List ℕ) (a : Answer) (next : List Bool → Answer) (marks : List Bool) (path' : List ℕ) → ◌≡◌ {A = Told} (marks, false, path') (told path a) → told path' (next marks) ≡ told path (or_then a next)
unfolding told or_then
no_way path (m, None) next marks path' h = ap (λ t. told t.2 (next t.0)) h
no_way path (m, Some found) next marks path' h = let b : false ≡ true = ap (λ t. t.1) h in absurd cc

pub by_others : (n : ℕ) (graph : List FileUses) (goal v : ℕ) (vs rest : List ℕ) (marks marks' : List Bool) (path path' : List ℕ) → rest ≡ v ∷ vs → (v ≡ goal → ⊥) → is_unmarked (slice_get marks v) ≡ true
    → ◌≡◌ {A = Told} (marks', false, path') (told path (way n graph goal v (slice_set marks v true))) → told path' (way_by n graph goal vs marks') ≡ told path (way_by n graph goal rest marks)
by_others n graph goal v vs rest marks marks' path path' h k u w =
    no_way path _ (way_by n graph goal vs) marks' path' w ∙ ap (told path) (first_new n graph goal v vs marks (unequal v goal k) u ∙ ap (λ l. way_by n graph goal l marks) (sym h))
