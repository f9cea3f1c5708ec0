-- Steps of the walk.
use Rattle.std.proofs.Common.{◌≡◌, ℕ, zero, suc, true, false, List, [], ◌∷◌, Some, None, length, refl, sym, ap, ◌∙◌, arith, slice_get, slice_set}
use Rattle.unit_linker.specs.declared.graph.FileUses.{FileUses}
use Rattle.unit_linker.specs.Graph.{interface_of, implementation_of}
use Rattle.unit_linker.specs.Walk.{State, is_unmarked, each, when, placed, visit, visit_all, for_member, through}

pub visit_deepest : (depth : ℕ) (graph : List FileUses) (u : ℕ) (s : State) → depth ≡ 0 → s ≡ visit depth graph u s
unfolding visit
visit_deepest zero graph u s h = refl
visit_deepest (suc n) graph u s h = absurd cc

pub known_below : (below : ℕ) (graph : List FileUses) (u : ℕ) (s : State) → is_unmarked (slice_get s.0 u) ≡ false → s ≡ visit (suc below) graph u s
unfolding visit when
known_below below graph u s k = ap (λ b. when b (placed u (each (visit below graph) (interface_of graph u) (slice_set s.0 u true, s.1))) s) (sym k)

pub visit_known : (depth below : ℕ) (graph : List FileUses) (u : ℕ) (s : State) → depth ≡ suc below → is_unmarked (slice_get s.0 u) ≡ false → s ≡ visit depth graph u s
visit_known depth below graph u s h k = known_below below graph u s k ∙ ap (λ d. visit d graph u s) (sym h)

pub new_below : (below : ℕ) (graph : List FileUses) (u : ℕ) (s t : State) → is_unmarked (slice_get s.0 u) ≡ true
    → t ≡ visit_all below graph (interface_of graph u) (slice_set s.0 u true, s.1) → placed u t ≡ visit (suc below) graph u s
unfolding visit visit_all when
new_below below graph u s t k all = ap (placed u) all ∙ ap (λ b. when b (placed u (each (visit below graph) (interface_of graph u) (slice_set s.0 u true, s.1))) s) (sym k)

pub visit_new : (depth below : ℕ) (graph : List FileUses) (u : ℕ) (s t : State) → depth ≡ suc below → is_unmarked (slice_get s.0 u) ≡ true
    → t ≡ visit_all below graph (interface_of graph u) (slice_set s.0 u true, s.1) → placed u t ≡ visit depth graph u s
visit_new depth below graph u s t h k all = new_below below graph u s t k all ∙ ap (λ d. visit d graph u s) (sym h)

pub visit_first : (n : ℕ) (graph : List FileUses) (u : ℕ) (us rest : List ℕ) (s t : State) → rest ≡ u ∷ us → t ≡ visit n graph u s → visit_all n graph us t ≡ visit_all n graph rest s
unfolding visit_all each
visit_first n graph u us rest s t h k = ap (each (visit n graph) us) k ∙ ap (λ l. each (visit n graph) l s) (sym h)

no_items : (us : List ℕ) → length us ≡ 0 → us ≡ []
no_items [] h = refl
no_items (u ∷ us) h = absurd (omega arith)

all_of_none : (n : ℕ) (graph : List FileUses) (rest : List ℕ) (s t : State) → rest ≡ [] → visit_all n graph rest s ≡ t → s ≡ t
unfolding visit_all each
all_of_none n graph rest s t h k = ap (λ l. each (visit n graph) l s) (sym h) ∙ k

pub visit_none : (n : ℕ) (graph : List FileUses) (rest : List ℕ) (s t : State) → length rest ≡ 0 → visit_all n graph rest s ≡ t → s ≡ t
visit_none n graph rest s t h k = all_of_none n graph rest s t (no_items rest h) k

pub through_done : (m n : ℕ) (graph : List FileUses) (place : ℕ) (s t : State) → m ≡ 0 → through m n graph place s ≡ t → s ≡ t
unfolding through
through_done zero n graph place s t h k = k
through_done (suc m) n graph place s t h k = absurd cc

pub through_end : (m n : ℕ) (graph : List FileUses) (place : ℕ) (s t : State) → slice_get s.1 place ≡ None → through m n graph place s ≡ t → s ≡ t
unfolding through for_member
through_end zero n graph place s t h k = k
through_end (suc m) n graph place s t h k = ap (λ o. for_member o s (λ u. through m n graph (suc place) (visit_all n graph (implementation_of graph u) s))) (sym h) ∙ k

one_member : (m n : ℕ) (graph : List FileUses) (place u : ℕ) (s t : State) → slice_get s.1 place ≡ Some u
    → t ≡ visit_all n graph (implementation_of graph u) s → through m n graph (suc place) t ≡ through (suc m) n graph place s
unfolding through for_member
one_member m n graph place u s t h k =
    ap (through m n graph (suc place)) k ∙ ap (λ o. for_member o s (λ u. through m n graph (suc place) (visit_all n graph (implementation_of graph u) s))) (sym h)

pub through_member : (m more n : ℕ) (graph : List FileUses) (place next u : ℕ) (s t : State) → more ≡ suc m → next ≡ suc place → slice_get s.1 place ≡ Some u
    → t ≡ visit_all n graph (implementation_of graph u) s → through m n graph next t ≡ through more n graph place s
through_member m more n graph place next u s t h i k all =
    ap (λ p. through m n graph p t) i ∙ one_member m n graph place u s t k all ∙ ap (λ q. through q n graph place s) (sym h)
