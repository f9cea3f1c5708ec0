-- Marks of files.
use Rattle.std.proofs.Common.{◌≡◌, ℕ, zero, suc, ◌<◌, ◌⊎◌, inl, inr, Bool, true, false, List, [], ◌∷◌, length, Some, refl, ap, arith, slice_get, slice_set, replicate}

abbrev pub Marked : List Bool → ℕ → Type 0
Marked marks v = slice_get marks v ≡ Some true

abbrev pub one_unless : Bool → ℕ → ℕ
one_unless true n = n
one_unless false n = suc n

-- how many files have no mark
abbrev pub unmarked : List Bool → ℕ
unmarked [] = 0
unmarked (mark ∷ marks) = one_unless mark (unmarked marks)

one_less : (b : Bool) (m n : ℕ) → suc m ≡ n → suc (one_unless b m) ≡ one_unless b n
one_less true m n h = h
one_less false m n h = ap suc h

pub marking_counts : (marks : List Bool) (u : ℕ) → slice_get marks u ≡ Some false → suc (unmarked (slice_set marks u true)) ≡ unmarked marks
marking_counts [] u h = absurd cc
marking_counts (true ∷ marks) zero h = absurd cc
marking_counts (false ∷ marks) zero h = refl
marking_counts (mark ∷ marks) (suc u) h = one_less mark _ _ (marking_counts marks u h)

pub marking_keeps_length : (marks : List Bool) (u : ℕ) → length (slice_set marks u true) ≡ length marks
marking_keeps_length [] u = refl
marking_keeps_length (mark ∷ marks) zero = refl
marking_keeps_length (mark ∷ marks) (suc u) = ap suc (marking_keeps_length marks u)

pub marked_before : (marks : List Bool) (u v : ℕ) → Marked (slice_set marks u true) v → (u ≡ v) ⊎ Marked marks v
marked_before [] u v h = absurd cc
marked_before (mark ∷ marks) zero zero h = inl refl
marked_before (mark ∷ marks) zero (suc v) h = inr h
marked_before (mark ∷ marks) (suc u) zero h = inr h
marked_before (mark ∷ marks) (suc u) (suc v) h = elim (marked_before marks u v h) [ inl e ↦ inl (ap suc e) | inr m ↦ inr m ]

pub marked_after : (marks : List Bool) (u v : ℕ) → Marked marks v → Marked (slice_set marks u true) v
marked_after [] u v h = absurd cc
marked_after (mark ∷ marks) zero zero h = refl
marked_after (mark ∷ marks) zero (suc v) h = h
marked_after (mark ∷ marks) (suc u) zero h = h
marked_after (mark ∷ marks) (suc u) (suc v) h = marked_after marks u v h

pub marked_there : (marks : List Bool) (u : ℕ) (b : Bool) → slice_get marks u ≡ Some b → Marked (slice_set marks u true) u
marked_there [] u b h = absurd cc
marked_there (mark ∷ marks) zero b h = refl
marked_there (mark ∷ marks) (suc u) b h = marked_there marks u b h

pub some_unmarked : (marks : List Bool) (u : ℕ) → slice_get marks u ≡ Some false → 0 < unmarked marks
some_unmarked marks u h = let e = marking_counts marks u h in omega (arith, e)

pub length_blank : (n : ℕ) → length (replicate n false) ≡ n
length_blank zero = refl
length_blank (suc n) = ap suc (length_blank n)

pub none_marked : (n v : ℕ) → Marked (replicate n false) v → ⊥
none_marked zero v h = cc
none_marked (suc n) zero h = cc
none_marked (suc n) (suc v) h = none_marked n v h

pub all_unmarked : (n : ℕ) → unmarked (replicate n false) ≡ n
all_unmarked zero = refl
all_unmarked (suc n) = ap suc (all_unmarked n)
