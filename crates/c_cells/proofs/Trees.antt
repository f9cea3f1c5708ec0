-- Parts of trees.
use Rattle.std.proofs.Common.{◌≡◌, ℕ, zero, suc, ◌<◌, ◌≤◌, List, [], ◌∷◌, Some, None, refl, sym, ap, ◌∙◌, length, get_or, take, drop, take_all, ◌-◌, arith}
use Rattle.std.specs.Prelude.{slice_get, slice_set}
use Rattle.c_meaning.specs.Cells.{Cell, Tree, Leaf, Fork, child, of_part, part, with_child, with_part}
use Rattle.c_cells.specs.Forks.{forks}

pub child_forks : (children : List Tree) (n : ℕ) → child (forks children) n ≡ slice_get children n
unfolding child
child_forks [] n = refl
child_forks (a ∷ rest) zero = refl
child_forks (a ∷ rest) (suc n) = child_forks rest n

-- a path without its first step, as a pattern gives it
abbrev pub after : List ℕ → List ℕ
after path = take (length path - 1) (drop 1 path)

after_first : (i : ℕ) (path : List ℕ) → after (i ∷ path) ≡ path
after_first i path = take_all (length (i ∷ path) - 1) path (omega arith)

pub part_first : (path : List ℕ) (a b : Tree) → 1 ≤ length path → child a (get_or path 0 0) ≡ Some b → part (after path) b ≡ part path a
unfolding part of_part
part_first [] a b l h = absurd (omega arith)
part_first (i ∷ path) a b l h = ap (λ p. part p b) (after_first i path) ∙ sym (ap (λ o. of_part o (part path)) h)

pub part_none : (path : List ℕ) (a : Tree) → 1 ≤ length path → child a (get_or path 0 0) ≡ None → part path a ≡ None
unfolding part of_part
part_none [] a l h = absurd (omega arith)
part_none (i ∷ path) a l h = ap (λ o. of_part o (part path)) h

pub part_all : (path : List ℕ) (a : Tree) → length path < 1 → part path a ≡ Some a
unfolding part
part_all [] a h = refl
part_all (i ∷ path) a h = absurd (omega arith)

pub with_all : (path : List ℕ) (new a : Tree) → length path < 1 → with_part path new a ≡ new
unfolding with_part
with_all [] new a h = refl
with_all (i ∷ path) new a h = absurd (omega arith)

pub with_leaf : (path : List ℕ) (new : Tree) (c : Cell) → 1 ≤ length path → with_part path new (Leaf c) ≡ Leaf c
unfolding with_part with_child
with_leaf [] new c l = absurd (omega arith)
with_leaf (i ∷ path) new c l = refl

with_child_past : (children : List Tree) (n : ℕ) (f : Tree → Tree) → length children ≤ n → with_child (forks children) n f ≡ forks children
unfolding with_child
with_child_past [] n f h = refl
with_child_past (a ∷ rest) zero f h = absurd (omega arith)
with_child_past (a ∷ rest) (suc n) f h = ap (Fork a) (with_child_past rest n f (omega arith))

with_child_within : (children : List Tree) (n : ℕ) (f : Tree → Tree) (a : Tree) → slice_get children n ≡ Some a → with_child (forks children) n f ≡ forks (slice_set children n (f a))
unfolding with_child
with_child_within [] n f a h = cc
with_child_within (b ∷ rest) zero f a h = let e : b ≡ a = cc in ap (λ x. Fork (f x) (forks rest)) e
with_child_within (b ∷ rest) (suc n) f a h = ap (Fork b) (with_child_within rest n f a h)

pub with_past : (path : List ℕ) (new : Tree) (children : List Tree) → 1 ≤ length path → length children ≤ get_or path 0 0 → with_part path new (forks children) ≡ forks children
unfolding with_part
with_past [] new children l h = absurd (omega arith)
with_past (i ∷ path) new children l h = with_child_past children i (with_part path new) h

set_twice : (list : List Tree) (i : ℕ) (a b : Tree) → slice_set (slice_set list i a) i b ≡ slice_set list i b
set_twice [] i a b = refl
set_twice (x ∷ rest) zero a b = refl
set_twice (x ∷ rest) (suc i) a b = ap (λ l. x ∷ l) (set_twice rest i a b)

-- a child that was taken out and put back changed
pub with_within : (path : List ℕ) (new : Tree) (children : List Tree) (a hole : Tree) → 1 ≤ length path → slice_get children (get_or path 0 0) ≡ Some a
    → forks (slice_set (slice_set children (get_or path 0 0) hole) (get_or path 0 0) (with_part (after path) new a)) ≡ with_part path new (forks children)
unfolding with_part
with_within [] new children a hole l h = absurd (omega arith)
with_within (i ∷ path) new children a hole l h =
    ap forks (set_twice children i hole (with_part (after (i ∷ path)) new a) ∙ ap (λ p. slice_set children i (with_part p new a)) (after_first i path)) ∙ sym (with_child_within children i (with_part path new) a h)
