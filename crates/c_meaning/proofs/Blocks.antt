-- Blocks after one of them is changed, and after some are added.
use Rattle.std.proofs.Common.{◌≡◌, ◌≢◌, ℕ, zero, suc, ◌<◌, ◌≤◌, List, [], ◌∷◌, ◌++◌, length, Option, Some, None, refl, sym, ap, ◌∙◌, arith, ◌⊎◌, inl, inr}
use Rattle.std.specs.Prelude.{slice_get, slice_set}
use Rattle.c_meaning.specs.Cells.{Block, Blocks, joined_option, block_at}
use Rattle.c_meaning.specs.Changes.{IsNoneOf, Changes}

-- ---- lists

pub same_or_not : (i n : ℕ) → (i ≡ n) ⊎ (i ≢ n)
same_or_not zero zero = inl refl
same_or_not zero (suc n) = inr (λ e. absurd (omega (arith, e)))
same_or_not (suc i) zero = inr (λ e. absurd (omega (arith, e)))
same_or_not (suc i) (suc n) = elim (same_or_not i n) [ inl e ↦ inl (ap (λ k. suc k) e) | inr d ↦ inr (λ e. d (omega (arith, e))) ]

pub get_other : {A : Type 0} (xs : List A) (n i : ℕ) (a : A) → i ≢ n → slice_get (slice_set xs n a) i ≡ slice_get xs i
get_other [] n i a d = refl
get_other (x ∷ xs) zero zero a d = absurd (d refl)
get_other (x ∷ xs) zero (suc i) a d = refl
get_other (x ∷ xs) (suc n) zero a d = refl
get_other (x ∷ xs) (suc n) (suc i) a d = get_other xs n i a (λ e. d (ap (λ k. suc k) e))

pub length_set : {A : Type 0} (xs : List A) (n : ℕ) (a : A) → length (slice_set xs n a) ≡ length xs
length_set [] n a = refl
length_set (x ∷ xs) zero a = refl
length_set (x ∷ xs) (suc n) a = ap (λ k. suc k) (length_set xs n a)

pub length_append : {A : Type 0} (xs ys : List A) → length xs ≤ length (xs ++ ys)
length_append [] ys = omega arith
length_append (x ∷ xs) ys = omega (arith, length_append xs ys)

pub get_front : {A : Type 0} (xs ys : List A) (n : ℕ) → n < length xs → slice_get (xs ++ ys) n ≡ slice_get xs n
get_front [] ys n l = absurd (omega (arith, l))
get_front (x ∷ xs) ys zero l = refl
get_front (x ∷ xs) ys (suc n) l = get_front xs ys n (omega (arith, l))

-- ---- blocks

-- a block that is there has a number that was given
pub within : (bs : Blocks) (n : ℕ) (b : Block) → block_at bs n ≡ Some b → n < length bs
unfolding block_at joined_option
within [] n b h = cc
within (o ∷ bs) zero b h = omega arith
within (o ∷ bs) (suc n) b h = omega (arith, within bs n b h)

pub block_other : (bs : Blocks) (n i : ℕ) (o : Option Block) → i ≢ n → block_at (slice_set bs n o) i ≡ block_at bs i
unfolding block_at
block_other bs n i o d = ap joined_option (get_other bs n i o d)

pub block_set : (bs : Blocks) (n : ℕ) (b : Block) (o : Option Block) → block_at bs n ≡ Some b → block_at (slice_set bs n o) n ≡ o
unfolding block_at joined_option
block_set [] n b o h = cc
block_set (x ∷ bs) zero b o h = refl
block_set (x ∷ bs) (suc n) b o h = block_set bs n b o h

pub block_dropped : (bs : Blocks) (n : ℕ) → block_at (slice_set bs n None) n ≡ None
unfolding block_at joined_option
block_dropped [] n = refl
block_dropped (x ∷ bs) zero = refl
block_dropped (x ∷ bs) (suc n) = block_dropped bs n

pub block_front : (bs new : Blocks) (n : ℕ) → n < length bs → block_at (bs ++ new) n ≡ block_at bs n
unfolding block_at
block_front bs new n l = ap joined_option (get_front bs new n l)

some_same : {A : Type 0} (x y : A) → Some x ≡ Some y → x ≡ y
some_same x y e = cc

-- two blocks that are one
pub one_block : (o : Option Block) (b b' : Block) → o ≡ Some b → o ≡ Some b' → b' ≡ b
one_block o b b' e e' = some_same b' b (sym e' ∙ e)

-- ---- changes

pub unchanged : (ns : List ℕ) (bs : Blocks) → Changes ns bs bs
unchanged ns bs = record {
  grows = omega arith;
  others = λ n l m. refl;
  gone = λ n l e. e;
  type_kept = λ n b b' e e'. ap (λ b. b.of) (one_block (block_at bs n) b b' e e');
  heap_kept = λ n b b' e e'. ap (λ b. b.heap) (one_block (block_at bs n) b b' e e');
}

-- one block is changed
pub one_changed : (bs : Blocks) (n : ℕ) (b new : Block) → block_at bs n ≡ Some b → new.of ≡ b.of → new.heap ≡ b.heap → Changes (n ∷ []) bs (slice_set bs n (Some new))
one_changed bs n b new h of heap = record {
  grows = omega (arith, length_set bs n (Some new));
  others = λ i l d. get_other bs n i (Some new) d.0;
  gone = λ i l e. elim (same_or_not i n) [ inl s ↦ let no : None ≡ Some b = sym e ∙ ap (block_at bs) s ∙ h in cc | inr d ↦ block_other bs n i (Some new) d ∙ e ];
  type_kept = λ i b1 b2 e e'. kept (λ b. b.of) of i b1 b2 e e';
  heap_kept = λ i b1 b2 e e'. kept (λ b. b.heap) heap i b1 b2 e e';
} where
  kept : {A : Type 0} (f : Block → A) → f new ≡ f b → (i : ℕ) (b1 b2 : Block) → block_at bs i ≡ Some b1 → block_at (slice_set bs n (Some new)) i ≡ Some b2 → f b2 ≡ f b1
  kept f q i b1 b2 e e' = elim (same_or_not i n) [
    | inl s ↦
        let one : b1 ≡ b = one_block (block_at bs n) b b1 h (ap (block_at bs) (sym s) ∙ e) in
        let two : b2 ≡ new = one_block (block_at (slice_set bs n (Some new)) n) new b2 (block_set bs n b (Some new) h) (ap (block_at (slice_set bs n (Some new))) (sym s) ∙ e') in
        ap f two ∙ q ∙ ap f (sym one)
    | inr d ↦ ap f (one_block (block_at bs i) b1 b2 e (sym (block_other bs n i (Some new) d) ∙ e'))
  ]

-- one block is gone
pub one_dropped : (bs : Blocks) (n : ℕ) → Changes (n ∷ []) bs (slice_set bs n None)
one_dropped bs n = record {
  grows = omega (arith, length_set bs n None);
  others = λ i l d. get_other bs n i None d.0;
  gone = λ i l e. elim (same_or_not i n) [ inl s ↦ ap (block_at (slice_set bs n None)) s ∙ block_dropped bs n | inr d ↦ block_other bs n i None d ∙ e ];
  type_kept = λ i b1 b2 e e'. kept (λ b. b.of) i b1 b2 e e';
  heap_kept = λ i b1 b2 e e'. kept (λ b. b.heap) i b1 b2 e e';
} where
  kept : {A : Type 0} (f : Block → A) → (i : ℕ) (b1 b2 : Block) → block_at bs i ≡ Some b1 → block_at (slice_set bs n None) i ≡ Some b2 → f b2 ≡ f b1
  kept f i b1 b2 e e' = elim (same_or_not i n) [
    | inl s ↦ let no : None ≡ Some b2 = sym (block_dropped bs n) ∙ ap (block_at (slice_set bs n None)) (sym s) ∙ e' in cc
    | inr d ↦ ap f (one_block (block_at bs i) b1 b2 e (sym (block_other bs n i None d) ∙ e'))
  ]

-- blocks are added
pub added : (bs new : Blocks) → Changes [] bs (bs ++ new)
added bs new = record {
  grows = length_append bs new;
  others = λ i l d. get_front bs new i l;
  gone = λ i l e. block_front bs new i l ∙ e;
  type_kept = λ i b b' e e'. ap (λ b. b.of) (same i b b' e e');
  heap_kept = λ i b b' e e'. ap (λ b. b.heap) (same i b b' e e');
} where
  same : (i : ℕ) (b b' : Block) → block_at bs i ≡ Some b → block_at (bs ++ new) i ≡ Some b' → b' ≡ b
  same i b b' e e' = one_block (block_at bs i) b b' e (sym (block_front bs new i (within bs i b e)) ∙ e')

-- one change after another
pub then_changes : (ns : List ℕ) (x y z : Blocks) → Changes ns x y → Changes ns y z → Changes ns x z
then_changes ns x y z h k = record {
  grows = omega (arith, h.grows, k.grows);
  others = λ i l d. k.others i (omega (arith, l, h.grows)) d ∙ h.others i l d;
  gone = λ i l e. k.gone i (omega (arith, l, h.grows)) (h.gone i l e);
  type_kept = λ i b b' e e'. kept (λ b. b.of) h.type_kept k.type_kept i b b' e e';
  heap_kept = λ i b b' e e'. kept (λ b. b.heap) h.heap_kept k.heap_kept i b b' e e';
} where
  kept : {A : Type 0} (f : Block → A)
      → ((n : ℕ) (b b' : Block) → block_at x n ≡ Some b → block_at y n ≡ Some b' → f b' ≡ f b)
      → ((n : ℕ) (b b' : Block) → block_at y n ≡ Some b → block_at z n ≡ Some b' → f b' ≡ f b)
      → (i : ℕ) (b b' : Block) → block_at x i ≡ Some b → block_at z i ≡ Some b' → f b' ≡ f b
  kept f p q i b b' e e' = by (block_at y i) refl where
    by : (o : Option Block) → block_at y i ≡ o → f b' ≡ f b
    by None s = let l : i < length x = within x i b e in let no : None ≡ Some b' = sym (k.gone i (omega (arith, l, h.grows)) s) ∙ e' in cc
    by (Some m) s = q i m b' s e' ∙ p i b m e s

-- more blocks may change
pub also : (ns ms : List ℕ) (x y : Blocks) → ((n : ℕ) → IsNoneOf n ms → IsNoneOf n ns) → Changes ns x y → Changes ms x y
also ns ms x y f h = record { grows = h.grows; others = λ i l d. h.others i l (f i d); gone = h.gone; type_kept = h.type_kept; heap_kept = h.heap_kept }

pub none_left : (n : ℕ) (xs ys : List ℕ) → IsNoneOf n (xs ++ ys) → IsNoneOf n xs
none_left n [] ys h = tt
none_left n (x ∷ xs) ys h = (h.0, none_left n xs ys h.1)

pub none_right : (n : ℕ) (xs ys : List ℕ) → IsNoneOf n (xs ++ ys) → IsNoneOf n ys
none_right n [] ys h = h
none_right n (x ∷ xs) ys h = none_right n xs ys h.1
