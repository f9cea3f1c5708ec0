-- Blocks that are kept under their numbers, as the blocks that were made.
use Rattle.std.proofs.Common.{◌≡◌, ℕ, zero, suc, ◌+◌, ◌-◌, ◌<◌, ◌≤◌, List, [], ◌∷◌, ◌++◌, length, take, drop, get_or, Option, Some, None, is_none, is_some, cond, true, Result, Ok, Err, IfOk, IfErr, IfSome, refl, sym, ap, subst, ◌∙◌, arith}
use Rattle.std.specs.Prelude.{ℤ, slice_get, slice_set, replicate}
use Rattle.std.specs.List.Sorted.{IsSearchInRange, IsBinarySearchResult, IsNonDecreasingBy}
use Rattle.std.specs.Ordering.{nat_cmp, ordering_index}
use Rattle.std.proofs.lemmas.Cmp.{ranked}
use Rattle.std.proofs.lemmas.Bool.Decides.{nat_tests}
use Rattle.c_meaning.specs.declared.StuckKind.{StuckKind}
use Rattle.c_meaning.specs.declared.StuckKind.TheVariants as k
use Rattle.c_meaning.specs.Cells.{Tree, Leaf, Int, Block, Blocks, joined_option, block_at}
use Rattle.c_meaning.specs.Answer.{Got, Bad}
use Rattle.c_meaning.specs.States.{changed, store}
use Rattle.c_cells.specs.declared.kept.Kept.{Kept}
use Rattle.c_cells.specs.Slots.{int_block, HoldsInt, changed_block}
use Rattle.c_cells.specs.Kept.{spread, Rises, IsKept, IsIntKept, IsAbsent, AllGone, those_there}
use Rattle.c_cells.proofs.Blocks.{block_some, none_stays, store_there, store_none, set_int}

-- ---- lists one after the other

get_second : (xs ys : Blocks) (n at : ℕ) → n ≡ length xs + at → slice_get (xs ++ ys) n ≡ slice_get ys at
get_second [] ys n at h = ap (slice_get ys) (omega (arith, h))
get_second (x ∷ xs) ys zero at h = absurd (omega (arith, h))
get_second (x ∷ xs) ys (suc n) at h = get_second xs ys n at (omega (arith, h))

set_second : (xs ys : Blocks) (n at : ℕ) (o : Option Block) → n ≡ length xs + at → slice_set (xs ++ ys) n o ≡ xs ++ slice_set ys at o
set_second [] ys n at o h = ap (λ k. slice_set ys k o) (omega (arith, h))
set_second (x ∷ xs) ys zero at o h = absurd (omega (arith, h))
set_second (x ∷ xs) ys (suc n) at o h = ap (λ l. x ∷ l) (set_second xs ys n at o (omega (arith, h)))

behind : (xs ys zs : Blocks) → (xs ++ ys) ++ zs ≡ xs ++ (ys ++ zs)
behind [] ys zs = refl
behind (x ∷ xs) ys zs = ap (λ l. x ∷ l) (behind xs ys zs)

length_both : (xs ys : Blocks) → length (xs ++ ys) ≡ length xs + length ys
length_both [] ys = omega arith
length_both (x ∷ xs) ys = omega (arith, length_both xs ys)

-- ---- blocks that are gone

gone_length : (k : ℕ) → length {A = Option Block} (replicate k None) ≡ k
gone_length zero = refl
gone_length (suc k) = omega (arith, gone_length k)

gone_get : (k : ℕ) (rest : Blocks) (n : ℕ) → n < k → slice_get (replicate k None ++ rest) n ≡ Some None
gone_get zero rest n h = absurd (omega (arith, h))
gone_get (suc k) rest zero h = refl
gone_get (suc k) rest (suc n) h = gone_get k rest n (omega (arith, h))

gone_block : (k n : ℕ) → block_at (replicate k None) n ≡ None
unfolding block_at joined_option
gone_block zero n = refl
gone_block (suc k) zero = refl
gone_block (suc k) (suc n) = gone_block k n

gone_both : (k m n : ℕ) → n ≡ k + (m + 1) → replicate k None ++ (None ∷ replicate m None) ≡ replicate {A = Option Block} n None
gone_both zero m zero h = absurd (omega (arith, h))
gone_both zero m (suc n) h = ap (λ j. None ∷ replicate j None) (omega (arith, h))
gone_both (suc k) m zero h = absurd (omega (arith, h))
gone_both (suc k) m (suc n) h = ap (λ l. None ∷ l) (gone_both k m n (omega (arith, h)))

-- ---- numbers that rise

rises_within : (ks : List Kept) (from made : ℕ) → Rises from ks made → from ≤ made
rises_within [] from made r = r
rises_within (one ∷ rest) from made r = omega (arith, r.0, rises_within rest (one.number + 1) made r.1)

above : (ks : List Kept) (from made i : ℕ) (one : Kept) → Rises from ks made → slice_get ks i ≡ Some one → from ≤ one.number
above [] from made i one r h = absurd cc
above (first ∷ rest) from made zero one r h = let same : first ≡ one = cc in omega (arith, r.0, ap (λ o. o.number) same)
above (first ∷ rest) from made (suc i) one r h = omega (arith, r.0, above rest (first.number + 1) made i one r.1 h)

above_or : (ks : List Kept) (from made i : ℕ) (d : Kept) → Rises from ks made → i < length ks → from ≤ (get_or ks i d).number
above_or [] from made i d r h = absurd (omega (arith, h))
above_or (first ∷ rest) from made zero d r h = r.0
above_or (first ∷ rest) from made (suc i) d r h = omega (arith, r.0, above_or rest (first.number + 1) made i d r.1 (omega (arith, h)))

numbers_rise : (ks : List Kept) (from made i j : ℕ) (d : Kept) → Rises from ks made → i ≤ j → j < length ks → (get_or ks i d).number ≤ (get_or ks j d).number
numbers_rise [] from made i j d r l h = absurd (omega (arith, h))
numbers_rise (first ∷ rest) from made zero zero d r l h = omega arith
numbers_rise (first ∷ rest) from made zero (suc j) d r l h = omega (arith, above_or rest (first.number + 1) made j d r.1 (omega (arith, h)))
numbers_rise (first ∷ rest) from made (suc i) zero d r l h = absurd (omega (arith, l))
numbers_rise (first ∷ rest) from made (suc i) (suc j) d r l h = numbers_rise rest (first.number + 1) made i j d r.1 (omega (arith, l)) (omega (arith, h))

as_many_from : (ks : List Kept) (from made : ℕ) → Rises from ks made → from + length ks ≤ made
as_many_from [] from made r = omega (arith, r)
as_many_from (first ∷ rest) from made r = omega (arith, r.0, as_many_from rest (first.number + 1) made r.1)

rises_set_from : (ks : List Kept) (from made n i : ℕ) (slot o : Option Block) → Rises from ks made → slice_get ks i ≡ Some (record { number = n; slot = slot }) → Rises from (slice_set ks i (record { number = n; slot = o })) made
rises_set_from [] from made n i slot o r h = r
rises_set_from (first ∷ rest) from made n zero slot o r h =
    let same : first ≡ record { number = n; slot = slot } = cc in
    subst (λ (m : ℕ). (from ≤ m) × Rises (m + 1) rest made) (ap (λ k. k.number) same) r
rises_set_from (first ∷ rest) from made n (suc i) slot o r h = (r.0, rises_set_from rest (first.number + 1) made n i slot o r.1 h)

rises_pushed_from : (ks : List Kept) (from made m : ℕ) (slot : Option Block) → m ≡ made + 1 → Rises from ks made → Rises from (ks ++ record { number = made; slot = slot } ∷ []) m
rises_pushed_from [] from made m slot e r = (r, omega (arith, e))
rises_pushed_from (first ∷ rest) from made m slot e r = (r.0, rises_pushed_from rest (first.number + 1) made m slot e r.1)

rises_cut_from : (ks : List Kept) (from made n : ℕ) → Rises from ks made → Rises from (take n ks) made
rises_cut_from ks from made zero r = rises_within ks from made r
rises_cut_from [] from made (suc n) r = r
rises_cut_from (first ∷ rest) from made (suc n) r = (r.0, rises_cut_from rest (first.number + 1) made n r.1)

kept_again : (ks : List Kept) (i : ℕ) (old new : Kept) → slice_get ks i ≡ Some old → slice_get (slice_set ks i new) i ≡ Some new
kept_again [] i old new h = absurd cc
kept_again (first ∷ rest) zero old new h = refl
kept_again (first ∷ rest) (suc i) old new h = kept_again rest i old new h

-- ---- the blocks from a number on

made_from : (ks : List Kept) (from made : ℕ) → Rises from ks made → from + length (spread from ks made) ≡ made
unfolding spread
made_from [] from made r = omega (arith, r, gone_length (made - from))
made_from (first ∷ rest) from made r =
    omega (arith, r.0, made_from rest (first.number + 1) made r.1, gone_length (first.number - from), length_both (replicate (first.number - from) None) (first.slot ∷ spread (first.number + 1) rest made))

at_from : (ks : List Kept) (from made n d i : ℕ) (slot : Option Block) → n ≡ from + d → Rises from ks made → slice_get ks i ≡ Some (record { number = n; slot = slot }) → slice_get (spread from ks made) d ≡ Some slot
unfolding spread
at_from [] from made n d i slot e r h = absurd cc
at_from (first ∷ rest) from made n d zero slot e r h =
    let same : first ≡ record { number = n; slot = slot } = cc in
    get_second (replicate (first.number - from) None) (first.slot ∷ spread (first.number + 1) rest made) d 0 (omega (arith, e, r.0, gone_length (first.number - from), ap (λ k. k.number) same))
    ∙ ap (λ k. Some k.slot) same
at_from (first ∷ rest) from made n d (suc i) slot e r h =
    let later = above rest (first.number + 1) made i (record { number = n; slot = slot }) r.1 h in
    get_second (replicate (first.number - from) None) (first.slot ∷ spread (first.number + 1) rest made) d (suc (n - (first.number + 1))) (omega (arith, e, r.0, later, gone_length (first.number - from)))
    ∙ at_from rest (first.number + 1) made n (n - (first.number + 1)) i slot (omega (arith, later)) r.1 h

set_from : (ks : List Kept) (from made n d i : ℕ) (slot o : Option Block) → n ≡ from + d → Rises from ks made → slice_get ks i ≡ Some (record { number = n; slot = slot }) → slice_set (spread from ks made) d o ≡ spread from (slice_set ks i (record { number = n; slot = o })) made
unfolding spread
set_from [] from made n d i slot o e r h = absurd cc
set_from (first ∷ rest) from made n d zero slot o e r h =
    let same : first ≡ record { number = n; slot = slot } = cc in
    set_second (replicate (first.number - from) None) (first.slot ∷ spread (first.number + 1) rest made) d 0 o (omega (arith, e, r.0, gone_length (first.number - from), ap (λ k. k.number) same))
    ∙ ap (λ k. replicate (k.number - from) None ++ (o ∷ spread (k.number + 1) rest made)) same
set_from (first ∷ rest) from made n d (suc i) slot o e r h =
    let later = above rest (first.number + 1) made i (record { number = n; slot = slot }) r.1 h in
    set_second (replicate (first.number - from) None) (first.slot ∷ spread (first.number + 1) rest made) d (suc (n - (first.number + 1))) o (omega (arith, e, r.0, later, gone_length (first.number - from)))
    ∙ ap (λ l. replicate (first.number - from) None ++ (first.slot ∷ l)) (set_from rest (first.number + 1) made n (n - (first.number + 1)) i slot o (omega (arith, later)) r.1 h)

absent_from : (ks : List Kept) (from made n d at : ℕ) → n ≡ from + d → Rises from ks made → IsAbsent ks n at → block_at (spread from ks made) d ≡ None
unfolding spread block_at
absent_from [] from made n d at e r a = gone_block (made - from) d
absent_from (first ∷ rest) from made n d zero e r a =
    let higher = a.higher 0 first (omega arith) (omega arith) in
    block_some (spread from (first ∷ rest) made) d None (gone_get (first.number - from) (first.slot ∷ spread (first.number + 1) rest made) d (omega (arith, e, r.0, higher)))
absent_from (first ∷ rest) from made n d (suc at) e r a =
    let lower = a.lower 0 first (omega arith) in
    let others : IsAbsent rest n at = record { lower = λ k o h. a.lower (suc k) o (omega (arith, h)); higher = λ k o l h. a.higher (suc k) o (omega (arith, l)) (omega (arith, h)) } in
    ap joined_option (get_second (replicate (first.number - from) None) (first.slot ∷ spread (first.number + 1) rest made) d (suc (n - (first.number + 1))) (omega (arith, e, r.0, lower, gone_length (first.number - from))))
    ∙ absent_from rest (first.number + 1) made n (n - (first.number + 1)) at (omega (arith, lower)) r.1 others

pushed_from : (ks : List Kept) (from made m : ℕ) (slot : Option Block) → m ≡ made + 1 → Rises from ks made → spread from (ks ++ record { number = made; slot = slot } ∷ []) m ≡ spread from ks made ++ slot ∷ []
unfolding spread
pushed_from [] from made m slot e r = let none : m - (made + 1) ≡ 0 = omega (arith, e) in ap (λ j. replicate (made - from) None ++ (slot ∷ replicate j None)) none
pushed_from (first ∷ rest) from made m slot e r =
    ap (λ l. replicate (first.number - from) None ++ (first.slot ∷ l)) (pushed_from rest (first.number + 1) made m slot e r.1)
    ∙ sym (behind (replicate (first.number - from) None) (first.slot ∷ spread (first.number + 1) rest made) (slot ∷ []))

all_gone : (ks : List Kept) (from made : ℕ) → AllGone ks → Rises from ks made → replicate (made - from) None ≡ spread from ks made
unfolding spread
all_gone [] from made a r = refl
all_gone (first ∷ rest) from made a r =
    sym (gone_both (first.number - from) (made - (first.number + 1)) (made - from) (omega (arith, r.0, rises_within rest (first.number + 1) made r.1)))
    ∙ (λ i. replicate (first.number - from) None ++ (sym a.0 i ∷ all_gone rest (first.number + 1) made a.1 r.1 i))

without_gone_from : (ks : List Kept) (from made n : ℕ) → AllGone (drop n ks) → Rises from ks made → spread from (take n ks) made ≡ spread from ks made
unfolding spread
without_gone_from ks from made zero a r = all_gone ks from made a r
without_gone_from [] from made (suc n) a r = refl
without_gone_from (first ∷ rest) from made (suc n) a r = ap (λ l. replicate (first.number - from) None ++ (first.slot ∷ l)) (without_gone_from rest (first.number + 1) made n a r.1)

-- those before number n that are gone, and the block n too, which is
gone_up_to : (ks : List Kept) (from made n : ℕ) → from ≤ n → Rises (n + 1) ks made → spread from ks made ≡ replicate (n - from) None ++ (None ∷ spread (n + 1) ks made)
unfolding spread
gone_up_to [] from made n l r = sym (gone_both (n - from) (made - (n + 1)) (made - from) (omega (arith, l, r)))
gone_up_to (first ∷ rest) from made n l r =
    let after = first.slot ∷ spread (first.number + 1) rest made in
    ap (λ k. k ++ after) (sym (gone_both (n - from) (first.number - (n + 1)) (first.number - from) (omega (arith, l, r.0))))
    ∙ behind (replicate (n - from) None) (None ∷ replicate (first.number - (n + 1)) None) after

rises_later : (ks : List Kept) (from later made : ℕ) → from ≤ later → Rises later ks made → Rises from ks made
rises_later [] from later made l r = omega (arith, l, r)
rises_later (first ∷ rest) from later made l r = (omega (arith, l, r.0), r.1)

rises_one : (one : Kept) (rest : List Kept) (slot : Option Block) (from made : ℕ) → from ≤ one.number → Rises (one.number + 1) rest made → Rises from (cond (is_some slot) (one ∷ rest) rest) made
rises_one one rest None from made l r = rises_later rest from (one.number + 1) made (omega (arith, l)) r
rises_one one rest (Some b) from made l r = (l, r)

rises_compacted_from : (ks : List Kept) (from made : ℕ) → Rises from ks made → Rises from (those_there ks) made
rises_compacted_from [] from made r = r
rises_compacted_from (first ∷ rest) from made r = rises_one first (those_there rest) first.slot from made r.0 (rises_compacted_from rest (first.number + 1) made r.1)

compacted_one : (one : Kept) (rest : List Kept) (slot : Option Block) (from made : ℕ) → slot ≡ one.slot → from ≤ one.number → Rises (one.number + 1) rest made → spread from (cond (is_some slot) (one ∷ rest) rest) made ≡ replicate (one.number - from) None ++ (one.slot ∷ spread (one.number + 1) rest made)
unfolding spread
compacted_one one rest None from made e l r = gone_up_to rest from made one.number l r ∙ ap (λ o. replicate (one.number - from) None ++ (o ∷ spread (one.number + 1) rest made)) e
compacted_one one rest (Some b) from made e l r = refl

compacted_from : (ks : List Kept) (from made : ℕ) → Rises from ks made → spread from (those_there ks) made ≡ spread from ks made
unfolding spread
compacted_from [] from made r = refl
compacted_from (first ∷ rest) from made r =
    compacted_one first (those_there rest) first.slot from made refl r.0 (rises_compacted_from rest (first.number + 1) made r.1)
    ∙ ap (λ l. replicate (first.number - from) None ++ (first.slot ∷ l)) (compacted_from rest (first.number + 1) made r.1)

pub none_after : (ks : List Kept) → AllGone (drop (length ks) ks)
none_after [] = tt
none_after (first ∷ rest) = none_after rest

none : (o : Option Block) → true ≡ is_none o → o ≡ None
none None h = refl
none (Some b) h = absurd cc

pub gone_before : (ks : List Kept) (n m : ℕ) (one : Kept) → n ≡ m + 1 → slice_get ks m ≡ Some one → true ≡ is_none one.slot → AllGone (drop n ks) → AllGone (drop m ks)
gone_before [] n m one e h g a = absurd cc
gone_before (first ∷ rest) zero m one e h g a = absurd (omega (arith, e))
gone_before (first ∷ rest) (suc zero) zero one e h g a = (let same : first ≡ one = cc in ap (λ k. k.slot) same ∙ none one.slot g, a)
gone_before (first ∷ rest) (suc (suc n)) zero one e h g a = absurd (omega (arith, e))
gone_before (first ∷ rest) (suc n) (suc m) one e h g a = gone_before rest n m one (omega (arith, e)) h g a

-- ---- all blocks

module _ (ks : List Kept) (made : ℕ) (r : Rises 0 ks made) where
  pub length_made : made ≡ length (spread 0 ks made)
  length_made = omega (arith, made_from ks 0 made r)

  pub as_many_numbers : length ks ≤ made
  as_many_numbers = omega (arith, as_many_from ks 0 made r)

  at : (n i : ℕ) (one : Kept) → IsKept ks n i → slice_get ks i ≡ Some one → slice_get (spread 0 ks made) n ≡ Some one.slot
  at n i one h g = let same : one ≡ record { number = n; slot = h.0 } = cc in at_from ks 0 made n n i h.0 (omega arith) r h.1 ∙ ap (λ k. Some k.slot) (sym same)

  pub slot_kept : (n i : ℕ) (slot : Option Block) → IsKept ks n i → ((m : ℕ) × (slice_get ks i ≡ Some (record { number = m; slot = slot }))) → slice_get (spread 0 ks made) n ≡ Some slot
  slot_kept n i slot h g = at n i (record { number = g.0; slot = slot }) h g.1

  pub number_kept : (n i : ℕ) (slot : Option Block) (number : Option ℤ) → ((m : ℕ) × (slice_get ks i ≡ Some (record { number = m; slot = slot }))) → IsKept ks n i → IfSome number (λ z. slot ≡ Some (int_block (Int z))) → IfSome number (λ z. block_at (spread 0 ks made) n ≡ Some (int_block (Int z)))
  number_kept n i slot None g h f = tt
  number_kept n i slot (Some z) g h f = block_some (spread 0 ks made) n slot (slot_kept n i slot h g) ∙ f

  pub slot_here : (n i : ℕ) (slot : Option Block) → slice_get ks i ≡ Some (record { number = n; slot = slot }) → slice_get (spread 0 ks made) n ≡ Some slot
  slot_here n i slot h = at_from ks 0 made n n i slot (omega arith) r h

  pub absent : (n i : ℕ) → IsAbsent ks n i → block_at (spread 0 ks made) n ≡ None
  absent n i a = absent_from ks 0 made n n i (omega arith) r a

  pub gone_stays : (n i : ℕ) → IsAbsent ks n i → slice_set (spread 0 ks made) n None ≡ spread 0 ks made
  gone_stays n i a = none_stays (spread 0 ks made) n (absent n i a)

  pub set : (n i : ℕ) (o : Option Block) → IsKept ks n i → slice_set (spread 0 ks made) n o ≡ spread 0 (slice_set ks i (record { number = n; slot = o })) made
  set n i o h = set_from ks 0 made n n i h.0 o (omega arith) r h.1

  pub rises_set : (n i : ℕ) (o : Option Block) → IsKept ks n i → Rises 0 (slice_set ks i (record { number = n; slot = o })) made
  rises_set n i o h = rises_set_from ks 0 made n i h.0 o r h.1

  pub pushed : (m : ℕ) (slot : Option Block) → m ≡ made + 1 → spread 0 (ks ++ record { number = made; slot = slot } ∷ []) m ≡ spread 0 ks made ++ slot ∷ []
  pushed m slot e = pushed_from ks 0 made m slot e r

  pub rises_pushed : (m : ℕ) (slot : Option Block) → m ≡ made + 1 → Rises 0 (ks ++ record { number = made; slot = slot } ∷ []) m
  rises_pushed m slot e = rises_pushed_from ks 0 made m slot e r

  pub without_gone : (n : ℕ) → AllGone (drop n ks) → spread 0 (take n ks) made ≡ spread 0 ks made
  without_gone n a = without_gone_from ks 0 made n a r

  pub rises_cut : (n : ℕ) → Rises 0 (take n ks) made
  rises_cut n = rises_cut_from ks 0 made n r

  pub compacted : spread 0 (those_there ks) made ≡ spread 0 ks made
  compacted = compacted_from ks 0 made r

  pub rises_compacted : Rises 0 (those_there ks) made
  rises_compacted = rises_compacted_from ks 0 made r

  pub holds_int : (n i : ℕ) → IsKept ks n i → IsIntKept ks i → HoldsInt (spread 0 ks made) n
  holds_int n i h g = (g.1.1.0, at n i g.0 h g.1.0 ∙ ap Some g.1.1.1)

  pub stored_int : (n i : ℕ) (z : ℤ) → IsKept ks n i → IsIntKept ks i → store (spread 0 ks made) n [] (Leaf (Int z)) ≡ Got (spread 0 (slice_set ks i (record { number = n; slot = Some (int_block (Int z)) })) made)
  stored_int n i z h g = set_int (spread 0 ks made) n z (holds_int n i h g) ∙ ap Got (set n i (Some (int_block (Int z))) h)

  pub gone_use : (n i : ℕ) (path : List ℕ) (tree : Tree) → IsAbsent ks n i → store (spread 0 ks made) n path tree ≡ Bad k.GoneUse
  unfolding store changed
  gone_use n i path tree a = ap (changed (spread 0 ks made) n path tree) (absent n i a)

  pub refused : (n i : ℕ) (path : List ℕ) (tree : Tree) (old : Kept) (kind : StuckKind) → IsKept ks n i → slice_get ks i ≡ Some old → Bad kind ≡ changed_block path tree old.slot → store (spread 0 ks made) n path tree ≡ Bad kind
  refused n i path tree old kind h g c = store_none (spread 0 ks made) n path tree old.slot kind (at n i old h g) c

-- a block that was taken out and put back changed
module _ (ks : List Kept) (made : ℕ) (r : Rises 0 ks made) (n i : ℕ) (h : IsKept ks n i) where
  taken_kept : IsKept (slice_set ks i (record { number = n; slot = None })) n i
  taken_kept = (None, kept_again ks i (record { number = n; slot = h.0 }) (record { number = n; slot = None }) h.1)

  pub rises_set_twice : (new : Option Block) → Rises 0 (slice_set (slice_set ks i (record { number = n; slot = None })) i (record { number = n; slot = new })) made
  rises_set_twice new = rises_set (slice_set ks i (record { number = n; slot = None })) made (rises_set ks made r n i None h) n i new taken_kept

  pub stored : (path : List ℕ) (tree : Tree) (old : Kept) (new : Option Block) → slice_get ks i ≡ Some old → Got new ≡ changed_block path tree old.slot → store (spread 0 ks made) n path tree ≡ Got (spread 0 (slice_set (slice_set ks i (record { number = n; slot = None })) i (record { number = n; slot = new })) made)
  stored path tree old new g c =
      store_there (spread 0 ks made) n path tree old.slot new (at ks made r n i old h g) c
      ∙ ap (λ l. Got (slice_set l n new)) (set ks made r n i None h)
      ∙ ap Got (set (slice_set ks i (record { number = n; slot = None })) made (rises_set ks made r n i None h) n i new taken_kept)

-- ---- a search by number

module _ (ks : List Kept) (made : ℕ) (r : Rises 0 ks made) (n : ℕ) where
  comparisons_rise : IsNonDecreasingBy (λ one. ordering_index (nat_cmp one.number n)) ks
  comparisons_rise i j d le within = let rise = numbers_rise ks 0 made i j d r le within in grind (arith, nat_tests)

  here : (ks' : List Kept) (at : ℕ) → at < length ks' → ((d : Kept) → (get_or ks' at d).number ≡ n) → IsKept ks' n at
  here [] at l h = absurd (omega (arith, l))
  here (one ∷ rest) zero l h = (one.slot, ap (λ m. Some (record { number = m; slot = one.slot })) (h one))
  here (one ∷ rest) (suc at) l h = here rest at (omega (arith, l)) h

  pub searched : (result : Result ℕ ℕ) → IsSearchInRange result (length ks) → IsBinarySearchResult (λ one. nat_cmp one.number n) ks result → record { found : IfOk result (IsKept ks n); absent : IfErr result (IsAbsent ks n) }
  searched (Ok at) in_range equal = record { found = here ks at in_range (λ d. ranked _ n _ (sym (equal d))); absent = tt }
  searched (Err at) in_range parted = record {
    found = tt;
    absent = record {
      lower = λ j d lt. ranked _ n _ (sym ((parted comparisons_rise).0 j d (omega arith) lt));
      higher = λ j d le lt. ranked _ n _ (sym ((parted comparisons_rise).1 j d le lt));
    };
  }
