-- What is held, and what is held after a byte is read.
use Rattle.std.proofs.Common.{◌≡◌, ℕ, zero, suc, ◌+◌, ◌<◌, ◌≤◌, List, [], ◌∷◌, drop, take, length, refl, ap, ◌∙◌, arith}
use Rattle.held_bytes.specs.Held.{rest_of}

all_of : (xs : List ℕ) → drop 0 xs ≡ xs
all_of [] = refl
all_of (x ∷ xs) = refl

rest_next : (xs : List ℕ) (n : ℕ) → drop (suc n) xs ≡ rest_of (drop n xs)
rest_next [] zero = refl
rest_next [] (suc n) = refl
rest_next (x ∷ xs) zero = all_of xs
rest_next (x ∷ xs) (suc n) = rest_next xs n

pub rest_drop : (xs : List ℕ) (n : ℕ) → drop (n + 1) xs ≡ rest_of (drop n xs)
rest_drop xs n = let e : n + 1 ≡ suc n = omega arith in ap (λ k. drop k xs) e ∙ rest_next xs n

-- before its end something is held
pub held_some : (xs : List ℕ) (at end : ℕ) → end ≤ length xs → at < end → drop at (take end xs) ≡ [] → ⊥
held_some [] at end within before h = absurd (omega (arith, within, before))
held_some (x ∷ xs) at zero within before h = absurd (omega (arith, before))
held_some (x ∷ xs) zero (suc end) within before h = cc
held_some (x ∷ xs) (suc at) (suc end) within before h = held_some xs at end (omega (arith, within)) (omega (arith, before)) h
