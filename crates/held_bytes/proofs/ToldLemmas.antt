-- Laws of what the outside tells.
use Rattle.std.proofs.Common.{◌≡◌, ℕ, ◌+◌, ◌≤◌, List, [], ◌++◌, length, take, drop, Option, Some, None, sym, ap, ◌∙◌, append_assoc, arith}
use Rattle.std.proofs.lemmas.List.{append-nil, length-append, take-append-le, take-take}
use Rattle.std.proofs.Math.Seq.{take-add, take-append-add}
use Rattle.p2c_outside.specs.Told.{Gains}
use Rattle.held_bytes.specs.Written.{GainsPart}

pub Gains-refl : (o : Option (List ℕ)) → Gains o o []
Gains-refl None = tt
Gains-refl (Some old) = sym (append-nil old)

pub Gains-append : (a b c : Option (List ℕ)) (x y : List ℕ) → Gains a b x → Gains b c y → Gains a c (x ++ y)
Gains-append None None None x y p q = tt
Gains-append None None (Some c) x y p q = absurd q
Gains-append None (Some b) c x y p q = absurd p
Gains-append (Some a) None c x y p q = absurd p
Gains-append (Some a) (Some b) None x y p q = absurd q
Gains-append (Some a) (Some b) (Some c) x y p q = q ∙ ap (λ l. l ++ y) p ∙ append_assoc a x y

-- the first n bytes of a piece of what follows the first `at` bytes, after these
pub Gains-piece : (a b c : Option (List ℕ)) (at k m n : ℕ) (text : List ℕ) → n ≤ m → n ≤ k
    → Gains a b (take at text) → Gains b c (take n (take m (take k (drop at text)))) → Gains a c (take (at + n) text)
Gains-piece a b c at k m n text in_m in_k p q =
    let shorter : take n (take m (take k (drop at text))) ≡ take n (drop at text) =
    take-take n m (take k (drop at text)) in_m ∙ take-take n k (drop at text) in_k in
    let both = Gains-append a b c (take at text) (take n (take m (take k (drop at text)))) p q in
    rw (take-add at n text, ← shorter) both

pub GainsPart-first : (a b : Option (List ℕ)) (x y : List ℕ) → GainsPart a b x → GainsPart a b (x ++ y)
GainsPart-first a b x y p =
    let short : p.0 ≤ length x = omega arith in
    (p.0, (simp length-append (omega arith)), rw take-append-le p.2)

pub GainsPart-second : (a b c : Option (List ℕ)) (x y : List ℕ) → Gains a b x → GainsPart b c y → GainsPart a c (x ++ y)
GainsPart-second a b c x y p q =
    (length x + q.0, simp length-append (omega arith), rw take-append-add (Gains-append a b c x (take q.0 y) p q.2))
