-- The calls on texts, on the bytes that were read.
use Rattle.std.specs.Prelude.{ℕ, zero, suc, ◌-◌, ◌-ℤ◌, ◌+ℤ◌, ◌*ℤ◌, ℤ, pos, Bool, true, false, ◌&&◌, nat_eq, int_lt, int_le, unsigned_abs, List, [], ◌∷◌, ◌++◌, length, take, drop, reverse}
use Rattle.meanings.specs.declared.errors.RuntimeError.TheVariants.{OutOfRange}
use Rattle.meanings.specs.Outcomes.{Checked, Passes, ◌&>◌}
use Rattle.pascal_meaning.specs.Numbers.{when, between, host_range}
use Rattle.pascal_meaning.specs.Input.{is_digit}

-- a place from 1 on, counted from 0, else `OutOfRange`
unfoldable pub place_from : ℤ → Checked ℕ
place_from i = when (int_lt (pos 0) i) OutOfRange (unsigned_abs (i -ℤ pos 1))

-- a number of bytes; below 1 there are none
unfoldable pub amount : ℤ → ℕ
amount n = elim (int_lt (pos 0) n) [ true ↦ unsigned_abs n | false ↦ 0 ]

unfoldable pub copied : List ℕ → (i n : ℤ) → Checked (List ℕ)
copied bs i n = place_from i &> λ k. Passes (take (amount n) (drop k bs))

unfoldable pub inserted : (t s : List ℕ) → (i : ℤ) → Checked (List ℕ)
inserted t s i = place_from i &> λ k. Passes (take k s ++ (t ++ drop k s))

unfoldable pub deleted : List ℕ → (i n : ℤ) → Checked (List ℕ)
deleted s i n = place_from i &> λ k. Passes (take k s ++ drop (amount n) (drop k s))

-- HP: exactly n bytes, all of which are there
unfoldable pub part_of : List ℕ → (i n : ℤ) → Checked (List ℕ)
part_of bs i n = when (int_le (pos 1) i && int_le (pos 0) n && int_le ((i -ℤ pos 1) +ℤ n) (pos (length bs))) OutOfRange
    (take (amount n) (drop (unsigned_abs (i -ℤ pos 1)) bs))

unfoldable pub starts_with : (t s : List ℕ) → Bool
starts_with [] s = true
starts_with (b ∷ bs) [] = false
starts_with (b ∷ bs) (c ∷ cs) = elim (nat_eq b c) [ true ↦ starts_with bs cs | false ↦ false ]

-- the first place of a text in another, which begins at the place n; else 0
unfoldable pub found_from : ℕ → (t s : List ℕ) → ℕ
found_from n t [] = 0
found_from n t (c ∷ cs) = elim (starts_with t (c ∷ cs)) [ true ↦ n | false ↦ found_from (suc n) t cs ]

unfoldable pub position : (t s : List ℕ) → ℕ
position [] s = 0
position (b ∷ bs) s = found_from 1 (b ∷ bs) s

unfoldable pub without_spaces : List ℕ → List ℕ
without_spaces [] = []
without_spaces (b ∷ bs) = elim (nat_eq b 32) [ true ↦ without_spaces bs | false ↦ b ∷ bs ]

unfoldable pub trimmed_right : List ℕ → List ℕ
trimmed_right bs = reverse (without_spaces (reverse bs))

unfoldable pub times : ℕ → List ℕ → List ℕ
times zero bs = []
times (suc n) bs = bs ++ times n bs

unfoldable pub repeated : List ℕ → ℤ → Checked (List ℕ)
repeated bs n = when (int_le (pos 0) n) OutOfRange (unsigned_abs n) &> λ n. Passes (times n bs)

unfoldable pub capital : ℤ → ℤ
capital z = elim (between (pos 97, pos 122) z) [ true ↦ z -ℤ pos 32 | false ↦ z ]

-- ---- val

-- the number, and 0 or the place of the first byte that does not fit
abbrev pub Valued : Type 0
Valued = ℤ × ℕ

unfoldable pub with_digit : (minus : Bool) → ℤ → ℕ → ℤ
with_digit minus z b = elim minus [ true ↦ z *ℤ pos 10 -ℤ pos (b - 48) | false ↦ z *ℤ pos 10 +ℤ pos (b - 48) ]

-- digits to the end, the first at the place n, which continue the number z
unfoldable pub digits_valued : (minus : Bool) → (n : ℕ) → ℤ → List ℕ → Valued
digits_valued minus n z [] = (z, 0)
digits_valued minus n z (b ∷ bs) = elim (is_digit b && between host_range (with_digit minus z b)) [
  | true ↦ digits_valued minus (suc n) (with_digit minus z b) bs
  | false ↦ (pos 0, n)
]

-- at least one digit
unfoldable pub unsigned_valued : (minus : Bool) → (n : ℕ) → List ℕ → Valued
unsigned_valued minus n [] = (pos 0, n)
unsigned_valued minus n (b ∷ bs) = digits_valued minus n (pos 0) (b ∷ bs)

unfoldable pub signed_valued : (n : ℕ) → List ℕ → Valued
signed_valued n [] = (pos 0, n)
signed_valued n (b ∷ bs) = elim (nat_eq b 45) [
  | true ↦ unsigned_valued true (suc n) bs
  | false ↦ elim (nat_eq b 43) [ true ↦ unsigned_valued false (suc n) bs | false ↦ unsigned_valued false n (b ∷ bs) ]
]

-- spaces, an optional sign, digits to the end
unfoldable pub valued : (n : ℕ) → List ℕ → Valued
valued n [] = (pos 0, n)
valued n (b ∷ bs) = elim (nat_eq b 32) [ true ↦ valued (suc n) bs | false ↦ signed_valued n (b ∷ bs) ]
