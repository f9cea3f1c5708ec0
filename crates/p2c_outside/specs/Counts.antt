-- Counts of what failed. One that is kept in 64 bits stops at the last value.
use Rattle.std.specs.Prelude.{◌≡◌, ℕ, ◌+◌, ◌-◌, ◌^◌, ◌<◌, ◌⊎◌, min}

-- where a count of 64 bits stops
abbrev pub last_count : ℕ
last_count = 2 ^ 64 - 1

-- the count rose from `before` to `after`, or stands at its last value
abbrev pub Rose : ℕ → ℕ → Type 0
Rose before after = (before < after) ⊎ (after ≡ last_count)

-- a count of 64 bits after one more
abbrev pub next_count : ℕ → ℕ
next_count count = min (count + 1) last_count
